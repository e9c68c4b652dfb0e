-- Checkouts change statuses alone, and deletes counts and real ids: neither moves a unit, and a checkout keeps all that is known of a history.
use Prim.Native.Nat.{ℕ, zero, suc, ◌<◌, ◌≤◌}
use mathlib.Core.Path.{◌≡◌, refl, sym, ap, subst, ◌∙◌}
use mathlib.Core.Logic.{◌⊎◌, inl, inr}
use mathlib.Core.Bool.{Bool, true, false, cond}
use mathlib.Core.List.{List, [], ◌∷◌, ◌++◌, map}
use native.Mathlib.Omega.{arith}
use lib.ListN.{length}
use Rattle.std.specs.Prelude.{Some}
use Rattle.span.specs.declared.chunk.RichtextChunk.{RichtextChunk}
use Rattle.span.specs.declared.ids.Id.{Id}
use Rattle.span.specs.Maybe.{OptId}
use Rattle.span.specs.declared.span.FugueSpan.{FugueSpan}
use Rattle.span.specs.Chunk.{len_of}
use Rattle.span.specs.Ids.{inc_id, UNKNOWN_PEER}
use Rattle.span.specs.Status.{activated}
use Rattle.span.specs.Units as Units
use Rattle.units.specs.Place.{front, behind}
use Rattle.units.specs.Change.{with_state, delete_unit, delete_first, delete_units}
use Rattle.fugue.specs.Tree.{ref}
use Rattle.fugue.proofs.Keys.{Key}
use Rattle.fugue.proofs.ScanPlace.{Mem}
use Rattle.fugue.proofs.Cursor.{front-behind}
use Rattle.fugue.proofs.Past.{past_of}
use Rattle.fugue.proofs.Alike.{alike_length, good_alike}
use Rattle.history.specs.Edit.{Version, Insert, Edit, Held, History}
use Rattle.history.specs.Checkout.{units_at, checkout}
use Rattle.history.specs.Checkout as Co
use Rattle.history.specs.Arrive.{act_took}
use Rattle.history.specs.Codes.{inside}
use Rattle.history.proofs.Plain.{plain, plain_same}
use Rattle.history.proofs.Context.{Known, before, known_or, before_known, before_unknown}
use Rattle.history.proofs.Run.{MemE, MemH, span_of, Src, Run}
use Rattle.history.proofs.Stable.{plain_list_at, view_list, plain_alike, plain_mem}
use Rattle.history.proofs.WellUnits.{units_at_lem}
use Rattle.history.proofs.Valid.{Store}

-- ---- a checkout changes statuses alone

module _ (n : ℕ) (done : List Edit) (h : History) (key : OptId → Key) (r : Run n done h key) (v : Version) where
  same_plain : map plain h.list ≡ map plain (units_at v h)
  unfolding units_at
  same_plain = sym (plain_list_at v h.held h.list)

  same_before : (f : Edit) → before f h ≡ before f (checkout v h)
  unfolding checkout
  same_before f = go (known_or f)
    where
      after : History
      after = record { placeholder = h.placeholder; list = units_at v h; held = h.held }

      go : Known f ⊎ (f.id.peer ≡ UNKNOWN_PEER) → before f h ≡ before f (record { placeholder = h.placeholder; list = units_at v h; held = h.held })
      go (inr d) = before_unknown f h d ∙ sym (before_unknown f after d)
      go (inl k) = before_known f h k ∙ (ap past_of (view_list f.context h.held h.list (units_at v h) same_plain) ∙ sym (before_known f after k))

  pub run_checkout : Run n done (checkout v h) key
  unfolding checkout
  run_checkout = record {
    causal = r.causal;
    natural = r.natural;
    base = r.base;
    holding = r.holding;
    fit = λ (e : Edit) (m : MemE e done). subst (λ (z : List FugueSpan). inside e.act e.at z ≡ true) (same e) (r.fit e m);
    good = good_alike key h.list (units_at v h) (plain_alike h.list (units_at v h) same_plain) r.good;
    deep = λ (w : FugueSpan) (m : Mem w (units_at v h)). deep w (plain_mem h.list (units_at v h) same_plain w m);
    src = λ (w : FugueSpan) (m : Mem w (units_at v h)). src w (plain_mem h.list (units_at v h) same_plain w m);
    has = λ (e : Edit) (lam : ℕ) (c : RichtextChunk) (m : MemE e done) (a : e.act ≡ Insert lam c) (k : ℕ) (b : k < len_of c). has e k (r.has e lam c m a k b);
    no_twice = r.no_twice;
    tooks = λ (x : Held) (m : MemH x h.held). ((r.tooks x m).0, (r.tooks x m).1, (r.tooks x m).2 ∙ ap (act_took x.edit.act x.edit) (same x.edit));
    has_t = r.has_t;
  }
    where
      after : History
      after = record { placeholder = h.placeholder; list = units_at v h; held = h.held }

      same : (f : Edit) → before f h ≡ before f (record { placeholder = h.placeholder; list = units_at v h; held = h.held })
      same f = unfold checkout in same_before f

      deep : (w : FugueSpan) → (u : FugueSpan) × Mem u h.list × (plain u ≡ plain w) → length (key (ref w)) ≤ length (units_at v h)
      deep w t = subst (λ (z : Id). length (key (Some z)) ≤ length (units_at v h)) (plain_same t.0 w t.2).id (omega (arith, r.deep t.0 t.1, alike_length h.list (units_at v h) (plain_alike h.list (units_at v h) same_plain)))

      src : (w : FugueSpan) → (u : FugueSpan) × Mem u h.list × (plain u ≡ plain w) → Src done (record { placeholder = h.placeholder; list = units_at v h; held = h.held }) w
      src w t =
          let s : Src done h t.0 = r.src t.0 t.1 in
          record {
            e = s.e;
            is_in = s.is_in;
            made = record {
              lam = s.made.lam;
              c = s.made.c;
              act = s.made.act;
              k = s.made.k;
              small = s.made.small;
              is = sym t.2 ∙ (s.made.is ∙ ap (λ (l : List FugueSpan). plain (Units.unit_at (span_of s.e s.made.lam s.made.c l) s.made.k)) (same s.e));
            };
          }

      has : (e : Edit) (k : ℕ) → (w : FugueSpan) × Mem w h.list × (w.id ≡ inc_id e.id k) → (w : FugueSpan) × Mem w (units_at v h) × (w.id ≡ inc_id e.id k)
      has e k t =
          let u : (u : FugueSpan) × Mem u (units_at v h) × (plain u ≡ plain t.0) = plain_mem (units_at v h) h.list (sym same_plain) t.0 t.1 in
          (u.0, u.1, (plain_same u.0 t.0 u.2).id ∙ t.2)

  pub store_checkout : (A : List Edit) → Store n done A h → Store n done A (checkout v h)
  unfolding checkout
  store_checkout A st = record {
    holder = st.holder;
    order = st.order;
    from = st.from;
    units = units_at_lem v h st.units;
    counts = st.counts;
    fit = st.fit;
    many = sym (alike_length h.list (units_at v h) (plain_alike h.list (units_at v h) same_plain)) ∙ st.many;
  }

-- ---- checkouts and deletes move nothing

abbrev ids : List FugueSpan → List Id
ids l = map (λ (u : FugueSpan). u.id) l

ids_at : (v : Version) (held : List Held) (l : List FugueSpan) → ids (map (Co.unit_at v held) l) ≡ ids l
unfolding Co.unit_at with_state
ids_at v held [] = refl
ids_at v held (u ∷ l) = ap (λ (z : List Id). u.id ∷ z) (ids_at v held l)

pub checkout_keeps_order : (v : Version) (h : History) → ids (units_at v h) ≡ ids h.list
unfolding units_at
checkout_keeps_order v h = ids_at v h.held h.list

first_keeps_order : (l : List FugueSpan) (m : ℕ) (i : Id) → ids (delete_first l m i) ≡ ids l
unfolding delete_first
first_keeps_order [] m i = refl
first_keeps_order (u ∷ l) zero i = refl
first_keeps_order (u ∷ l) (suc m) i = go (activated u.status) (first_keeps_order l m (inc_id i 1)) (first_keeps_order l (suc m) i)
  where
    go : (b : Bool) → ids (delete_first l m (inc_id i 1)) ≡ ids l → ids (delete_first l (suc m) i) ≡ ids l → ids (cond b (delete_unit i u ∷ delete_first l m (inc_id i 1)) (u ∷ delete_first l (suc m) i)) ≡ u.id ∷ ids l
    go true x y = unfold delete_unit with_state in ap (λ (z : List Id). u.id ∷ z) x
    go false x y = ap (λ (z : List Id). u.id ∷ z) y

ids-app : (A B : List FugueSpan) → ids (A ++ B) ≡ ids A ++ ids B
ids-app [] B = refl
ids-app (u ∷ A) B = ap (λ (z : List Id). u.id ∷ z) (ids-app A B)

pub delete_keeps_order : (at m : ℕ) (i : Id) (l : List FugueSpan) → ids (delete_units at m i l) ≡ ids l
unfolding delete_units
delete_keeps_order at m i l = ids-app (front l at) (delete_first (behind l at) m i)
    ∙ (ap (λ (z : List Id). ids (front l at) ++ z) (first_keeps_order (behind l at) m i) ∙ (sym (ids-app (front l at) (behind l at)) ∙ ap ids (front-behind l at)))
