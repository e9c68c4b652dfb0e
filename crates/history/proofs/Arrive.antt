-- One edit arrives, then all: the invariant is kept (Theorem 8a).
use Prim.Native.Nat.{ℕ, suc, ◌+◌, ◌-◌, ◌<◌, ◌≤◌}
use mathlib.Core.Path.{◌≡◌, refl, sym, ap, ap₂, subst, subst₂, ◌∙◌}
use mathlib.Core.Logic.{◌⊎◌, inl, inr}
use mathlib.Core.Bool.{Bool, true, false, cond}
use mathlib.Core.List.Memᴰ
use mathlib.Core.List.{List, [], ◌∷◌, ◌++◌, map}
use lib.ListN.{length, length-map}
use lib.Dec.{eqb}
use native.Mathlib.Omega.{arith}
use borrow.Author.Tests.{ne_eqb}
use Rattle.std.specs.Prelude.{None, Some}
use Rattle.span.specs.declared.chunk.RichtextChunk.{RichtextChunk}
use Rattle.span.specs.declared.ids.Id.{Id}
use Rattle.span.specs.Maybe.{OptId}
use Rattle.span.specs.declared.span.FugueSpan.{FugueSpan}
use Rattle.span.specs.Chunk.{len_of}
use Rattle.span.specs.Ids.{UNKNOWN_PEER, inc_id, inc_opt}
use Rattle.span.specs.Span.{new_span, real_new, shift}
use Rattle.span.specs.Units.{units_of}
use Rattle.span.specs.Units as Units
use Rattle.span.proofs.ForRope.{units_length}
use Rattle.units.specs.Place.{parent_right, origin_left, origin_right, with_origins, insert_units, shown}
use Rattle.units.specs.Change.{with_state, delete_units}
use Rattle.fugue.specs.Tree.{ref}
use Rattle.fugue.proofs.Order.{Older, LtZ}
use Rattle.fugue.proofs.Keys.{Key}
use Rattle.fugue.proofs.ScanPlace.{Mem}
use Rattle.fugue.proofs.Insert.{In, Good, pr_in_lem}
use Rattle.fugue.proofs.InsertGood.{insert_good}
use Rattle.fugue.proofs.Past.{past_of, origin_left_in}
use Rattle.fugue.proofs.Alike.{alike_map, alike_length, good_alike}
use Rattle.fugue.proofs.NewKeys.{span_key, span_key-length, first_key, first_key-length, key_of, key_of_old, key_of_new, good_new, hung_new, hungs_new}
use Rattle.fugue.proofs.Sorts.{Splice}
use Rattle.fugue.proofs.Splices.{insert_splice, splice_from, splice_old, splice_new, splice_length, unit_from, unit_in}
use Rattle.fugue.proofs.Clocks.{cnt, Fits, Causal, in_range_lem, cnt_grow}
use Rattle.fugue.proofs.Counting.{no_twice_snoc}
use Rattle.history.specs.Edit.{Version, Act, Insert, Delete, Edit, size_of, Held, History}
use Rattle.history.specs.Version.{number, count_of}
use Rattle.history.specs.Checkout.{units_at}
use Rattle.history.specs.Checkout as Co
use Rattle.history.specs.Arrive.{act_list, act_took, took_by, hold, arrive}
use Rattle.history.specs.Codes.{inside}
use Rattle.history.specs.Demand.{real_plain}
use Rattle.history.proofs.Plain.{plain, plain_same, at_same, view, sees}
use Rattle.history.proofs.Context.{holds, clock, Known, before, known_or, holds_known, count_known, before_known, before_unknown, Natural, natural_inc, not_below}
use Rattle.history.proofs.Run.{MemE, MemH, num, first, span_of, Made, made_peer, Src, Run, inside-at, unit_natural, bound, context_closed}
use Rattle.history.proofs.Stable.{plain_list_at, view_list, plain_alike, plain_mem, Real, plain_deletes, view_skip, view_splice, left_sees, right_sees, took_sees, inside-sees}

-- an edit arrives at a history: known, its counter a number, its counter and context fit, it has a unit, its position is inside what is visible at its context
pub record Arriving (n : ℕ) (done : List Edit) (h : History) (e : Edit) : Type 0 where
  pub known : Known e
  pub natural : Natural e.id
  pub fits : Fits (clock n) done e
  pub some : 1 ≤ size_of e.act
  pub inside : inside e.act e.at (units_at e.context h) ≡ true

-- every unit has a real id, or is a placeholder's
module _ (n : ℕ) (done : List Edit) (h : History) (key : OptId → Key) (r : Run n done h key) where
  pub real : (u : FugueSpan) → Mem u h.list → Real u
  unfolding plain with_state real_plain shift with_origins new_span real_new inc_opt inc_id
  real u k = go (known_or sr.e) (ap (λ (z : FugueSpan). z.real_id) sr.made.is)
    where
      sr : Src done h u
      sr = r.src u k

      e2 : Edit
      e2 = sr.e

      p : u.id.peer ≡ sr.e.id.peer
      p = made_peer sr.made

      go : Known sr.e ⊎ (sr.e.id.peer ≡ UNKNOWN_PEER)
          → cond (eqb u.id.peer UNKNOWN_PEER) None u.real_id ≡ cond (eqb sr.e.id.peer UNKNOWN_PEER) None (inc_opt (cond (eqb sr.e.id.peer UNKNOWN_PEER) None (Some sr.e.id)) sr.made.k) → Real u
      go (inr d) q = inl (p ∙ d)
      go (inl kn) q = inr (
        inc_id sr.e.id sr.made.k,
        sym (ap (λ (b : Bool). cond b None u.real_id) (ne_eqb u.id.peer UNKNOWN_PEER (λ (d : u.id.peer ≡ UNKNOWN_PEER). kn (sym p ∙ d))))
            ∙ (q ∙ ap (λ (b : Bool). cond b None (inc_opt (cond b None (Some sr.e.id)) sr.made.k)) (ne_eqb sr.e.id.peer UNKNOWN_PEER kn)),
      )

module _ (n : ℕ) (done : List Edit) (h : History) (key : OptId → Key) (r : Run n done h key) (e : Edit) (a : Arriving n done h e) where
  -- the list at the edit's context
  abbrev l1 : List FugueSpan
  l1 = units_at e.context h

  grow : (p : ℕ) → cnt (clock n) done p ≤ cnt (clock n) (e ∷ done) p
  grow = cnt_grow (clock n) done e a.fits.own

  pub new_edit : MemE e done → ⊥
  new_edit m = omega (arith, (in_range_lem (clock n) done r.causal e m).0, a.fits.own, a.some)

  held_by : (f : Edit) → (f ≡ e) ⊎ MemE f done → (p : ℕ) → holds n f p ≤ cnt (clock n) done p
  held_by f (inl d) p = subst (λ (z : Edit). holds n z p ≤ cnt (clock n) done p) (sym d) (a.fits.held p)
  held_by f (inr m) p = r.holding f m p

  -- the new edit is in no context held
  outside : (f : Edit) → (f ≡ e) ⊎ MemE f done → Known f → count_of f.context e.id.peer ≤ first e
  outside f s k = omega (arith, held_by f s e.id.peer, holds_known n f e.id.peer k, count_known n f.context e.id.peer a.known, a.fits.own)

  at1 : e.at ≤ shown (units_at e.context h)
  at1 = inside-at e.act e.at (units_at e.context h) a.inside

  plain1 : map plain (units_at e.context h) ≡ map plain h.list
  unfolding units_at
  plain1 = plain_list_at e.context h.held h.list

  good1 : Good key (units_at e.context h)
  unfolding units_at
  good1 = good_alike key h.list (map (Co.unit_at e.context h.held) h.list) (alike_map (Co.unit_at e.context h.held) (at_same e.context h.held) h.list) r.good

  -- what the two kinds of edit share. l2 is the list afterwards; each unit is an old one or one of the edit's.
  module _ (l2 : List FugueSpan) where
    abbrev next : History
    next = record { placeholder = h.placeholder; list = l2; held = hold h e }

    module _ (same : (v : Version) → count_of v e.id.peer ≤ first e → past_of (map (view v h.held) l2) ≡ past_of (map (view v h.held) h.list)) where
      stab : (f : Edit) → (f ≡ e) ⊎ MemE f done → before f h ≡ before f next
      unfolding hold
      stab f s = go (known_or f)
        where
          x : Held
          x = record { edit = e; took = took_by h e }

          go : Known f ⊎ (f.id.peer ≡ UNKNOWN_PEER) → before f h ≡ before f next
          go (inr d) = before_unknown f h d ∙ sym (before_unknown f next d)
          go (inl k) = before_known f h k ∙ (sym (same f.context (outside f s k))
              ∙ (ap past_of (sym (view_skip f.context h.held x (not_below f.context e.id a.natural (outside f s k)) l2)) ∙ sym (before_known f next k)))

      own_sees : sees e.context h ≡ before e next
      own_sees = sym (before_known e h a.known) ∙ stab e (inl refl)

      module _ (key2 : OptId → Key) (good2 : Good key2 l2) (deep2 : (w : FugueSpan) → Mem w l2 → length (key2 (ref w)) ≤ length l2)
          (from : (w : FugueSpan) → Mem w l2 → ((u : FugueSpan) × Mem u h.list × (plain u ≡ plain w)) ⊎ Made next e w)
          (old : (u : FugueSpan) → Mem u h.list → (w : FugueSpan) × Mem w l2 × (w.id ≡ u.id))
          (new : (lam : ℕ) (c : RichtextChunk) → e.act ≡ Insert lam c → (k : ℕ) → k < len_of c → (w : FugueSpan) × Mem w l2 × (w.id ≡ inc_id e.id k)) where
        run_next : Run n (e ∷ done) next key2
        unfolding hold
        run_next = record {
          causal = unfold Causal in (a.fits, a.some, r.causal);
          natural = λ (f : Edit) (m : MemE f (e ∷ done)). natural2 f (Memᴰ.cases_cons m);
          base = base2;
          holding = λ (f : Edit) (m : MemE f (e ∷ done)) (p : ℕ). omega (arith, held_by f (Memᴰ.cases_cons m) p, grow p);
          fit = λ (f : Edit) (m : MemE f (e ∷ done)). fit2 f (Memᴰ.cases_cons m);
          good = good2;
          deep = deep2;
          src = λ (w : FugueSpan) (m : Mem w l2). src2 w (from w m);
          has = λ (f : Edit) (lam : ℕ) (c : RichtextChunk) (m : MemE f (e ∷ done)). has2 f lam c (Memᴰ.cases_cons m);
          no_twice = no_twice_snoc h.held x r.no_twice (λ (y : Held) (m : MemH y h.held) (d : y ≡ x). new_edit (Memᴰ.cast (ap (λ (z : Held). z.edit) (sym d)) (r.tooks y m).0));
          tooks = λ (y : Held) (m : MemH y (h.held ++ (x ∷ []))). tooks2 y (Memᴰ.append_cases h.held m);
          has_t = λ (f : Edit) (m : MemE f (e ∷ done)) (k : Known f). has_t2 f k (Memᴰ.cases_cons m);
        }
          where
            x : Held
            x = record { edit = e; took = took_by h e }

            natural2 : (f : Edit) → (f ≡ e) ⊎ MemE f done → Natural f.id
            natural2 f (inl d) = subst (λ (z : Edit). Natural z.id) (sym d) a.natural
            natural2 f (inr m) = r.natural f m

            base2 : cnt (clock n) (e ∷ done) UNKNOWN_PEER ≡ n
            base2 = let d : cnt (clock n) (e ∷ done) UNKNOWN_PEER ≡ cnt (clock n) done UNKNOWN_PEER = unfold cnt in ap (λ (b : Bool). cond b (first e + size_of e.act) (cnt (clock n) done UNKNOWN_PEER)) (ne_eqb e.id.peer UNKNOWN_PEER a.known) in d ∙ r.base

            fit2 : (f : Edit) → (f ≡ e) ⊎ MemE f done → inside f.act f.at (before f next) ≡ true
            fit2 f (inl d) = subst (λ (z : Edit). inside z.act z.at (before z next) ≡ true) (sym d)
                (subst (λ (z : List FugueSpan). inside e.act e.at z ≡ true) own_sees (sym (inside-sees e.context h e.act e.at) ∙ a.inside))
            fit2 f (inr m) = subst (λ (z : List FugueSpan). inside f.act f.at z ≡ true) (stab f (inr m)) (r.fit f m)

            src2 : (w : FugueSpan) → ((u : FugueSpan) × Mem u h.list × (plain u ≡ plain w)) ⊎ Made next e w → Src (e ∷ done) next w
            src2 w (inr m) = record { e = e; is_in = Memᴰ.head refl; made = m }
            src2 w (inl t) =
                let s : Src done h t.0 = r.src t.0 t.1 in
                record {
                  e = s.e;
                  is_in = Memᴰ.tail s.is_in;
                  made = record {
                    lam = s.made.lam;
                    c = s.made.c;
                    act = s.made.act;
                    k = s.made.k;
                    small = s.made.small;
                    is = sym t.2 ∙ (s.made.is ∙ ap (λ (l : List FugueSpan). plain (Units.unit_at (span_of s.e s.made.lam s.made.c l) s.made.k)) (stab s.e (inr s.is_in)));
                  };
                }

            has2 : (f : Edit) (lam : ℕ) (c : RichtextChunk) → (f ≡ e) ⊎ MemE f done → f.act ≡ Insert lam c → (k : ℕ) → k < len_of c → (w : FugueSpan) × Mem w l2 × (w.id ≡ inc_id f.id k)
            has2 f lam c (inl d) act k b =
                let t : (w : FugueSpan) × Mem w l2 × (w.id ≡ inc_id e.id k) = new lam c (ap (λ (z : Edit). z.act) (sym d) ∙ act) k b in
                (t.0, t.1, t.2 ∙ ap (λ (z : Edit). inc_id z.id k) (sym d))
            has2 f lam c (inr m) act k b =
                let t : (w : FugueSpan) × Mem w h.list × (w.id ≡ inc_id f.id k) = r.has f lam c m act k b in
                let u : (w : FugueSpan) × Mem w l2 × (w.id ≡ t.0.id) = old t.0 t.1 in
                (u.0, u.1, u.2 ∙ t.2)

            tooks2 : (y : Held) → MemH y h.held ⊎ MemH y (x ∷ []) → MemE y.edit (e ∷ done) × Known y.edit × (y.took ≡ act_took y.edit.act y.edit (before y.edit next))
            tooks2 y (inl m) =
                let t : MemE y.edit done × Known y.edit × (y.took ≡ act_took y.edit.act y.edit (before y.edit h)) = r.tooks y m in
                (Memᴰ.tail t.0, t.1, t.2 ∙ ap (act_took y.edit.act y.edit) (stab y.edit (inr t.0)))
            tooks2 y (inr m) = subst (λ (z : Held). MemE z.edit (e ∷ done) × Known z.edit × (z.took ≡ act_took z.edit.act z.edit (before z.edit next))) (sym (Memᴰ.eq_of_singleton m))
                (Memᴰ.head refl, a.known, took_sees e.context h e.act e ∙ ap (act_took e.act e) own_sees)

            has_t2 : (f : Edit) → Known f → (f ≡ e) ⊎ MemE f done → (y : Held) × MemH y (h.held ++ (x ∷ [])) × (y.edit ≡ f)
            has_t2 f k (inl d) = (x, Memᴰ.append_right h.held (Memᴰ.head refl), sym d)
            has_t2 f k (inr m) =
                let t : (y : Held) × MemH y h.held × (y.edit ≡ f) = r.has_t f m k in
                (t.0, Memᴰ.append_left (x ∷ []) t.1, t.2)

  -- ---- an insert

  module _ (lam : ℕ) (c : RichtextChunk) (act : e.act ≡ Insert lam c) (m : ℕ) (len : len_of c ≡ suc m) where
    abbrev s : FugueSpan
    s = new_span e.id lam c

    abbrev x : OptId
    x = origin_left e.at l1

    abbrev o : OptId
    o = origin_right e.at l1

    abbrev l2 : List FugueSpan
    l2 = insert_units e.at s l1

    newest : (w : FugueSpan) → Mem w l1 → Older w.id e.id
    unfolding units_at Co.unit_at with_state
    newest w k d = go (Memᴰ.of_map (Co.unit_at e.context h.held) h.list k)
      where
        go : (u : FugueSpan) × Mem u h.list × (Co.unit_at e.context h.held u ≡ w) → LtZ w.id.counter e.id.counter
        go t =
            let i : t.0.id ≡ w.id = ap (λ (z : FugueSpan). z.id) t.2 in
            let b : num t.0 < cnt (clock n) done t.0.id.peer = bound n done h key r t.0 t.1 in
            let b2 : num t.0 < cnt (clock n) done e.id.peer = subst (λ (p : ℕ). num t.0 < cnt (clock n) done p) (ap (λ (z : Id). z.peer) i ∙ d) b in
            let b3 : num t.0 < first e = subst (λ (z : ℕ). num t.0 < z) a.fits.own b2 in
            subst₂ LtZ (sym (unit_natural n done h key r t.0 t.1) ∙ ap (λ (z : Id). z.counter) i) (sym a.natural) b3

    ix : In x l1
    ix = go (origin_left_in l1 e.at at1)
      where
        go : (x ≡ None) ⊎ ((w : FugueSpan) × Mem w l1 × (ref w ≡ x) × (w.status.future ≡ false)) → In x l1
        go (inl d) = inl d
        go (inr t) = inr (t.0, t.1, t.2)

    abbrev key2 : OptId → Key
    key2 = key_of key l1 good1 e.id m x o ix newest

    good2 : Good key2 (insert_units e.at (new_span e.id lam c) l1)
    unfolding new_span
    good2 = insert_good key2 l1 (good_new key l1 good1 e.id m x o ix newest) e.at s
        (context_closed n done h key r e a.known a.fits) newest (hung_new key l1 good1 e.id m x o ix newest)
        (λ (j : ℕ) (b : suc j < len_of c). hungs_new key l1 good1 e.id m x o ix newest j (omega arith)) (omega arith)

    new : List FugueSpan
    new = units_of (with_origins s x o)

    sp : Splice l1 (units_of (with_origins (new_span e.id lam c) x o)) (insert_units e.at (new_span e.id lam c) l1)
    sp = insert_splice e.at s l1

    new_id : (w : FugueSpan) → Mem w (units_of (with_origins (new_span e.id lam c) x o)) → (k : ℕ) × (k < suc m) × (w ≡ Units.unit_at (with_origins (new_span e.id lam c) x o) k) × (w.id ≡ inc_id e.id k)
    unfolding with_origins new_span shift
    new_id w k =
        let t : (i : ℕ) × (i < len_of c) × (w ≡ Units.unit_at (with_origins s x o) i) = unit_from (with_origins s x o) w k in
        (t.0, subst (λ (z : ℕ). t.0 < z) len t.1, t.2, ap (λ (z : FugueSpan). z.id) t.2)

    same : (v : Version) → count_of v e.id.peer ≤ first e → past_of (map (view v h.held) l2) ≡ past_of (map (view v h.held) h.list)
    same v b = view_splice v h.held l1 (units_of (with_origins s x o)) l2 h.list sp plain1 (λ (w : FugueSpan) (k : Mem w (units_of (with_origins s x o))). out w (new_id w k))
      where
        out : (w : FugueSpan) → (k : ℕ) × (k < suc m) × (w ≡ Units.unit_at (with_origins s x o) k) × (w.id ≡ inc_id e.id k)
            → Natural w.id × ¬ (w.id.peer ≡ UNKNOWN_PEER) × (count_of v w.id.peer ≤ number w.id.counter)
        out w t =
            let i : Natural (inc_id e.id t.0) × (number (inc_id e.id t.0).counter ≡ number e.id.counter + t.0) = natural_inc e.id t.0 a.natural in
            let p : w.id.peer ≡ e.id.peer = ap (λ (z : Id). z.peer) t.3 ∙ (unfold inc_id in refl) in
            let q : number w.id.counter ≡ first e + t.0 = ap (λ (z : Id). number z.counter) t.3 ∙ i.1 in
            (subst Natural (sym t.3) i.0, (λ (d : w.id.peer ≡ UNKNOWN_PEER). a.known (sym p ∙ d)), subst (λ (z : ℕ). count_of v z ≤ number w.id.counter) (sym p) (omega arith))

    len2 : length l2 ≡ length h.list + suc m
    unfolding units_at with_origins new_span
    len2 = omega (arith, splice_length sp, units_length (with_origins s x o), length-map h.list (Co.unit_at e.context h.held), len)

    key_len : (z : OptId) → In z l1 → length (key z) ≤ length h.list
    unfolding units_at
    key_len z (inl d) = let b : length (key z) ≡ 0 = ap length (ap key d ∙ r.good.none_key) in omega arith
    key_len z (inr t) = go (plain_mem h.list (map (Co.unit_at e.context h.held) h.list) (sym plain1) t.0 t.1)
      where
        go : (u : FugueSpan) × Mem u h.list × (plain u ≡ plain t.0) → length (key z) ≤ length h.list
        go q = subst (λ (y : OptId). length (key y) ≤ length h.list) (ap Some (plain_same q.0 t.0 q.2).id ∙ t.2) (r.deep q.0 q.1)

    deep2 : (w : FugueSpan) → Mem w l2 → length (key2 (ref w)) ≤ length l2
    deep2 w k = go (splice_from sp w k)
      where
        go : Mem w l1 ⊎ Mem w (units_of (with_origins s x o)) → length (key2 (ref w)) ≤ length l2
        go (inl q) =
            let b : length (key2 (ref w)) ≡ length (key (ref w)) = ap length (key_of_old key l1 good1 e.id m x o ix newest (ref w) (inr (w, q, refl))) in
            omega (arith, b, key_len (ref w) (inr (w, q, refl)), len2)
        go (inr q) =
            let t : (i : ℕ) × (i < suc m) × (w ≡ Units.unit_at (with_origins s x o) i) × (w.id ≡ inc_id e.id i) = new_id w q in
            let j : t.0 < suc m = t.1 in
            let k0 : Key = first_key key e.id x (parent_right l1 x o) in
            let b : length (key2 (ref w)) ≡ length (span_key e.id (first_key key e.id x (parent_right l1 x o)) t.0)
            = ap length (ap (λ (z : Id). key2 (Some z)) t.3 ∙ key_of_new key l1 good1 e.id m x o ix newest t.0 t.1) in
            omega (
              arith,
              b,
              span_key-length e.id (first_key key e.id x (parent_right l1 x o)) t.0,
              first_key-length key e.id x (parent_right l1 x o) (length h.list) (key_len x ix) (key_len (parent_right l1 x o) (pr_in_lem key l1 good1.sorted x o)),
              len2,
            )

    from : (w : FugueSpan) → Mem w l2 → ((u : FugueSpan) × Mem u h.list × (plain u ≡ plain w)) ⊎ Made (next l2) e w
    from w k = go (splice_from sp w k)
      where
        go : Mem w l1 ⊎ Mem w (units_of (with_origins s x o)) → ((u : FugueSpan) × Mem u h.list × (plain u ≡ plain w)) ⊎ Made (next l2) e w
        go (inl q) = inl (plain_mem h.list l1 (sym plain1) w q)
        go (inr q) =
            let t : (i : ℕ) × (i < suc m) × (w ≡ Units.unit_at (with_origins s x o) i) × (w.id ≡ inc_id e.id i) = new_id w q in
            inr (record {
              lam = lam;
              c = c;
              act = act;
              k = t.0;
              small = subst (λ (z : ℕ). t.0 < z) (sym len) t.1;
              is = ap plain t.2 ∙ ap₂ (λ (y z : OptId). plain (Units.unit_at (with_origins (new_span e.id lam c) y z) t.0))
                  (left_sees e.context h e.at at1 ∙ ap (origin_left e.at) (own_sees l2 same)) (right_sees e.context h e.at ∙ ap (origin_right e.at) (own_sees l2 same));
            })

    old : (u : FugueSpan) → Mem u h.list → (w : FugueSpan) × Mem w l2 × (w.id ≡ u.id)
    old u k =
        let t : (w : FugueSpan) × Mem w l1 × (plain w ≡ plain u) = plain_mem l1 h.list plain1 u k in
        (t.0, splice_old sp t.0 t.1, (plain_same t.0 u t.2).id)

    fresh : (lam2 : ℕ) (c2 : RichtextChunk) → e.act ≡ Insert lam2 c2 → (k : ℕ) → k < len_of c2 → (w : FugueSpan) × Mem w l2 × (w.id ≡ inc_id e.id k)
    unfolding with_origins new_span shift
    fresh lam2 c2 act2 k b =
        let d : Insert lam c ≡ Insert lam2 c2 = sym act ∙ act2 in
        let dc : c ≡ c2 = cc in
        let b2 : k < len_of c = subst (λ (z : RichtextChunk). k < len_of z) (sym dc) b in
        (Units.unit_at (with_origins s x o) k, splice_new sp (Units.unit_at (with_origins s x o) k) (unit_in (with_origins s x o) k b2), refl)

    run_insert : Run n (e ∷ done) (next l2) key2
    run_insert = run_next l2 same key2 good2 deep2 from old fresh

  -- ---- a delete

  real1 : (u : FugueSpan) → Mem u l1 → Real u
  unfolding units_at Co.unit_at with_state
  real1 u k = go (Memᴰ.of_map (Co.unit_at e.context h.held) h.list k)
    where
      go : (v : FugueSpan) × Mem v h.list × (Co.unit_at e.context h.held v ≡ u) → Real u
      go t = subst Real t.2 (unfold Co.unit_at with_state in real n done h key r t.0 t.1)

  module _ (len : ℕ) (reversed : Bool) (target : Id) (act : e.act ≡ Delete len reversed target) where
    abbrev l3 : List FugueSpan
    l3 = delete_units e.at len target l1

    plain3 : map plain h.list ≡ map plain (delete_units e.at len target l1)
    plain3 = sym plain1 ∙ sym (plain_deletes e.at len target l1 real1)

    run_delete : Run n (e ∷ done) (next l3) key
    run_delete = run_next l3 (λ (v : Version) (b : count_of v e.id.peer ≤ first e). ap past_of (view_list v h.held l3 h.list (sym plain3)))
        key (good_alike key h.list l3 (plain_alike h.list l3 plain3) r.good)
        (λ (w : FugueSpan) (k : Mem w l3). deep3 w (plain_mem h.list l3 plain3 w k))
        (λ (w : FugueSpan) (k : Mem w l3). inl (plain_mem h.list l3 plain3 w k))
        (λ (u : FugueSpan) (k : Mem u h.list). old3 u (plain_mem l3 h.list (sym plain3) u k))
        (λ (lam : ℕ) (c : RichtextChunk) (d : e.act ≡ Insert lam c). absurd (clash lam c (sym act ∙ d)))
      where
        deep3 : (w : FugueSpan) → (u : FugueSpan) × Mem u h.list × (plain u ≡ plain w) → length (key (ref w)) ≤ length l3
        deep3 w t = subst (λ (z : Id). length (key (Some z)) ≤ length l3) (plain_same t.0 w t.2).id (omega (arith, r.deep t.0 t.1, alike_length h.list l3 (plain_alike h.list l3 plain3)))

        old3 : (u : FugueSpan) → (w : FugueSpan) × Mem w l3 × (plain w ≡ plain u) → (w : FugueSpan) × Mem w l3 × (w.id ≡ u.id)
        old3 u t = (t.0, t.1, (plain_same t.0 u t.2).id)

        clash : (lam : ℕ) (c : RichtextChunk) → Delete len reversed target ≡ Insert lam c → ⊥
        clash lam c d = let z : ◌≡◌ {A = ℕ} 0 1 = cc in omega arith

-- ---- one edit, whatever it is

pub run_arrive : (n : ℕ) (done : List Edit) (h : History) (key : OptId → Key) → Run n done h key → (e : Edit) → Arriving n done h e → (key2 : OptId → Key) × Run n (e ∷ done) (arrive h e) key2
unfolding arrive
run_arrive n done h key r e a = go e.act refl a.some
  where
    go : (t : Act) → e.act ≡ t → 1 ≤ size_of t → (key2 : OptId → Key) × Run n (e ∷ done) (record { placeholder = h.placeholder; list = act_list t e (units_at e.context h); held = hold h e }) key2
    go (Insert lam c) d b =
        let b2 : 1 ≤ len_of c = (unfold size_of in b) in
        let t : (key2 : OptId → Key) × Run n (e ∷ done) (record { placeholder = h.placeholder; list = insert_units e.at (new_span e.id lam c) (units_at e.context h); held = hold h e }) key2
        = (_, run_insert n done h key r e a lam c d (len_of c - 1) (omega arith)) in
        (t.0, (unfold act_list in t.1))
    go (Delete len reversed target) d b = (key, (unfold act_list in run_delete n done h key r e a len reversed target d))
