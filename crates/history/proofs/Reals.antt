-- 12 never arises in a history made by calls: whatever a delete took has a real id, so what a delta inserts has one.
use Prim.Native.Nat.{ℕ, zero, suc, ◌<◌}
use mathlib.Core.Path.{◌≡◌, refl, sym, ap, subst, ◌∙◌}
use mathlib.Core.Logic.{◌⊎◌, inl, inr}
use mathlib.Core.Bool.{Bool, true, false, not, ◌&&◌, ◌||◌, cond, true≢false, and-eq-true_iff}
use mathlib.Core.List.Memᴰ
use mathlib.Core.List.{List, [], ◌∷◌, ◌++◌, map, Memᴰ}
use lib.Dec.{eqb}
use borrow.Author.Tests.{ne_eqb, eqb-false}
use Rattle.std.specs.Prelude.{None, Some}
use Rattle.span.specs.declared.chunk.RichtextChunk.{RichtextChunk}
use Rattle.span.specs.declared.ids.Id.{Id}
use Rattle.span.specs.Maybe.{OptId}
use Rattle.span.specs.declared.span.FugueSpan.{FugueSpan}
use Rattle.span.specs.Ids.{UNKNOWN_PEER, inc_id, inc_opt}
use Rattle.span.proofs.IdsLaws.{inc_opt_zero}
use Rattle.span.specs.Status.{activated}
use Rattle.span.specs.declared.span.DiffStatus.TheVariants.{NotChanged, Created, Deleted}
use Rattle.span.specs.Span.{new_span, real_new, shift, diff_of, len_span}
use Rattle.span.proofs.SpanLaws.{span_ok}
use Rattle.span.proofs.Views.{len_pos}
use Rattle.span.specs.Units.{units_of, expand, Joined, join}
use Rattle.span.specs.Units as Units
use Rattle.span.proofs.Unique.{join_joined, expand-join, AllUnits}
use Rattle.units.specs.Lists.{every, some}
use Rattle.units.specs.Place.{front, behind, with_origins, origin_left, origin_right, insert_units}
use Rattle.units.specs.Change.{with_state, or_real, delete_unit, delete_first, delete_units, first_shown, taken}
use Rattle.units.specs.Delta.{is_real, real_if_created, insertable}
use Rattle.fugue.specs.Tree.{ref}
use Rattle.fugue.proofs.Keys.{Key, Lt, Lt-irrefl}
use Rattle.fugue.proofs.ScanPlace.{Mem, Sorted}
use Rattle.fugue.proofs.Cursor.{front-behind}
use Rattle.fugue.proofs.Alike.{alike_map, sorted_alike}
use Rattle.fugue.proofs.Splices.{insert_splice, splice_from, unit_from, unit_in}
use Rattle.history.specs.Edit.{Version, Act, Insert, Delete, Edit, Held, History}
use Rattle.history.specs.Version.{below, in_version}
use Rattle.history.specs.Checkout.{in_ranges, ranges_of, deletes_in, status_at, units_at, units_between}
use Rattle.history.specs.Checkout as Co
use Rattle.history.specs.Arrive.{act_list, act_took, took_by, hold, arrive}
use Rattle.history.specs.Deltas.{spans_between}
use Rattle.history.proofs.Plain.{at_same}
use Rattle.history.proofs.Context.{Natural}
use Rattle.history.proofs.Run.{MemH, Run, unit_natural}
use Rattle.history.proofs.Stable.{Real}
use Rattle.history.proofs.Arrive.{Arriving}
use Rattle.history.proofs.Ranges.{AllNatural, ranges_from}
use Rattle.history.proofs.Targets.{first_in, sorted_behind}
use Rattle.history.proofs.WellUnits.{Units1, units_between_lem, all_of}
use Rattle.history.proofs.Valid.{every_of}

abbrev pub HasReal : FugueSpan → Type 0
HasReal u = (i : Id) × (u.real_id ≡ Some i)

-- whatever a delete took has a real id
unfoldable pub Touched : History → Type 0
Touched h = (x : Held) → MemH x h.held → (u : FugueSpan) → Mem u h.list → in_ranges u.id x.took ≡ true → HasReal u

abbrev id_of : FugueSpan → Id
id_of u = u.id

-- ---- a delete gives real ids to what it takes

real_deleted : (i : Id) (u : FugueSpan) → HasReal (delete_unit i u)
unfolding delete_unit with_state
real_deleted i u = go u.real_id
  where
    go : (r : OptId) → (j : Id) × (or_real r i ≡ Some j)
    go None = (i, refl)
    go (Some j) = (j, refl)

record After (l : List FugueSpan) (ids : List Id) (u : FugueSpan) : Type 0 where
  was : FugueSpan
  was_in : Mem was l
  same : was.id ≡ u.id
  stays : HasReal was → HasReal u
  given : Memᴰ u.id ids → HasReal u

after_first : (key : OptId → Key) (l : List FugueSpan) (m : ℕ) (i : Id) → Sorted key l → (u : FugueSpan) → Mem u (delete_first l m i) → After l (map id_of (first_shown l m)) u
unfolding delete_first first_shown
after_first key [] m i s u k = absurd (Memᴰ.not-nil k)
after_first key (v ∷ l) zero i s u k = record { was = u; was_in = k; same = refl; stays = λ (h : HasReal u). h; given = λ (j : Memᴰ u.id []). absurd (Memᴰ.not-nil j) }
after_first key (v ∷ l) (suc m) i s u k = go (activated v.status) k (after_first key l m (inc_id i 1) s.1 u) (after_first key l (suc m) i s.1 u)
  where
    -- no other unit has this id
    alone : (w : FugueSpan) → Mem w l → w.id ≡ v.id → ⊥
    alone w j d = Lt-irrefl (key (ref v)) (subst (λ (z : Id). Lt (key (ref v)) (key (Some z))) d (s.0 w j))

    up : (ids : List Id) → After l ids u → (Memᴰ u.id (v.id ∷ ids) → HasReal u) → After (v ∷ l) (v.id ∷ ids) u
    up ids t g = record { was = t.was; was_in = Memᴰ.tail t.was_in; same = t.same; stays = t.stays; given = g }

    later : (t : After l (map id_of (first_shown l m)) u) → (u.id ≡ v.id) ⊎ Memᴰ u.id (map id_of (first_shown l m)) → HasReal u
    later t (inl d) = absurd (alone t.was t.was_in (t.same ∙ d))
    later t (inr j) = t.given j

    yes : (Mem u (delete_first l m (inc_id i 1)) → After l (map id_of (first_shown l m)) u) → (u ≡ delete_unit i v) ⊎ Mem u (delete_first l m (inc_id i 1)) → After (v ∷ l) (v.id ∷ map id_of (first_shown l m)) u
    yes ih (inl d) =
        let h : HasReal u = subst HasReal (sym d) (real_deleted i v) in
        record { was = v; was_in = Memᴰ.head refl; same = keep; stays = λ (x : HasReal v). h; given = λ (j : Memᴰ u.id (v.id ∷ map id_of (first_shown l m))). h }
      where
        keep : v.id ≡ u.id
        keep = (unfold delete_unit with_state in ap id_of (sym d))
    yes ih (inr j) = let t : After l (map id_of (first_shown l m)) u = ih j in up (map id_of (first_shown l m)) t (λ (x : Memᴰ u.id (v.id ∷ map id_of (first_shown l m))). later t (Memᴰ.cases_cons x))

    no : (Mem u (delete_first l (suc m) i) → After l (map id_of (first_shown l (suc m))) u) → (u ≡ v) ⊎ Mem u (delete_first l (suc m) i) → After (v ∷ l) (map id_of (first_shown l (suc m))) u
    no ih (inl d) = record {
      was = v;
      was_in = Memᴰ.head refl;
      same = ap id_of (sym d);
      stays = λ (x : HasReal v). subst HasReal (sym d) x;
      given = λ (j : Memᴰ u.id (map id_of (first_shown l (suc m)))). absurd (clash (Memᴰ.of_map id_of (first_shown l (suc m)) j));
    }
      where
        clash : (w : FugueSpan) × Mem w (first_shown l (suc m)) × (id_of w ≡ u.id) → ⊥
        clash t = alone t.0 (first_in l (suc m) t.0 t.1) (t.2 ∙ ap id_of d)
    no ih (inr j) = let t : After l (map id_of (first_shown l (suc m))) u = ih j in record { was = t.was; was_in = Memᴰ.tail t.was_in; same = t.same; stays = t.stays; given = t.given }

    go : (b : Bool) → Mem u (cond b (delete_unit i v ∷ delete_first l m (inc_id i 1)) (v ∷ delete_first l (suc m) i)) → (Mem u (delete_first l m (inc_id i 1)) → After l (map id_of (first_shown l m)) u)
        → (Mem u (delete_first l (suc m) i) → After l (map id_of (first_shown l (suc m))) u) → After (v ∷ l) (map id_of (cond b (v ∷ first_shown l m) (first_shown l (suc m)))) u
    go true x ih ih2 = yes ih (Memᴰ.cases_cons x)
    go false x ih ih2 = no ih2 (Memᴰ.cases_cons x)

-- ---- arrivals and checkouts

sorted_cross : (key : OptId → Key) (A B : List FugueSpan) → Sorted key (A ++ B) → (a b : FugueSpan) → Mem a A → Mem b B → Lt (key (ref a)) (key (ref b))
sorted_cross key [] B s a b m k = absurd (Memᴰ.not-nil m)
sorted_cross key (v ∷ A) B s a b m k = go (Memᴰ.cases_cons m) (sorted_cross key A B s.1 a b)
  where
    go : (a ≡ v) ⊎ Mem a A → (Mem a A → Mem b B → Lt (key (ref a)) (key (ref b))) → Lt (key (ref a)) (key (ref b))
    go (inl d) ih = subst (λ (z : FugueSpan). Lt (key (ref z)) (key (ref b))) (sym d) (s.0 b (Memᴰ.append_right A k))
    go (inr j) ih = ih j k

no_range : (i : Id) → in_ranges i [] ≡ true → ⊥
unfolding in_ranges some
no_range i e = true≢false (sym e)

module _ (n : ℕ) (done : List Edit) (h : History) (key : OptId → Key) (r : Run n done h key) (t : Touched h) where
  -- at a version
  touched_at : (v : Version) (x : Held) → MemH x h.held → (u : FugueSpan) → Mem u (units_at v h) → in_ranges u.id x.took ≡ true → HasReal u
  unfolding Touched units_at Co.unit_at with_state
  touched_at v x m u k e = go (Memᴰ.of_map (Co.unit_at v h.held) h.list k)
    where
      go : (a : FugueSpan) × Mem a h.list × (Co.unit_at v h.held a ≡ u) → HasReal u
      go q = subst HasReal q.2 (keep q.0 (t x m q.0 q.1 (ap (λ (z : Id). in_ranges z x.took) ((at_same v h.held q.0).id ∙ ap id_of q.2) ∙ e)))
        where
          keep : (a : FugueSpan) → HasReal a → HasReal (Co.unit_at v h.held a)
          keep a b = unfold Co.unit_at with_state in b

  natural_at : (v : Version) (u : FugueSpan) → Mem u (units_at v h) → Natural u.id
  unfolding units_at
  natural_at v u k = go (Memᴰ.of_map (Co.unit_at v h.held) h.list k)
    where
      go : (a : FugueSpan) × Mem a h.list × (Co.unit_at v h.held a ≡ u) → Natural u.id
      go q = subst Natural ((at_same v h.held q.0).id ∙ ap id_of q.2) (unit_natural n done h key r q.0 q.1)

  sorted_at : (v : Version) → Sorted key (units_at v h)
  unfolding units_at
  sorted_at v = sorted_alike key h.list (map (Co.unit_at v h.held) h.list) (alike_map (Co.unit_at v h.held) (at_same v h.held) h.list) r.good.sorted

  module _ (e : Edit) (a : Arriving n done h e) where
    abbrev l1 : List FugueSpan
    l1 = units_at e.context h

    -- an insert's units have real ids, and it takes nothing
    insert_real : (lam : ℕ) (c : RichtextChunk) (u : FugueSpan) → Mem u (insert_units e.at (new_span e.id lam c) l1) → Mem u l1 ⊎ HasReal u
    insert_real lam c u k = go (splice_from (insert_splice e.at (new_span e.id lam c) l1) u k)
      where
        new : (x o : OptId) (i : ℕ) → HasReal (Units.unit_at (with_origins (new_span e.id lam c) x o) i)
        new x o i = (inc_id e.id i, (unfold shift with_origins new_span real_new inc_opt in ap (λ (b : Bool). inc_opt (cond b None (Some e.id)) i) (ne_eqb e.id.peer UNKNOWN_PEER a.known)))

        go : Mem u l1 ⊎ Mem u (units_of (with_origins (new_span e.id lam c) (origin_left e.at l1) (origin_right e.at l1))) → Mem u l1 ⊎ HasReal u
        go (inl j) = inl j
        go (inr j) =
            let q : (i : ℕ) × (i < len_span (with_origins (new_span e.id lam c) (origin_left e.at l1) (origin_right e.at l1))) × (u ≡ Units.unit_at (with_origins (new_span e.id lam c) (origin_left e.at l1) (origin_right e.at l1)) i)
            = unit_from (with_origins (new_span e.id lam c) (origin_left e.at l1) (origin_right e.at l1)) u j in
            inr (subst HasReal (sym q.2) (new (origin_left e.at l1) (origin_right e.at l1) q.0))

    ids_natural : (l : List FugueSpan) → ((w : FugueSpan) → Mem w l → Mem w l1) → AllNatural (map id_of l)
    ids_natural [] f = tt
    ids_natural (w ∷ l) f = (natural_at e.context w (f w (Memᴰ.head refl)), ids_natural l (λ (z : FugueSpan) (m : Mem z l). f z (Memᴰ.tail m)))

    in_l1 : (w : FugueSpan) → Mem w (behind l1 e.at) → Mem w l1
    in_l1 w k = subst (λ (z : List FugueSpan). Mem w z) (front-behind l1 e.at) (Memᴰ.append_right (front l1 e.at) k)

    sorted1 : Sorted key (front l1 e.at ++ behind l1 e.at)
    sorted1 = subst (Sorted key) (sym (front-behind l1 e.at)) (sorted_at e.context)

    -- a unit after a delete
    delete_real : (m : ℕ) (target : Id) (u : FugueSpan) → Mem u (delete_units e.at m target l1) → After l1 (map id_of (taken e.at m l1)) u
    unfolding delete_units taken
    delete_real m target u k = go (Memᴰ.append_cases (front l1 e.at) k)
      where
        B : List FugueSpan
        B = behind l1 e.at

        clash : Mem u (front l1 e.at) → (w : FugueSpan) × Mem w (first_shown (behind l1 e.at) m) × (id_of w ≡ u.id) → ⊥
        clash j q = Lt-irrefl (key (ref u)) (subst (λ (z : Id). Lt (key (ref u)) (key (Some z))) q.2 (sorted_cross key (front l1 e.at) (behind l1 e.at) sorted1 u q.0 j (first_in (behind l1 e.at) m q.0 q.1)))

        go : Mem u (front l1 e.at) ⊎ Mem u (delete_first (behind l1 e.at) m target) → After l1 (map id_of (first_shown (behind l1 e.at) m)) u
        go (inl j) = record {
          was = u;
          was_in = subst (λ (z : List FugueSpan). Mem u z) (front-behind l1 e.at) (Memᴰ.append_left (behind l1 e.at) j);
          same = refl;
          stays = λ (x : HasReal u). x;
          given = λ (i : Memᴰ u.id (map id_of (first_shown (behind l1 e.at) m))). absurd (clash j (Memᴰ.of_map id_of (first_shown (behind l1 e.at) m) i));
        }
        go (inr j) =
            let q : After (behind l1 e.at) (map id_of (first_shown (behind l1 e.at) m)) u = after_first key (behind l1 e.at) m target (sorted_behind key l1 e.at (sorted_at e.context)) u j in
            record { was = q.was; was_in = in_l1 q.was q.was_in; same = q.same; stays = q.stays; given = q.given }

    one_act : (act : Act) → e.act ≡ act → (x : Held) → MemH x h.held ⊎ (x.took ≡ act_took act e l1) → (u : FugueSpan) → Mem u (act_list act e l1) → in_ranges u.id x.took ≡ true → HasReal u
    unfolding act_list act_took
    one_act (Insert lam c) d x s u k i = go (insert_real lam c u k) s
      where
        go : Mem u l1 ⊎ HasReal u → MemH x h.held ⊎ (x.took ≡ []) → HasReal u
        go (inr q) s = q
        go (inl q) (inl m) = touched_at e.context x m u q i
        go (inl q) (inr z) = absurd (no_range u.id (ap (in_ranges u.id) (sym z) ∙ i))
    one_act (Delete m reversed target) d x s u k i = go (delete_real m target u k) s
      where
        taken_in : (w : FugueSpan) → Mem w (taken e.at m l1) → Mem w l1
        taken_in w j = unfold taken in in_l1 w (first_in (behind l1 e.at) m w j)

        go : After l1 (map id_of (taken e.at m l1)) u → MemH x h.held ⊎ (x.took ≡ ranges_of (map id_of (taken e.at m l1))) → HasReal u
        go q (inl mx) = q.stays (touched_at e.context x mx q.was q.was_in (ap (λ (z : Id). in_ranges z x.took) q.same ∙ i))
        go q (inr z) = q.given (ranges_from (map id_of (taken e.at m l1)) u.id (ids_natural (taken e.at m l1) taken_in)
            (subst Natural q.same (natural_at e.context q.was q.was_in)) (ap (in_ranges u.id) (sym z) ∙ i))

    pub touched_arrive : Touched (arrive h e)
    unfolding Touched arrive hold
    touched_arrive x m u k i = one_act e.act refl x (go (Memᴰ.append_cases h.held m)) u k i
      where
        go : MemH x h.held ⊎ MemH x (record { edit = e; took = took_by h e } ∷ []) → MemH x h.held ⊎ (x.took ≡ took_by h e)
        go (inl j) = inl j
        go (inr j) = inr (ap (λ (z : Held). z.took) (Memᴰ.eq_of_singleton j))

  pub touched_checkout : (v : Version) → Touched (Co.checkout v h)
  unfolding Touched Co.checkout
  touched_checkout v x m u k i = touched_at v x m u k i

  -- ---- no 12

  deletes_some : (v : Version) (l : List Held) (i : Id) → (deletes_in v l i ≡ 0 → ⊥) → (x : Held) × MemH x l × (in_ranges i x.took ≡ true)
  unfolding deletes_in
  deletes_some v [] i k = absurd (k refl)
  deletes_some v (x ∷ l) i k = go (below v x.edit.id && in_ranges i x.took) refl (deletes_some v l i)
    where
      go : (b : Bool) → (below v x.edit.id && in_ranges i x.took) ≡ b → ((deletes_in v l i ≡ 0 → ⊥) → (y : Held) × MemH y l × (in_ranges i y.took ≡ true)) → (y : Held) × MemH y (x ∷ l) × (in_ranges i y.took ≡ true)
      go true b ih = (x, Memᴰ.head refl, ((and-eq-true_iff (below v x.edit.id) (in_ranges i x.took)).0 b).1)
      go false b ih =
          let q : (y : Held) × MemH y l × (in_ranges i y.took ≡ true) = ih (λ (z : deletes_in v l i ≡ 0). k (ap (λ (c : Bool). cond c (suc (deletes_in v l i)) (deletes_in v l i)) b ∙ z)) in
          (q.0, Memᴰ.tail q.1, q.2)

  -- a placeholder unit that a version does not show was taken by a delete
  hidden_real : (v : Version) (u : FugueSpan) → Mem u h.list → Real u → activated (status_at v h.held u.id) ≡ false → HasReal u
  unfolding Touched activated status_at in_version
  hidden_real v u m (inr q) e = q
  hidden_real v u m (inl p) e =
      let s : (x : Held) × MemH x h.held × (in_ranges u.id x.took ≡ true) = deletes_some v h.held u.id (eqb-false (deletes_in v h.held u.id) 0
      (ap (λ (z : ℕ). not (not (eqb z UNKNOWN_PEER || below v u.id)) && eqb (deletes_in v h.held u.id) 0) (sym p) ∙ e)) in
      t s.0 s.1 u m s.2

  unit_insertable : ((u : FugueSpan) → Mem u h.list → Real u) → (a b : Version) (u : FugueSpan) → Mem u h.list → insertable (Co.unit_between a b h.held u) ≡ true
  unfolding insertable diff_of Co.unit_between with_state
  unit_insertable reals a b u m = go (activated (status_at a h.held u.id)) refl (activated (status_at b h.held u.id))
    where
      is_real_of : HasReal u → is_real u.real_id ≡ true
      is_real_of q = ap is_real q.1

      go : (x : Bool) → activated (status_at a h.held u.id) ≡ x → (y : Bool) → real_if_created (cond x (cond y NotChanged Deleted) (cond y Created NotChanged)) u.real_id ≡ true
      go true e true = refl
      go true e false = refl
      go false e true = is_real_of (hidden_real a u m (reals u m) e)
      go false e false = refl

  -- a span is inserted where its first unit is
  first_insertable : (s : FugueSpan) → insertable (Units.unit_at s 0) ≡ insertable s
  unfolding insertable diff_of shift
  first_insertable s = ap (real_if_created (diff_of s)) (inc_opt_zero s.real_id)

  spans_insertable : (l : List FugueSpan) → Joined l → ((u : FugueSpan) → Mem u (expand l) → insertable u ≡ true) → (s : FugueSpan) → Mem s l → insertable s ≡ true
  unfolding Joined expand
  spans_insertable [] j f s m = absurd (Memᴰ.not-nil m)
  spans_insertable (v ∷ l) j f s m = go (Memᴰ.cases_cons m) (spans_insertable l j.1.1 (λ (u : FugueSpan) (k : Mem u (expand l)). f u (Memᴰ.append_right (units_of v) k)) s)
    where
      go : (s ≡ v) ⊎ Mem s l → (Mem s l → insertable s ≡ true) → insertable s ≡ true
      go (inl d) ih = ap insertable d ∙ (sym (first_insertable v) ∙ f (Units.unit_at v 0) (Memᴰ.append_left (expand l) (unit_in v 0 (len_pos v.content (span_ok v j.0).form))))
      go (inr k) ih = ih k

  pub no_12 : ((u : FugueSpan) → Mem u h.list → Real u) → Units1 h.list → (a b : Version) → every insertable (spans_between a b h) ≡ true
  unfolding spans_between
  no_12 reals us a b = every_of insertable (join (units_between a b h)) (spans_insertable (join (units_between a b h)) (join_joined (units_between a b h) ok)
      (λ (u : FugueSpan) (m : Mem u (expand (join (units_between a b h)))). each u (subst (λ (z : List FugueSpan). Mem u z) (expand-join (units_between a b h) ok) m)))
    where
      ok : AllUnits (units_between a b h)
      ok = all_of (units_between a b h) (units_between_lem a b h us)

      each : (u : FugueSpan) → Mem u (units_between a b h) → insertable u ≡ true
      each u m = go (unfold units_between in Memᴰ.of_map (Co.unit_between a b h.held) h.list m)
        where
          go : (w : FugueSpan) × Mem w h.list × (Co.unit_between a b h.held w ≡ u) → insertable u ≡ true
          go q = ap insertable (sym q.2) ∙ unit_insertable reals a b q.0 q.1
