-- The targets of a delete that a history holds are its length of units of the list, in list order, in ranges joined while consecutive.
use Prim.Native.Nat.{ℕ, zero, suc, ◌+◌, ◌<◌, ◌≤◌}
use mathlib.Core.Path.{◌≡◌, refl, sym, ap, ap₂, subst, ◌∙◌}
use mathlib.Core.Logic.{◌⊎◌, inl, inr}
use mathlib.Core.Bool.{Bool, true, false, ◌&&◌, cond}
use mathlib.Core.List.Memᴰ
use mathlib.Core.List.{List, [], ◌∷◌, map}
use native.Mathlib.Omega.{arith}
use lib.Dec.{eqb}
use lib.ListN.{length, length-map}
use borrow.Author.Tests.{eq-eqb, leb-true}
use Rattle.std.specs.Prelude.{Some}
use Rattle.span.specs.declared.ids.Id.{Id}
use Rattle.span.specs.Maybe.{OptId}
use Rattle.span.specs.declared.span.FugueSpan.{FugueSpan}
use Rattle.span.specs.Status.{activated}
use Rattle.units.specs.Lists.{some, keep_if}
use Rattle.units.specs.Place.{behind, shown}
use Rattle.units.specs.Change.{first_shown, taken}
use Rattle.fugue.proofs.Keys.{Key}
use Rattle.fugue.proofs.ScanPlace.{Mem, Sorted}
use Rattle.fugue.proofs.Past.{not_future}
use Rattle.fugue.proofs.Alike.{alike_map, sorted_alike}
use Rattle.fugue.proofs.Rising.{keep_if_in, keep_if_keeps, sorted_unique, sorted_uniq}
use Rattle.history.specs.Edit.{Version, Act, Insert, Delete, Edit, Range, Held, History}
use Rattle.history.specs.Checkout.{in_ranges, ranges_of}
use Rattle.history.specs.Arrive.{act_took}
use Rattle.history.specs.Valid.{same_ranges, total, ranges_in, act_length, targets_fit}
use Rattle.history.specs.Codes.{inside}
use Rattle.history.proofs.Plain.{view, view_same, sees}
use Rattle.history.proofs.Context.{count, Known, before, before_known, Natural}
use Rattle.history.proofs.Run.{MemE, MemH, num, Run, unit_natural, seen_from}
use Rattle.history.proofs.Seen.{sorted_sees, sorted_keep, behind_sub}
use Rattle.history.proofs.Ranges.{AllNatural, ranges_from, ranges_to, ranges_total, ranges_length, same_ranges_refl}

abbrev id_of : FugueSpan → Id
id_of u = u.id

-- ---- the first n visible units behind a position

pub first_in : (l : List FugueSpan) (n : ℕ) (w : FugueSpan) → Mem w (first_shown l n) → Mem w l
unfolding first_shown
first_in [] n w m = m
first_in (v ∷ l) zero w m = absurd (Memᴰ.not-nil m)
first_in (v ∷ l) (suc n) w m = go (activated v.status) m (first_in l n w) (first_in l (suc n) w)
  where
    two : (Mem w (first_shown l n) → Mem w l) → (w ≡ v) ⊎ Mem w (first_shown l n) → Mem w (v ∷ l)
    two ih (inl d) = Memᴰ.head d
    two ih (inr k) = Memᴰ.tail (ih k)

    go : (b : Bool) → Mem w (cond b (v ∷ first_shown l n) (first_shown l (suc n))) → (Mem w (first_shown l n) → Mem w l) → (Mem w (first_shown l (suc n)) → Mem w l) → Mem w (v ∷ l)
    go true k ih ih2 = two ih (Memᴰ.cases_cons k)
    go false k ih ih2 = Memᴰ.tail (ih2 k)

sorted_first : (key : OptId → Key) (l : List FugueSpan) (n : ℕ) → Sorted key l → Sorted key (first_shown l n)
unfolding first_shown
sorted_first key [] n s = tt
sorted_first key (v ∷ l) zero s = tt
sorted_first key (v ∷ l) (suc n) s = go (activated v.status) (sorted_first key l n s.1) (sorted_first key l (suc n) s.1)
  where
    go : (b : Bool) → Sorted key (first_shown l n) → Sorted key (first_shown l (suc n)) → Sorted key (cond b (v ∷ first_shown l n) (first_shown l (suc n)))
    go true ih ih2 = (λ (w : FugueSpan) (m : Mem w (first_shown l n)). s.0 w (first_in l n w m), ih)
    go false ih ih2 = ih2

pub sorted_behind : (key : OptId → Key) (l : List FugueSpan) (n : ℕ) → Sorted key l → Sorted key (behind l n)
unfolding behind
sorted_behind key [] n s = tt
sorted_behind key (v ∷ l) zero s = s
sorted_behind key (v ∷ l) (suc n) s = sorted_behind key l (cond (activated v.status) n (suc n)) s.1

first_length : (l : List FugueSpan) (n : ℕ) → n ≤ shown l → length (first_shown l n) ≡ n
unfolding first_shown shown
first_length [] n h = omega arith
first_length (v ∷ l) zero h = refl
first_length (v ∷ l) (suc n) h = go (activated v.status) h (first_length l n) (first_length l (suc n))
  where
    go : (b : Bool) → suc n ≤ cond b (suc (shown l)) (shown l) → (n ≤ shown l → length (first_shown l n) ≡ n) → (suc n ≤ shown l → length (first_shown l (suc n)) ≡ suc n)
        → length (cond b (v ∷ first_shown l n) (first_shown l (suc n))) ≡ suc n
    go true k ih ih2 = ap suc (ih (omega arith))
    go false k ih ih2 = ih2 k

pub shown-behind : (l : List FugueSpan) (n : ℕ) → n ≤ shown l → shown (behind l n) + n ≡ shown l
unfolding behind shown
shown-behind [] n h = omega arith
shown-behind (v ∷ l) zero h = (unfold shown in omega arith)
shown-behind (v ∷ l) (suc n) h = go (activated v.status) h (shown-behind l n) (shown-behind l (suc n))
  where
    go : (b : Bool) → suc n ≤ cond b (suc (shown l)) (shown l) → (n ≤ shown l → shown (behind l n) + n ≡ shown l) → (suc n ≤ shown l → shown (behind l (suc n)) + suc n ≡ shown l)
        → shown (behind l (cond b n (suc n))) + suc n ≡ cond b (suc (shown l)) (shown l)
    go true k ih ih2 = let q : shown (behind l n) + n ≡ shown l = ih (omega arith) in omega arith
    go false k ih ih2 = ih2 k

taken_length : (l : List FugueSpan) (at n : ℕ) → at + n ≤ shown l → length (taken at n l) ≡ n
unfolding taken
taken_length l at n h = first_length (behind l at) n (omega (arith, shown-behind l at (omega arith)))

all_natural : (l : List FugueSpan) → ((u : FugueSpan) → Mem u l → Natural u.id) → AllNatural (map id_of l)
all_natural [] f = tt
all_natural (u ∷ l) f = (f u (Memᴰ.head refl), all_natural l (λ (w : FugueSpan) (m : Mem w l). f w (Memᴰ.tail m)))

ids_view : (v : Version) (held : List Held) (l : List FugueSpan) → map id_of (map (view v held) l) ≡ map id_of l
ids_view v held [] = refl
ids_view v held (u ∷ l) = ap₂ ◌∷◌ (sym (view_same v held u).id) (ids_view v held l)

keep_none : (us : List FugueSpan) → keep_if (λ (u : FugueSpan). in_ranges u.id []) us ≡ []
unfolding keep_if in_ranges some
keep_none [] = refl
keep_none (u ∷ us) = keep_none us

-- ---- one held edit

module _ (n : ℕ) (done : List Edit) (h : History) (key : OptId → Key) (r : Run n done h key) where
  -- what a delete of m units takes at the version v
  module _ (v : Version) (at m : ℕ) where
    T : List FugueSpan
    T = taken at m (sees v h)

    in_sees : (w : FugueSpan) → Mem w (taken at m (sees v h)) → Mem w (sees v h)
    unfolding taken
    in_sees w k = behind_sub (sees v h) at w (first_in (behind (sees v h) at) m w k)

    from : (w : FugueSpan) → Mem w (taken at m (sees v h)) → (a : FugueSpan) × Mem a h.list × (view v h.held a ≡ w)
    from w k =
        let t : (a : FugueSpan) × Mem a h.list × (view v h.held a ≡ w) × (num a < count n v a.id.peer) × (not_future w ≡ true) = seen_from n done h key r v w (in_sees w k) in
        (t.0, t.1, t.2)

    nat : AllNatural (map id_of (taken at m (sees v h)))
    nat = all_natural (taken at m (sees v h)) (λ (w : FugueSpan) (k : Mem w (taken at m (sees v h))). go w (from w k))
      where
        go : (w : FugueSpan) → (a : FugueSpan) × Mem a h.list × (view v h.held a ≡ w) → Natural w.id
        go w t = subst Natural ((view_same v h.held t.0).id ∙ ap id_of t.2) (unit_natural n done h key r t.0 t.1)

    ids : List Id
    ids = map id_of (taken at m (sees v h))

    test : FugueSpan → Bool
    test u = in_ranges u.id (ranges_of (map id_of (taken at m (sees v h))))

    kept_is : map (view v h.held) (keep_if test h.list) ≡ taken at m (sees v h)
    unfolding test taken
    kept_is = sorted_unique key (map (view v h.held) (keep_if test h.list)) (taken at m (sees v h))
        (sorted_alike key (keep_if test h.list) (map (view v h.held) (keep_if test h.list)) (alike_map (view v h.held) (view_same v h.held) (keep_if test h.list)) (sorted_keep key test h.list r.good.sorted))
        (sorted_first key (behind (sees v h) at) m (sorted_behind key (sees v h) at (sorted_sees key v h r.good.sorted)))
        (λ (w : FugueSpan) (k : Mem w (map (view v h.held) (keep_if test h.list))). to w (Memᴰ.of_map (view v h.held) (keep_if test h.list) k))
        (λ (w : FugueSpan) (k : Mem w (taken at m (sees v h))). back w k (from w k))
      where
        meet : (a : FugueSpan) → Mem a h.list → (w : FugueSpan) → view v h.held a ≡ w → (t : FugueSpan) × Mem t (taken at m (sees v h)) × (id_of t ≡ a.id) → Mem w (taken at m (sees v h))
        meet a ma w e t =
            let b : (x : FugueSpan) × Mem x h.list × (view v h.held x ≡ t.0) = from t.0 t.1 in
            let q : b.0 ≡ a = sorted_uniq key h.list r.good.sorted b.0 a b.1 ma (ap Some ((view_same v h.held b.0).id ∙ (ap id_of b.2 ∙ t.2))) in
            Memᴰ.cast (sym e ∙ (ap (view v h.held) (sym q) ∙ b.2)) t.1

        to : (w : FugueSpan) → (a : FugueSpan) × Mem a (keep_if test h.list) × (view v h.held a ≡ w) → Mem w (taken at m (sees v h))
        to w t =
            let k : Mem t.0 h.list × (test t.0 ≡ true) = keep_if_in test h.list t.0 t.1 in
            meet t.0 k.0 w t.2 (Memᴰ.of_map id_of (taken at m (sees v h)) (ranges_from (map id_of (taken at m (sees v h))) t.0.id nat (unit_natural n done h key r t.0 k.0) k.1))

        back : (w : FugueSpan) → Mem w (taken at m (sees v h)) → (a : FugueSpan) × Mem a h.list × (view v h.held a ≡ w) → Mem w (map (view v h.held) (keep_if test h.list))
        back w k t =
            let i : t.0.id ≡ w.id = (view_same v h.held t.0).id ∙ ap id_of t.2 in
            Memᴰ.cast (sym t.2) (Memᴰ.map (view v h.held) (keep_if_keeps test h.list t.0 t.1
            (ranges_to (map id_of (taken at m (sees v h))) t.0.id nat (unit_natural n done h key r t.0 t.1) (Memᴰ.cast i (Memᴰ.map id_of k)))))

    ranges_is : ranges_in h.list (ranges_of (map id_of (taken at m (sees v h)))) ≡ ranges_of (map id_of (taken at m (sees v h)))
    unfolding ranges_in test
    ranges_is = ap ranges_of (sym (ids_view v h.held (keep_if test h.list)) ∙ ap (map id_of) kept_is)

  took_fits : (a : Act) (e : Edit) → Known e → inside a e.at (before e h) ≡ true → (eqb (total (act_took a e (before e h))) (act_length a) && same_ranges (act_took a e (before e h)) (ranges_in h.list (act_took a e (before e h)))) ≡ true
  unfolding act_took
  took_fits (Insert lam c) e k i = unfold total ranges_in ranges_of same_ranges in ap (λ (l : List FugueSpan). eqb 0 0 && same_ranges [] (ranges_of (map id_of l))) (keep_none h.list)
  took_fits (Delete m reversed target) e k i =
      let q : before e h ≡ sees e.context h = before_known e h k in
      let b : e.at + m ≤ shown (before e h) = (unfold inside in leb-true (e.at + m) (shown (before e h)) i) in
      subst (λ (l : List FugueSpan). (eqb (total (ranges_of (map id_of (taken e.at m l)))) m && same_ranges (ranges_of (map id_of (taken e.at m l))) (ranges_in h.list (ranges_of (map id_of (taken e.at m l))))) ≡ true) (sym q)
      (ap₂ ◌&&◌ (eq-eqb (total (ranges_of (map id_of (taken e.at m (sees e.context h))))) m
      (ranges_total (map id_of (taken e.at m (sees e.context h))) ∙ (length-map (taken e.at m (sees e.context h)) id_of ∙ taken_length (sees e.context h) e.at m (subst (λ (l : List FugueSpan). e.at + m ≤ shown l) q b))))
      (ap (same_ranges (ranges_of (map id_of (taken e.at m (sees e.context h))))) (ranges_is e.context e.at m) ∙ same_ranges_refl (ranges_of (map id_of (taken e.at m (sees e.context h))))))

  pub targets_fit_lem : (x : Held) → MemH x h.held → targets_fit h.list x ≡ true
  unfolding targets_fit
  targets_fit_lem x m =
      let t : MemE x.edit done × Known x.edit × (x.took ≡ act_took x.edit.act x.edit (before x.edit h)) = r.tooks x m in
      subst (λ (z : List Range). (eqb (total z) (act_length x.edit.act) && same_ranges z (ranges_in h.list z)) ≡ true) (sym t.2) (took_fits x.edit.act x.edit t.1 (r.fit x.edit t.0))

-- no more ranges than units taken
first_few : (l : List FugueSpan) (n : ℕ) → length (first_shown l n) ≤ n
unfolding first_shown
first_few [] n = omega arith
first_few (v ∷ l) zero = omega arith
first_few (v ∷ l) (suc n) = go (activated v.status) (first_few l n) (first_few l (suc n))
  where
    go : (b : Bool) → length (first_shown l n) ≤ n → length (first_shown l (suc n)) ≤ suc n → length (cond b (v ∷ first_shown l n) (first_shown l (suc n))) ≤ suc n
    go true ih ih2 = omega arith
    go false ih ih2 = ih2

pub took_few : (a : Act) (e : Edit) (l : List FugueSpan) → length (act_took a e l) ≤ act_length a
unfolding act_took taken
took_few (Insert lam c) e l = omega arith
took_few (Delete m reversed target) e l = omega (arith, ranges_length (map id_of (taken e.at m l)), length-map (taken e.at m l) id_of, first_few (behind l e.at) m)
