-- ids as ranges, from left to right: a run of ids after others is a range added on the right; and what a delete takes, span by span
use Prim.Native.Nat.{ℕ, zero, suc, ◌+◌, ◌-◌, ◌<◌, ◌≤◌, min}
use mathlib.Core.Path.{◌≡◌, refl, sym, ap, ap₂, ◌∙◌}
use mathlib.Core.Bool.{Bool, true, false, cond}
use mathlib.Core.List.{List, [], ◌∷◌, ◌++◌, map, append_assoc, append-nil}
use mathlib.Core.Logic.{◌⊎◌, inl, inr}
use native.Mathlib.Omega.{arith}
use native.Mathlib.Nat.{suc-add, zero-add}
use borrow.Author.Tests.{lt-ltb, le-ltb}
use Rattle.span.specs.declared.ids.Id.{Id}
use Rattle.span.specs.declared.span.FugueSpan.{FugueSpan}
use Rattle.span.specs.Ids.{inc_id, same_id}
use Rattle.span.specs.Status.{activated}
use Rattle.span.specs.Span.{len_span, shift}
use Rattle.span.specs.Units.{tab, unit_at, units_of, expand}
use Rattle.span.proofs.IdsLaws.{inc_inc}
use Rattle.span.proofs.Same.{same_id-true, same_id_refl}
use Rattle.rope.specs.declared.change.Delete.{Delete}
use Rattle.rope.specs.declared.change.Part.{Part}
use Rattle.units.specs.Place.{behind}
use Rattle.units.specs.Change.{first_shown, taken}
use Rattle.rope.specs.Pieces.{part, delete_cut, took_of, delete_after}
use Rattle.rope.proofs.Lists.{le-or}
use Rattle.rope.proofs.Seeks.{behind_zero, behind_in, behind_vis, behind_inv, active_is}
use Rattle.history.specs.Edit.{Range}
use Rattle.history.specs.Checkout.{range, range_on, ranges_of}
use Rattle.tracker.specs.Targets.{add_range, add_all, part_range, took_ranges}

-- ---- a run of ids

run_range : (i : Id) (n j : ℕ) → ranges_of (tab (inc_id i) j (suc n)) ≡ range (inc_id i j) (suc n) ∷ []
unfolding tab ranges_of range_on
run_range i zero j = refl
run_range i (suc n) j =
    let e : same_id (inc_id (inc_id i j) 1) (inc_id i (suc j)) ≡ true = ap (λ (k : Id). same_id k (inc_id i (suc j))) (inc_inc i j 1 ∙ ap (inc_id i) (let q : j + 1 ≡ suc j = omega arith in q)) ∙ same_id_refl (inc_id i (suc j)) in
    ap (range_on (inc_id i j)) (run_range i n (suc j)) ∙
    ap (λ (t : Bool). cond t (range (inc_id i j) (suc (suc n)) ∷ []) (range (inc_id i j) 1 ∷ (range (inc_id i (suc j)) (suc n) ∷ []))) e

-- an id before and a range after
on_add : (x : Id) (rs : List Range) (r : Range) → range_on x (add_range rs r) ≡ add_range (range_on x rs) r
unfolding range_on add_range
on_add x [] r = ap (λ (n : ℕ). cond (same_id (inc_id x 1) r.id) (range x n ∷ []) (range x 1 ∷ (r ∷ []))) (let q : suc r.len ≡ 1 + r.len = omega arith in q)
on_add x (q ∷ []) r = go (same_id (inc_id x 1) q.id) refl
  where
    go : (b : Bool) → same_id (inc_id x 1) q.id ≡ b
        → range_on x (cond (same_id (inc_id q.id q.len) r.id) (range q.id (q.len + r.len) ∷ []) (q ∷ (r ∷ []))) ≡ add_range (cond b (range x (suc q.len) ∷ []) (range x 1 ∷ (q ∷ []))) r
    go true e = one (same_id (inc_id q.id q.len) r.id) refl
      where
        starts : inc_id x (suc q.len) ≡ inc_id q.id q.len
        starts = ap (inc_id x) (let z : suc q.len ≡ 1 + q.len = omega arith in z) ∙ (sym (inc_inc x 1 q.len) ∙ ap (λ (i : Id). inc_id i q.len) (same_id-true (inc_id x 1) q.id e))

        one : (t : Bool) → same_id (inc_id q.id q.len) r.id ≡ t → range_on x (cond t (range q.id (q.len + r.len) ∷ []) (q ∷ (r ∷ []))) ≡ add_range (range x (suc q.len) ∷ []) r
        one true f =
            ap (λ (t : Bool). cond t (range x (suc (q.len + r.len)) ∷ []) (range x 1 ∷ (range q.id (q.len + r.len) ∷ []))) e ∙
            (ap (λ (n : ℕ). range x n ∷ []) (let z : suc (q.len + r.len) ≡ suc q.len + r.len = omega arith in z) ∙
            ap (λ (t : Bool). cond t (range x (suc q.len + r.len) ∷ []) (range x (suc q.len) ∷ (r ∷ []))) (sym (ap (λ (i : Id). same_id i r.id) starts ∙ f)))
        one false f =
            ap (λ (t : Bool). cond t (range x (suc q.len) ∷ (r ∷ [])) (range x 1 ∷ (q ∷ (r ∷ [])))) e ∙
            ap (λ (t : Bool). cond t (range x (suc q.len + r.len) ∷ []) (range x (suc q.len) ∷ (r ∷ []))) (sym (ap (λ (i : Id). same_id i r.id) starts ∙ f))
    go false e = one (same_id (inc_id q.id q.len) r.id)
      where
        one : (t : Bool) → range_on x (cond t (range q.id (q.len + r.len) ∷ []) (q ∷ (r ∷ []))) ≡ range x 1 ∷ cond t (range q.id (q.len + r.len) ∷ []) (q ∷ (r ∷ []))
        one true = ap (λ (t : Bool). cond t (range x (suc (q.len + r.len)) ∷ []) (range x 1 ∷ (range q.id (q.len + r.len) ∷ []))) e
        one false = ap (λ (t : Bool). cond t (range x (suc q.len) ∷ (r ∷ [])) (range x 1 ∷ (q ∷ (r ∷ [])))) e
on_add x (q ∷ (p ∷ qs)) r = go (same_id (inc_id x 1) q.id)
  where
    go : (b : Bool) → cond b (range x (suc q.len) ∷ add_range (p ∷ qs) r) (range x 1 ∷ (q ∷ add_range (p ∷ qs) r)) ≡ add_range (cond b (range x (suc q.len) ∷ (p ∷ qs)) (range x 1 ∷ (q ∷ (p ∷ qs)))) r
    go true = refl
    go false = refl

-- ids, and then a run of them
run_after : (xs : List Id) (i : Id) (j n : ℕ) → ranges_of (xs ++ tab (inc_id i) j (suc n)) ≡ add_range (ranges_of xs) (range (inc_id i j) (suc n))
unfolding ranges_of add_range
run_after [] i j n = run_range i n j
run_after (x ∷ xs) i j n = ap (range_on x) (run_after xs i j n) ∙ on_add x (ranges_of xs) (range (inc_id i j) (suc n))

-- ---- what a delete takes of a span and the units after it

shown_none : (l : List FugueSpan) → first_shown l 0 ≡ []
unfolding first_shown
shown_none [] = refl
shown_none (u ∷ l) = refl

shown_on : (u : FugueSpan) (l : List FugueSpan) (n : ℕ) (b : Bool) → activated u.status ≡ b → first_shown (u ∷ l) (suc n) ≡ cond b (u ∷ first_shown l n) (first_shown l (suc n))
unfolding first_shown
shown_on u l n b e = ap (λ (t : Bool). cond t (u ∷ first_shown l n) (first_shown l (suc n))) e

unit_seen : (s : FugueSpan) (j : ℕ) (b : Bool) → activated s.status ≡ b → activated (unit_at s j).status ≡ b
unfolding shift
unit_seen s j b e = e

module _ (s : FugueSpan) (X : List FugueSpan) where
  shown_in : activated s.status ≡ true → (n j k : ℕ) → k ≤ n → first_shown (tab (unit_at s) j n ++ X) k ≡ tab (unit_at s) j k
  unfolding tab
  shown_in v n j zero h = shown_none (tab (unit_at s) j n ++ X)
  shown_in v zero j (suc k) h = absurd (omega arith)
  shown_in v (suc n) j (suc k) h =
      shown_on (unit_at s j) (tab (unit_at s) (suc j) n ++ X) k true (unit_seen s j true v) ∙
      ap (λ (l : List FugueSpan). unit_at s j ∷ l) (shown_in v n (suc j) k (omega arith))

  shown_over : activated s.status ≡ true → (n j k : ℕ) → first_shown (tab (unit_at s) j n ++ X) (n + k) ≡ tab (unit_at s) j n ++ first_shown X k
  unfolding tab
  shown_over v zero j k = ap (first_shown X) (zero-add k)
  shown_over v (suc n) j k =
      ap (first_shown (unit_at s j ∷ (tab (unit_at s) (suc j) n ++ X))) (suc-add n k) ∙
      (shown_on (unit_at s j) (tab (unit_at s) (suc j) n ++ X) (n + k) true (unit_seen s j true v) ∙
      ap (λ (l : List FugueSpan). unit_at s j ∷ l) (shown_over v n (suc j) k))

  shown_hid : activated s.status ≡ false → (n j k : ℕ) → first_shown (tab (unit_at s) j n ++ X) k ≡ first_shown X k
  unfolding tab
  shown_hid v n j zero = shown_none (tab (unit_at s) j n ++ X) ∙ sym (shown_none X)
  shown_hid v zero j (suc k) = refl
  shown_hid v (suc n) j (suc k) =
      shown_on (unit_at s j) (tab (unit_at s) (suc j) n ++ X) k false (unit_seen s j false v) ∙ shown_hid v n (suc j) (suc k)

module _ (d : Delete) (s : FugueSpan) (l : List FugueSpan) where
  abbrev X : List FugueSpan
  X = expand l

  abbrev L : ℕ
  L = len_span s

  abbrev goal : Type 0
  goal = taken d.at d.len (units_of s ++ X) ≡ tab (unit_at s) (delete_cut d s).from ((delete_cut d s).to - (delete_cut d s).from) ++ taken (delete_after d s).at (delete_after d s).len X

  -- by the cut, from a to b
  by_cut : (t : Bool) → activated s.status ≡ t → (a b n m k : ℕ) → min d.at (cond t L 0) ≡ a → min (d.at + d.len) (cond t L 0) ≡ b → b - a ≡ n → d.at - a ≡ m → d.len - n ≡ k
      → taken d.at d.len (units_of s ++ X) ≡ tab (unit_at s) a n ++ taken m k X → goal
  unfolding delete_after took_of
  by_cut t v a b n m k p q en em ek f =
      let e : delete_cut d s ≡ part a b = cut ∙ ap₂ part p q in
      f ∙
      sym (ap (λ (c : Part). tab (unit_at s) c.from (c.to - c.from) ++ taken (d.at - c.from) (d.len - (c.to - c.from)) X) e ∙
      (ap (λ (z : ℕ). tab (unit_at s) a z ++ taken (d.at - a) (d.len - z) X) en ∙ ap₂ (λ (y z : ℕ). tab (unit_at s) a n ++ taken y z X) em ek))
    where
      cut : delete_cut d s ≡ part (min d.at (cond t L 0)) (min (d.at + d.len) (cond t L 0))
      cut = unfold delete_cut in ap (λ (z : ℕ). part (min d.at z) (min (d.at + d.len) z)) (active_is s t v)

  past : activated s.status ≡ true → L ≤ d.at → goal
  past v h =
      by_cut true v L L 0 (d.at - L) d.len (omega arith) (omega arith) (omega arith) refl (omega arith) body
    where
      body : taken d.at d.len (units_of s ++ X) ≡ tab (unit_at s) L 0 ++ taken (d.at - L) d.len X
      body = unfold tab taken in
          ap (λ (z : ℕ). first_shown (behind (units_of s ++ X) z) d.len) (let q : d.at ≡ L + (d.at - L) = omega arith in q) ∙ ap (λ (u : List FugueSpan). first_shown u d.len) (behind_vis s l v (d.at - L))

  open_at : activated s.status ≡ true → d.at ≤ L → behind (units_of s ++ X) d.at ≡ tab (unit_at s) d.at (L - d.at) ++ X
  unfolding units_of
  open_at v h = behind_in s X v L 0 d.at h ∙ ap (λ (k : ℕ). tab (unit_at s) k (L - d.at) ++ X) (zero-add d.at)

  inside : activated s.status ≡ true → d.at ≤ L → d.at + d.len ≤ L → goal
  inside v h k =
      by_cut true v d.at (d.at + d.len) d.len 0 0 (omega arith) (omega arith) (omega arith) (omega arith) (omega arith) body
    where
      body : taken d.at d.len (units_of s ++ X) ≡ tab (unit_at s) d.at d.len ++ taken 0 0 X
      body = unfold taken in
          ap (λ (u : List FugueSpan). first_shown u d.len) (open_at v h) ∙
          (shown_in s X v (L - d.at) d.at d.len (omega arith) ∙
          sym (ap (λ (u : List FugueSpan). tab (unit_at s) d.at d.len ++ u) (shown_none (behind X 0)) ∙ append-nil (tab (unit_at s) d.at d.len)))

  over : activated s.status ≡ true → d.at ≤ L → L ≤ d.at + d.len → goal
  over v h k =
      by_cut true v d.at L (L - d.at) 0 (d.len - (L - d.at)) (omega arith) (omega arith) refl (omega arith) refl body
    where
      body : taken d.at d.len (units_of s ++ X) ≡ tab (unit_at s) d.at (L - d.at) ++ taken 0 (d.len - (L - d.at)) X
      body = unfold taken in
          ap₂ first_shown (open_at v h) (let q : d.len ≡ L - d.at + (d.len - (L - d.at)) = omega arith in q) ∙
          (shown_over s X v (L - d.at) d.at (d.len - (L - d.at)) ∙
          ap (λ (u : List FugueSpan). tab (unit_at s) d.at (L - d.at) ++ first_shown u (d.len - (L - d.at))) (sym (behind_zero X)))

  hid : activated s.status ≡ false → goal
  hid v =
      by_cut false v 0 0 0 d.at d.len (omega arith) (omega arith) (omega arith) (omega arith) (omega arith) body
    where
      hidden : first_shown (units_of s ++ X) d.len ≡ first_shown X d.len
      hidden = unfold units_of in shown_hid s X v L 0 d.len

      go : (at : ℕ) → first_shown (behind (units_of s ++ X) at) d.len ≡ first_shown (behind X at) d.len
      go zero =
          ap (λ (u : List FugueSpan). first_shown u d.len) (behind_zero (units_of s ++ X)) ∙
          (hidden ∙ ap (λ (u : List FugueSpan). first_shown u d.len) (sym (behind_zero X)))
      go (suc q) = ap (λ (u : List FugueSpan). first_shown u d.len) (behind_inv s l v q)

      body : taken d.at d.len (units_of s ++ X) ≡ tab (unit_at s) 0 0 ++ taken d.at d.len X
      body = unfold tab taken in go d.at

  taken_span : goal
  taken_span = go (activated s.status) refl
    where
      side : activated s.status ≡ true → d.at ≤ L → (d.at + d.len ≤ L) ⊎ (L ≤ d.at + d.len) → goal
      side v h (inl k) = inside v h k
      side v h (inr k) = over v h k

      pick : activated s.status ≡ true → (d.at ≤ L) ⊎ (L ≤ d.at) → goal
      pick v (inl h) = side v h (le-or (d.at + d.len) L)
      pick v (inr h) = past v h

      go : (t : Bool) → activated s.status ≡ t → goal
      go true v = pick v (le-or d.at L)
      go false v = hid v

-- ---- all the spans

abbrev ids : List FugueSpan → List Id
ids us = map (λ (u : FugueSpan). u.id) us

ids_append : (A B : List FugueSpan) → ids (A ++ B) ≡ ids A ++ ids B
ids_append [] B = refl
ids_append (u ∷ A) B = ap (λ (l : List Id). u.id ∷ l) (ids_append A B)

ids_tab : (s : FugueSpan) (j n : ℕ) → ids (tab (unit_at s) j n) ≡ tab (inc_id s.id) j n
unfolding tab shift
ids_tab s j zero = refl
ids_tab s j (suc n) = ap (λ (l : List Id). inc_id s.id j ∷ l) (ids_tab s (suc j) n)

pub part_some : (s : FugueSpan) (i j : ℕ) → i < j → part_range s i j ≡ range (inc_id s.id i) (j - i) ∷ []
unfolding part_range
part_some s i j h = ap (λ (t : Bool). cond t (range (inc_id s.id i) (j - i) ∷ []) []) (lt-ltb i j h)

pub part_none : (s : FugueSpan) (i j : ℕ) → j ≤ i → part_range s i j ≡ []
unfolding part_range
part_none s i j h = ap (λ (t : Bool). cond t (range (inc_id s.id i) (j - i) ∷ []) []) (le-ltb i j h)

-- the ids of a part of a span, after others
part_after : (xs : List Id) (s : FugueSpan) (i j : ℕ) → ranges_of (xs ++ tab (inc_id s.id) i (j - i)) ≡ add_all (ranges_of xs) (part_range s i j)
part_after xs s i j = go (j - i) refl
  where
    go : (n : ℕ) → j - i ≡ n → ranges_of (xs ++ tab (inc_id s.id) i (j - i)) ≡ add_all (ranges_of xs) (part_range s i j)
    go zero e =
        ap (λ (n : ℕ). ranges_of (xs ++ tab (inc_id s.id) i n)) e ∙
        (empty ∙ sym (ap (add_all (ranges_of xs)) (part_none s i j (omega arith)) ∙ none))
      where
        empty : ranges_of (xs ++ tab (inc_id s.id) i 0) ≡ ranges_of xs
        empty = unfold tab in ap ranges_of (append-nil xs)

        none : add_all (ranges_of xs) [] ≡ ranges_of xs
        none = unfold add_all in refl
    go (suc n) e =
        ap (λ (n : ℕ). ranges_of (xs ++ tab (inc_id s.id) i n)) e ∙
        (run_after xs s.id i n ∙ sym (ap (add_all (ranges_of xs)) (part_some s i j (omega arith)) ∙ one))
      where
        one : add_all (ranges_of xs) (range (inc_id s.id i) (j - i) ∷ []) ≡ add_range (ranges_of xs) (range (inc_id s.id i) (suc n))
        one = unfold add_all in ap (λ (m : ℕ). add_range (ranges_of xs) (range (inc_id s.id i) m)) e

pub add_append : (qs rs ps : List Range) → add_all qs (rs ++ ps) ≡ add_all (add_all qs rs) ps
unfolding add_all
add_append qs [] ps = refl
add_append qs (r ∷ rs) ps = add_append (add_range qs r) rs ps

took_after : (d : Delete) (l : List FugueSpan) (xs : List Id) → ranges_of (xs ++ ids (taken d.at d.len (expand l))) ≡ add_all (ranges_of xs) (took_ranges d l)
unfolding took_ranges expand
took_after d [] xs = unfold add_all taken behind first_shown in ap ranges_of (append-nil xs)
took_after d (s ∷ l) xs =
    let a = (delete_cut d s).from in
    let b = (delete_cut d s).to in
    let M = ids (taken (delete_after d s).at (delete_after d s).len (expand l)) in
    ap (λ (us : List FugueSpan). ranges_of (xs ++ ids us)) (taken_span d s l) ∙
    (ap (λ (is : List Id). ranges_of (xs ++ is)) (ids_append (tab (unit_at s) a (b - a)) (taken (delete_after d s).at (delete_after d s).len (expand l)) ∙ ap (λ (is : List Id). is ++ M) (ids_tab s a (b - a))) ∙
    (ap ranges_of (sym (append_assoc xs (tab (inc_id s.id) a (b - a)) M)) ∙
    (took_after (delete_after d s) l (xs ++ tab (inc_id s.id) a (b - a)) ∙
    (ap (λ (rs : List Range). add_all rs (took_ranges (delete_after d s) l)) (part_after xs s a b) ∙ sym (add_append (ranges_of xs) (part_range s a b) (took_ranges (delete_after d s) l))))))

-- the targets of a delete, span by span
pub took_law : (d : Delete) (l : List FugueSpan) → ranges_of (ids (taken d.at d.len (expand l))) ≡ add_all [] (took_ranges d l)
took_law d l = took_after d l [] ∙ ap (λ (rs : List Range). add_all rs (took_ranges d l)) (unfold ranges_of in refl)
