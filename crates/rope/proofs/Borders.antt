-- a span put at the border of two rows, and inside a row: the rows are the joined units
use Prim.Native.Nat.{ℕ, ◌+◌, ◌-◌, ◌*◌, ◌<◌, ◌≤◌}
use mathlib.Core.Path.{◌≡◌, refl, sym, ap, subst, ◌∙◌}
use mathlib.Core.Bool.{true, false}
use mathlib.Core.List.{List, [], ◌∷◌, ◌++◌, append_assoc}
use native.Mathlib.Omega.{arith}
use native.Mathlib.Numerals.{add-one}
use lib.ListN.{set, take, drop, take-append-drop}
use lib.Seq.{set_split}
use Rattle.span.specs.declared.span.FugueSpan.{FugueSpan}
use Rattle.span.specs.Span.{len_span, span_code, part_span, joins_span, merged_span}
use Rattle.span.proofs.UnitLaws.{merge_units, part_ok}
use Rattle.span.specs.Units.{units_of, expand, Apart, Joined, join}
use Rattle.span.proofs.Unique.{in_range_lem, merged_ok, apart_merged, apart_cut}
use Rattle.span.proofs.ForRope.{expand-append, joined_is}
use Rattle.store.specs.Row.{rows, row_at}
use Rattle.store.proofs.Laws.{length-rows}
use Rattle.rope.specs.Spans.{Border}
use Rattle.rope.proofs.Edges.{swap, joined_right, left_of_merged, part_to_whole}
use Rattle.rope.proofs.Rights.{row_drop, row_take}

-- ---- lists

expand_mid : (A : List FugueSpan) (s : FugueSpan) (D : List FugueSpan) → expand (A ++ s ∷ D) ≡ expand A ++ (units_of s ++ expand D)
unfolding expand
expand_mid A s D = expand-append A (s ∷ D)

head_ok : (A : List FugueSpan) (s : FugueSpan) (D : List FugueSpan) → Joined (A ++ s ∷ D) → (span_code s ≡ 0) × (Apart s D × Joined D)
unfolding Joined
head_ok A s D j = joined_right A (s ∷ D) j

module _ (A : List FugueSpan) (s y : FugueSpan) (D : List FugueSpan) (j : Joined (A ++ s ∷ D)) (ok : span_code y ≡ 0) (a : Apart y D) where
  -- it joins the span before it
  pub merge_law : joins_span s y ≡ true → A ++ merged_span s y ∷ D ≡ join (expand (A ++ s ∷ []) ++ (units_of y ++ expand D))
  unfolding Joined expand
  merge_law e =
      joined_is (A ++ merged_span s y ∷ D) (expand (A ++ s ∷ []) ++ (units_of y ++ expand D))
      (swap A s (merged_span s y) D D j (merged_ok s y e, (apart_merged s y D e a, (head_ok A s D j).1.1)) (λ t h. left_of_merged t s y e h))
      (expand_mid A (merged_span s y) D ∙
      (ap (λ (u : List FugueSpan). expand A ++ (u ++ expand D)) (merge_units s y e) ∙
      (ap (λ (u : List FugueSpan). expand A ++ u) (append_assoc (units_of s) (units_of y) (expand D)) ∙
      (sym (append_assoc (expand A) (units_of s) (units_of y ++ expand D)) ∙
      ap (λ (u : List FugueSpan). u ++ (units_of y ++ expand D)) (sym (expand-append A (s ∷ []) ∙ ap (λ (u : List FugueSpan). expand A ++ u) (one s)))))))
    where
      one : (s : FugueSpan) → units_of s ++ [] ≡ units_of s
      one s = nil (units_of s)
        where
          nil : (l : List FugueSpan) → l ++ [] ≡ l
          nil [] = refl
          nil (x ∷ l) = ap (λ (m : List FugueSpan). x ∷ m) (nil l)

  -- it stands alone
  pub own_law : joins_span s y ≡ false → (A ++ s ∷ []) ++ y ∷ D ≡ join (expand (A ++ s ∷ []) ++ (units_of y ++ expand D))
  unfolding Joined Apart
  own_law e =
      joined_is ((A ++ s ∷ []) ++ y ∷ D) (expand (A ++ s ∷ []) ++ (units_of y ++ expand D))
      (subst Joined (sym (append_assoc A (s ∷ []) (y ∷ D)))
      (swap A s s D (y ∷ D) j ((head_ok A s D j).0, (e, (ok, (a, (head_ok A s D j).1.1)))) (λ t h. h)))
      (expand_mid (A ++ s ∷ []) y D)

pub first_law : (y : FugueSpan) (D : List FugueSpan) → Joined D → span_code y ≡ 0 → Apart y D → y ∷ D ≡ join (expand [] ++ (units_of y ++ expand D))
unfolding Joined expand
first_law y D j ok a = joined_is (y ∷ D) (units_of y ++ expand D) (ok, (a, j)) refl

-- inside a span: at i, where the ids of y are new
module _ (A : List FugueSpan) (s y : FugueSpan) (D : List FugueSpan) (j : Joined (A ++ s ∷ D)) (ok : span_code y ≡ 0) (i : ℕ) (some : 0 < i) (below : i < len_span s)
    (lone : joins_span (part_span s 0 i) y ≡ false) (ended : joins_span y (part_span s i (len_span s)) ≡ false) where
  pub inside_law : A ++ part_span s 0 i ∷ (y ∷ (part_span s i (len_span s) ∷ D)) ≡ join ((expand A ++ units_of (part_span s 0 i)) ++ (units_of y ++ (units_of (part_span s i (len_span s)) ++ expand D)))
  unfolding Joined Apart expand
  inside_law =
      let h = head_ok A s D j in
      joined_is (A ++ part_span s 0 i ∷ (y ∷ (part_span s i (len_span s) ∷ D))) ((expand A ++ units_of (part_span s 0 i)) ++ (units_of y ++ (units_of (part_span s i (len_span s)) ++ expand D)))
      (swap A s (part_span s 0 i) D (y ∷ (part_span s i (len_span s) ∷ D)) j (
        part_ok s 0 i (in_range_lem s 0 i h.0 some (omega arith)),
        (lone, (ok, (ended, (part_ok s i (len_span s) (in_range_lem s i (len_span s) h.0 below (omega arith)), (apart_cut s i D h.0 some below h.1.0, h.1.1))))),
      )
      (λ t e. part_to_whole t s i h.0 e))
      (expand-append A (part_span s 0 i ∷ (y ∷ (part_span s i (len_span s) ∷ D))) ∙
      sym (append_assoc (expand A) (units_of (part_span s 0 i)) (units_of y ++ (units_of (part_span s i (len_span s)) ++ expand D))))

-- ---- rows

module _ (n : ℕ) (s : List ℕ) (i : ℕ) (h : i < n) where
  abbrev at : FugueSpan
  at = row_at s (i * 72)

  pub split : rows n s ≡ take i (rows n s) ++ at ∷ drop (i + 1) (rows n s)
  split = sym (take-append-drop i (rows n s)) ∙ ap (λ (l : List FugueSpan). take i (rows n s) ++ l) (row_drop n s i h)

  pub set_row : (x : FugueSpan) → set (rows n s) i x ≡ take i (rows n s) ++ x ∷ drop (i + 1) (rows n s)
  set_row x = set_split (rows n s) i x (rw (length-rows n s) h) ∙ ap (λ (k : ℕ). take i (rows n s) ++ x ∷ drop k (rows n s)) (sym (add-one i))

module _ (n : ℕ) (s : List ℕ) (r : ℕ) (y : FugueSpan) (b : Border n r y s) where
  module _ (p : 0 < r) where
    i : ℕ
    i = r - 1

    here : i < n
    unfolding i
    here = omega (arith, b.at)

    next : i + 1 ≡ r
    unfolding i
    next = omega arith

    whole : Joined (take i (rows n s) ++ row_at s (i * 72) ∷ drop (i + 1) (rows n s))
    whole = subst Joined (split n s i here) b.joined

    apart : Apart y (drop (i + 1) (rows n s))
    apart = subst (λ (k : ℕ). Apart y (drop k (rows n s))) (sym next) b.apart

    goal : join (expand (take i (rows n s) ++ row_at s (i * 72) ∷ []) ++ (units_of y ++ expand (drop (i + 1) (rows n s)))) ≡ join (expand (take r (rows n s)) ++ (units_of y ++ expand (drop r (rows n s))))
    goal =
        ap (λ (l : List FugueSpan). join (expand l ++ (units_of y ++ expand (drop (i + 1) (rows n s))))) (sym (row_take n s i here)) ∙
        ap (λ (k : ℕ). join (expand (take k (rows n s)) ++ (units_of y ++ expand (drop k (rows n s))))) next

    pub border_merge : joins_span (row_at s ((r - 1) * 72)) y ≡ true → set (rows n s) (r - 1) (merged_span (row_at s ((r - 1) * 72)) y) ≡ join (expand (take r (rows n s)) ++ (units_of y ++ expand (drop r (rows n s))))
    unfolding i
    border_merge e = set_row n s i here (merged_span (row_at s (i * 72)) y) ∙ (merge_law (take i (rows n s)) (row_at s (i * 72)) y (drop (i + 1) (rows n s)) whole b.fine apart e ∙ goal)

    pub border_own : joins_span (row_at s ((r - 1) * 72)) y ≡ false → take r (rows n s) ++ y ∷ drop r (rows n s) ≡ join (expand (take r (rows n s)) ++ (units_of y ++ expand (drop r (rows n s))))
    unfolding i
    border_own e =
        ap (λ (k : ℕ). take k (rows n s) ++ y ∷ drop k (rows n s)) (sym next) ∙
        (ap (λ (l : List FugueSpan). l ++ y ∷ drop (i + 1) (rows n s)) (row_take n s i here) ∙
        (own_law (take i (rows n s)) (row_at s (i * 72)) y (drop (i + 1) (rows n s)) whole b.fine apart e ∙ goal))

  pub border_first : r ≤ 0 → take r (rows n s) ++ y ∷ drop r (rows n s) ≡ join (expand (take r (rows n s)) ++ (units_of y ++ expand (drop r (rows n s))))
  border_first p =
      ap (λ (k : ℕ). take k (rows n s) ++ y ∷ drop k (rows n s)) zer ∙
      (first_law y (rows n s) b.joined b.fine (subst (λ (k : ℕ). Apart y (drop k (rows n s))) zer b.apart) ∙
      ap (λ (k : ℕ). join (expand (take k (rows n s)) ++ (units_of y ++ expand (drop k (rows n s))))) (sym zer))
    where
      zer : r ≡ 0
      zer = omega arith
