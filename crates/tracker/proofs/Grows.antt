-- a span pushed on to joined rows, where there is room for what they become and no more
use Prim.Native.Nat.{ℕ, ◌+◌, ◌-◌, ◌*◌, ◌<◌, ◌≤◌}
use mathlib.Core.Path.{◌≡◌, sym, ap, subst, ◌∙◌}
use mathlib.Core.Bool.{true, false}
use mathlib.Core.List.{List, [], ◌∷◌, ◌++◌, append-nil}
use mathlib.Core.Logic.{◌⊎◌, inl, inr}
use native.Mathlib.Omega.{arith}
use lib.ListN.{length, set, take, drop, length-append}
use lib.Seq.{drop-set-lt}
use Rattle.span.specs.declared.span.FugueSpan.{FugueSpan}
use Rattle.span.specs.Span.{span_code, joins_span, merged_span}
use Rattle.span.specs.Units.{units_of, expand, Apart, Joined, join}
use Rattle.store.specs.Row.{rows, row_at, PutRow}
use Rattle.store.proofs.Laws.{length-rows}
use Rattle.rope.proofs.Lists.{le-or}
use Rattle.rope.proofs.Rights.{row_none}
use Rattle.rope.proofs.Borders.{merge_law, own_law, first_law, split, set_row}
use Rattle.rope.proofs.Queue.{rows_on}
use Rattle.tracker.specs.Restate.{Fits, Grown}

alone : (A : List FugueSpan) (y : FugueSpan) → join (expand A ++ (units_of y ++ expand [])) ≡ join (expand A ++ units_of y)
unfolding expand
alone A y = ap (λ (u : List FugueSpan). join (expand A ++ u)) (append-nil (units_of y))

module _ (w : ℕ) (y : FugueSpan) (s : List ℕ) (p : Fits w (units_of y) s) (fine : span_code y ≡ 0) where
  module _ (some : 0 < w) where
    i : ℕ
    i = w - 1

    here : i < w
    unfolding i
    here = omega arith

    ends : rows w s ≡ take i (rows w s) ++ row_at s (i * 72) ∷ []
    unfolding i
    ends = split w s i here ∙ ap (λ (b : List FugueSpan). take i (rows w s) ++ row_at s (i * 72) ∷ b) (row_none w s (i + 1) (omega arith))

    whole : Joined (take i (rows w s) ++ row_at s (i * 72) ∷ [])
    whole = subst Joined ends p.joined

    merged : joins_span (row_at s ((w - 1) * 72)) y ≡ true → set (rows w s) (w - 1) (merged_span (row_at s ((w - 1) * 72)) y) ≡ join (expand (rows w s) ++ units_of y)
    unfolding i Apart
    merged e =
        set_row w s i here (merged_span (row_at s (i * 72)) y) ∙
        (ap (λ (b : List FugueSpan). take i (rows w s) ++ merged_span (row_at s (i * 72)) y ∷ b) (row_none w s (i + 1) (omega arith)) ∙
        (merge_law (take i (rows w s)) (row_at s (i * 72)) y [] whole fine tt e ∙
        (alone (take i (rows w s) ++ row_at s (i * 72) ∷ []) y ∙ ap (λ (l : List FugueSpan). join (expand l ++ units_of y)) (sym ends))))

    own : joins_span (row_at s ((w - 1) * 72)) y ≡ false → rows w s ++ y ∷ [] ≡ join (expand (rows w s) ++ units_of y)
    unfolding i Apart
    own e =
        ap (λ (l : List FugueSpan). l ++ y ∷ []) ends ∙
        (own_law (take i (rows w s)) (row_at s (i * 72)) y [] whole fine tt e ∙
        (alone (take i (rows w s) ++ row_at s (i * 72) ∷ []) y ∙ ap (λ (l : List FugueSpan). join (expand l ++ units_of y)) (sym ends)))

  first : w ≡ 0 → rows w s ++ y ∷ [] ≡ join (expand (rows w s) ++ units_of y)
  unfolding rows expand Joined Apart
  first e =
      ap (λ (k : ℕ). rows k s ++ y ∷ []) e ∙
      (first_law y [] tt fine tt ∙ (alone [] y ∙ ap (λ (k : ℕ). join (expand (rows k s) ++ units_of y)) (sym e)))

  -- a row of its own has room
  row_room : rows w s ++ y ∷ [] ≡ join (expand (rows w s) ++ units_of y) → w * 72 + 72 ≤ length s
  row_room e =
      let a : length (join (expand (rows w s) ++ units_of y)) ≡ w + 1 = sym (ap length e) ∙ (length-append (rows w s) (y ∷ []) ∙ ap (λ (k : ℕ). k + 1) (length-rows w s)) in
      omega (arith, a, p.room)

  pub own_room : (left : FugueSpan) → 0 < w → left ≡ row_at s ((w - 1) * 72) → joins_span left y ≡ false → w * 72 + 72 ≤ length s
  own_room left some e h = row_room (own some (ap (λ (l : FugueSpan). joins_span l y) (sym e) ∙ h))

  pub first_room : w ≡ 0 → w * 72 + 72 ≤ length s
  first_room e = row_room (first e)

  module _ (t : List ℕ) where
    kept : (j k : ℕ) (x : FugueSpan) → PutRow j x s t → j < k → (n i : ℕ) → n * 72 ≤ length s → k ≤ i → drop i (rows n t) ≡ drop i (rows n s)
    kept j k x put low n i h above = go (le-or n i)
      where
        go : (n ≤ i) ⊎ (i ≤ n) → drop i (rows n t) ≡ drop i (rows n s)
        go (inl q) = row_none n t i q ∙ sym (row_none n s i q)
        go (inr q) = ap (drop i) (put.list n h (omega arith)) ∙ drop-set-lt i (rows n s) j x (omega arith)

    pub grown_merge : (left both : FugueSpan) → 0 < w → left ≡ row_at s ((w - 1) * 72) → joins_span left y ≡ true → both ≡ merged_span left y → PutRow (w - 1) both s t → Grown w (units_of y) w s t
    grown_merge left both some e h f put =
        record {
          list = put.list w p.long (omega arith) ∙
              (ap (set (rows w s) (w - 1)) (f ∙ ap (λ (l : FugueSpan). merged_span l y) e) ∙ merged some (ap (λ (l : FugueSpan). joins_span l y) (sym e) ∙ h));
          rest = kept (w - 1) w both put (omega arith);
        }

    grown_row : w * 72 + 72 ≤ length s → rows w s ++ y ∷ [] ≡ join (expand (rows w s) ++ units_of y) → PutRow w y s t → Grown w (units_of y) (w + 1) s t
    grown_row room e put =
        record { list = put.list (w + 1) (omega (arith, room)) (omega arith) ∙ (rows_on w s y ∙ e); rest = kept w (w + 1) y put (omega arith) }

    pub grown_own : (left : FugueSpan) → 0 < w → left ≡ row_at s ((w - 1) * 72) → joins_span left y ≡ false → PutRow w y s t → Grown w (units_of y) (w + 1) s t
    grown_own left some e h put = grown_row (own_room left some e h) (own some (ap (λ (l : FugueSpan). joins_span l y) (sym e) ∙ h)) put

    pub grown_first : w ≡ 0 → PutRow w y s t → Grown w (units_of y) (w + 1) s t
    grown_first e put = grown_row (first_room e) (first e) put
