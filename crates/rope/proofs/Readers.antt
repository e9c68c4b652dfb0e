-- what the readers of a list of rows find, as the sums of lists say it. Assumes nothing.
use Prim.Native.Nat.{ℕ, zero, suc, ◌+◌, ◌-◌, ◌<◌, ◌≤◌}
use mathlib.Core.Path.{◌≡◌, refl, sym, ap, subst, ◌∙◌}
use mathlib.Core.Bool.{Bool, cond}
use mathlib.Core.List.{List, [], ◌∷◌, ◌++◌}
use native.Mathlib.Omega.{arith}
use native.Mathlib.Nat.{zero-add}
use native.Mathlib.Numerals.{add-one}
use lib.ListN.{length, get_or, take, drop, length-drop, drop_of_length-le}
use lib.Seq.{drop-cons, take_all}
use Rattle.std.specs.Prelude.{fold, map, sum}
use Rattle.std.proofs.lemmas.List.{take_more, map-append}
use Rattle.span.specs.declared.span.FugueSpan.{FugueSpan}
use Rattle.span.specs.Span.{len_span, span_code, active_len}
use Rattle.span.specs.Units.{expand}
use Rattle.units.specs.Place.{shown, first_past}
use Rattle.store.specs.Row.{rows}
use Rattle.store.specs.Listed.{said, spans}
use Rattle.store.proofs.Laws.{length-rows}
use Rattle.rope.specs.Spans.{Stored, AllOk}
use Rattle.std.specs.Prelude.{None as Nothing, Some as At}
use Rattle.rope.proofs.Steps.{past_span}
use Rattle.rope.proofs.Seeks.{shown_row}
use Rattle.rope.proofs.Counts.{length_span}
use Rattle.rope.proofs.WellFormed.{formed_of}

-- ---- the visible length and the number of units, as sums over the spans

no_units : length (expand []) ≡ 0
unfolding expand
no_units = refl

none_shown : shown (expand []) ≡ 0
unfolding expand shown
none_shown = refl

next_shown : (s : FugueSpan) (l : List FugueSpan) → shown (expand (s ∷ l)) ≡ active_len s + shown (expand l)
unfolding expand
next_shown s l = shown_row s l

shown_from : (k : ℕ) (l : List FugueSpan) → fold (λ a x. a + x) k (map active_len l) ≡ k + shown (expand l)
shown_from k [] = let e = none_shown in omega (arith, e)
shown_from k (s ∷ l) = let e = next_shown s l in shown_from (k + active_len s) l ∙ omega (arith, e)

pub shown_sum : (l : List FugueSpan) → sum (map active_len l) ≡ shown (expand l)
shown_sum l = shown_from 0 l ∙ zero-add (shown (expand l))

units_from : (k : ℕ) (l : List FugueSpan) → fold (λ a x. a + x) k (map len_span l) ≡ k + length (expand l)
units_from k [] = let e = no_units in omega (arith, e)
units_from k (s ∷ l) = let e = length_span s l in units_from (k + len_span s) l ∙ omega (arith, e)

pub units_sum : (l : List FugueSpan) → sum (map len_span l) ≡ length (expand l)
units_sum l = units_from 0 l ∙ zero-add (length (expand l))

-- ---- a well formed list has few rows

pub stored_few : (n : ℕ) (s : List ℕ) → Stored n s → n ≤ 65536
stored_few n s w = let few : length (rows n s) ≤ 65536 = (formed_of (rows n s) w.formed).few in omega (arith, few, length-rows n s)

-- ---- one row more

pub taken : (r : List (List ℕ)) (i : ℕ) (x : List ℕ) → i < length r → drop i r ≡ x ∷ drop (i + 1) r → spans (take (i + 1) r) ≡ spans (take i r) ++ (said x ∷ [])
taken r i x h e =
    let first : get_or r i [] ≡ x = ap (λ (q : List (List ℕ)). get_or q 0 []) (sym (drop-cons r i [] h) ∙ e) in
    ap spans (take_more r i [] h) ∙ (map-append said (take i r) (get_or r i [] ∷ []) ∙ ap (λ (y : List ℕ). spans (take i r) ++ (said y ∷ [])) first)

-- ---- what is behind some rows

behind : (r : List (List ℕ)) (at : ℕ) → spans (drop at r) ≡ drop at (spans r)
behind r zero = refl
behind [] (suc at) = refl
behind (x ∷ r) (suc at) = behind r at

-- as a range cuts it
pub cut_behind : (r : List (List ℕ)) (at : ℕ) → spans (take (length r - at) (drop at r)) ≡ drop at (spans r)
cut_behind r at = ap spans (take_all (length r - at) (drop at r) (rw length-drop (omega arith))) ∙ behind r at

next_span : (r : List (List ℕ)) (i : ℕ) → i < length r → spans (drop i r) ≡ said (get_or r i []) ∷ spans (drop (i + 1) r)
next_span r i h = ap spans (drop-cons r i [] h) ∙ ap (λ (k : ℕ). said (get_or r i []) ∷ spans (drop k r)) (sym (add-one i))

-- ---- the first unit that is not future

none_past : first_past (expand []) ≡ Nothing
unfolding expand first_past
none_past = refl

past_first : (s : FugueSpan) (l : List FugueSpan) → span_code s ≡ 0 → (t : Bool) → s.status.future ≡ t → first_past (expand (s ∷ l)) ≡ cond t (first_past (expand l)) (At s.id)
unfolding expand
past_first s l ok t e = past_span s (expand l) ok t e

-- s is row i, as it was read
module _ (r : List (List ℕ)) (i : ℕ) (h : i < length r) (s : FugueSpan) (is : s ≡ said (get_or r i [])) where
  pub here : spans (drop i r) ≡ s ∷ spans (drop (i + 1) r)
  here = next_span r i h ∙ ap (λ (x : FugueSpan). x ∷ spans (drop (i + 1) r)) (sym is)

  module _ (ok : AllOk (spans (drop i r))) where
    pub fine_here : (span_code s ≡ 0) × AllOk (spans (drop (i + 1) r))
    unfolding AllOk
    fine_here = subst AllOk here ok

    pub past_here : (t : Bool) → s.status.future ≡ t → first_past (expand (spans (drop i r))) ≡ cond t (first_past (expand (spans (drop (i + 1) r)))) (At s.id)
    past_here t e = ap (λ (l : List FugueSpan). first_past (expand l)) here ∙ past_first s (spans (drop (i + 1) r)) fine_here.0 t e

pub past_end : (r : List (List ℕ)) (i : ℕ) → length r ≤ i → first_past (expand (spans (drop i r))) ≡ Nothing
past_end r i h = ap (λ (q : List (List ℕ)). first_past (expand (spans q))) (drop_of_length-le r {i = i} h) ∙ none_past
