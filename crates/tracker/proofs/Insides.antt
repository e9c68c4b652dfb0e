-- whether a join crosses a cursor: inside a piece it does, and at its end the next piece tells
use Prim.Native.Nat.{ℕ, suc, ◌+◌, ◌-◌, ◌<◌, ◌≤◌}
use mathlib.Core.Path.{◌≡◌, sym, ap, ap₂, ◌∙◌}
use mathlib.Core.Bool.{true, false}
use mathlib.Core.List.{List, [], ◌∷◌, ◌++◌}
use native.Mathlib.Omega.{arith}
use lib.ListN.{take, drop, drop_of_length-le}
use Rattle.span.specs.declared.span.FugueSpan.{FugueSpan}
use Rattle.span.specs.Span.{len_span, span_code, part_span, joins_span}
use Rattle.span.specs.Units.{tab, unit_at, units_of}
use Rattle.span.proofs.SpanLaws.{span_ok}
use Rattle.span.proofs.Views.{len_pos}
use Rattle.span.proofs.UnitLaws.{part_ok, part_length, unit_part}
use Rattle.span.proofs.Unique.{in_range_lem, cut_join}
use Rattle.span.proofs.ForRope.{units_length}
use Rattle.span.proofs.ListLaws.{tab-add, take_tab, drop-tab}
use Rattle.history.specs.Edit.{Version, Held}
use Rattle.tracker.specs.declared.seen.Step.{Step}
use Rattle.tracker.specs.declared.fits.Left.{Left}
use Rattle.tracker.specs.Looks.{seen}
use Rattle.tracker.specs.Ahead.{ahead, Next}
use Rattle.tracker.specs.Fits.{meets, Cut, left_unit, behind_of}
use Rattle.tracker.proofs.Nexts.{ahead_end}
use Rattle.tracker.proofs.Adds.{first_join}

-- two units of a span, one after the other, join
next_join : (s : FugueSpan) (k : ℕ) → span_code s ≡ 0 → suc k < len_span s → joins_span (unit_at s k) (unit_at s (suc k)) ≡ true
next_join s k ok h =
    let r = in_range_lem s k (suc (suc k)) ok (omega arith) (omega (arith, h)) in
    let two = part_span s k (suc (suc k)) in
    let fine : span_code two ≡ 0 = part_ok s k (suc (suc k)) r in
    let n : len_span two ≡ 2 = part_length s k (suc (suc k)) r ∙ (let z : suc (suc k) - k ≡ 2 = omega arith in z) in
    let j = cut_join two 1 fine (omega arith) (omega (arith, n)) in
    let a : part_span two 0 1 ≡ unit_at s k = unit_part s k (suc (suc k)) 0 r ∙ ap (unit_at s) (let z : k + 0 ≡ k = omega arith in z) in
    let b : part_span two 1 (len_span two) ≡ unit_at s (suc k) = ap (part_span two 1) n ∙ (unit_part s k (suc (suc k)) 1 r ∙ ap (unit_at s) (let z : k + 1 ≡ suc k = omega arith in z)) in
    ap₂ joins_span (sym a) (sym b) ∙ j

pub first_unit : (y : FugueSpan) → span_code y ≡ 0 → units_of y ≡ unit_at y 0 ∷ tab (unit_at y) 1 (len_span y - 1)
unfolding units_of tab
first_unit y ok = let h = len_pos y.content (span_ok y ok).form in ap (tab (unit_at y) 0) (let e : len_span y ≡ suc (len_span y - 1) = omega (arith, h) in e)

-- the units before a cut, by the last of them
pub cut_last : (s : FugueSpan) (k : ℕ) → 0 < k → k ≤ len_span s → take k (units_of s) ≡ tab (unit_at s) 0 (k - 1) ++ (unit_at s (k - 1) ∷ [])
unfolding units_of tab
cut_last s k h m =
    take_tab (unit_at s) 0 k (len_span s) m ∙
    (ap (tab (unit_at s) 0) (let e : k ≡ k - 1 + 1 = omega (arith, h) in e) ∙
    (tab-add (unit_at s) 0 (k - 1) 1 ∙ ap (λ (j : ℕ). tab (unit_at s) 0 (k - 1) ++ (unit_at s j ∷ [])) (let e : 0 + (k - 1) ≡ k - 1 = omega arith in e)))

pub cut_next : (s : FugueSpan) (k : ℕ) → k < len_span s → drop k (units_of s) ≡ unit_at s k ∷ tab (unit_at s) (suc k) (len_span s - k - 1)
unfolding units_of tab
cut_next s k h =
    ap (λ (m : ℕ). drop k (tab (unit_at s) 0 m)) (let e : len_span s ≡ k + suc (len_span s - k - 1) = omega (arith, h) in e) ∙
    (drop-tab (unit_at s) 0 k (suc (len_span s - k - 1)) ∙ ap (λ (j : ℕ). tab (unit_at s) j (suc (len_span s - k - 1))) (let e : 0 + k ≡ k = omega arith in e))

pub cut_all : (s : FugueSpan) (k : ℕ) → len_span s ≤ k → drop k (units_of s) ≡ []
cut_all s k h = drop_of_length-le (units_of s) {i = k} (let z = units_length s in omega (arith, z, h))

module _ (v : Version) (l : List Held) (n : ℕ) (s : List ℕ) (f : Left) (w : Cut n s f) where
  pub in_piece : f.skip < len_span f.piece → meets (left_unit f) (behind_of v l n s f) ≡ true
  unfolding meets
  in_piece h =
      let P = f.piece in
      let A = seen false v v l (ahead n s f.row f.from) in
      let e : f.skip ≡ suc (f.skip - 1) = omega (arith, w.some) in
      ap (λ (us : List FugueSpan). meets (left_unit f) (us ++ A)) (cut_next P f.skip h) ∙
      (ap (λ (k : ℕ). joins_span (left_unit f) (unit_at P k)) e ∙ next_join P (f.skip - 1) w.fine (omega (arith, e, h)))

  ended : len_span f.piece ≤ f.skip → behind_of v l n s f ≡ seen false v v l (ahead n s f.row f.from)
  ended h = ap (λ (us : List FugueSpan). us ++ seen false v v l (ahead n s f.row f.from)) (cut_all f.piece f.skip h)

  pub at_piece : len_span f.piece ≤ f.skip → (r : Step) → Next false v v l n s f.row f.from r → meets (left_unit f) (behind_of v l n s f) ≡ joins_span (left_unit f) r.piece
  unfolding meets
  at_piece h r x =
      let R = seen false v v l (ahead n s r.row r.from) in
      ap (meets (left_unit f)) (ended h ∙ (x.units ∙ ap (λ (us : List FugueSpan). us ++ R) (first_unit r.piece x.fine))) ∙
      first_join (left_unit f) r.piece x.fine

  pub at_end : len_span f.piece ≤ f.skip → n ≤ f.row → meets (left_unit f) (behind_of v l n s f) ≡ false
  unfolding meets seen
  at_end h k = ap (meets (left_unit f)) (ended h ∙ ap (seen false v v l) (ahead_end n s f.row f.from k))
