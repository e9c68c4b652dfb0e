-- how many rows two lists of units make when joined: those of each, and one less where they meet
use Prim.Native.Nat.{suc, ◌+◌, ◌<◌}
use mathlib.Core.Path.{◌≡◌, refl, sym, ap, ◌∙◌}
use mathlib.Core.Bool.{Bool, true, false, cond, true≢false}
use mathlib.Core.List.{List, [], ◌∷◌, ◌++◌}
use native.Mathlib.Omega.{arith}
use lib.ListN.{length, get_or}
use Rattle.span.specs.declared.span.FugueSpan.{FugueSpan}
use Rattle.span.specs.Span.{len_span, span_code, joins_span, merged_span}
use Rattle.span.specs.Units.{unit_at, units_of, join_on, join}
use Rattle.span.proofs.UnitLaws.{merge_units, merged_length}
use Rattle.span.proofs.Unique.{AllUnits, merged_ok, one_unit}
use Rattle.span.proofs.ForRope.{unit_is}
use Rattle.rope.proofs.Edges.{left_of_merged, part_to_whole}
use Rattle.tracker.specs.Fits.{meets, meet, bit}

pub both_ways : (a b : Bool) → (a ≡ true → b ≡ true) → (b ≡ true → a ≡ true) → a ≡ b
both_ways true b f g = sym (f refl)
both_ways false true f g = absurd (true≢false (sym (g refl)))
both_ways false false f g = refl

-- what joins a unit joins it with what follows
whole_join : (u w t : FugueSpan) → span_code w ≡ 0 → len_span w ≡ 1 → joins_span w t ≡ true → joins_span u (merged_span w t) ≡ joins_span u w
whole_join u w t ok n e =
    both_ways (joins_span u (merged_span w t)) (joins_span u w) (left_of_merged u w t e)
    (λ h. part_to_whole u (merged_span w t) 1 (merged_ok w t e) (ap (joins_span u) first ∙ h))
  where
    some : 0 < len_span (merged_span w t)
    some = omega (arith, merged_length w t e, n)

    first : unit_at (merged_span w t) 0 ≡ w
    first =
        sym (unit_is (merged_span w t) 0 w some) ∙
        (ap (λ (l : List FugueSpan). get_or l 0 w) (merge_units w t e ∙ ap (λ (l : List FugueSpan). l ++ units_of t) (one_unit w ok n)) ∙ refl)

-- a unit before a joined list
on_count : (u w : FugueSpan) (l : List FugueSpan) → span_code w ≡ 0 → len_span w ≡ 1 → length (join_on u (join_on w l)) + bit (joins_span u w) ≡ suc (length (join_on w l))
unfolding join_on
on_count u w [] ok n = go (joins_span u w)
  where
    go : (b : Bool) → length (cond b (merged_span u w ∷ []) (u ∷ (w ∷ []))) + bit b ≡ 2
    go true = refl
    go false = refl
on_count u w (t ∷ l) ok n = go (joins_span w t) refl
  where
    one : (s : FugueSpan) (r : List FugueSpan) (b : Bool) → length (cond b (merged_span u s ∷ r) (u ∷ (s ∷ r))) + bit b ≡ suc (suc (length r))
    one s r true = omega arith
    one s r false = omega arith

    go : (b : Bool) → joins_span w t ≡ b → length (join_on u (cond b (merged_span w t ∷ l) (w ∷ (t ∷ l)))) + bit (joins_span u w) ≡ suc (length (cond b (merged_span w t ∷ l) (w ∷ (t ∷ l))))
    go true e =
        ap (λ (b : Bool). length (join_on u (merged_span w t ∷ l)) + bit b) (sym (whole_join u w t ok n e)) ∙
        one (merged_span w t) l (joins_span u (merged_span w t))
    go false e = one w (t ∷ l) (joins_span u w)

-- one unit more
pub join_count : (u : FugueSpan) (us : List FugueSpan) → AllUnits us → length (join (u ∷ us)) + bit (meets u us) ≡ suc (length (join us))
unfolding join join_on meets AllUnits
join_count u [] a = refl
join_count u (w ∷ us) a = on_count u w (join us) a.0 a.1.0

-- THE COUNT: two lists
pub meet_count : (A B : List FugueSpan) → AllUnits A → AllUnits B → AllUnits (A ++ B) → length (join (A ++ B)) + bit (meet A B) ≡ length (join A) + length (join B)
unfolding meet AllUnits
meet_count [] B a b c = (unfold join in omega arith)
meet_count (u ∷ []) B a b c = let e = join_count u B b in let f : length (join (u ∷ [])) ≡ 1 = (unfold join join_on in refl) in omega (arith, e, f)
meet_count (u ∷ (v ∷ A)) B a b c =
    let e : length (join (u ∷ (v ∷ A ++ B))) + bit (joins_span u v) ≡ suc (length (join (v ∷ A ++ B))) = (unfold meets in join_count u (v ∷ A ++ B) c.1.1) in
    let f : length (join (u ∷ (v ∷ A))) + bit (joins_span u v) ≡ suc (length (join (v ∷ A))) = (unfold meets in join_count u (v ∷ A) a.1.1) in
    let r = meet_count (v ∷ A) B a.1.1 b c.1.1 in
    omega (arith, e, f, r)
