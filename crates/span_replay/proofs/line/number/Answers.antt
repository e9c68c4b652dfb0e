-- the bits of a signed number, else a number of 64 bits
use Rattle.std.proofs.Common.{◌≡◌, ◌∙◌, ◌≤◌, ◌%◌, ◌*◌, ◌+◌, ◌-◌, ℕ, suc, List, ℤ, pos, negsuc, Some, None, sym, ap, arith}
use Rattle.std.proofs.lemmas.Int.{to_z-of_z}
use mir.Syntax.{w64}
use mir.Val.{of_z, to_z}
use Rattle.text.specs.Numbers.{int_of, decimal_of}
use Rattle.text.proofs.NumbersLaws.{int_within}
use Rattle.span_replay.specs.Numbers.{either, number_of}
use Rattle.span_replay.proofs.line.number.Goals as goal

low_bits : (z : ℤ) (s : List ℕ) {b : ℕ} → b ≡ of_z w64 (to_z w64 (of_z w64 z)) → int_of 2147483647 s ≡ Some z → Some (b % 4294967296) ≡ number_of s
unfolding number_of either
low_bits (pos n) s {b} g e =
    let h : n ≤ 2147483647 = int_within 2147483647 (pos n) s e in
    let i : b ≡ n = g ∙ ap (of_z w64) (to_z-of_z w64 (pos n) (record { sfits = omega arith })) in
    let l : b % 4294967296 ≡ n = omega arith in
    rw (e, l)
low_bits (negsuc n) s {b} g e =
    let h : n ≤ 2147483647 = int_within 2147483647 (negsuc n) s e in
    let i : b ≡ of_z w64 (negsuc n) = g ∙ ap (of_z w64) (to_z-of_z w64 (negsuc n) (record { sfits = omega arith })) in
    let l : b % 4294967296 ≡ 2 * (2147483647 + 1) - suc n = omega arith in
    rw (e, l)

no_sign : (s : List ℕ) → int_of 2147483647 s ≡ None → decimal_of 18446744073709551615 s ≡ number_of s
unfolding number_of either
no_sign s e = rw e

pub returns-in-Some : goal.returns-in-Some
returns-in-Some c = low_bits c.in-Some.n _ c.cast_unsigned.ensures (sym c.signed.ensures ∙ c.in-Some.is)

pub returns-in-None : goal.returns-in-None
returns-in-None c = c.decimal.ensures ∙ no_sign _ (sym c.signed.ensures ∙ c.in-None.is)
