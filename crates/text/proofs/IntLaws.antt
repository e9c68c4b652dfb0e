-- a whole number by its sign and its distance from zero, and its text read back
use mathlib.Core.Path.{◌≡◌, refl, ap, ◌∙◌}
use mathlib.Core.Bool.{true, false}
use mathlib.Core.List.{List, [], ◌∷◌}
use Rattle.std.specs.Prelude.{Some, option_map}
use Prim.Native.Nat.{ℕ, suc, ◌+◌, ◌-◌, ◌^◌, ◌≤◌, ◌<◌}
use native.Mathlib.Omega.{arith}
use lib.IntN.{ℤ, pos, negsuc, nat_abs}
use lib.Signed.{lt_z}
use mir.Syntax.{w16, w32}
use mir.Val.{of_z, to_z, SFits}
use mir.Facts.{to_z-of_z}
use borrow.Author.Tests.{le-leb, ltb-true}
use Rattle.text.specs.Numbers.{is_digit, decimal_of, numeral, int_text, negated, int_of, bits_of, signed_of, fit, fit32, fit16}
use Rattle.text.proofs.NumeralLaws.{decimal_numeral}
use Rattle.text.proofs.NumbersLaws.{Within}
use Rattle.text.proofs.CutLaws.{Lacks, lacks_cons, numeral_lacks}

low : (x : ℤ) → SFits w32 x → of_z w32 x < 2147483648 → of_z w32 x ≡ nat_abs x
low (pos n) f h = refl
low (negsuc n) f h = absurd (omega (arith, f.sfits))

high : (x : ℤ) → SFits w32 x → 2147483648 ≤ of_z w32 x → 4294967296 - of_z w32 x ≡ nat_abs x
high (pos n) f h = absurd (omega (arith, f.sfits))
high (negsuc n) f h = omega (arith, f.sfits)

below : (x : ℤ) → lt_z x (pos 0) ≡ true → 45 ∷ numeral (nat_abs x) ≡ int_text x
unfolding int_text
below (pos n) h = let k : n < 0 = ltb-true n 0 h in absurd (omega arith)
below (negsuc n) h = refl

above : (x : ℤ) → lt_z x (pos 0) ≡ false → numeral (nat_abs x) ≡ int_text x
unfolding int_text
above (pos n) h = refl
above (negsuc n) h = absurd (let z : ◌≡◌ {A = ℕ} 0 1 = cc in omega arith)

-- a number is handed over by its bits, and so stands as `to_z w32 (of_z w32 x)` where a function is called with it
module _ (x : ℤ) (f : SFits w32 x) {b : ℕ} (e : b ≡ of_z w32 (to_z w32 (of_z w32 x))) where
  bits : b ≡ of_z w32 x
  bits = e ∙ ap (of_z w32) (to_z-of_z f)

  -- the distance from zero
  pub low_size : b < 2147483648 → b ≡ nat_abs x
  low_size h = bits ∙ low x f (rw bits at h)

  pub high_size : 2147483648 ≤ b → 4294967296 - b ≡ nat_abs x
  high_size h = rw bits (high x f (rw bits at h))

-- the text, from the test of the sign
module _ (x : ℤ) (f : SFits w32 x) {n : ℕ} (e : n ≡ nat_abs (to_z w32 (of_z w32 x))) where
  size : n ≡ nat_abs x
  size = e ∙ ap nat_abs (to_z-of_z f)

  pub int_below : lt_z (to_z w32 (of_z w32 x)) (pos 0) ≡ true → 45 ∷ numeral n ≡ int_text x
  int_below h = ap (λ (m : ℕ). 45 ∷ numeral m) size ∙ below x (rw (to_z-of_z f) at h)

  pub int_above : lt_z (to_z w32 (of_z w32 x)) (pos 0) ≡ false → numeral n ≡ int_text x
  int_above h = ap numeral size ∙ above x (rw (to_z-of_z f) at h)

-- ---- reading back

unsigned : (most : ℕ) (s : List ℕ) → Lacks 45 s → int_of most s ≡ option_map pos (decimal_of most s)
unfolding int_of decimal_of
unsigned most [] e = refl
unsigned most (b ∷ s) e = rw (lacks_cons 45 b s e).here

module _ (most n : ℕ) (l : n ≤ most) (h : most + 1 < 10 ^ 20) where
  pos_back : int_of most (int_text (pos n)) ≡ Some (pos n)
  unfolding int_text is_digit
  pos_back = unsigned most (numeral n) (numeral_lacks 45 refl n) ∙ ap (option_map pos) (decimal_numeral most n l (omega arith))

  negsuc_back : int_of most (int_text (negsuc n)) ≡ Some (negsuc n)
  unfolding int_text int_of
  negsuc_back = ap negated (decimal_numeral (most + 1) (suc n) (omega arith) (omega arith))

-- a number that is put is read back
pub int_back : (most : ℕ) (z : ℤ) → most + 1 < 10 ^ 20 → Within most z → int_of most (int_text z) ≡ Some z
int_back most (pos n) h l = pos_back most n l h
int_back most (negsuc n) h l = negsuc_back most n l h

fit_is : (most n : ℕ) → n ≤ most → fit most (Some n) ≡ Some n
unfolding fit
fit_is most n h = rw (le-leb n most h)

within32 : (z : ℤ) → SFits w32 z → Within 2147483647 z
within32 (pos n) f = omega (arith, f.sfits)
within32 (negsuc n) f = omega (arith, f.sfits)

within16 : (z : ℤ) → SFits w16 z → Within 32767 z
within16 (pos n) f = omega (arith, f.sfits)
within16 (negsuc n) f = omega (arith, f.sfits)

pub int32_read : (z : ℤ) → SFits w32 z → int_of 2147483647 (int_text z) ≡ Some z
int32_read z f = int_back 2147483647 z (omega arith) (within32 z f)

pub int16_read : (z : ℤ) → SFits w16 z → int_of 32767 (int_text z) ≡ Some z
int16_read z f = int_back 32767 z (omega arith) (within16 z f)

-- and by its bits
pub number_back : (n : ℕ) → n < 2 ^ 32 → fit32 (decimal_of 4294967295 (numeral n)) ≡ Some n
number_back n h = ap fit32 (decimal_numeral 4294967295 n (omega arith) (omega arith)) ∙ fit_is 4294967295 n (omega arith)

pub int32_back : (z : ℤ) → SFits w32 z → fit32 (signed_of 2147483647 (int_text z)) ≡ Some (of_z w32 z)
int32_back (pos n) f = ap (λ o. fit32 (bits_of 2147483647 o)) (int32_read (pos n) f) ∙ fit_is 4294967295 n (omega (arith, f.sfits))
int32_back (negsuc n) f = ap (λ o. fit32 (bits_of 2147483647 o)) (int32_read (negsuc n) f) ∙ fit_is 4294967295 (4294967296 - suc n) (omega arith)

pub int16_back : (z : ℤ) → SFits w16 z → fit16 (signed_of 32767 (int_text z)) ≡ Some (of_z w16 z)
int16_back (pos n) f = ap (λ o. fit16 (bits_of 32767 o)) (int16_read (pos n) f) ∙ fit_is 65535 n (omega (arith, f.sfits))
int16_back (negsuc n) f = ap (λ o. fit16 (bits_of 32767 o)) (int16_read (negsuc n) f) ∙ fit_is 65535 (65536 - suc n) (omega arith)
