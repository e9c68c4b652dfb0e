-- Two's complement, once for every width: -1 - x flips the bits of x, so a test and a difference turn bits into a signed number and
-- back. H is half of the width's power, 2 ^ hbits w; `half` holds by computation at each width. Assumes nothing. `to_z` and `of_z` are
-- std's `cast_signed` and `cast_unsigned`, which the code calls: here is what these answer, by a test and a difference.
use mathlib.Core.Path.{◌≡◌, refl, ap, ◌∙◌}
use mathlib.Core.Bool.{true, false}
use Prim.Native.Nat.{ℕ, zero, suc, ◌+◌, ◌-◌, ◌≤◌, ◌<◌, ◌^◌}
use native.Mathlib.Omega.{arith}
use native.Mathlib.Nat.{zero-add}
use lib.IntN.{ℤ, pos, negsuc, ◌-ℤ◌, nat_abs}
use lib.Dec.{T}
use lib.Signed.{mag, lt_z, non_neg}
use mir.Syntax.{Width}
use Rattle.std.specs.Int.{cast_signed as to_z, cast_unsigned as of_z}
use mir.Val.{SFits, Fits, bits, hbits}
use mir.Facts.{to_z-of_z}
use borrow.Author.Tests.{le-ltb, lt-ltb, ltb-true}

flip_neg : (x : ℤ) → lt_z x (pos 0) ≡ true → negsuc 0 -ℤ x ≡ pos (mag x)
flip_neg (pos n) h = let k : n < 0 = ltb-true n 0 h in absurd (omega arith)
flip_neg (negsuc n) h = rw (le-ltb (suc n) 1 (omega arith)) (ap pos (omega arith))

flip_pos : (n : ℕ) → negsuc 0 -ℤ pos n ≡ negsuc n
flip_pos zero = refl
flip_pos (suc n) = ap (λ (k : ℕ). negsuc (suc k)) (zero-add n)

module _ (w : Width) (half : 2 ^ bits w ≡ 2 ^ hbits w + 2 ^ hbits w) where
  -- ---- from a number to its bits

  bits_neg : (x : ℤ) → lt_z x (pos 0) ≡ true → 2 ^ bits w - 1 - mag x ≡ of_z w x
  bits_neg (pos n) h = let k : n < 0 = ltb-true n 0 h in absurd (omega arith)
  bits_neg (negsuc n) h = omega arith

  pos_cast : (x : ℤ) → mag x < 2 ^ hbits w → lt_z x (pos 0) ≡ false → T (non_neg x) × Fits w (nat_abs x)
  pos_cast (pos n) f h = (tt, record { fits = omega (arith, half) })
  pos_cast (negsuc n) f h = absurd (let z : ◌≡◌ {A = ℕ} 0 1 = cc in omega arith)

  pos_same : (x : ℤ) → lt_z x (pos 0) ≡ false → nat_abs x ≡ of_z w x
  pos_same (pos n) h = refl
  pos_same (negsuc n) h = absurd (let z : ◌≡◌ {A = ℕ} 0 1 = cc in omega arith)

  module _ (x : ℤ) (f : SFits w x) where
    pub pos_fits : lt_z (to_z w (of_z w x)) (pos 0) ≡ false → T (non_neg (to_z w (of_z w x))) × Fits w (nat_abs (to_z w (of_z w x)))
    pos_fits h = rw (to_z-of_z f) (pos_cast x f.sfits (rw (to_z-of_z f) at h))

    pub pos_bits : lt_z (to_z w (of_z w x)) (pos 0) ≡ false → nat_abs (to_z w (of_z w x)) ≡ of_z w x
    pos_bits h = rw (to_z-of_z f) (pos_same x (rw (to_z-of_z f) at h))

    module _ (h : lt_z (to_z w (of_z w x)) (pos 0) ≡ true) where
      flipped : negsuc 0 -ℤ to_z w (of_z w x) ≡ pos (mag x)
      flipped = ap (λ (z : ℤ). negsuc 0 -ℤ z) (to_z-of_z f) ∙ flip_neg x (rw (to_z-of_z f) at h)

      pub sub_fits : SFits w (negsuc 0 -ℤ to_z w (of_z w x))
      sub_fits = rw flipped (record { sfits = f.sfits })

      again : to_z w (of_z w (negsuc 0 -ℤ to_z w (of_z w x))) ≡ pos (mag x)
      again = to_z-of_z sub_fits ∙ flipped

      pub cast_fits : T (non_neg (to_z w (of_z w (negsuc 0 -ℤ to_z w (of_z w x))))) × Fits w (nat_abs (to_z w (of_z w (negsuc 0 -ℤ to_z w (of_z w x)))))
      cast_fits = rw again (tt, record { fits = omega (arith, half, f.sfits) })

      pub small : nat_abs (to_z w (of_z w (negsuc 0 -ℤ to_z w (of_z w x)))) ≤ 2 ^ bits w - 1
      small = rw again (omega (arith, half, f.sfits))

      pub neg_bits : 2 ^ bits w - 1 - nat_abs (to_z w (of_z w (negsuc 0 -ℤ to_z w (of_z w x)))) ≡ of_z w x
      neg_bits = rw again (bits_neg x (rw (to_z-of_z f) at h))

  -- ---- from bits of the upper half to the number

  module _ (n : ℕ) (f : n < 2 ^ bits w) (h : 2 ^ hbits w ≤ n) where
    flipped' : negsuc 0 -ℤ to_z w (2 ^ bits w - 1 - n) ≡ negsuc (2 ^ bits w - 1 - n)
    flipped' = rw (lt-ltb (2 ^ bits w - 1 - n) (2 ^ hbits w) (omega (arith, half))) (flip_pos (2 ^ bits w - 1 - n))

    pub high_fits : SFits w (negsuc 0 -ℤ to_z w (2 ^ bits w - 1 - n))
    high_fits = rw flipped' (record { sfits = omega (arith, half) })

    pub high : to_z w (of_z w (negsuc 0 -ℤ to_z w (2 ^ bits w - 1 - n))) ≡ to_z w n
    high = to_z-of_z high_fits ∙ flipped' ∙ rw (le-ltb n (2 ^ hbits w) h) (ap negsuc (omega arith))
