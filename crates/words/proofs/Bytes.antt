-- What std says of the bytes of a number is what `le` and `bytes_of` say, at the widths that the code has.
use Rattle.std.proofs.Common.{◌≡◌, ℕ, ℤ, List, [], ◌∷◌, take, refl, ap, ◌∙◌, arith}
use Rattle.std.proofs.Math.Nat.{div-div-eq-div-mul}
use Rattle.std.proofs.Math.Facts.{to_z-of_z}
use Rattle.std.specs.Int.{w16, w32, w64, from_le_bytes, to_le_bytes, cast_signed, cast_unsigned}
use Rattle.std.specs.Prelude.{FitsSigned}
use Rattle.words.specs.Le.{le, bytes_of, put}

-- ---- reading: l is what stands from an offset on

pub le_2 : (l : List ℕ) → from_le_bytes w16 (take 2 l) ≡ le (take 2 l)
unfolding le
le_2 [] = refl
le_2 (a ∷ []) = omega arith
le_2 (a ∷ b ∷ l) = omega arith

pub le_4 : (l : List ℕ) → from_le_bytes w32 (take 4 l) ≡ le (take 4 l)
unfolding le
le_4 [] = refl
le_4 (a ∷ []) = omega arith
le_4 (a ∷ b ∷ []) = omega arith
le_4 (a ∷ b ∷ c ∷ []) = omega arith
le_4 (a ∷ b ∷ c ∷ d ∷ l) = omega arith

pub le_8 : (l : List ℕ) → from_le_bytes w64 (take 8 l) ≡ le (take 8 l)
unfolding le
le_8 [] = refl
le_8 (a ∷ []) = omega arith
le_8 (a ∷ b ∷ []) = omega arith
le_8 (a ∷ b ∷ c ∷ []) = omega arith
le_8 (a ∷ b ∷ c ∷ d ∷ []) = omega arith
le_8 (a ∷ b ∷ c ∷ d ∷ e ∷ []) = omega arith
le_8 (a ∷ b ∷ c ∷ d ∷ e ∷ f ∷ []) = omega arith
le_8 (a ∷ b ∷ c ∷ d ∷ e ∷ f ∷ g ∷ []) = omega arith
le_8 (a ∷ b ∷ c ∷ d ∷ e ∷ f ∷ g ∷ h ∷ l) = omega arith

-- as the code reads: the bytes, and then what they say
pub read_4 : (bs l : List ℕ) (n : ℕ) → bs ≡ take 4 l → n ≡ from_le_bytes w32 bs → n ≡ le (take 4 l)
read_4 bs l n b e = e ∙ ap (from_le_bytes w32) b ∙ le_4 l

pub read_8 : (bs l : List ℕ) (n : ℕ) → bs ≡ take 8 l → n ≡ from_le_bytes w64 bs → n ≡ le (take 8 l)
read_8 bs l n b e = e ∙ ap (from_le_bytes w64) b ∙ le_8 l

-- the same for a signed number, which a clause shows by its bits
pub read_signed : (bs l : List ℕ) (z : ℤ) → FitsSigned w32 z → bs ≡ take 4 l → z ≡ cast_signed w32 (from_le_bytes w32 bs)
    → cast_signed w32 (cast_unsigned w32 z) ≡ cast_signed w32 (le (take 4 l))
read_signed bs l z f b e = to_z-of_z f ∙ e ∙ ap (cast_signed w32) (ap (from_le_bytes w32) b ∙ le_4 l)

-- ---- writing

pub bytes_2 : (n : ℕ) → to_le_bytes w16 n ≡ bytes_of 2 n
unfolding bytes_of
bytes_2 n = refl

pub bytes_4 : (n : ℕ) → to_le_bytes w32 n ≡ bytes_of 4 n
unfolding bytes_of
bytes_4 n = simp div-div-eq-div-mul

pub bytes_8 : (n : ℕ) → to_le_bytes w64 n ≡ bytes_of 8 n
unfolding bytes_of
bytes_8 n = simp div-div-eq-div-mul

-- as the code writes: the bytes, and then the buffer
pub write_4 : (n at : ℕ) (bs s t : List ℕ) → bs ≡ to_le_bytes w32 n → t ≡ put at bs s → t ≡ put at (bytes_of 4 n) s
write_4 n at bs s t b e = e ∙ ap (λ (l : List ℕ). put at l s) (b ∙ bytes_4 n)

pub write_8 : (n at : ℕ) (bs s t : List ℕ) → bs ≡ to_le_bytes w64 n → t ≡ put at bs s → t ≡ put at (bytes_of 8 n) s
write_8 n at bs s t b e = e ∙ ap (λ (l : List ℕ). put at l s) (b ∙ bytes_8 n)

pub ruleset reads = (read_4, read_8, read_signed)

pub ruleset writes = (bytes_4, bytes_8)
