-- numbers as text, as the loop over the digits meets them
use mathlib.Core.Path.{◌≡◌, refl, sym, ◌∙◌}
use mathlib.Core.Bool.{Bool, true, false, cond, ◌&&◌, and-eq-true_iff, false≢true}
use mathlib.Core.List.{List, [], ◌∷◌}
use Rattle.std.specs.Prelude.{Option, None, Some, option_map, ℤ, pos, negsuc}
use Prim.Native.Nat.{ℕ, zero, suc, ◌+◌, ◌-◌, ◌*◌, ◌≤◌, ◌<◌}
use native.Mathlib.Omega.{arith}
use native.Mathlib.Numerals.{add-one}
use borrow.Author.Tests.{le-leb, lt-leb, leb-true}
use Rattle.std.proofs.Common.{◌^◌, ◌-ℤ◌, neg_ℤ, subst}
use Rattle.std.proofs.Math.IntN.{+ℤ_idl}
use Rattle.std.proofs.lemmas.Int.{to_z_pos, to_z-of_z}
use mir.Syntax.{w16, w32, w64}
use mir.Val.{to_z, of_z, SFits}
use lib.Dec.{leb, eqb}
use Rattle.std.specs.Str.{bytes_eq}
use lib.ListN.{length, take, drop, get_or, drop_of_length-le}
use lib.Seq.{drop-cons}
use Rattle.text.specs.Numbers.{is_digit, all_digits, value, up_to, decimal_of, negated, int_of}

pub digit_range : (b : ℕ) → is_digit b ≡ true → (48 ≤ b) × (b ≤ 57)
unfolding is_digit
digit_range b e = let p = (and-eq-true_iff (leb 48 b) (leb b 57)).0 e in (leb-true 48 b p.0, leb-true b 57 p.1)

-- more digits never make it less
pub value_grows : (v : ℕ) (s : List ℕ) → v ≤ value v s
unfolding value
value_grows v [] = omega arith
value_grows v (b ∷ s) = omega (arith, value_grows (v * 10 + (b - 48)) s)

and-false : (x : Bool) → (x && false) ≡ false
and-false true = refl
and-false false = refl

pub up_to_past : (most v : ℕ) (s : List ℕ) → most < v → up_to most v s ≡ None
unfolding up_to
up_to_past most v s h = rw (lt-leb (value v s) most (omega (arith, value_grows v s)), and-false (all_digits s))

pub up_to_end : (most v : ℕ) (s : List ℕ) (i : ℕ) → length s ≤ i → v ≤ most → Some v ≡ up_to most v (drop i s)
unfolding up_to all_digits value
up_to_end most v s i h k = rw (drop_of_length-le s h, le-leb v most k)

module _ (most v : ℕ) (s : List ℕ) (i : ℕ) (h : i < length s) where
  pub up_to_other : is_digit (get_or s i 0) ≡ false → up_to most v (drop i s) ≡ None
  unfolding up_to all_digits
  up_to_other e = rw (drop-cons s i 0 h, e)

  pub up_to_digit : is_digit (get_or s i 0) ≡ true → up_to most v (drop i s) ≡ up_to most (v * 10 + (get_or s i 0 - 48)) (drop (i + 1) s)
  unfolding up_to all_digits value
  up_to_digit e = rw (add-one, drop-cons s i 0 h, e)

  pub up_to_over : is_digit (get_or s i 0) ≡ true → most < v * 10 + (get_or s i 0 - 48) → up_to most v (drop i s) ≡ None
  up_to_over e g = up_to_digit e ∙ up_to_past most (v * 10 + (get_or s i 0 - 48)) (drop (i + 1) s) g

pub decimal_starts : (most : ℕ) (s : List ℕ) → 0 < length s → decimal_of most s ≡ up_to most 0 s
unfolding decimal_of
decimal_starts most [] h = absurd (omega arith)
decimal_starts most (b ∷ s) h = refl

pub decimal_not_empty : (most : ℕ) (s : List ℕ) → eqb (length s) 0 ≡ false → up_to most 0 s ≡ decimal_of most s
unfolding decimal_of
decimal_not_empty most [] h = absurd (false≢true (sym h))
decimal_not_empty most (b ∷ s) h = refl

pub decimal_empty : (most : ℕ) (s : List ℕ) → length s ≡ 0 → decimal_of most s ≡ None
unfolding decimal_of
decimal_empty most [] h = refl
decimal_empty most (b ∷ s) h = absurd (omega arith)

-- what the loop over the digits meets
pub ruleset digits = (up_to_end, up_to_other, up_to_digit, up_to_over, up_to_past, decimal_not_empty, decimal_empty)

-- a number that is read is not past most
pub decimal_most : (most v : ℕ) (s : List ℕ) → decimal_of most s ≡ Some v → v ≤ most
unfolding decimal_of up_to
decimal_most most v [] e = let z : ◌≡◌ {A = ℕ} 0 1 = cc in absurd (omega arith)
decimal_most most v (b ∷ s) e = go (all_digits (b ∷ s)) (leb (value 0 (b ∷ s)) most) refl e
  where
    go : (d l : Bool) → leb (value 0 (b ∷ s)) most ≡ l → cond (d && l) (Some (value 0 (b ∷ s))) None ≡ Some v → v ≤ most
    go true true p q = let r : value 0 (b ∷ s) ≡ v = cc in omega (arith, leb-true (value 0 (b ∷ s)) most p)
    go true false p q = let z : ◌≡◌ {A = ℕ} 0 1 = cc in absurd (omega arith)
    go false l p q = let z : ◌≡◌ {A = ℕ} 0 1 = cc in absurd (omega arith)

-- ---- signed

-- a number below 2 ^ 63 as an i64, and its negation
negation_fits : (n : ℕ) → n < 2 ^ 63 → SFits w64 (neg_ℤ (pos n))
negation_fits zero h = record { sfits = omega arith }
negation_fits (suc n) h = record { sfits = omega arith }

module _ (n : ℕ) (h : n < 2 ^ 63) where
  pub wide_fits : SFits w64 (pos n)
  wide_fits = record { sfits = omega arith }

  pub wide_is : to_z w64 n ≡ pos n
  wide_is = to_z_pos w64 n (omega arith)

  pub minus_fits : SFits w64 (pos 0 -ℤ to_z w64 n)
  minus_fits = rw (wide_is, +ℤ_idl (neg_ℤ (pos n))) (negation_fits n h)

  pub minus_is : to_z w64 (of_z w64 (pos 0 -ℤ to_z w64 n)) ≡ neg_ℤ (pos n)
  minus_is = to_z-of_z w64 (pos 0 -ℤ to_z w64 n) minus_fits ∙ rw wide_is (+ℤ_idl (neg_ℤ (pos n)))

and-true : (q : Bool) → (q && true) ≡ q
and-true true = refl
and-true false = refl

pub signed_minus : (most : ℕ) (s : List ℕ) (n : Option ℕ) → bytes_eq (take 1 s) (45 ∷ []) ≡ true → decimal_of (most + 1) (drop 1 s) ≡ n → negated n ≡ int_of most s
unfolding int_of
signed_minus most [] n h e = absurd (false≢true h)
signed_minus most (b ∷ s) n h e = rw (sym (and-true (eqb b 45)) ∙ h, e)

pub signed_plus : (most : ℕ) (s : List ℕ) (n : Option ℕ) → bytes_eq (take 1 s) (45 ∷ []) ≡ false → decimal_of most s ≡ n → option_map pos n ≡ int_of most s
unfolding int_of decimal_of
signed_plus most [] n h e = rw (← e)
signed_plus most (b ∷ s) n h e = rw (sym (and-true (eqb b 45)) ∙ h, e)

-- a number from -(most + 1) to most
abbrev pub Within : ℕ → ℤ → Type 0
Within most (pos n) = n ≤ most
Within most (negsuc n) = n ≤ most

-- a signed number that is read is one of those
module _ (most : ℕ) (z : ℤ) where
  plus_within : (o : Option ℕ) → ((n : ℕ) → o ≡ Some n → n ≤ most) → option_map pos o ≡ Some z → Within most z
  plus_within None h e = absurd (let y : ◌≡◌ {A = ℕ} 0 1 = cc in omega arith)
  plus_within (Some n) h e = let p : pos n ≡ z = cc in subst (Within most) p (h n refl)

  minus_within : (o : Option ℕ) → ((n : ℕ) → o ≡ Some n → n ≤ most + 1) → negated o ≡ Some z → Within most z
  minus_within None h e = absurd (let y : ◌≡◌ {A = ℕ} 0 1 = cc in omega arith)
  minus_within (Some zero) h e = let p : pos 0 ≡ z = cc in subst (Within most) p (omega arith)
  minus_within (Some (suc n)) h e = let p : negsuc n ≡ z = cc in subst (Within most) p (let l : suc n ≤ most + 1 = h (suc n) refl in omega arith)

  pub int_within : (s : List ℕ) → int_of most s ≡ Some z → Within most z
  unfolding int_of
  int_within [] e = absurd (let y : ◌≡◌ {A = ℕ} 0 1 = cc in omega arith)
  int_within (b ∷ s) e = go (eqb b 45) e
    where
      go : (q : Bool) → cond q (negated (decimal_of (most + 1) s)) (option_map pos (decimal_of most (b ∷ s))) ≡ Some z → Within most z
      go true f = minus_within (decimal_of (most + 1) s) (λ n g. decimal_most (most + 1) n s g) f
      go false f = plus_within (decimal_of most (b ∷ s)) (λ n g. decimal_most most n (b ∷ s) g) f

pub int32_fits : (s : List ℕ) (z : ℤ) → int_of 2147483647 s ≡ Some z → SFits w32 z
int32_fits s (pos n) e = let h : n ≤ 2147483647 = int_within 2147483647 (pos n) s e in record { sfits = omega arith }
int32_fits s (negsuc n) e = let h : n ≤ 2147483647 = int_within 2147483647 (negsuc n) s e in record { sfits = omega arith }

pub int16_fits : (s : List ℕ) (z : ℤ) → int_of 32767 s ≡ Some z → SFits w16 z
int16_fits s (pos n) e = let h : n ≤ 32767 = int_within 32767 (pos n) s e in record { sfits = omega arith }
int16_fits s (negsuc n) e = let h : n ≤ 32767 = int_within 32767 (negsuc n) s e in record { sfits = omega arith }
