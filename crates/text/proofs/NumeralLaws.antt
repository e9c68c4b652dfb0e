-- the digits of a number are the fewest that say it, and read back they say it
use mathlib.Core.Path.{◌≡◌, refl, ap, ◌∙◌}
use mathlib.Core.Bool.{Bool, true, false, cond, and-eq-true_iff}
use mathlib.Core.List.{List, [], ◌∷◌, ◌++◌}
use Rattle.std.specs.Prelude.{Some}
use Prim.Native.Nat.{ℕ, zero, suc, ◌+◌, ◌-◌, ◌*◌, ◌/◌, ◌%◌, ◌^◌, ◌≤◌, ◌<◌}
use native.Mathlib.Omega.{arith}
use native.Mathlib.Nat.{pow-suc}
use native.Mathlib.Numerals.{unary_clauses}
use borrow.Author.Tests.{leb-true, leb-false, le-leb, lt-ltb, le-ltb, ltb-true}
use lib.Dec.{leb, ltb}
use lib.ListN.{length, length-append}
use Rattle.io.specs.Digits.{hex_digit_ascii, last_digits, IsDigitCount}
use Rattle.text.specs.Numbers.{is_digit, all_digits, value, up_to, decimal_of, places, numeral}
use Rattle.text.proofs.NumbersLaws.{decimal_starts}

-- ---- places

ten_pos : (k : ℕ) → 0 < 10 ^ k
ten_pos zero = omega arith
ten_pos (suc k) = rw (pow-suc 10 k) (omega (arith, ten_pos k))

ten_more : (a d : ℕ) → 10 ^ a ≤ 10 ^ (a + d)
ten_more a zero = simp unary_clauses (omega arith)
ten_more a (suc d) = simp (unary_clauses, pow-suc) (omega (arith, ten_more a d))

sixteen_more : (a d : ℕ) → 16 ^ a ≤ 16 ^ (a + d)
sixteen_more a zero = simp unary_clauses (omega arith)
sixteen_more a (suc d) = simp (unary_clauses, pow-suc) (omega (arith, sixteen_more a d))

places_is : (f k n : ℕ) → n < 10 ^ suc k → (0 < k → 10 ^ k ≤ n) → k ≤ f → suc k ≡ places f n
unfolding places
places_is zero zero n h g l = refl
places_is zero (suc k) n h g l = absurd (omega arith)
places_is (suc f) zero n h g l = rw (lt-ltb n 10 h)
places_is (suc f) (suc k) n h g l =
    let p = ten_pos k in
    let h1 : n < 10 ^ suc k * 10 = rw (pow-suc 10 (suc k)) at h in
    let g1 : 10 ^ k * 10 ≤ n = rw (pow-suc 10 k) at (g (omega arith)) in
    rw (le-ltb n 10 (omega arith)) (ap suc (places_is f k (n / 10) (omega arith) (λ z. omega arith) (omega arith)))

fewest_places : (n k : ℕ) → IsDigitCount 10 1 n k → k ≤ 20 → k ≡ places 19 n
fewest_places n zero f l = absurd (omega arith)
fewest_places n (suc k) f l = places_is 19 k n f.1 (λ z. simp unary_clauses at (f.2 (omega arith))) (omega arith)

pub fewest_numeral : (n k : ℕ) → IsDigitCount 10 1 n k → n < 10 ^ 20 → last_digits 10 k n ≡ numeral n
unfolding numeral
fewest_numeral n k f h = ap (λ (j : ℕ). last_digits 10 j n) (fewest_places n k f (omega (arith, long)))
  where
    long : 20 < k → ⊥
    long l =
        let g = f.2 (omega arith) in
        let m = ten_more 20 (k - 1 - 20) in
        let e : 20 + (k - 1 - 20) ≡ k - 1 = omega arith in
        omega (arith, rw e at m)

-- a u64 in sixteen places of base 16
pub fewest_hex : (n k : ℕ) → IsDigitCount 16 16 n k → n < 18446744073709551616 → last_digits 16 k n ≡ last_digits 16 16 n
fewest_hex n k f h = ap (λ (j : ℕ). last_digits 16 j n) (go (leb k 16) refl)
  where
    go : (q : Bool) → leb k 16 ≡ q → k ≡ 16
    go true e = let l : k ≤ 16 = leb-true k 16 e in omega (arith, f.0)
    go false e = let l : 16 < k = leb-false k 16 e in
        let g = f.2 l in
        let d : k - 1 ≡ 16 + (k - 1 - 16) = omega arith in
        let m : 16 ^ 16 ≤ 16 ^ (16 + (k - 1 - 16)) = sixteen_more 16 (k - 1 - 16) in
        absurd (omega (arith, rw d at g, m, h))

-- ---- reading back

value-append : (v : ℕ) (s t : List ℕ) → value v (s ++ t) ≡ value (value v s) t
unfolding value
value-append v [] t = refl
value-append v (b ∷ s) t = value-append (v * 10 + (b - 48)) s t

all_append : (s t : List ℕ) → all_digits s ≡ true → all_digits t ≡ true → all_digits (s ++ t) ≡ true
unfolding all_digits
all_append [] t p q = q
all_append (b ∷ s) t p q = let r = (and-eq-true_iff (is_digit b) (all_digits s)).0 p in rw r.0 (all_append s t r.1 q)

glyph_digit : (d : ℕ) → d < 10 → is_digit (hex_digit_ascii d) ≡ true
unfolding is_digit
glyph_digit d h = rw (lt-ltb d 10 h, le-leb 48 (48 + d) (omega arith), le-leb (48 + d) 57 (omega arith))

glyph_value : (d : ℕ) → d < 10 → hex_digit_ascii d - 48 ≡ d
glyph_value d h = rw (lt-ltb d 10 h) (omega arith)

value_digits : (k n : ℕ) → n < 10 ^ k → value 0 (last_digits 10 k n) ≡ n
unfolding value
value_digits zero n h = omega arith
value_digits (suc k) n h =
    let h1 : n < 10 ^ k * 10 = rw (pow-suc 10 k) at h in
    value-append 0 (last_digits 10 k (n / 10)) (hex_digit_ascii (n % 10) ∷ [])
    ∙ rw (value_digits k (n / 10) (omega arith), glyph_value (n % 10) (omega arith)) (omega arith)

all_digits_lem : (k n : ℕ) → all_digits (last_digits 10 k n) ≡ true
unfolding all_digits
all_digits_lem zero n = refl
all_digits_lem (suc k) n = all_append (last_digits 10 k (n / 10)) (hex_digit_ascii (n % 10) ∷ []) (all_digits_lem k (n / 10)) (rw (glyph_digit (n % 10) (omega arith)))

length_digits : (k n : ℕ) → length (last_digits 10 k n) ≡ k
length_digits zero n = refl
length_digits (suc k) n = rw (length-append, length_digits k (n / 10)) (omega arith)

places_holds : (f n : ℕ) → n < 10 ^ suc f → (0 < places f n) × (n < 10 ^ places f n)
unfolding places
places_holds zero n h = (omega arith, h)
places_holds (suc f) n h = go (ltb n 10) refl (places_holds f (n / 10) (omega (arith, rw (pow-suc 10 (suc f)) at h))).1
  where
    go : (t : Bool) → ltb n 10 ≡ t → n / 10 < 10 ^ places f (n / 10) → (0 < cond t 1 (suc (places f (n / 10)))) × (n < 10 ^ cond t 1 (suc (places f (n / 10))))
    go true e r = (omega arith, ltb-true n 10 e)
    go false e r = (omega arith, rw (pow-suc 10 (places f (n / 10))) (omega arith))

-- its bytes are digits
pub numeral_digits : (n : ℕ) → all_digits (numeral n) ≡ true
unfolding numeral
numeral_digits n = all_digits_lem (places 19 n) n

-- a number that is put is read back
pub decimal_numeral : (most n : ℕ) → n ≤ most → n < 10 ^ 20 → decimal_of most (numeral n) ≡ Some n
unfolding numeral up_to
decimal_numeral most n l h =
    let p = places_holds 19 n h in
    decimal_starts most (last_digits 10 (places 19 n) n) (rw (length_digits (places 19 n) n) p.0)
    ∙ rw (all_digits_lem (places 19 n) n, value_digits (places 19 n) n p.1, le-leb n most l)
