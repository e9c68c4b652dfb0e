-- decimal numbers as text
use Rattle.std.specs.Prelude.{ℕ, zero, suc, ◌+◌, ◌-◌, ◌*◌, ◌/◌, Bool, true, ◌&&◌, List, [], ◌∷◌, Option, None, Some, ℤ, pos, negsuc, neg_ℤ, option_map, if◌then◌else◌, nat_le, nat_lt, ◌==◌}
use Rattle.std.specs.Char.{is_ascii_digit}
use Rattle.io.specs.Digits.{last_digits}

-- a digit's value is its byte less 48
unfoldable pub is_digit : ℕ → Bool
is_digit b = is_ascii_digit b

unfoldable pub all_digits : List ℕ → Bool
all_digits [] = true
all_digits (b ∷ s) = is_digit b && all_digits s

-- the value of the digits s after digits of value v
unfoldable pub value : ℕ → List ℕ → ℕ
value v [] = v
value v (b ∷ s) = value (v * 10 + (b - 48)) s

-- the number, where s is digits of a value not past most
unfoldable pub up_to : ℕ → ℕ → List ℕ → Option ℕ
up_to most v s = if all_digits s && nat_le (value v s) most then Some (value v s) else None

-- the number that s says: an empty text says none
unfoldable pub decimal_of : ℕ → List ℕ → Option ℕ
decimal_of most [] = None
decimal_of most (b ∷ s) = up_to most 0 (b ∷ s)

-- how many digits n has, where they are at most k + 1
unfoldable pub places : ℕ → ℕ → ℕ
places zero n = 1
places (suc k) n = if nat_lt n 10 then 1 else suc (places k (n / 10))

-- a u64's digits, with no zero in front: it has at most 20
unfoldable pub numeral : ℕ → List ℕ
numeral n = last_digits 10 (places 19 n) n

-- the digits of a whole number, with a minus sign (45) below zero
unfoldable pub int_text : ℤ → List ℕ
int_text (pos n) = numeral n
int_text (negsuc n) = 45 ∷ numeral (suc n)

-- a number below zero, from its distance
abbrev pub negated : Option ℕ → Option ℤ
negated None = None
negated (Some n) = Some (neg_ℤ (pos n))

-- the number from -(most + 1) to most that s says, a minus sign (45) in front or not
unfoldable pub int_of : ℕ → List ℕ → Option ℤ
int_of most [] = None
int_of most (b ∷ s) = if b == 45 then negated (decimal_of (most + 1) s) else option_map pos (decimal_of most (b ∷ s))

-- the two's complement bits of a number from -(most + 1) to most
abbrev pub bits_of : ℕ → Option ℤ → Option ℕ
bits_of most None = None
bits_of most (Some (pos n)) = Some n
bits_of most (Some (negsuc n)) = Some (2 * (most + 1) - suc n)

-- the bits of the number that s says
abbrev pub signed_of : ℕ → List ℕ → Option ℕ
signed_of most s = bits_of most (int_of most s)

-- the number, where it is not past most
unfoldable pub fit : ℕ → Option ℕ → Option ℕ
fit most None = None
fit most (Some n) = if nat_le n most then Some n else None

-- where it fits 32 bits, 16 bits
abbrev pub fit32 : Option ℕ → Option ℕ
fit32 = fit 4294967295

abbrev pub fit16 : Option ℕ → Option ℕ
fit16 = fit 65535
