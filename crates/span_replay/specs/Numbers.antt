-- the number that a word of a line says
use Rattle.std.specs.Prelude.{ℕ, List, Option, None, Some}
use Rattle.text.specs.Numbers.{decimal_of, signed_of}

unfoldable pub either : Option ℕ → Option ℕ → Option ℕ
either (Some n) m = Some n
either None m = m

-- a number of 64 bits, or the 32 bits of one below zero
unfoldable pub number_of : List ℕ → Option ℕ
number_of s = either (signed_of 2147483647 s) (decimal_of 18446744073709551615 s)
