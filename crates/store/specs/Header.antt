-- A store in lent bytes: a header of one row's width, whose first eight bytes hold the number of rows, and then the rows.
-- Assumes nothing.
use Rattle.std.specs.Prelude.{ℕ, ◌-◌, ◌/◌, min, List, length, take, drop}
use Rattle.words.specs.Le.{le}
use Rattle.span.specs.declared.span.FugueSpan.{FugueSpan}
use Rattle.store.specs.declared.Words.{Words}
use Rattle.store.specs.Limits.{ROWS}
use Rattle.store.specs.Row.{rows, word_bytes}

-- the number of rows in the list
unfoldable pub count : List ℕ → ℕ
count s = le (take 8 s)

-- the rows that fit after the header
unfoldable pub room : List ℕ → ℕ
room s = min ROWS ((length s - 72) / 72)

-- the list
unfoldable pub spans_of : List ℕ → List FugueSpan
spans_of s = rows (count s) (drop 72 s)

-- a header as it is written at opening: all but the number is 0
abbrev pub header_words : ℕ → Words
header_words n =
    record { p0 = n; p1 = 0; p2 = 0; p3 = 0; c0 = 0; c1 = 0; c2 = 0; c3 = 0; c4 = 0; c5 = 0; c6 = 0; c7 = 0; c8 = 0 }

unfoldable pub header_bytes : ℕ → List ℕ
header_bytes n = word_bytes (header_words n)
