-- The product's sizes, for the definitions; src/limits.rt has the same numbers for the code.
use Rattle.std.specs.Prelude.{ℕ}

-- the units of a list, placeholder included
abbrev pub UNITS : ℕ
UNITS = 65536

-- the rows of room that count: a longer room counts as that long
abbrev pub ROWS : ℕ
ROWS = 65536

-- the peers that have edits in a history
abbrev pub PEERS : ℕ
PEERS = 16

-- the edits of a history
abbrev pub EDITS : ℕ
EDITS = 2000
