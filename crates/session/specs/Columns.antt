-- A version's word as two columns: its peers, and its counts by their bits
use Rattle.std.specs.Prelude.{ℕ, zero, suc, List, take, replicate, nat_lt, slice_set, if◌then◌else◌}
use Rattle.store.specs.Row.{bits32}
use Rattle.std.specs.Prelude.{None, Some}
use Rattle.span.specs.Maybe.{OptId}
use Rattle.script.specs.Version.{pair_count, pair_of}

-- 32 at most: more than 16 pairs are refused, whatever they are
unfoldable pub up_to32 : ℕ → ℕ
up_to32 n = if nat_lt n 32 then n else 32

-- the pairs taken of a word
abbrev pub pairs_taken : List ℕ → ℕ
pairs_taken w = up_to32 (pair_count w)

-- a column with a pair's peer at place i, and one with its count
unfoldable pub peer_put : OptId → ℕ → List ℕ → List ℕ
peer_put None i s = s
peer_put (Some x) i s = slice_set s i x.peer

unfoldable pub count_put : OptId → ℕ → List ℕ → List ℕ
count_put None i s = s
count_put (Some x) i s = slice_set s i (bits32 x.counter)

-- with those of n pairs from pair i on
unfoldable pub peers_put : List ℕ → ℕ → ℕ → List ℕ → List ℕ
peers_put w i zero s = s
peers_put w i (suc n) s = peers_put w (suc i) n (peer_put (pair_of w i) i s)

unfoldable pub counts_put : List ℕ → ℕ → ℕ → List ℕ → List ℕ
counts_put w i zero s = s
counts_put w i (suc n) s = counts_put w (suc i) n (count_put (pair_of w i) i s)

-- the columns that a word is put at the fronts of
abbrev pub peers_in : List ℕ → List ℕ → List ℕ
peers_in w s = peers_put w 0 (pairs_taken w) s

abbrev pub counts_in : List ℕ → List ℕ → List ℕ
counts_in w s = counts_put w 0 (pairs_taken w) s

-- a word's own columns
unfoldable pub word_peers : List ℕ → List ℕ
word_peers w = take (pairs_taken w) (peers_in w (replicate 32 0))

unfoldable pub word_counts : List ℕ → List ℕ
word_counts w = take (pairs_taken w) (counts_in w (replicate 32 0))
