-- where a byte stands in a text
use Rattle.std.specs.Prelude.{ℕ, List, ◌==◌}
use Rattle.std.specs.List.{position_or_len}

-- the index of the first b, or the length
abbrev pub index_of : ℕ → List ℕ → ℕ
index_of b s = position_or_len (λ x. x == b) s
