-- A version or context as a word (docs/SCRIPT.md): `-` where it is empty, else pairs PEER:COUNT with commas (44) between, in the order written.
use Rattle.std.specs.Prelude.{ℕ, zero, suc, Bool, true, ◌&&◌, List, Option, is_some, if◌then◌else◌}
use Rattle.text.specs.Ascii.{ascii}
use Rattle.text.specs.Parts.{before, after, part, parts, same_text}
use Rattle.span.specs.declared.ids.Id.{Id}
use Rattle.script.specs.Field.{id_from}

-- how many pairs the word has
unfoldable pub pair_count : List ℕ → ℕ
pair_count w = if same_text w (ascii "-") then 0 else parts 44 w

-- pair i, a peer and an i32 with a colon (58) between: the count stands as the counter of an id
unfoldable pub pair_of : List ℕ → ℕ → Option Id
pair_of w i = id_from (before 58 (part 44 i w)) (after 58 (part 44 i w))

abbrev pub is_id : Option Id → Bool
is_id o = is_some o

-- whether each of the n pairs from pair i on is one
unfoldable pub pairs_from : List ℕ → ℕ → ℕ → Bool
pairs_from w i zero = true
pairs_from w i (suc n) = is_id (pair_of w i) && pairs_from w (suc i) n

unfoldable pub is_version : List ℕ → Bool
is_version w = pairs_from w 0 (pair_count w)
