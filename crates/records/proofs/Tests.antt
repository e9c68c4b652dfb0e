-- rows by computation: the record of each kind of entry, and a buffer that is no store
use mathlib.Core.Path.{◌≡◌, refl}
use mathlib.Core.List.{List, [], ◌∷◌}
use lib.IntN.{pos}
use Rattle.span.specs.declared.ids.Id.{Id}
use Rattle.span.specs.declared.chunk.RichtextChunk.{RichtextChunk}
use Rattle.span.specs.Answer.{answer}
use Rattle.std.specs.Prelude.{None as Nothing, Some as At}
use Rattle.units.specs.declared.diff.Entry.TheVariants.{Retain, Delete, Insert}
use Rattle.rope.specs.declared.diff.EntryNumbers.{EntryNumbers}
use Rattle.span.specs.Refusal.{refused as Refused}
use Rattle.units.specs.Store.{is_state}
use Rattle.rope.specs.Columns.{numbers, entry_numbers, get_diff_code}
use Rattle.records.specs.Records.{records, answer_of, records_after}

abbrev chunk : RichtextChunk
chunk = record { start = 4; end = 6 }

abbrev from : Id
from = record { peer = 9; counter = pos 3 }

kinds :
    records (Retain 5 ∷ Delete 2 ∷ Insert chunk from (At 8) ∷ Insert chunk from Nothing ∷ [])
    ≡ (numbers 0 5 0 0 0 0 ∷ numbers 1 2 0 0 0 0 ∷ numbers 2 4 6 9 3 8 ∷ numbers 3 4 6 9 3 0 ∷ [])
unfolding entry_numbers
kinds = refl

-- a buffer without a header is refused, and the slice is kept
no_store : answer_of 4 [] ≡ Refused 15
unfolding get_diff_code is_state answer
no_store = refl

kept_whole : (out : List EntryNumbers) → records_after [] out ≡ out
unfolding get_diff_code is_state
kept_whole out = refl
