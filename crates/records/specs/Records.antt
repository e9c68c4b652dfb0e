-- get_diff into records of numbers. Assumes nothing.
use Rattle.std.specs.Prelude.{ℕ, List, map, length, Ok}
use Rattle.span.specs.Answer.{answer}
use Rattle.span.specs.Refusal.{refused}
use Rattle.units.specs.declared.diff.Entry.{Entry}
use Rattle.rope.specs.declared.diff.EntryNumbers.{EntryNumbers}
use Rattle.rope.specs.Maybe.{DiffAnswer}
use Rattle.units.specs.Lists.{over}
use Rattle.units.specs.Store.{spans_of}
use Rattle.units.specs.Delta.{entries}
use Rattle.units.specs.Codes.{kept}
use Rattle.rope.specs.Columns.{entry_numbers, get_diff_code}

-- a record for each entry
abbrev pub records : List Entry → List EntryNumbers
records es = map entry_numbers es

-- how many entries there are, or the refusal, in a room of so many records
abbrev pub answer_of : ℕ → List ℕ → DiffAnswer
answer_of room s = answer Ok refused (get_diff_code room s) (length (entries (spans_of s)))

-- the slice afterwards: the records at its front, or if it is refused what it was
abbrev pub records_after : List ℕ → List EntryNumbers → List EntryNumbers
records_after s out = kept (get_diff_code (length out) s) (over (records (entries (spans_of s))) out) out
