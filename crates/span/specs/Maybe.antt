-- What may be missing, and what is a value or a refusal. Assumes nothing.
use Rattle.std.specs.Prelude.{ℕ, Option, Result}
use Rattle.span.specs.declared.chunk.RichtextChunk.{RichtextChunk}
use Rattle.span.specs.declared.ids.Id.{Id}
use Rattle.span.specs.declared.ids.IdSpan.{IdSpan}
use Rattle.span.specs.declared.refusal.Refusal.{Refusal}
use Rattle.span.specs.declared.span.FugueSpan.{FugueSpan}
use Rattle.span.specs.declared.status.Status.{Status}

-- an id, or none: an origin at the list's end, or a real id that is not known
abbrev pub OptId : Type 0
OptId = Option Id

-- a status, or none
abbrev pub OptStatus : Type 0
OptStatus = Option Status

-- a counter as a natural number, or none where it is below zero
abbrev pub Counter : Type 0
Counter = Option ℕ

-- a value, or the refusal
abbrev pub ChunkAnswer : Type 0
ChunkAnswer = Result RichtextChunk Refusal

abbrev pub IdSpanAnswer : Type 0
IdSpanAnswer = Result IdSpan Refusal

abbrev pub StatusAnswer : Type 0
StatusAnswer = Result Status Refusal

abbrev pub SpanAnswer : Type 0
SpanAnswer = Result FugueSpan Refusal
