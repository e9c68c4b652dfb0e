-- What may be missing, and what is a value or a refusal. Assumes nothing.
use Rattle.std.specs.Prelude.{ℕ, Option, Result}
use Rattle.span.specs.declared.refusal.Refusal.{Refusal}
use Rattle.units.specs.declared.diff.Entry.{Entry}

-- an entry as it is handed in, or none of the three kinds
abbrev pub Given : Type 0
Given = Option Entry

-- how many items there are, or the refusal
abbrev pub ApplyAnswer : Type 0
ApplyAnswer = Result ℕ Refusal
