-- What may be missing, and what is a value or a refusal. Assumes nothing.
use Rattle.std.specs.Prelude.{ℕ, Option, Result}
use Rattle.span.specs.declared.ids.Id.{Id}
use Rattle.span.specs.declared.refusal.Refusal.{Refusal}
use Rattle.units.specs.declared.diff.Entry.{Entry}

-- which unit of a span has an id, or none
abbrev pub Offset : Type 0
Offset = Option ℕ

-- the row that has an id and the unit of it, or none
abbrev pub Found : Type 0
Found = Option (ℕ × ℕ)

-- what a span adds to the delta, or nothing
abbrev pub Change : Type 0
Change = Option Entry

-- the visible length, or the refusal
abbrev pub LenAnswer : Type 0
LenAnswer = Result ℕ Refusal

-- a real id and the units left in its span, or nothing; or the refusal
abbrev pub RealAnswer : Type 0
RealAnswer = Result (Option (Id × ℕ)) Refusal

-- the number of entries, or the refusal
abbrev pub DiffAnswer : Type 0
DiffAnswer = Result ℕ Refusal

-- the number of removed pieces, or the refusal
abbrev pub DeleteAnswer : Type 0
DeleteAnswer = Result ℕ Refusal
