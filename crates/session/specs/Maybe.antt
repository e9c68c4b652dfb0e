-- What may be missing. Assumes nothing.
use Rattle.std.specs.Prelude.{Option}
use Rattle.span.specs.declared.span.FugueSpan.{FugueSpan}

-- a row of a store's list, or none past its room
abbrev pub Row : Type 0
Row = Option FugueSpan
