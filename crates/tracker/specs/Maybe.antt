-- What may be missing. Assumes nothing.
use Rattle.std.specs.Prelude.{Option}
use Rattle.tracker.specs.declared.row.Target.{Target}

-- the last target range taken, or none
abbrev pub OptTarget : Type 0
OptTarget = Option Target
