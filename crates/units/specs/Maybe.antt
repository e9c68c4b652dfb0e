-- What may be missing. Assumes nothing.
use Rattle.std.specs.Prelude.{ℕ, Option}

-- a lamport, or none: that of a unit whose peer is not known
abbrev pub OptLamport : Type 0
OptLamport = Option ℕ
