-- How a session ends: the error of reading, or else that of writing.
use Rattle.std.specs.Prelude.{Option, Some, None, Result, Ok, Err}

abbrev pub ended : {E : Type 0} → Option E → Option E → Result (Unit {0}) E
ended (Some e) written = Err e
ended None (Some e) = Err e
ended None None = Ok (tt {0})
