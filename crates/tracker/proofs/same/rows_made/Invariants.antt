use Rattle.tracker.specs.Made.{made_in, all_made}
use Rattle.store.specs.Row.{rows}
use Rattle.span.specs.Units.{expand}
use lib.ListN.{drop}
use mathlib.Core.Path.{◌≡◌}
use Rattle.tracker.proofs.same.rows_made.Given as goal

abbrev pub invariant-loop-i : goal.invariant-loop-i
invariant-loop-i l = all_made (made_in l.p l.h l.e) (expand (rows l.n l.s)) ≡ all_made (made_in l.p l.h l.e) (expand (drop l.i (rows l.n l.s)))
