use Rattle.store.specs.Listed.{spans}
use lib.ListN.{drop}
use mathlib.Core.Path.{◌≡◌}
use Rattle.units.specs.Store.{joined_rows}
use Rattle.rope.proofs.check.joined.Given as goal

abbrev pub invariant-loop-i : goal.invariant-loop-i
invariant-loop-i l = joined_rows (spans (drop l.i l.rows)) ≡ joined_rows (spans l.rows)
