use mathlib.Core.Path.{◌≡◌}
use lib.ListN.{drop}
use Rattle.store.specs.Listed.{spans}
use Rattle.units.specs.Lists.{every}
use Rattle.units.specs.Delta.{insertable}
use Rattle.rope.proofs.diff.all_real.Given as goal

abbrev pub invariant-loop-row : goal.invariant-loop-row
invariant-loop-row l = every insertable (spans (drop l.row-index l.rows)) ≡ every insertable (spans l.rows)
