use mathlib.Core.Path.{◌≡◌}
use lib.ListN.{drop}
use Rattle.span.specs.Units.{expand}
use Rattle.store.specs.Listed.{spans}
use Rattle.units.specs.Store.{origins_named}
use Rattle.rope.proofs.check.origins.Given as goal

abbrev pub invariant-loop-row : goal.invariant-loop-row
invariant-loop-row l = origins_named (spans (drop l.row-index l.rows)) (expand (spans l.rows)) ≡ origins_named (spans l.rows) (expand (spans l.rows))
