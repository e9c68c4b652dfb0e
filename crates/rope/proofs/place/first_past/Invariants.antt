use Rattle.units.specs.Place.{first_past}
use Rattle.store.specs.Listed.{spans}
use Rattle.span.specs.Units.{expand}
use Rattle.rope.specs.Spans.{AllOk}
use lib.ListN.{drop}
use mathlib.Core.Path.{◌≡◌}
use Rattle.rope.proofs.place.first_past.Given as goal

abbrev pub invariant-loop-row : goal.invariant-loop-row
invariant-loop-row l = AllOk (spans (drop l.row-index l.rows)) × (first_past (expand (spans (drop l.row-index l.rows))) ≡ first_past (expand (spans l.rows)))
