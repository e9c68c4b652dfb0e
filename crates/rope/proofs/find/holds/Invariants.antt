use Rattle.store.specs.Listed.{spans}
use lib.ListN.{drop}
use mathlib.Core.Path.{◌≡◌}
use Rattle.rope.specs.Spans.{holds_any}
use Rattle.rope.proofs.find.holds.Given as goal

abbrev pub invariant-loop-row : goal.invariant-loop-row
invariant-loop-row l = holds_any (spans (drop l.row-index l.rows)) l.x ≡ holds_any (spans l.rows) l.fn.x
