use mathlib.Core.Path.{◌≡◌}
use lib.ListN.{drop}
use Rattle.store.specs.Listed.{spans}
use Rattle.units.specs.Query.{real_span_at}
use Rattle.rope.specs.Spans.{AllOk}
use Rattle.rope.proofs.query.real_at.Given as goal

abbrev pub invariant-loop-row : goal.invariant-loop-row
invariant-loop-row l = AllOk (spans (drop l.row-index l.rows)) × (real_span_at (spans (drop l.row-index l.rows)) l.left ≡ real_span_at (spans l.rows) l.fn.pos)
