use Rattle.units.specs.Codes.{counts_fit}
use Rattle.store.specs.Listed.{spans}
use Rattle.span.specs.Units.{expand}
use Rattle.rope.specs.Spans.{AllOk}
use lib.ListN.{drop}
use lib.IntN.{pos}
use mathlib.Core.Path.{◌≡◌}
use Rattle.rope.proofs.update.counts_fit.Given as goal

abbrev pub invariant-loop-row : goal.invariant-loop-row
invariant-loop-row l = AllOk (spans (drop l.row-index l.rows)) × (counts_fit l.fn.u.peer (pos l.fn.u.from) (pos l.fn.u.to) l.fn.u.change l.fn.u.diff (expand (spans (drop l.row-index l.rows))) ≡ counts_fit l.fn.u.peer (pos l.fn.u.from) (pos l.fn.u.to) l.fn.u.change l.fn.u.diff (expand (spans l.rows)))
