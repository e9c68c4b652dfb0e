use Rattle.store.specs.Listed.{spans}
use lib.ListN.{take, drop}
use mathlib.Core.List.{[]}
use mathlib.Core.Path.{◌≡◌}
use Rattle.rope.specs.Spans.{apart_rows}
use Rattle.rope.proofs.check.distinct.Given as goal

abbrev pub invariant-loop-i : goal.invariant-loop-i
invariant-loop-i l = apart_rows (spans (take l.i l.rows)) (spans (drop l.i l.rows)) ≡ apart_rows [] (spans l.rows)
