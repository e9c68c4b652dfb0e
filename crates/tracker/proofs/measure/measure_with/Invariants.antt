use Rattle.tracker.proofs.Measuring.{Measuring}
use Rattle.tracker.specs.Ahead.{ahead}
use Rattle.tracker.specs.Rows.{pairs, held}
use lib.ListN.{length}
use mathlib.Core.Path.{◌≡◌}
use Rattle.tracker.proofs.measure.measure_with.Given as goal

abbrev pub invariant-loop-i : goal.invariant-loop-i
invariant-loop-i l = Measuring (pairs l.ka l.a) (pairs l.kb l.b) (held l.h l.e l.t) l.n l.s l.i l.from l.m l.x l.q × (length l.q ≡ length l.initial.q)

abbrev pub decreases-loop-i : goal.decreases-loop-i
decreases-loop-i l = length (ahead l.n l.s l.i l.from)
