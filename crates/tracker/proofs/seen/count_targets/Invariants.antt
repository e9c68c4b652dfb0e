use Rattle.tracker.proofs.Taking.{Taking}
use Rattle.tracker.specs.Ahead.{ahead}
use Rattle.tracker.specs.Rows.{pairs, held}
use lib.ListN.{length}
use mathlib.Core.Bool.{false}
use Rattle.tracker.proofs.seen.count_targets.Given as goal

abbrev pub invariant-loop-i : goal.invariant-loop-i
invariant-loop-i l = Taking false (pairs l.ka l.a) (pairs l.ka l.a) (held l.h l.e l.t) l.n l.s l.initial.left l.i l.from l.left l.ranges

abbrev pub decreases-loop-i : goal.decreases-loop-i
decreases-loop-i l = length (ahead l.n l.s l.i l.from)
