use Rattle.tracker.proofs.Deleting.{Deleting}
use Rattle.tracker.specs.Ahead.{ahead}
use Rattle.tracker.specs.Rows.{pairs, held}
use lib.ListN.{length}
use mathlib.Core.Path.{◌≡◌}
use mathlib.Core.Bool.{false}
use Rattle.tracker.proofs.seen.count_deleted_with.Given as goal

abbrev pub invariant-loop-i : goal.invariant-loop-i
invariant-loop-i l = Deleting false (pairs l.ka l.a) (pairs l.ka l.a) (held l.h l.e l.t) l.n l.s l.initial.left l.i l.from l.left l.gone l.m l.q × (length l.q ≡ length l.initial.q)

abbrev pub decreases-loop-i : goal.decreases-loop-i
decreases-loop-i l = length (ahead l.n l.s l.i l.from)
