use lib.ListN.{length}
use Rattle.tracker.specs.Rows.{pairs, held}
use Rattle.tracker.specs.Ahead.{ahead}
use Rattle.tracker.proofs.Lefts.{Seek}
use Rattle.tracker.proofs.fits.find_left.Given as goal

abbrev pub invariant-loop-left : goal.invariant-loop-left
invariant-loop-left l = Seek (pairs l.m l.v) (held l.h l.e l.t) l.n l.s l.at l.i l.from l.left

abbrev pub decreases-loop-left : goal.decreases-loop-left
decreases-loop-left l = length (ahead l.n l.s l.i l.from)
