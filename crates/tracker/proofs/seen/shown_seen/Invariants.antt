use Rattle.tracker.proofs.Nexts.{Sum}
use Rattle.tracker.specs.Ahead.{ahead}
use Rattle.tracker.specs.Rows.{pairs, held}
use lib.ListN.{length}
use Rattle.tracker.proofs.seen.shown_seen.Given as goal

abbrev pub invariant-loop-i : goal.invariant-loop-i
invariant-loop-i l = Sum l.both (pairs l.ka l.a) (pairs l.kb l.b) (held l.h l.e l.t) l.n l.s l.i l.from l.sum

abbrev pub decreases-loop-i : goal.decreases-loop-i
decreases-loop-i l = length (ahead l.n l.s l.i l.from)
