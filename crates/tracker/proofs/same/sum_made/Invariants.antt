use Rattle.tracker.proofs.MadeLaws.{Made}
use Rattle.tracker.proofs.same.sum_made.Given as goal

abbrev pub invariant-loop-i : goal.invariant-loop-i
invariant-loop-i l = Made l.h l.e l.i l.sum
