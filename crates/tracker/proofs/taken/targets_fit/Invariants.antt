use Rattle.tracker.proofs.TakenLaws.{Taking}
use Rattle.tracker.proofs.taken.targets_fit.Given as goal

abbrev pub invariant-loop-i : goal.invariant-loop-i
invariant-loop-i l = Taking l.n l.s l.h l.e l.t l.i l.at
