use Rattle.tracker.proofs.Targeting.{Taking}
use Rattle.tracker.proofs.targets.put_targets.Given as goal

abbrev pub invariant-loop-i : goal.invariant-loop-i
invariant-loop-i l = Taking l.initial.left l.n l.at l.s l.initial.t l.left l.i l.k l.t
