use Rattle.tracker.proofs.Reaches.{Ranged}
use Rattle.tracker.proofs.look.ranges_reach.Given as goal

abbrev pub invariant-loop-i : goal.invariant-loop-i
invariant-loop-i l = Ranged l.t l.at l.k l.peer l.c l.most l.hit l.len l.i
