use Rattle.tracker.proofs.MadeLaws.{Searched}
use Rattle.tracker.proofs.same.reach_edits.Given as goal

abbrev pub invariant-loop-i : goal.invariant-loop-i
invariant-loop-i l = Searched l.row l.k l.h l.e l.i
