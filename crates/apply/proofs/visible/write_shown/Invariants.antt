use Rattle.apply.proofs.Shown.{Showing}
use Rattle.apply.proofs.visible.write_shown.Given as goal

abbrev pub invariant-loop-i : goal.invariant-loop-i
invariant-loop-i l = Showing l.n l.s l.i l.row l.initial.out l.out
