use Rattle.rope.proofs.Held.{Summed}
use Rattle.rope.proofs.update.held_in.Given as goal

abbrev pub invariant-loop-i : goal.invariant-loop-i
invariant-loop-i l = Summed l.n l.u l.s l.i l.sum
