use Rattle.rope.proofs.Exacts.{Going}
use Rattle.rope.proofs.exact.rows_after.Given as goal

abbrev pub invariant-loop-i : goal.invariant-loop-i
invariant-loop-i l = Going l.n l.u l.s l.t l.i
