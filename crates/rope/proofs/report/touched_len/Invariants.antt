use Rattle.rope.proofs.Reporting.{Touch}
use Rattle.rope.proofs.report.touched_len.Given as goal

abbrev pub invariant-loop-i : goal.invariant-loop-i
invariant-loop-i l = Touch l.initial.left l.n l.s l.left l.i l.k
