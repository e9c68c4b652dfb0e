use Rattle.rope.proofs.Reporting.{Listing}
use Rattle.rope.proofs.report.report_rows.Given as goal

abbrev pub invariant-loop-i : goal.invariant-loop-i
invariant-loop-i l = Listing l.initial.left l.n l.s l.initial.out l.left l.i l.k l.out
