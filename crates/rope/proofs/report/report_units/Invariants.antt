use Rattle.rope.proofs.Reporting.{Back}
use Rattle.rope.proofs.report.report_units.Given as goal

abbrev pub invariant-loop-i : goal.invariant-loop-i
invariant-loop-i l = Back l.d l.n l.s l.initial.out l.left l.i l.out
