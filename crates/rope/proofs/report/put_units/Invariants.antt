use Rattle.rope.proofs.Reporting.{Down}
use Rattle.rope.proofs.report.put_units.Given as goal

abbrev pub invariant-loop-u : goal.invariant-loop-u
invariant-loop-u l = Down l.top l.row l.from l.to l.initial.out l.u l.t l.out
