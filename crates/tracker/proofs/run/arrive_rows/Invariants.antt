use Rattle.tracker.proofs.Batching.{Going}
use Rattle.tracker.proofs.run.arrive_rows.Given as goal

abbrev pub invariant-loop-i : goal.invariant-loop-i
invariant-loop-i l = Going l.initial.s l.initial.t l.initial.e l.n l.rows l.i l.s l.t l.e
