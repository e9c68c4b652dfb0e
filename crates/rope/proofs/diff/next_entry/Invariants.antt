use Rattle.store.specs.Row.{rows}
use Rattle.rope.proofs.Diffs.{Walked}
use Rattle.rope.proofs.diff.next_entry.Given as goal

abbrev pub invariant-loop-i : goal.invariant-loop-i
invariant-loop-i l = Walked (rows l.n l.s) l.from l.since l.i l.gap
