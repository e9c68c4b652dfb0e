use lib.ListN.{length, drop}
use Rattle.store.specs.Row.{rows}
use Rattle.units.specs.Delta.{entries_from, entries}
use Rattle.rope.proofs.Diffs.{Going}
use Rattle.rope.proofs.Fills.{Filling}
use Rattle.rope.proofs.diff.write_entries.Given as goal

abbrev pub invariant-loop-next : goal.invariant-loop-next
invariant-loop-next l = Going l.n l.s l.i l.gap l.k × Filling (entries (rows l.n l.s)) (entries_from (drop l.i (rows l.n l.s)) l.gap) l.k l.initial.kind l.initial.a l.initial.b l.initial.peer l.initial.counter l.initial.lamport l.kind l.a l.b l.peer l.counter l.lamport

abbrev pub decreases-loop-next : goal.decreases-loop-next
decreases-loop-next l = length (entries_from (drop l.i (rows l.n l.s)) l.gap)
