-- k records are stored, and the rest of the entries is left: what the loop stands at
use lib.ListN.{length, drop}
use Rattle.store.specs.Row.{rows}
use Rattle.units.specs.Delta.{entries_from, entries}
use Rattle.rope.proofs.Diffs.{Going}
use Rattle.records.proofs.Stands.{Standing}
use Rattle.records.proofs.write_records.Given as goal

abbrev pub invariant-loop-next : goal.invariant-loop-next
invariant-loop-next l = Going l.n l.s l.i l.gap l.k × Standing (entries (rows l.n l.s)) (entries_from (drop l.i (rows l.n l.s)) l.gap) l.k l.initial.out l.out

abbrev pub decreases-loop-next : goal.decreases-loop-next
decreases-loop-next l = length (entries_from (drop l.i (rows l.n l.s)) l.gap)
