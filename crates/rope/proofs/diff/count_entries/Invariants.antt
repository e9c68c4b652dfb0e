use lib.ListN.{length, drop}
use Rattle.store.specs.Row.{rows}
use Rattle.units.specs.Delta.{entries_from}
use Rattle.rope.proofs.Diffs.{Going}
use Rattle.rope.proofs.diff.count_entries.Given as goal

abbrev pub invariant-loop-next : goal.invariant-loop-next
invariant-loop-next l = Going l.n l.s l.i l.gap l.k

abbrev pub decreases-loop-next : goal.decreases-loop-next
decreases-loop-next l = length (entries_from (drop l.i (rows l.n l.s)) l.gap)
