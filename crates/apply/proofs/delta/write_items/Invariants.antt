use Rattle.apply.specs.Items.{items_in}
use Rattle.apply.specs.Said.{entry_at}
use Rattle.apply.proofs.Written.{Going}
use Rattle.apply.proofs.delta.write_items.Given as goal

abbrev pub invariant-loop-i : goal.invariant-loop-i
invariant-loop-i l = Going (entry_at l.columns) l.columns.len (items_in l.old) l.i l.from l.row l.initial.out l.out
