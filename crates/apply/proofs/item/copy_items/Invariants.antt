use Rattle.apply.specs.Items.{item_in}
use Rattle.apply.proofs.Tabs.{Copy}
use Rattle.apply.proofs.item.copy_items.Given as goal

abbrev pub invariant-loop-i : goal.invariant-loop-i
invariant-loop-i l = Copy (item_in l.old) l.from l.n l.row l.i l.initial.out l.out
