use Rattle.std.proofs.Common.{◌≡◌, ◌+◌, arith}
use Rattle.apply.specs.Items.{item_in}
use Rattle.apply.proofs.Tabs.{copy_start, copy_next}
use Rattle.apply.proofs.item.copy_items.Goals as goal

pub loop-i-init : goal.loop-i-init
loop-i-init c = copy_start _ _ _ _ _ c.requires.1

pub loop-i-preserved : goal.loop-i-preserved
loop-i-preserved c =
    let l = c.loop-i in
    let h = c.get_item.ensures in
    let read : c.get_item.result ≡ item_in c.args.old.now (c.args.from + l.i) = grind (arith, h) in
    copy_next _ _ _ _ _ _ _ l.invariant c.loop-i-test.true _ read _ c.put_item.ensures
