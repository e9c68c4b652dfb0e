use Rattle.std.proofs.Common.{◌*◌, List, ap, refl, arith, ◌∙◌}
use Rattle.words.specs.Le.{put}
use Rattle.apply.specs.declared.item.Item.{Item}
use Rattle.apply.specs.Apply.{item_of}
use Rattle.apply.specs.Items.{items_bytes}
use Rattle.apply.proofs.Tabs.{copy_start, copy_next, copy_end, unit_zero, units_items}
use Rattle.apply.proofs.item.put_units.Goals as goal

pub loop-i-init : goal.loop-i-init
loop-i-init c = copy_start _ _ _ _ _ c.requires.1

pub loop-i-preserved : goal.loop-i-preserved
loop-i-preserved c = copy_next _ _ _ _ _ _ _ c.loop-i.invariant (omega (arith, c.loop-i-test.true, c.rle_len-i-end.ensures)) _ (c.item_of.ensures ∙ (ap item_of c.piece.ensures ∙ unit_zero _ c.loop-i.i)) _ c.put_item.ensures

pub returns : goal.returns
returns c = copy_end _ _ _ _ _ _ _ c.loop-i.invariant (omega (arith, c.loop-i-test.false, c.rle_len-i-end.ensures)) ∙ ap (λ (m : List Item). put (c.args.row * 24) (items_bytes m) c.args.out.now) (units_items _ _ refl)
