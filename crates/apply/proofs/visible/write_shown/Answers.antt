use Rattle.apply.proofs.Shown.{showing_next}
use Rattle.apply.proofs.visible.write_shown.Goals as goal

pub loop-i-preserved : goal.loop-i-preserved
loop-i-preserved c = let l = c.loop-i in showing_next _ _ l.i l.row _ _ l.invariant c.loop-i-test.true _ c.get_row-span.ensures _ c.active_of-row.ensures.0 _ c.put_shown.ensures
