use Rattle.apply.proofs.Written.{going_next, rest_is}
use Rattle.apply.proofs.delta.write_items.Goals as goal

pub loop-i-preserved : goal.loop-i-preserved
loop-i-preserved c = let l = c.loop-i in going_next _ _ _ l.i l.from l.row _ _ l.invariant c.loop-i-test.true _ c.get-entry.ensures _ _ c.takes-from.ensures.0 c.gives-row.ensures.0 _ c.put_given.ensures

pub returns-clause-written : goal.returns-clause-written
returns-clause-written c = let l = c.loop-i in rest_is _ _ _ l.i l.from l.row _ _ l.invariant c.loop-i-test.false _ c.copy_items.ensures
