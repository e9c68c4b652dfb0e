use Rattle.rope.proofs.Exacts.{going_turn}
use Rattle.rope.proofs.exact.rows_after.Goals as goal

pub loop-i-preserved : goal.loop-i-preserved
loop-i-preserved c = let a = c.args in let l = c.loop-i in going_turn a.n a.u a.s.now l.t l.i l.invariant c.loop-i-test.true c.get_row-in-loop-i.result c.row-t.result c.get_row-in-loop-i.ensures c.row-t.ensures
