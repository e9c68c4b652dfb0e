use Rattle.tracker.specs.Rows.{to_range}
use Rattle.tracker.proofs.Reaches.{ranged_turn, ranged_end}
use mathlib.Core.Path.{refl}
use Rattle.tracker.proofs.look.ranges_reach.Goals as goal

pub loop-i-preserved : goal.loop-i-preserved
loop-i-preserved c = let rr = c.range_reach-found in let gt = c.get_target in let l = c.loop-i in let a = c.args in ranged_turn a.t.now a.at a.k a.peer a.c a.most l.hit l.len l.i l.invariant c.loop-i-test.true (to_range gt.result) gt.ensures rr.result rr.ensures _ refl

pub returns : goal.returns
returns c = let l = c.loop-i in let a = c.args in ranged_end a.t.now a.at a.k a.peer a.c a.most l.hit l.len l.i l.invariant c.loop-i-test.false
