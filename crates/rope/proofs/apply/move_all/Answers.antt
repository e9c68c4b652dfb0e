use native.Mathlib.Omega.{arith}
use mathlib.Core.Path.{◌∙◌}
use Rattle.rope.proofs.Queue.{all_turn, all_done}
use Rattle.rope.proofs.apply.move_all.Goals as goal

pub loop-j-preserved : goal.loop-j-preserved
loop-j-preserved c = let a = c.args in let l = c.loop-j in let p = c.put_row in (p.auto.s ∙ l.invariant.0, all_turn a.w a.m a.s.now a.q.now l.s l.j l.invariant.1 c.get_row.result p.new.s c.loop-j-test.true (omega (arith, c.loop-j-test.true, c.requires, l.invariant)) c.get_row.ensures p.ensures)

pub returns : goal.returns
returns c = let a = c.args in let l = c.loop-j in all_done a.w a.m a.s.now a.q.now l.s l.j l.invariant.1 (omega (arith, c.loop-j-test.false)) (omega (arith, l.auto.j-end))
