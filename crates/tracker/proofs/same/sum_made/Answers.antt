use Rattle.tracker.proofs.MadeLaws.{made_turn, made_done}
use mathlib.Core.Path.{◌∙◌}
use borrow.Author.Rules.{rules}
use native.Mathlib.Omega.{arith}
use Rattle.tracker.proofs.same.sum_made.Goals as goal

pub loop-i-preserved : goal.loop-i-preserved
loop-i-preserved c = let l = c.loop-i in let a = c.args in made_turn a.h a.e.now l.i l.sum l.invariant c.loop-i-test.true _ (c.from-sum.ensures ∙ c.made_len.ensures) (search rules)

pub returns : goal.returns
returns c = let l = c.loop-i in let a = c.args in (made_done a.h a.e.now l.i l.sum l.invariant c.loop-i-test.false, omega (arith, l.invariant.small, l.invariant.low, c.requires.1))
