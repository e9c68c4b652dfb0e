use Rattle.tracker.proofs.FollowLaws.{sum_turn, sum_done}
use Rattle.history.specs.Edit.{Range}
use borrow.Author.Rules.{rules}
use mathlib.Core.Path.{ap, ◌∙◌}
use Rattle.tracker.proofs.taken.sum_ranges.Goals as goal

pub loop-j-preserved : goal.loop-j-preserved
loop-j-preserved c = let l = c.loop-j in let a = c.args in sum_turn a.m a.t.now l.j l.sum l.invariant c.loop-j-test.true _ (c.from-sum.ensures ∙ ap (λ (q : Range). q.len) c.get_target.ensures) (search rules)

pub returns : goal.returns
returns c = let l = c.loop-j in let a = c.args in sum_done a.m a.t.now l.j l.sum l.invariant c.loop-j-test.false
