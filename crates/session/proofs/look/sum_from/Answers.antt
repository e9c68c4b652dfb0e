use Rattle.std.proofs.Common.{◌<◌, length, sym, ◌∙◌, rules}
use Rattle.session.proofs.LinesLaws.{sum_next, sum_last}
use Rattle.session.proofs.look.sum_from.Goals as goal

pub loop-b-preserved : goal.loop-b-preserved
loop-b-preserved c = let l = c.loop-b in (search rules, rw c.from.ensures (sym (sum_next c.args.s.now l.b-index l.sum c.loop-b-test.true) ∙ l.invariant.1))

pub returns : goal.returns
returns c = let l = c.loop-b in sym (sum_last c.args.s.now l.b-index l.sum c.loop-b-test.false) ∙ l.invariant.1
