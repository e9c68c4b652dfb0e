use Rattle.std.proofs.Common.{◌≡◌, refl, arith, rules}
use Rattle.session.proofs.SayLaws.{says_first, says_next, says_all}
use Rattle.session.proofs.look.rows.Goals as goal

pub loop-i-init : goal.loop-i-init
loop-i-init c = let a = c.args in (refl, says_first _ a.start a.text.now)

pub loop-i-preserved : goal.loop-i-preserved
loop-i-preserved c = (search rules, says_next _ _ c.loop-i.i _ c.loop-i.invariant.1 c.row_at-at.ensures)

pub returns : goal.returns
returns c = let a = c.args in let e : c.loop-i.i ≡ a.n = omega arith in says_all _ a.start a.text.now e c.loop-i.invariant.1
