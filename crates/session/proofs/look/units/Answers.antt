use Rattle.std.proofs.Common.{◌≡◌, refl, arith, rules}
use Rattle.session.proofs.SayLaws.{says_first, says_next, says_all}
use Rattle.session.proofs.look.units.Goals as goal

pub loop-k-init : goal.loop-k-init
loop-k-init c = let a = c.args in (refl, says_first _ a.start a.text.now)

pub loop-k-preserved : goal.loop-k-preserved
loop-k-preserved c = (search rules, says_next _ _ c.loop-k.k _ c.loop-k.invariant.1 c.unit-at.ensures)

pub returns : goal.returns
returns c = let a = c.args in let e : c.loop-k.k ≡ a.n = omega arith in says_all _ a.start a.text.now e c.loop-k.invariant.1
