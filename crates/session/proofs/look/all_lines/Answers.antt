use Rattle.std.proofs.Common.{◌≡◌, refl, arith}
use Rattle.session.proofs.LinesLaws.{count_first, count_next}
use Rattle.session.proofs.look.all_lines.Goals as goal

pub loop-i-init : goal.loop-i-init
loop-i-init c = let a = c.args in count_first a.kind a.s.now

pub loop-i-preserved : goal.loop-i-preserved
loop-i-preserved c = let a = c.args in count_next a.kind a.s.now c.loop-i.i c.loop-i.invariant c.lines_at-sum.ensures refl

pub returns : goal.returns
returns c = let a = c.args in let e : a.n ≡ c.loop-i.i = omega arith in rw e c.loop-i.invariant
