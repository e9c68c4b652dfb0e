use Rattle.text.proofs.PartsLaws.{lent, front_same}
use Rattle.std.proofs.Common.{◌∙◌, arith}
use Rattle.text.proofs.parts.without_front.Goals as goal

pub loop-text-preserved : goal.loop-text-preserved
loop-text-preserved c = let l = c.loop-text in rw (lent l.text.now 1) (front_same _ l.text.now (omega arith) c.if-first-b.false ∙ l.invariant)
