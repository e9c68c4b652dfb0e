use Rattle.text.proofs.PartsLaws.{last_same}
use Rattle.std.proofs.Common.{◌∙◌}
use Rattle.text.proofs.parts.without_back.Goals as goal

pub loop-text-preserved : goal.loop-text-preserved
loop-text-preserved c = let l = c.loop-text in let a = c.args in
    let p = last_same a.b a.s.now l.text.now l.invariant.1 c.in-len1-up.len_at_least c.if-last-b.false in
    (p.0 ∙ l.invariant.0, p.1)
