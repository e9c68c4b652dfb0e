use Rattle.rope.specs.Pieces.{delete_cut, delete_after}
use native.Mathlib.Omega.{arith}
use mathlib.Core.Path.{ap, ◌∙◌}
use Rattle.rope.proofs.Reporting.{touch_turn, touch_done}
use Rattle.rope.proofs.report.touched_len.Goals as goal

pub loop-i-preserved : goal.loop-i-preserved
loop-i-preserved c = let l = c.loop-i in let v = l.invariant in let a = c.args in let g = c.get_row-row.ensures in touch_turn a.d a.n a.s.now l.left l.i l.k v c.loop-i-test.true c.some-k.result c.cut-part.result c.after-left.result (c.cut-part.ensures ∙ ap (delete_cut l.left) g) c.some-k.ensures (c.after-left.ensures ∙ ap (delete_after l.left) g)

pub returns : goal.returns
returns c = let l = c.loop-i in let v = l.invariant in let a = c.args in touch_done a.d a.n a.s.now l.left l.i l.k v (omega (arith, c.loop-i-test.false))
