use Rattle.tracker.proofs.Targeting.{taking_start, taking_asks, taking_turn, taking_done}
use Rattle.rope.specs.Pieces.{delete_cut, delete_after}
use mathlib.Core.Path.{ap, ◌∙◌}
use native.Mathlib.Omega.{arith}
use Rattle.tracker.proofs.targets.put_targets.Goals as goal

pub loop-i-init : goal.loop-i-init
loop-i-init c = let a = c.args in taking_start a.d a.n a.at a.s.now a.t.now c.requires.0.can

pub add_part-k-requires : goal.add_part-k-requires
add_part-k-requires c = let a = c.args in let l = c.loop-i in let g = c.get_row-row in let p = c.cut-part in
    taking_asks a.d a.n a.at a.s.now a.t.now l.left l.i l.k l.t l.invariant c.loop-i-test.true c.requires.0.each c.requires.1 g.result p.result g.ensures (p.ensures ∙ ap (delete_cut l.left) g.ensures)

pub loop-i-preserved : goal.loop-i-preserved
loop-i-preserved c = let a = c.args in let l = c.loop-i in let g = c.get_row-row in let p = c.cut-part in let w = c.add_part-k in
    taking_turn a.d a.n a.at a.s.now a.t.now l.left l.i l.k l.t l.invariant c.loop-i-test.true c.requires.0.each c.requires.1 g.result p.result c.after-left.result g.ensures (p.ensures ∙ ap (delete_cut l.left) g.ensures) (c.after-left.ensures ∙ ap (delete_after l.left) g.ensures) w.result w.new.t w.auto.t w.ensures

pub returns : goal.returns
returns c = let a = c.args in let l = c.loop-i in taking_done a.d a.n a.at a.s.now a.t.now l.left l.i l.k l.t l.invariant (omega (arith, c.loop-i-test.false))
