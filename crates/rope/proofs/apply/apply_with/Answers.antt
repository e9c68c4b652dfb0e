use Rattle.rope.proofs.Queue.{short}
use Rattle.rope.specs.Pieces.{after_of}
use Rattle.rope.specs.declared.change.Change.{Change}
use Rattle.rope.proofs.Working.{Work, work_start, wait_few, wait_joined, row_fit, work_turn, end_room, work_done}
use mathlib.Core.Path.{refl, sym, ap, subst, ◌∙◌}
use native.Mathlib.Omega.{arith}
use Prim.Native.Nat.{◌+◌, ◌-◌}
use Rattle.span.specs.declared.span.FugueSpan.{FugueSpan}
use Rattle.rope.specs.Pieces.{pieces_of}
use Rattle.rope.specs.Applies.{Fit, Grown}
use Rattle.rope.proofs.apply.apply_with.Goals as goal

pub loop-i-init : goal.loop-i-init
loop-i-init c = let a = c.args in (work_start a.e a.n a.s.now a.q.now c.requires.0 c.requires.1, refl)

pub push_row-m-requires : goal.push_row-m-requires
push_row-m-requires c = let l = c.loop-i in let v = l.invariant.0 in let a = c.args in let h = c.loop-i-test.true in let k = wait_few a.e a.n a.s.now l.left l.i l.w l.m l.s l.q v in (record { long = omega (arith, c.loop-i.invariant.0.queue, k); joined = wait_joined a.e a.n a.s.now l.left l.i l.w l.m l.s l.q v }, omega (arith, c.loop-i.invariant.0.queue, k), subst (λ (r : FugueSpan). Fit l.left r) (sym c.get_row-row.ensures) (row_fit a.e a.n a.s.now l.left l.i l.w l.m l.s l.q v h))

pub after-left-requires : goal.after-left-requires
after-left-requires c = let l = c.loop-i in let v = l.invariant.0 in let a = c.args in (row_fit a.e a.n a.s.now l.left l.i l.w l.m l.s l.q v c.loop-i-test.true).can

pub move_first-k-requires : goal.move_first-k-requires
move_first-k-requires c = let l = c.loop-i in let v = l.invariant.0 in let a = c.args in let h = c.loop-i-test.true in let g = c.push_row-m in let k = wait_few a.e a.n a.s.now l.left l.i l.w l.m l.s l.q v in (omega (arith, c.loop-i.invariant.0.long, c.loop-i.invariant.0.low, h), omega (arith, c.loop-i.invariant.0.queue, k, g.auto.q, g.ensures.few, short l.left c.get_row-row.result))

pub loop-i-preserved : goal.loop-i-preserved
loop-i-preserved c = let l = c.loop-i in let v = l.invariant.0 in let a = c.args in let h = c.loop-i-test.true in let g = c.push_row-m in let mv = c.move_first-k in let x = c.get_row-row in (subst (λ (z : Change). Work a.e a.n a.s.now z (l.i + 1) (l.w + mv.result) (g.result - mv.result) mv.new.s mv.new.q) (sym (c.after-left.ensures ∙ ap (after_of l.left) x.ensures)) (work_turn a.e a.n a.s.now l.left l.i l.w l.m l.s l.q v h g.result mv.result g.new.q mv.new.s mv.new.q (subst (λ (r : FugueSpan). Grown l.m (pieces_of l.left r) g.result l.q g.new.q) x.ensures g.ensures) mv.ensures mv.auto.s (mv.auto.q ∙ g.auto.q)), mv.auto.q ∙ (g.auto.q ∙ l.invariant.1))

pub move_all-requires : goal.move_all-requires
move_all-requires c = let l = c.loop-i in let v = l.invariant.0 in let a = c.args in let h = c.loop-i-test.false in (end_room a.e a.n a.s.now l.left l.i l.w l.m l.s l.q v (omega (arith, h)) c.requires.0.room, omega (arith, c.loop-i.invariant.0.queue, wait_few a.e a.n a.s.now l.left l.i l.w l.m l.s l.q v))

pub returns : goal.returns
returns c = let l = c.loop-i in let v = l.invariant.0 in let a = c.args in let h = c.loop-i-test.false in work_done a.e a.n a.s.now l.left l.i l.w l.m l.s l.q v (omega (arith, h)) c.move_all.new.s c.move_all.ensures
