use Rattle.rope.specs.Applies.{Fit, Grown}
use Rattle.rope.specs.Pieces.{pieces_of, after_of}
use Rattle.rope.specs.declared.change.Change.{Change}
use Rattle.span.specs.declared.span.FugueSpan.{FugueSpan}
use Prim.Native.Nat.{◌+◌, ◌-◌}
use native.Mathlib.Omega.{arith}
use mathlib.Core.Path.{refl, sym, ap, subst, ◌∙◌}
use Rattle.rope.proofs.Queue.{short}
use Rattle.rope.proofs.Counting.{Tally, tally_start, tally_joined, tally_fit, tally_turn, tally_done}
use Rattle.rope.proofs.apply.count_with.Goals as goal

pub loop-i-init : goal.loop-i-init
loop-i-init c = let a = c.args in (tally_start a.e a.n a.s.now a.q.now c.requires.0 c.requires.1, refl)

pub push_row-m-requires : goal.push_row-m-requires
push_row-m-requires c = let l = c.loop-i in let v = l.invariant.0 in let a = c.args in let h = c.loop-i-test.true in (record { long = omega (arith, c.loop-i.invariant.0.queue, c.loop-i.invariant.0.one); joined = tally_joined a.e a.n a.s.now l.left l.i l.gone l.m l.q v }, omega (arith, c.loop-i.invariant.0.queue, c.loop-i.invariant.0.one), subst (λ (r : FugueSpan). Fit l.left r) (sym c.get_row-row.ensures) (tally_fit a.e a.n a.s.now l.left l.i l.gone l.m l.q v h))

pub after-left-requires : goal.after-left-requires
after-left-requires c = let l = c.loop-i in let v = l.invariant.0 in let a = c.args in (tally_fit a.e a.n a.s.now l.left l.i l.gone l.m l.q v c.loop-i-test.true).can

pub keep_last-k-requires : goal.keep_last-k-requires
keep_last-k-requires c = let l = c.loop-i in let v = l.invariant.0 in let a = c.args in let g = c.push_row-m in omega (arith, c.loop-i.invariant.0.queue, c.loop-i.invariant.0.one, g.auto.q, g.ensures.few, short l.left c.get_row-row.result)

pub overflow_add-gone : goal.overflow_add-gone
overflow_add-gone c = let l = c.loop-i in let v = l.invariant.0 in let a = c.args in let g = c.push_row-m in omega (arith, c.loop-i.invariant.0.sum, c.loop-i.invariant.0.one, g.ensures.few, short l.left c.get_row-row.result, c.keep_last-k.ensures.most, c.loop-i-test.true, c.requires.0.few)

pub loop-i-preserved : goal.loop-i-preserved
loop-i-preserved c = let l = c.loop-i in let v = l.invariant.0 in let a = c.args in let h = c.loop-i-test.true in let g = c.push_row-m in let kp = c.keep_last-k in let x = c.get_row-row in (subst (λ (z : Change). Tally a.e a.n a.s.now z (l.i + 1) (l.gone + kp.result) (g.result - kp.result) kp.new.q) (sym (c.after-left.ensures ∙ ap (after_of l.left) x.ensures)) (tally_turn a.e a.n a.s.now l.left l.i l.gone l.m l.q v h g.result kp.result g.new.q kp.new.q (subst (λ (r : FugueSpan). Grown l.m (pieces_of l.left r) g.result l.q g.new.q) x.ensures g.ensures) kp.ensures (kp.auto.q ∙ g.auto.q)), kp.auto.q ∙ (g.auto.q ∙ l.invariant.1))

pub returns : goal.returns
returns c = let l = c.loop-i in let v = l.invariant.0 in let a = c.args in tally_done a.e a.n a.s.now l.left l.i l.gone l.m l.q v (omega (arith, c.loop-i-test.false))
