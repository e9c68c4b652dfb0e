use Rattle.tracker.proofs.Deleting.{Deleting, deleting_start, deleting_room, deleting_turn, deleting_done}
use Rattle.tracker.proofs.Nexts.{next_less}
use Rattle.tracker.specs.Rows.{pairs, held}
use Rattle.rope.proofs.Queue.{short}
use Rattle.rope.specs.declared.change.Change.TheVariants as Ch
use Rattle.rope.specs.declared.change.Delete.{Delete}
use Prim.Native.Nat.{◌+◌, ◌-◌}
use mathlib.Core.Path.{refl, sym, subst, ◌∙◌}
use mathlib.Core.Bool.{false}
use native.Mathlib.Omega.{arith}
use Rattle.tracker.proofs.seen.count_deleted_with.Goals as goal

pub loop-i-init : goal.loop-i-init
loop-i-init c = let a = c.args in (deleting_start false (pairs a.ka a.a.now) (pairs a.ka a.a.now) (held a.h a.e.now a.t.now) a.n a.s.now a.d c.requires.0.stored c.requires.1 a.q.now, refl)

pub push_row-m-requires : goal.push_row-m-requires
push_row-m-requires c = let l = c.loop-i in let a = c.args in let x = c.next_piece-step in deleting_room false (pairs a.ka a.a.now) (pairs a.ka a.a.now) (held a.h a.e.now a.t.now) a.n a.s.now a.d c.requires.0.stored l.i l.from l.left l.gone l.m l.q l.invariant.0 x.result x.ensures (omega (arith, l.invariant.1, c.requires.2))

pub keep_last-k-requires : goal.keep_last-k-requires
keep_last-k-requires c = let l = c.loop-i in let a = c.args in let g = c.push_row-m in omega (arith, g.auto.q, g.ensures.few, short (Ch.Delete l.left) c.next_piece-step.result.piece, l.invariant.0.tally.one, l.invariant.1, c.requires.2)

pub overflow_add-gone : goal.overflow_add-gone
overflow_add-gone c = let l = c.loop-i in let a = c.args in let x = c.next_piece-step in let g = c.push_row-m in let k = c.keep_last-k in let v = deleting_turn false (pairs a.ka a.a.now) (pairs a.ka a.a.now) (held a.h a.e.now a.t.now) a.n a.s.now a.d c.requires.0.stored l.i l.from l.left l.gone l.m l.q l.invariant.0 x.result x.ensures g.result k.result g.new.q k.new.q g.ensures k.ensures in omega (arith, v.sum)

pub loop-i-smaller : goal.loop-i-smaller
loop-i-smaller c = let l = c.loop-i in let a = c.args in let x = c.next_piece-step in next_less false (pairs a.ka a.a.now) (pairs a.ka a.a.now) (held a.h a.e.now a.t.now) a.n a.s.now c.requires.0.stored l.i l.from x.result x.ensures

pub loop-i-preserved : goal.loop-i-preserved
loop-i-preserved c = let l = c.loop-i in let a = c.args in let x = c.next_piece-step in let g = c.push_row-m in let k = c.keep_last-k in let v = deleting_turn false (pairs a.ka a.a.now) (pairs a.ka a.a.now) (held a.h a.e.now a.t.now) a.n a.s.now a.d c.requires.0.stored l.i l.from l.left l.gone l.m l.q l.invariant.0 x.result x.ensures g.result k.result g.new.q k.new.q g.ensures k.ensures in (subst (λ (z : Delete). Deleting false (pairs a.ka a.a.now) (pairs a.ka a.a.now) (held a.h a.e.now a.t.now) a.n a.s.now a.d x.result.row x.result.from z (l.gone + k.result) (g.result - k.result) k.new.q) (sym c.after-left.ensures) v, k.auto.q ∙ (g.auto.q ∙ l.invariant.1))

pub returns : goal.returns
returns c = let l = c.loop-i in let a = c.args in deleting_done false (pairs a.ka a.a.now) (pairs a.ka a.a.now) (held a.h a.e.now a.t.now) a.n a.s.now a.d c.requires.0.stored l.i l.from l.left l.gone l.m l.q l.invariant.0 c.loop-i-test.false
