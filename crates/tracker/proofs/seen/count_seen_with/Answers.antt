use Rattle.tracker.proofs.Tallies.{counted_start, counted_room, counted_turn, counted_few, counted_done}
use Rattle.tracker.proofs.Nexts.{seen_few, next_less}
use Rattle.tracker.specs.Rows.{pairs, held}
use mathlib.Core.Path.{refl, ◌∙◌}
use native.Mathlib.Omega.{arith}
use Rattle.tracker.proofs.seen.count_seen_with.Goals as goal

pub loop-i-init : goal.loop-i-init
loop-i-init c = let a = c.args in (counted_start a.both (pairs a.ka a.a.now) (pairs a.kb a.b.now) (held a.h a.e.now a.t.now) a.n a.s.now c.requires.0.stored a.q.now, refl)

pub push-m-requires : goal.push-m-requires
push-m-requires c = let l = c.loop-i in let a = c.args in let x = c.next_piece-step in counted_room a.both (pairs a.ka a.a.now) (pairs a.kb a.b.now) (held a.h a.e.now a.t.now) a.n a.s.now l.i l.from l.gone l.m l.q l.invariant.0 x.result x.ensures (omega (arith, l.invariant.1, c.requires.1))

pub overflow_add-gone : goal.overflow_add-gone
overflow_add-gone c = let l = c.loop-i in let a = c.args in let x = c.next_piece-step in let g = c.push-m in let k = c.keep_last-k in let v = counted_turn a.both (pairs a.ka a.a.now) (pairs a.kb a.b.now) (held a.h a.e.now a.t.now) a.n a.s.now l.i l.from l.gone l.m l.q l.invariant.0 x.result x.ensures g.result k.result g.new.s k.new.q g.ensures k.ensures in omega (arith, counted_few a.both (pairs a.ka a.a.now) (pairs a.kb a.b.now) (held a.h a.e.now a.t.now) a.n a.s.now x.result.row x.result.from _ _ _ v, seen_few a.n a.s.now c.requires.0.stored a.both (pairs a.ka a.a.now) (pairs a.kb a.b.now) (held a.h a.e.now a.t.now))

pub loop-i-smaller : goal.loop-i-smaller
loop-i-smaller c = let l = c.loop-i in let a = c.args in let x = c.next_piece-step in next_less a.both (pairs a.ka a.a.now) (pairs a.kb a.b.now) (held a.h a.e.now a.t.now) a.n a.s.now c.requires.0.stored l.i l.from x.result x.ensures

pub loop-i-preserved : goal.loop-i-preserved
loop-i-preserved c = let l = c.loop-i in let a = c.args in let x = c.next_piece-step in let g = c.push-m in let k = c.keep_last-k in let v = counted_turn a.both (pairs a.ka a.a.now) (pairs a.kb a.b.now) (held a.h a.e.now a.t.now) a.n a.s.now l.i l.from l.gone l.m l.q l.invariant.0 x.result x.ensures g.result k.result g.new.s k.new.q g.ensures k.ensures in (v, k.auto.q ∙ (g.auto.s ∙ l.invariant.1))

pub overflow_add-result : goal.overflow_add-result
overflow_add-result c = let l = c.loop-i in let a = c.args in omega (arith, counted_few a.both (pairs a.ka a.a.now) (pairs a.kb a.b.now) (held a.h a.e.now a.t.now) a.n a.s.now l.i l.from l.gone l.m l.q l.invariant.0, seen_few a.n a.s.now c.requires.0.stored a.both (pairs a.ka a.a.now) (pairs a.kb a.b.now) (held a.h a.e.now a.t.now))

pub returns : goal.returns
returns c = let l = c.loop-i in let a = c.args in counted_done a.both (pairs a.ka a.a.now) (pairs a.kb a.b.now) (held a.h a.e.now a.t.now) a.n a.s.now l.i l.from l.gone l.m l.q l.invariant.0 c.loop-i-test.false
