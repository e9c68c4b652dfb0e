use Rattle.tracker.proofs.Measuring.{measuring_start, measuring_room, measuring_pass, measuring_turn, measuring_last, measuring_done}
use Rattle.tracker.proofs.Nexts.{next_less}
use Rattle.tracker.specs.Rows.{pairs, held}
use mathlib.Core.Path.{refl, ◌∙◌}
use mathlib.Core.Bool.{true}
use native.Mathlib.Omega.{arith}
use Rattle.tracker.proofs.measure.measure_with.Goals as goal

pub loop-i-init : goal.loop-i-init
loop-i-init c = let a = c.args in (measuring_start (pairs a.ka a.a.now) (pairs a.kb a.b.now) (held a.h a.e.now a.t.now) a.n a.s.now c.requires.0.stored a.q.now, refl)

pub push-m-requires : goal.push-m-requires
push-m-requires c =
    let l = c.loop-i in let a = c.args in let x = c.next_piece-step in
    measuring_room (pairs a.ka a.a.now) (pairs a.kb a.b.now) (held a.h a.e.now a.t.now) a.n a.s.now c.requires.0.stored l.i l.from l.m l.x l.q l.invariant.0 x.result x.ensures (omega (arith, l.invariant.1, c.requires.1))

pub pass-x-requires : goal.pass-x-requires
pass-x-requires c =
    let l = c.loop-i in let a = c.args in let x = c.next_piece-step in let g = c.push-m in
    measuring_pass (pairs a.ka a.a.now) (pairs a.kb a.b.now) (held a.h a.e.now a.t.now) a.n a.s.now c.requires.0.stored l.i l.from l.m l.x l.q l.invariant.0 x.result x.ensures g.result g.new.s g.ensures (omega (arith, g.auto.s, l.invariant.1, c.requires.1))

pub loop-i-smaller : goal.loop-i-smaller
loop-i-smaller c =
    let l = c.loop-i in let a = c.args in let x = c.next_piece-step in
    next_less true (pairs a.ka a.a.now) (pairs a.kb a.b.now) (held a.h a.e.now a.t.now) a.n a.s.now c.requires.0.stored l.i l.from x.result x.ensures

pub loop-i-preserved : goal.loop-i-preserved
loop-i-preserved c =
    let l = c.loop-i in let a = c.args in let x = c.next_piece-step in let g = c.push-m in
    let y = c.pass-x in let k = c.keep_last-k in
    (measuring_turn (pairs a.ka a.a.now) (pairs a.kb a.b.now) (held a.h a.e.now a.t.now) a.n a.s.now c.requires.0.stored l.i l.from l.m l.x l.q l.invariant.0 x.result x.ensures g.result g.new.s g.ensures y.result y.ensures k.result k.new.q k.ensures, k.auto.q ∙ (g.auto.s ∙ l.invariant.1))

pub pass-requires : goal.pass-requires
pass-requires c =
    let l = c.loop-i in let a = c.args in measuring_last (pairs a.ka a.a.now) (pairs a.kb a.b.now) (held a.h a.e.now a.t.now) a.n a.s.now c.requires.0.stored l.i l.from l.m l.x l.q l.invariant.0 (omega (arith, l.invariant.1, c.requires.1))

pub returns : goal.returns
returns c =
    let l = c.loop-i in let a = c.args in measuring_done (pairs a.ka a.a.now) (pairs a.kb a.b.now) (held a.h a.e.now a.t.now) a.n a.s.now c.requires.0.stored l.i l.from l.m l.x l.q l.invariant.0 c.loop-i-test.false c.pass.result c.pass.ensures
