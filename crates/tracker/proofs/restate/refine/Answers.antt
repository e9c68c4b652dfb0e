use Rattle.tracker.proofs.Refines.{refine_asks, refine_turn, refine_done}
use Rattle.tracker.specs.Looks.{seen}
use Rattle.tracker.specs.Rows.{pairs, held}
use Rattle.store.specs.Row.{rows}
use Rattle.span.specs.Units.{expand}
use mathlib.Core.Path.{◌≡◌, ◌∙◌}
use lib.ListN.{length, drop}
use native.Mathlib.Omega.{arith}
use Rattle.tracker.proofs.restate.refine.Goals as goal

pub push_seen-w-requires : goal.push_seen-w-requires
push_seen-w-requires c = let a = c.args in let l = c.loop-i in
    let q = refine_asks a.both (pairs a.ka a.a.now) (pairs a.kb a.b.now) (held a.h a.e.now a.t.now) a.k l.w l.i (seen a.both (pairs a.ka a.a.now) (pairs a.kb a.b.now) (held a.h a.e.now a.t.now) (expand (drop a.from (rows a.k a.s.now)))) l.s l.invariant.1 c.loop-i-test.true c.get_row-row.result c.get_row-row.ensures in
    (q.0, c.requires.1, c.requires.2, q.1, q.2)

pub loop-i-preserved : goal.loop-i-preserved
loop-i-preserved c = let a = c.args in let l = c.loop-i in
    let e : length c.push_seen-w.new.s ≡ length l.s = omega (arith, c.push_seen-w.auto.s) in
    (e ∙ l.invariant.0, refine_turn a.both (pairs a.ka a.a.now) (pairs a.kb a.b.now) (held a.h a.e.now a.t.now) a.k l.w l.i (seen a.both (pairs a.ka a.a.now) (pairs a.kb a.b.now) (held a.h a.e.now a.t.now) (expand (drop a.from (rows a.k a.s.now)))) l.s l.invariant.1 c.loop-i-test.true c.get_row-row.result c.get_row-row.ensures c.push_seen-w.result _ e c.push_seen-w.ensures)

pub returns : goal.returns
returns c = let a = c.args in let l = c.loop-i in refine_done a.both (pairs a.ka a.a.now) (pairs a.kb a.b.now) (held a.h a.e.now a.t.now) a.k l.w l.i (seen a.both (pairs a.ka a.a.now) (pairs a.kb a.b.now) (held a.h a.e.now a.t.now) (expand (drop a.from (rows a.k a.s.now)))) l.s l.invariant.1 c.loop-i-test.false
