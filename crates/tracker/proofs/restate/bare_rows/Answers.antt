use Rattle.tracker.proofs.Bares.{baring, bare_room, bare_next, bare_none}
use Rattle.rope.proofs.Streaming.{stream_start, stream_end}
use Rattle.tracker.specs.Restate.{bare_span}
use Rattle.store.specs.Row.{rows}
use mathlib.Core.Path.{◌≡◌, refl, ap, ◌∙◌}
use lib.ListN.{length}
use native.Mathlib.Omega.{arith}
use Rattle.tracker.proofs.restate.bare_rows.Goals as goal

pub loop-i-init : goal.loop-i-init
loop-i-init c = (refl, stream_start c.args.n c.args.s.now (baring (rows c.args.n c.args.s.now)) baring c.requires.0 refl)

pub push-w-requires : goal.push-w-requires
push-w-requires c =
    let a = c.args in
    let l = c.loop-i in
    bare_room a.n l.w l.i (rows a.n a.s.now) _ l.s l.invariant.1 c.requires.1 c.loop-i-test.true c.bare.result (c.bare.ensures ∙ ap bare_span c.get_row-row.ensures)

pub loop-i-preserved : goal.loop-i-preserved
loop-i-preserved c =
    let a = c.args in
    let l = c.loop-i in
    let e : length c.push-w.new.s ≡ length l.s = omega (arith, c.push-w.auto.s) in
    (e ∙ l.invariant.0, bare_next a.n l.w l.i (rows a.n a.s.now) _ l.s l.invariant.1 c.requires.1 c.loop-i-test.true c.bare.result (c.bare.ensures ∙ ap bare_span c.get_row-row.ensures) c.push-w.result _ e c.push-w.ensures)

pub returns : goal.returns
returns c =
    let a = c.args in
    let l = c.loop-i in
    (stream_end a.n l.w l.i (rows a.n a.s.now) (baring (rows a.n a.s.now)) baring l.s l.invariant.1 c.loop-i-test.false bare_none, omega (arith, l.invariant.1.low, l.invariant.1.most))
