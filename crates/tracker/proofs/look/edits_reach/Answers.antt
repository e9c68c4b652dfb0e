use native.Mathlib.Omega.{arith}
use Rattle.tracker.specs.Rows.{pairs}
use mathlib.Core.Path.{◌∙◌}
use Rattle.tracker.proofs.Reaches.{bit_byte, bit_small, run_start, run_turn, run_room, run_end}
use Rattle.tracker.proofs.look.edits_reach.Goals as goal

pub loop-i-init : goal.loop-i-init
loop-i-init c = run_start _ _ _ _ _ _ _ c.requires.1

pub edit_reach-found-requires : goal.edit_reach-found-requires
edit_reach-found-requires c = let l = c.loop-i in let p = c.requires.0 in let a = c.args in (omega (arith, p.edits, c.loop-i-test.true), run_room (pairs a.m a.v.now) a.e.now a.t.now a.h a.peer a.c a.most l.times l.len l.at l.i l.invariant c.loop-i-test.true p.targets, p.version, l.invariant.some, c.requires.2)

pub overflow_add-at : goal.overflow_add-at
overflow_add-at c = let l = c.loop-i in let a = c.args in omega (arith, c.edit_took.ensures, run_room (pairs a.m a.v.now) a.e.now a.t.now a.h a.peer a.c a.most l.times l.len l.at l.i l.invariant c.loop-i-test.true c.requires.0.targets, c.well_formed)

pub loop-i-preserved : goal.loop-i-preserved
loop-i-preserved c = let k = c.edit_took in let f = c.edit_reach-found in let l = c.loop-i in let a = c.args in run_turn (pairs a.m a.v.now) a.e.now a.t.now a.h a.peer a.c a.most l.times l.len l.at l.i l.invariant c.loop-i-test.true f.result f.ensures c.from-times.result (c.from-times.ensures ∙ bit_byte f.result.hit) (bit_small f.result.hit c.from-times.result c.from-times.ensures) k.result k.ensures

pub returns : goal.returns
returns c = let l = c.loop-i in let a = c.args in run_end (pairs a.m a.v.now) a.e.now a.t.now a.h a.peer a.c a.most l.times l.len l.at l.i l.invariant c.loop-i-test.false
