use Rattle.tracker.proofs.MadeLaws.{searched_start, searched_done, searched_fine, searched_found, searched_next}
use native.Mathlib.Omega.{arith}
use Rattle.tracker.proofs.same.reach_edits.Goals as goal

pub loop-i-init : goal.loop-i-init
loop-i-init c = searched_start _ _ _ _ c.requires.3

pub reach_edit-r-requires : goal.reach_edit-r-requires
reach_edit-r-requires c = let l = c.loop-i in let a = c.args in (c.requires.0, c.requires.1, omega (arith, c.requires.2, c.loop-i-test.true), searched_fine a.row a.k a.h a.e.now l.i l.invariant c.loop-i-test.true)

pub returns-then-r-ne0 : goal.returns-then-r-ne0
returns-then-r-ne0 c = let l = c.loop-i in let a = c.args in searched_found a.row a.k a.h a.e.now l.i l.invariant c.loop-i-test.true _ c.reach_edit-r.ensures c.if-r-ne0.true

pub loop-i-preserved : goal.loop-i-preserved
loop-i-preserved c = let l = c.loop-i in let a = c.args in searched_next a.row a.k a.h a.e.now l.i l.invariant c.loop-i-test.true _ c.reach_edit-r.ensures c.if-r-ne0.false

pub returns : goal.returns
returns c = let l = c.loop-i in let a = c.args in searched_done a.row a.k a.h a.e.now l.i l.invariant c.requires.1 c.loop-i-test.false
