use Rattle.tracker.proofs.TakenLaws.{taking_used, taking_done, taking_stop, taking_next}
use borrow.Author.Tests.{not-true, not-false}
use native.Mathlib.Omega.{arith}
use mathlib.Core.Path.{sym}
use mathlib.Core.Path.{ap}
use mathlib.Core.Bool.{not}
use Rattle.tracker.proofs.taken.targets_fit.Goals as goal

pub took_fits_at-requires : goal.took_fits_at-requires
took_fits_at-requires c = let l = c.loop-i in let a = c.args in let u = taking_used a.n a.s.now a.h a.e.now a.t.now c.requires.0 l.i l.at l.invariant c.loop-i-test.true in
    (c.requires.0, omega (arith, u, c.requires.2, c.took_at-m.ensures), omega (arith, u, c.requires.3, c.took_at-m.ensures))

pub returns-then-not-took_fits_at : goal.returns-then-not-took_fits_at
returns-then-not-took_fits_at c = let l = c.loop-i in let a = c.args in sym (taking_stop a.n a.s.now a.h a.e.now a.t.now c.requires.0 l.i l.at l.invariant c.loop-i-test.true _ _ _ c.took_at-m.ensures c.act_at.ensures c.took_fits_at.ensures (not-true _ (ap not c.if-not-took_fits_at.true)))

pub loop-i-preserved : goal.loop-i-preserved
loop-i-preserved c = let l = c.loop-i in let a = c.args in taking_next a.n a.s.now a.h a.e.now a.t.now c.requires.0 l.i l.at l.invariant c.loop-i-test.true _ _ _ c.took_at-m.ensures c.act_at.ensures c.took_fits_at.ensures (not-false _ (ap not c.if-not-took_fits_at.false))

pub returns : goal.returns
returns c = let l = c.loop-i in let a = c.args in sym (taking_done a.n a.s.now a.h a.e.now a.t.now c.requires.0 l.i l.at l.invariant c.loop-i-test.false)
