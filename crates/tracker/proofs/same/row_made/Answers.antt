use Rattle.tracker.proofs.MadeLaws.{row_next, row_stop, row_done}
use Rattle.tracker.specs.Made.{made_in}
use native.Mathlib.Omega.{arith}
use mathlib.Core.Path.{sym}
use Rattle.tracker.proofs.same.row_made.Goals as goal

pub returns-then-r-eq0 : goal.returns-then-r-eq0
returns-then-r-eq0 c = let l = c.loop-k in let a = c.args in sym (row_stop (made_in a.p a.h a.e.now) a.row l.k l.invariant (omega (arith, c.rle_len-n.ensures, c.loop-k-test.true)) _ c.reach_made-r.ensures c.if-r-eq0.true)

pub loop-k-preserved : goal.loop-k-preserved
loop-k-preserved c = let l = c.loop-k in let a = c.args in row_next (made_in a.p a.h a.e.now) a.row l.k l.invariant _ c.reach_made-r.ensures

pub returns : goal.returns
returns c = let l = c.loop-k in let a = c.args in sym (row_done (made_in a.p a.h a.e.now) a.row l.k l.invariant (omega (arith, c.rle_len-n.ensures, c.loop-k-test.false)))
