use Rattle.tracker.proofs.MadeLaws.{rows_stop, rows_next, rows_done}
use Rattle.tracker.specs.Made.{made_in}
use Rattle.rope.proofs.Rights.{row_ok}
use Rattle.span.specs.Span.{span_code}
use borrow.Author.Tests.{not-true, not-false}
use mathlib.Core.Path.{sym, ap, ◌∙◌}
use mathlib.Core.Bool.{not}
use Rattle.tracker.proofs.same.rows_made.Goals as goal

pub row_made-requires : goal.row_made-requires
row_made-requires c = let l = c.loop-i in let a = c.args in (ap span_code c.get_row.ensures ∙ row_ok a.n a.s.now l.i c.loop-i-test.true c.requires.1, c.requires.2, c.requires.3, c.requires.4)

pub returns-then-not-row_made : goal.returns-then-not-row_made
returns-then-not-row_made c = let l = c.loop-i in let a = c.args in sym (l.invariant ∙ rows_stop (made_in a.p a.h a.e.now) a.n a.s.now l.i c.loop-i-test.true _ c.get_row.ensures _ c.row_made.ensures (not-true _ (ap not c.if-not-row_made.true)))

pub loop-i-preserved : goal.loop-i-preserved
loop-i-preserved c = let l = c.loop-i in let a = c.args in (l.invariant ∙ rows_next (made_in a.p a.h a.e.now) a.n a.s.now l.i c.loop-i-test.true _ c.get_row.ensures _ c.row_made.ensures (not-false _ (ap not c.if-not-row_made.false)))

pub returns : goal.returns
returns c = let l = c.loop-i in let a = c.args in sym (l.invariant ∙ rows_done (made_in a.p a.h a.e.now) a.n a.s.now l.i c.loop-i-test.false)
