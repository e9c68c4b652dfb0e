use Rattle.units.specs.Codes.{counts_fit}
use Rattle.span.specs.Units.{expand}
use Rattle.span.specs.declared.span.FugueSpan.{FugueSpan}
use lib.IntN.{pos}
use mathlib.Core.List.{List}
use mathlib.Core.Bool.{true, false, not}
use mathlib.Core.Path.{sym, ap, ◌∙◌}
use borrow.Author.Tests.{not-true, not-false}
use Rattle.rope.proofs.Readers.{here, fine_here}
use Rattle.rope.proofs.Updating.{fits_first, fits_end}
use Rattle.rope.proofs.update.counts_fit.Goals as goal

pub row_fits-requires : goal.row_fits-requires
row_fits-requires c =
    let l = c.loop-row in
    ((fine_here c.args.rows.now l.row-index c.loop-row-test.true _ c.span_of.ensures l.invariant.0).0, c.requires.1)

pub returns-then-not-row_fits : goal.returns-then-not-row_fits
returns-then-not-row_fits c =
    let l = c.loop-row in
    let a = c.args in
    let e = here a.rows.now l.row-index c.loop-row-test.true _ c.span_of.ensures in
    sym (sym l.invariant.1 ∙ (ap (λ (l : List FugueSpan). counts_fit a.u.peer (pos a.u.from) (pos a.u.to) a.u.change a.u.diff (expand l)) e ∙ fits_first a.u _ _ false (sym c.row_fits.ensures ∙ not-true _ (ap not c.if-not-row_fits.true))))

pub loop-row-preserved : goal.loop-row-preserved
loop-row-preserved c =
    let l = c.loop-row in
    let a = c.args in
    let e = here a.rows.now l.row-index c.loop-row-test.true _ c.span_of.ensures in (
      (fine_here a.rows.now l.row-index c.loop-row-test.true _ c.span_of.ensures l.invariant.0).1,
      sym (ap (λ (l : List FugueSpan). counts_fit a.u.peer (pos a.u.from) (pos a.u.to) a.u.change a.u.diff (expand l)) e ∙ fits_first a.u _ _ true (sym c.row_fits.ensures ∙ not-false _ (ap not c.if-not-row_fits.false))) ∙ l.invariant.1,
    )

pub returns : goal.returns
returns c =
    let l = c.loop-row in
    sym (sym l.invariant.1 ∙ fits_end c.args.u c.args.rows.now l.row-index c.loop-row-test.false)
