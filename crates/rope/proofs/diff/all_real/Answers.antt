use mathlib.Core.Path.{sym, ap, ◌∙◌}
use mathlib.Core.Bool.{true, false, not}
use borrow.Author.Tests.{not-true, not-false}
use Rattle.units.specs.Lists.{every}
use Rattle.units.specs.Delta.{insertable}
use Rattle.rope.proofs.Readers.{here}
use Rattle.rope.proofs.Diffs.{reals_first, reals_end}
use Rattle.rope.proofs.diff.all_real.Goals as goal

pub returns-then-not-can_insert : goal.returns-then-not-can_insert
returns-then-not-can_insert c =
    let l = c.loop-row in
    let e = here c.args.rows.now l.row-index c.loop-row-test.true _ c.span_of.ensures in
    sym (sym l.invariant ∙ (ap (every insertable) e ∙ reals_first _ _ false (sym (not-true _ (ap not c.if-not-can_insert.true)) ∙ c.can_insert.ensures)))

pub loop-row-preserved : goal.loop-row-preserved
loop-row-preserved c =
    let l = c.loop-row in
    let e = here c.args.rows.now l.row-index c.loop-row-test.true _ c.span_of.ensures in
    sym (ap (every insertable) e ∙ reals_first _ _ true (sym (not-false _ (ap not c.if-not-can_insert.false)) ∙ c.can_insert.ensures)) ∙ l.invariant

pub returns : goal.returns
returns c =
    let l = c.loop-row in
    sym (sym l.invariant ∙ reals_end c.args.rows.now l.row-index c.loop-row-test.false)
