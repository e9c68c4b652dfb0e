use Rattle.apply.proofs.Shown.{visible_none, visible_all}
use borrow.Author.Tests.{not-true, not-false}
use Rattle.std.proofs.Common.{sym, ap, not, ◌∙◌}
use Rattle.apply.proofs.visible.visible_items.Goals as goal

pub returns-then-not-check : goal.returns-then-not-check
returns-then-not-check c = visible_none _ _ (sym c.check.ensures ∙ not-true _ (ap not c.if-not-check.true))

pub returns : goal.returns
returns c = visible_all _ c.args.out.now (sym c.check.ensures ∙ not-false _ (ap not c.if-not-check.false)) _ c.count-n.ensures _ _ c.visible_rows.ensures
