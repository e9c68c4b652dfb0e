use mathlib.Core.Path.{sym, ◌∙◌}
use borrow.Author.Tests.{not-true, not-false}
use Rattle.rope.proofs.Deletion.{delete_none, delete_empty, delete_some}
use mathlib.Core.Path.{ap}
use mathlib.Core.Bool.{not}
use Rattle.span.specs.Refusal.{refusal_of}
use Rattle.rope.proofs.delete.delete.Goals as goal

pub returns-then-not-check : goal.returns-then-not-check
unfolding refusal_of
returns-then-not-check c = let a = c.args in delete_none a.s.now a.out.now a.pos a.len a.start a.reversed (sym c.check.ensures ∙ not-true _ (ap not c.if-not-check.true))

pub returns-then-len-eq0 : goal.returns-then-len-eq0
returns-then-len-eq0 c = let a = c.args in delete_empty a.s.now a.out.now a.pos a.len a.start a.reversed (sym c.check.ensures ∙ not-false _ (ap not c.if-not-check.false)) c.if-len-eq0.true

pub returns : goal.returns
returns c = let a = c.args in delete_some a.s.now a.out.now a.pos a.len a.start a.reversed (sym c.check.ensures ∙ not-false _ (ap not c.if-not-check.false)) c.delete_some.result c.delete_some.new.s c.delete_some.new.out c.delete_some.ensures
