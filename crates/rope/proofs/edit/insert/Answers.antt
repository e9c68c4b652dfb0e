use Rattle.rope.proofs.Entering.{insert_none, insert_refused, insert_asks, insert_done}
use Rattle.span.specs.Span.{new_span}
use borrow.Author.Tests.{not-true, not-false}
use mathlib.Core.Path.{sym, ◌∙◌}
use mathlib.Core.Path.{ap}
use mathlib.Core.Bool.{not}
use Rattle.std.proofs.lemmas.Result.{err_from_is_err_and}
use Rattle.rope.proofs.edit.insert.Goals as goal

pub returns-then-not-check : goal.returns-then-not-check
returns-then-not-check c =
    let a = c.args in
    insert_none a.s.now a.pos (new_span a.id a.lamport a.content) (sym c.check.ensures ∙ not-true _ (ap not c.if-not-check.true))

pub insert_span-requires : goal.insert_span-requires
insert_span-requires c =
    let a = c.args in
    insert_asks a.s.now a.pos (new_span a.id a.lamport a.content) (sym c.check.ensures ∙ not-false _ (ap not c.if-not-check.false)) c.new.result c.new.ensures _ c.in_ok-new.was

pub returns-in_err-new : goal.returns-in_err-new
returns-in_err-new c =
    let a = c.args in
    let p = err_from_is_err_and c.from_residual.result c.from_residual.ensures.1 in
    rw (p.1, p.2)
    (insert_refused a.s.now a.pos (new_span a.id a.lamport a.content) (sym c.check.ensures ∙ not-false _ (ap not c.if-not-check.false)) c.new.result c.new.ensures _ c.in_err-new.was)

pub returns : goal.returns
returns c =
    let a = c.args in
    insert_done a.s.now a.pos (new_span a.id a.lamport a.content) (sym c.check.ensures ∙ not-false _ (ap not c.if-not-check.false)) c.new.result c.new.ensures _ c.in_ok-new.was _ _ c.insert_span.ensures
