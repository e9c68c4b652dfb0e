use mathlib.Core.Path.{sym, subst, ◌∙◌}
use mathlib.Core.List.{List}
use Rattle.span.specs.declared.span.FugueSpan.{FugueSpan}
use Rattle.units.specs.Query.{real_span_at}
use Rattle.rope.specs.Entries.{real_said}
use Rattle.rope.specs.Spans.{AllOk}
use Rattle.rope.proofs.WellFormed.{formed_of}
use borrow.Author.Tests.{not-true, not-false}
use Rattle.tracker.proofs.Checking.{well_head, well_stored}
use Rattle.tracker.proofs.Asking.{real_none, real_is}
use mathlib.Core.Path.{ap}
use Rattle.std.specs.Prelude.{Ok}
use mathlib.Core.Bool.{not}
use Rattle.tracker.proofs.query.active_real_span_at.Goals as goal

pub returns-then-not-check : goal.returns-then-not-check
returns-then-not-check c =
    let x = c.args in real_none x.s.now x.t.now x.e.now (sym c.check.ensures ∙ not-true _ (ap not c.if-not-check.true)) x.pos

pub count-n-requires : goal.count-n-requires
count-n-requires c =
    let x = c.args in well_head x.s.now x.t.now x.e.now (sym c.check.ensures ∙ not-false _ (ap not c.if-not-check.false))

pub slice_bounds-rows-count : goal.slice_bounds-rows-count
slice_bounds-rows-count c =
    let x = c.args in well_head x.s.now x.t.now x.e.now (sym c.check.ensures ∙ not-false _ (ap not c.if-not-check.false))

pub slice_bounds-rows-start : goal.slice_bounds-rows-start
slice_bounds-rows-start c =
    let x = c.args in well_head x.s.now x.t.now x.e.now (sym c.check.ensures ∙ not-false _ (ap not c.if-not-check.false))

pub rows-list-requires : goal.rows-list-requires
rows-list-requires c =
    let x = c.args in (well_stored x.s.now x.t.now x.e.now (sym c.check.ensures ∙ not-false _ (ap not c.if-not-check.false)) c.count-n.result c.count-n.ensures).long

pub real_at-requires : goal.real_at-requires
real_at-requires c =
    let x = c.args in subst AllOk (sym c.rows-list.ensures.list) (formed_of _ (well_stored x.s.now x.t.now x.e.now (sym c.check.ensures ∙ not-false _ (ap not c.if-not-check.false)) c.count-n.result c.count-n.ensures).formed).each

pub returns : goal.returns
returns c =
    let x = c.args in
    ap Ok (c.real_at.ensures ∙ ap (λ (l : List FugueSpan). real_said (real_span_at l x.pos)) c.rows-list.ensures.list) ∙ real_is x.s.now x.t.now x.e.now (sym c.check.ensures ∙ not-false _ (ap not c.if-not-check.false)) c.count-n.result c.count-n.ensures x.pos
