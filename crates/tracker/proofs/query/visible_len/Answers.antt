use mathlib.Core.Path.{sym, ◌∙◌}
use borrow.Author.Tests.{not-true, not-false}
use Rattle.tracker.proofs.Checking.{well_head, well_stored}
use Rattle.tracker.proofs.Asking.{len_none, len_done}
use mathlib.Core.Path.{ap}
use mathlib.Core.Bool.{not}
use mathlib.Core.List.{List}
use native.Mathlib.Omega.{arith}
use Rattle.span.specs.Units.{expand}
use Rattle.units.specs.Place.{shown}
use Rattle.rope.proofs.Readers.{stored_few}
use Rattle.span.specs.declared.span.FugueSpan.{FugueSpan}
use Rattle.tracker.proofs.query.visible_len.Goals as goal

pub returns-then-not-check : goal.returns-then-not-check
returns-then-not-check c =
    let x = c.args in len_none x.s.now x.t.now x.e.now (sym c.check.ensures ∙ not-true _ (ap not c.if-not-check.true))

pub count-n-requires : goal.count-n-requires
count-n-requires c =
    let x = c.args in well_head x.s.now x.t.now x.e.now (sym c.check.ensures ∙ not-false _ (ap not c.if-not-check.false))

pub slice_bounds-rows-count : goal.slice_bounds-rows-count
slice_bounds-rows-count c =
    let x = c.args in well_head x.s.now x.t.now x.e.now (sym c.check.ensures ∙ not-false _ (ap not c.if-not-check.false))

pub slice_bounds-rows-start : goal.slice_bounds-rows-start
slice_bounds-rows-start c =
    let x = c.args in well_head x.s.now x.t.now x.e.now (sym c.check.ensures ∙ not-false _ (ap not c.if-not-check.false))

pub rows-list-requires : goal.rows-list-requires
rows-list-requires c =
    let x = c.args in (well_stored x.s.now x.t.now x.e.now (sym c.check.ensures ∙ not-false _ (ap not c.if-not-check.false)) c.count-n.result c.count-n.ensures).long

pub visible-requires : goal.visible-requires
visible-requires c =
    let x = c.args in omega (arith, c.rows-list.ensures.len, stored_few _ _ (well_stored x.s.now x.t.now x.e.now (sym c.check.ensures ∙ not-false _ (ap not c.if-not-check.false)) c.count-n.result c.count-n.ensures))

pub returns : goal.returns
returns c =
    let x = c.args in
    len_done x.s.now x.t.now x.e.now (sym c.check.ensures ∙ not-false _ (ap not c.if-not-check.false)) c.count-n.result c.count-n.ensures c.visible.result (c.visible.ensures ∙ ap (λ (l : List FugueSpan). shown (expand l)) c.rows-list.ensures.list)
