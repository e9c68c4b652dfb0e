use Rattle.rope.proofs.Entering.{state_head, state_rows, state_few, span_asked, span_first, span_ready, span_full, span_writable, span_done}
use Rattle.span.proofs.RefusalLaws.{number_not_zero}
use Rattle.std.proofs.lemmas.Result.{err_from_is_err_and}
use mathlib.Core.Path.{refl, ap, ◌∙◌}
use mathlib.Core.List.{List}
use lib.ListN.{length}
use native.Mathlib.Omega.{arith}
use Rattle.span.specs.Units.{expand}
use Rattle.span.specs.declared.span.FugueSpan.{FugueSpan}
use Rattle.rope.proofs.edit.insert_span.Goals as goal

pub count-n-requires : goal.count-n-requires
count-n-requires c = state_head c.args.s.now c.requires.0

pub slice_bounds-rows-count : goal.slice_bounds-rows-count
slice_bounds-rows-count c = state_head c.args.s.now c.requires.0

pub slice_bounds-rows-start : goal.slice_bounds-rows-start
slice_bounds-rows-start c = state_head c.args.s.now c.requires.0

pub rows-list-requires : goal.rows-list-requires
rows-list-requires c = (state_rows c.args.s.now c.requires.0 c.count-n.result c.count-n.ensures).0

pub units-sum-requires : goal.units-sum-requires
units-sum-requires c = omega (arith, c.rows-list.ensures.len, (state_rows c.args.s.now c.requires.0 c.count-n.result c.count-n.ensures).1)

pub first_code-requires : goal.first_code-requires
first_code-requires c =
    let a = c.args in
    span_asked a.s.now a.pos a.x c.requires.0 c.requires.1 c.count-n.result c.count-n.ensures c.units-sum.result (c.units-sum.ensures ∙ ap (λ (l : List FugueSpan). length (expand l)) c.rows-list.ensures.list)

pub returns-in_err-first_code : goal.returns-in_err-first_code
returns-in_err-first_code c =
    let a = c.args in
    let p = err_from_is_err_and c.from_residual.result c.from_residual.ensures.1 in
    rw (p.1, p.2)
    (span_first a.s.now a.pos a.x c.requires.0 c.requires.1 c.count-n.result c.count-n.ensures c.units-sum.result (c.units-sum.ensures ∙ ap (λ (l : List FugueSpan). length (expand l)) c.rows-list.ensures.list) _ c.in_err-first_code.ensures (number_not_zero _))

pub plan_insert-p-requires : goal.plan_insert-p-requires
plan_insert-p-requires c =
    let a = c.args in
    span_ready a.s.now a.pos a.x c.requires.0 c.requires.1 c.count-n.result c.count-n.ensures c.units-sum.result (c.units-sum.ensures ∙ ap (λ (l : List FugueSpan). length (expand l)) c.rows-list.ensures.list) 0 c.in_ok-first_code.ensures refl

pub rows-requires : goal.rows-requires
rows-requires c = state_few c.args.s.now c.requires.0 c.count-n.result c.count-n.ensures

pub returns-then-room-rows : goal.returns-then-room-rows
returns-then-room-rows c =
    let a = c.args in
    span_full a.s.now a.pos a.x c.requires.0 c.requires.1 c.count-n.result c.count-n.ensures c.units-sum.result (c.units-sum.ensures ∙ ap (λ (l : List FugueSpan). length (expand l)) c.rows-list.ensures.list) 0 c.in_ok-first_code.ensures refl
    c.plan_insert-p.result c.plan_insert-p.ensures c.room.result c.rows.result c.room.ensures c.rows.ensures c.if-room-rows.true

pub write_plan-requires : goal.write_plan-requires
write_plan-requires c =
    let a = c.args in
    span_writable a.s.now a.pos a.x c.requires.0 c.requires.1 c.count-n.result c.count-n.ensures c.units-sum.result (c.units-sum.ensures ∙ ap (λ (l : List FugueSpan). length (expand l)) c.rows-list.ensures.list) 0 c.in_ok-first_code.ensures refl
    c.plan_insert-p.result c.plan_insert-p.ensures c.room.result c.rows.result c.room.ensures c.rows.ensures c.if-room-rows.false

pub returns : goal.returns
returns c =
    let a = c.args in
    span_done a.s.now a.pos a.x c.requires.0 c.requires.1 c.count-n.result c.count-n.ensures c.units-sum.result (c.units-sum.ensures ∙ ap (λ (l : List FugueSpan). length (expand l)) c.rows-list.ensures.list) 0 c.in_ok-first_code.ensures refl
    c.plan_insert-p.result c.plan_insert-p.ensures c.room.result c.rows.result c.room.ensures c.rows.ensures c.if-room-rows.false _ c.write_plan.ensures
