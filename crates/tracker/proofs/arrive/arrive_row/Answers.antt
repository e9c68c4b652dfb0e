use Rattle.std.proofs.lemmas.Result.{err_from_is_err_and}
use Rattle.span.proofs.RefusalLaws.{number_not_zero}
use Rattle.tracker.specs.Rows.{edit_in}
use Rattle.tracker.proofs.Checking.{well_edits, well_rows}
use Rattle.tracker.proofs.Accepting.{can_take, took_small, log_asks, taken_leaves, arrive_refused}
use mathlib.Core.Path.{refl, sym}
use native.Mathlib.Omega.{arith}
use Rattle.tracker.proofs.arrive.arrive_row.Goals as goal

pub returns-in_err-refuse : goal.returns-in_err-refuse
returns-in_err-refuse c =
    let x = c.args in
    let p = err_from_is_err_and c.from_residual.result c.from_residual.ensures.1 in
    rw (p.1, p.2) (arrive_refused x.s.now x.t.now x.e.now (edit_in x.row.now) c.requires.0 _ c.in_err-refuse.ensures (number_not_zero _))

pub edit_count-h-requires : goal.edit_count-h-requires
edit_count-h-requires c =
    let x = c.args in well_edits x.s.now x.t.now x.e.now c.requires.0

pub slice_bounds-used_len-count : goal.slice_bounds-used_len-count
slice_bounds-used_len-count c =
    let x = c.args in well_edits x.s.now x.t.now x.e.now c.requires.0

pub slice_bounds-used_len-start : goal.slice_bounds-used_len-start
slice_bounds-used_len-start c =
    let x = c.args in well_edits x.s.now x.t.now x.e.now c.requires.0

pub used_len-had-requires : goal.used_len-had-requires
used_len-had-requires c =
    let x = c.args in well_rows x.s.now x.t.now x.e.now c.requires.0 c.edit_count-h.result c.edit_count-h.ensures

pub take_act-took-requires : goal.take_act-took-requires
take_act-took-requires c =
    let x = c.args in can_take x.s.now x.t.now x.e.now x.row.now c.requires.0 c.requires.1 (sym c.in_ok-refuse.ensures) c.go_to.new.s c.go_to.auto.s c.go_to.ensures c.edit_count-h.result c.edit_count-h.ensures c.used_len-had.result c.used_len-had.ensures c.get_head.result c.get_head.ensures c.get_head.result.act refl

pub overflow_cast-took : goal.overflow_cast-took
overflow_cast-took c =
    let x = c.args in omega (arith, took_small x.s.now x.t.now x.e.now x.row.now c.requires.0 c.requires.1 (sym c.in_ok-refuse.ensures) c.go_to.new.s c.go_to.auto.s c.go_to.ensures c.edit_count-h.result c.edit_count-h.ensures c.used_len-had.result c.used_len-had.ensures c.get_head.result c.get_head.ensures c.take_act-took.result c.take_act-took.new.t c.take_act-took.ensures.1)

pub log_edit-requires : goal.log_edit-requires
log_edit-requires c =
    let x = c.args in log_asks x.s.now x.t.now x.e.now x.row.now c.requires.0 c.requires.1 (sym c.in_ok-refuse.ensures) c.go_to.new.s c.go_to.auto.s c.go_to.ensures c.edit_count-h.result c.edit_count-h.ensures c.used_len-had.result c.used_len-had.ensures c.get_head.result c.get_head.ensures c.take_act-took.result c.take_act-took.new.t c.take_act-took.ensures.1

pub returns : goal.returns
returns c =
    let x = c.args in
    let f = c.take_act-took in
    let g = c.log_edit in
    taken_leaves x.s.now x.t.now x.e.now x.row.now c.requires.0 c.requires.1 (sym c.in_ok-refuse.ensures) c.go_to.new.s c.go_to.auto.s c.go_to.ensures c.edit_count-h.result c.edit_count-h.ensures c.used_len-had.result c.used_len-had.ensures c.get_head.result c.get_head.ensures c.take_act-took.result c.take_act-took.new.t c.take_act-took.ensures.1 f.new.s f.auto.s f.auto.t f.ensures.0 g.new.e g.auto.e g.ensures
