use Rattle.std.proofs.lemmas.Result.{err_from_is_err_and}
use Rattle.span.proofs.RefusalLaws.{number_not_zero}
use mathlib.Core.Path.{refl}
use Rattle.tracker.proofs.Checking.{well_head, well_edits, well_rows}
use Rattle.tracker.proofs.Refusing.{refuse_fits, refuse_code, refuse_acting, refuse_rest}
use Rattle.tracker.proofs.arrive.refuse.Goals as goal

pub edit_count-h-requires : goal.edit_count-h-requires
edit_count-h-requires c =
    let x = c.args in well_edits x.s.now x.t.now x.e.now c.requires.0

pub slice_bounds-fit_code-count : goal.slice_bounds-fit_code-count
slice_bounds-fit_code-count c =
    let x = c.args in well_edits x.s.now x.t.now x.e.now c.requires.0

pub slice_bounds-fit_code-start : goal.slice_bounds-fit_code-start
slice_bounds-fit_code-start c =
    let x = c.args in well_edits x.s.now x.t.now x.e.now c.requires.0

pub fit_code-requires : goal.fit_code-requires
fit_code-requires c =
    let x = c.args in let k = well_rows x.s.now x.t.now x.e.now c.requires.0 c.edit_count-h.result c.edit_count-h.ensures in (k.0, k.1, c.requires.1, refuse_fits x.s.now x.t.now x.e.now x.row.now c.requires.0 c.requires.1 c.edit_count-h.result c.edit_count-h.ensures)

pub returns-in_err-fit_code : goal.returns-in_err-fit_code
returns-in_err-fit_code c =
    let x = c.args in
    let p = err_from_is_err_and c.from_residual.result c.from_residual.ensures.1 in
    rw (p.1, p.2) (refuse_code x.s.now x.t.now x.e.now x.row.now c.requires.0 c.requires.1 c.edit_count-h.result c.edit_count-h.ensures _ c.in_err-fit_code.ensures (number_not_zero _))

pub count-n-requires : goal.count-n-requires
count-n-requires c =
    let x = c.args in well_head x.s.now x.t.now x.e.now c.requires.0

pub slice_bounds-refuse_act-count : goal.slice_bounds-refuse_act-count
slice_bounds-refuse_act-count c =
    let x = c.args in well_head x.s.now x.t.now x.e.now c.requires.0

pub slice_bounds-refuse_act-start : goal.slice_bounds-refuse_act-start
slice_bounds-refuse_act-start c =
    let x = c.args in well_head x.s.now x.t.now x.e.now c.requires.0

pub slice_bounds-refuse_act-count-2 : goal.slice_bounds-refuse_act-count-2
slice_bounds-refuse_act-count-2 c =
    let x = c.args in well_edits x.s.now x.t.now x.e.now c.requires.0

pub slice_bounds-refuse_act-start-2 : goal.slice_bounds-refuse_act-start-2
slice_bounds-refuse_act-start-2 c =
    let x = c.args in well_edits x.s.now x.t.now x.e.now c.requires.0

pub refuse_act-requires : goal.refuse_act-requires
refuse_act-requires c =
    let x = c.args in refuse_acting x.s.now x.t.now x.e.now x.row.now c.requires.0 c.requires.1 c.edit_count-h.result c.edit_count-h.ensures 0 c.in_ok-fit_code.ensures refl c.get_pairs-m.result c.get_pairs-m.ensures c.count-n.result c.count-n.ensures c.get_head-x.result c.get_head-x.ensures c.target_room-places.result c.target_room-places.ensures

pub returns : goal.returns
returns c =
    let x = c.args in refuse_rest x.s.now x.t.now x.e.now x.row.now c.requires.0 c.requires.1 c.edit_count-h.result c.edit_count-h.ensures 0 c.in_ok-fit_code.ensures refl c.get_pairs-m.result c.get_pairs-m.ensures c.count-n.result c.count-n.ensures c.get_head-x.result c.get_head-x.ensures c.room-most.result c.target_room-places.result _ c.room-most.ensures c.target_room-places.ensures c.refuse_act.ensures
