use Rattle.tracker.proofs.Checking.{well_head, well_edits}
use Rattle.tracker.proofs.Accepting.{go_sees, go_stands, go_done}
use Rattle.tracker.proofs.arrive.go_to.Goals as goal

pub edit_count-h-requires : goal.edit_count-h-requires
edit_count-h-requires c =
    let x = c.args in well_edits x.s.now x.t.now x.e.now c.requires.0

pub count-n-requires : goal.count-n-requires
count-n-requires c =
    let x = c.args in well_head x.s.now x.t.now x.e.now c.requires.0

pub slice_bounds-count_seen-count : goal.slice_bounds-count_seen-count
slice_bounds-count_seen-count c =
    let x = c.args in well_head x.s.now x.t.now x.e.now c.requires.0

pub slice_bounds-count_seen-start : goal.slice_bounds-count_seen-start
slice_bounds-count_seen-start c =
    let x = c.args in well_head x.s.now x.t.now x.e.now c.requires.0

pub slice_bounds-count_seen-count-2 : goal.slice_bounds-count_seen-count-2
slice_bounds-count_seen-count-2 c =
    let x = c.args in well_edits x.s.now x.t.now x.e.now c.requires.0

pub slice_bounds-count_seen-start-2 : goal.slice_bounds-count_seen-start-2
slice_bounds-count_seen-start-2 c =
    let x = c.args in well_edits x.s.now x.t.now x.e.now c.requires.0

pub count_seen-k-requires : goal.count_seen-k-requires
count_seen-k-requires c =
    let x = c.args in go_sees x.s.now x.t.now x.e.now x.row.now c.requires.0 c.requires.1 c.requires.2 c.edit_count-h.result c.edit_count-h.ensures c.count-n.result c.count-n.ensures c.get_pairs-m.result c.get_pairs-m.ensures

pub slice_bounds-stand-count : goal.slice_bounds-stand-count
slice_bounds-stand-count c =
    let x = c.args in well_edits x.s.now x.t.now x.e.now c.requires.0

pub slice_bounds-stand-start : goal.slice_bounds-stand-start
slice_bounds-stand-start c =
    let x = c.args in well_edits x.s.now x.t.now x.e.now c.requires.0

pub stand-requires : goal.stand-requires
stand-requires c =
    let x = c.args in go_stands x.s.now x.t.now x.e.now x.row.now c.requires.0 c.requires.1 c.requires.2 c.edit_count-h.result c.edit_count-h.ensures c.count-n.result c.count-n.ensures c.get_pairs-m.result c.get_pairs-m.ensures c.count_seen-k.result c.count_seen-k.ensures

pub returns : goal.returns
returns c =
    let x = c.args in go_done x.s.now x.t.now x.e.now x.row.now c.requires.0 c.requires.1 c.requires.2 c.edit_count-h.result c.edit_count-h.ensures c.count-n.result c.count-n.ensures c.get_pairs-m.result c.get_pairs-m.ensures c.count_seen-k.result c.count_seen-k.ensures c.stand.new.s c.stand.ensures
