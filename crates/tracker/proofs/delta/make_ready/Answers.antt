use mathlib.Core.Path.{ap}
use native.Mathlib.Omega.{arith}
use Rattle.span.specs.Refusal.{code_of}
use Rattle.std.proofs.lemmas.Result.{err_from_is_err_and}
use Rattle.tracker.proofs.Checking.{well_head, well_edits}
use Rattle.tracker.proofs.Readying.{ready_from, ready_to, ready_asks, ready_versions, ready_sees, ready_sees_one, ready_rooms, ready_done}
use Rattle.tracker.proofs.delta.make_ready.Goals.{then-ka-gt-PEERS-via-then-ka-gt-PEERS, then-ka-gt-PEERS-via-else-ka-gt-PEERS+then-kb-gt-PEERS}
use Rattle.tracker.proofs.delta.make_ready.Goals as goal

pub returns-then-ka-gt-PEERS : goal.returns-then-ka-gt-PEERS
returns-then-ka-gt-PEERS c =
    let x = c.args in
    elim c.then-ka-gt-PEERS.branch [
      | then-ka-gt-PEERS-via-then-ka-gt-PEERS w ↦ ready_from x.s.now x.t.now x.e.now c.requires.0 x.a.now x.b.now x.ka x.kb x.most c.requires.1 c.requires.2 w.if-ka-gt-PEERS.true
      | then-ka-gt-PEERS-via-else-ka-gt-PEERS+then-kb-gt-PEERS w ↦ ready_to x.s.now x.t.now x.e.now c.requires.0 x.a.now x.b.now x.ka x.kb x.most c.requires.1 c.requires.2 w.if-kb-gt-PEERS.true
    ]

pub edit_count-h-requires : goal.edit_count-h-requires
edit_count-h-requires c =
    let x = c.args in well_edits x.s.now x.t.now x.e.now c.requires.0

pub slice_bounds-check_versions-count : goal.slice_bounds-check_versions-count
slice_bounds-check_versions-count c =
    let x = c.args in well_edits x.s.now x.t.now x.e.now c.requires.0

pub slice_bounds-check_versions-start : goal.slice_bounds-check_versions-start
slice_bounds-check_versions-start c =
    let x = c.args in well_edits x.s.now x.t.now x.e.now c.requires.0

pub check_versions-requires : goal.check_versions-requires
check_versions-requires c =
    let x = c.args in ready_asks x.s.now x.t.now x.e.now c.requires.0 x.a.now x.b.now x.ka x.kb x.most c.requires.1 c.requires.2 (omega (arith, c.if-ka-gt-PEERS.false)) (omega (arith, c.if-kb-gt-PEERS.false)) c.edit_count-h.result c.edit_count-h.ensures

pub returns-in_err-check_versions : goal.returns-in_err-check_versions
returns-in_err-check_versions c =
    let x = c.args in let p = err_from_is_err_and c.from_residual.result c.from_residual.ensures.1 in rw (p.1, p.2) (ready_versions x.s.now x.t.now x.e.now c.requires.0 x.a.now x.b.now x.ka x.kb x.most c.requires.1 c.requires.2 (omega (arith, c.if-ka-gt-PEERS.false)) (omega (arith, c.if-kb-gt-PEERS.false)) c.edit_count-h.result c.edit_count-h.ensures (code_of c.check_versions.result) c.check_versions.ensures _ (ap code_of c.in_err-check_versions.was))

pub count-n-requires : goal.count-n-requires
count-n-requires c =
    let x = c.args in well_head x.s.now x.t.now x.e.now c.requires.0

pub slice_bounds-measure_delta-count : goal.slice_bounds-measure_delta-count
slice_bounds-measure_delta-count c =
    let x = c.args in well_head x.s.now x.t.now x.e.now c.requires.0

pub slice_bounds-measure_delta-start : goal.slice_bounds-measure_delta-start
slice_bounds-measure_delta-start c =
    let x = c.args in well_head x.s.now x.t.now x.e.now c.requires.0

pub slice_bounds-measure_delta-count-2 : goal.slice_bounds-measure_delta-count-2
slice_bounds-measure_delta-count-2 c =
    let x = c.args in well_edits x.s.now x.t.now x.e.now c.requires.0

pub slice_bounds-measure_delta-start-2 : goal.slice_bounds-measure_delta-start-2
slice_bounds-measure_delta-start-2 c =
    let x = c.args in well_edits x.s.now x.t.now x.e.now c.requires.0

pub measure_delta-m-requires : goal.measure_delta-m-requires
measure_delta-m-requires c =
    let x = c.args in ready_sees x.s.now x.t.now x.e.now c.requires.0 x.a.now x.b.now x.ka x.kb x.most c.requires.1 c.requires.2 (omega (arith, c.if-ka-gt-PEERS.false)) (omega (arith, c.if-kb-gt-PEERS.false)) c.edit_count-h.result c.edit_count-h.ensures (code_of c.check_versions.result) c.check_versions.ensures (ap code_of c.in_ok-check_versions.was) c.count-n.result c.count-n.ensures

pub returns-in_err-check_rooms : goal.returns-in_err-check_rooms
returns-in_err-check_rooms c =
    let x = c.args in let p = err_from_is_err_and c.from_residual-in_err-check_rooms.result c.from_residual-in_err-check_rooms.ensures.1 in rw (p.1, p.2) (ready_rooms x.s.now x.t.now x.e.now c.requires.0 x.a.now x.b.now x.ka x.kb x.most c.requires.1 c.requires.2 (omega (arith, c.if-ka-gt-PEERS.false)) (omega (arith, c.if-kb-gt-PEERS.false)) c.edit_count-h.result c.edit_count-h.ensures (code_of c.check_versions.result) c.check_versions.ensures (ap code_of c.in_ok-check_versions.was) c.count-n.result c.count-n.ensures c.measure_delta-m.result c.measure_delta-m.ensures c.room.result c.room.ensures (code_of c.check_rooms.result) c.check_rooms.ensures _ (ap code_of c.in_err-check_rooms.was))

pub slice_bounds-count_seen-count : goal.slice_bounds-count_seen-count
slice_bounds-count_seen-count c =
    let x = c.args in well_head x.s.now x.t.now x.e.now c.requires.0

pub slice_bounds-count_seen-start : goal.slice_bounds-count_seen-start
slice_bounds-count_seen-start c =
    let x = c.args in well_head x.s.now x.t.now x.e.now c.requires.0

pub slice_bounds-count_seen-count-2 : goal.slice_bounds-count_seen-count-2
slice_bounds-count_seen-count-2 c =
    let x = c.args in well_edits x.s.now x.t.now x.e.now c.requires.0

pub slice_bounds-count_seen-start-2 : goal.slice_bounds-count_seen-start-2
slice_bounds-count_seen-start-2 c =
    let x = c.args in well_edits x.s.now x.t.now x.e.now c.requires.0

pub count_seen-requires : goal.count_seen-requires
count_seen-requires c =
    let x = c.args in ready_sees_one x.s.now x.t.now x.e.now c.requires.0 x.a.now x.b.now x.ka x.kb x.most c.requires.1 c.requires.2 (omega (arith, c.if-ka-gt-PEERS.false)) (omega (arith, c.if-kb-gt-PEERS.false)) c.edit_count-h.result c.edit_count-h.ensures (code_of c.check_versions.result) c.check_versions.ensures (ap code_of c.in_ok-check_versions.was) c.count-n.result c.count-n.ensures

pub returns : goal.returns
returns c =
    let x = c.args in ready_done x.s.now x.t.now x.e.now c.requires.0 x.a.now x.b.now x.ka x.kb x.most c.requires.1 c.requires.2 (omega (arith, c.if-ka-gt-PEERS.false)) (omega (arith, c.if-kb-gt-PEERS.false)) c.edit_count-h.result c.edit_count-h.ensures (code_of c.check_versions.result) c.check_versions.ensures (ap code_of c.in_ok-check_versions.was) c.count-n.result c.count-n.ensures c.measure_delta-m.result c.measure_delta-m.ensures c.room.result c.room.ensures (code_of c.check_rooms.result) c.check_rooms.ensures (ap code_of c.in_ok-check_rooms.was) c.count_seen.result c.count_seen.ensures
