use Rattle.std.proofs.lemmas.Result.{err_from_is_err_and}
use Rattle.span.proofs.RefusalLaws.{number_not_zero}
use Rattle.tracker.proofs.Checking.{well_head, well_edits, to_many, to_asks, to_refused, to_sees, to_full, to_stands, to_done}
use native.Mathlib.Omega.{arith}
use mathlib.Core.Path.{◌≡◌, refl}
use lib.ListN.{length}
use Rattle.tracker.proofs.checkout.checkout_to.Goals as goal

pub returns-then-m-gt-PEERS : goal.returns-then-m-gt-PEERS
returns-then-m-gt-PEERS c =
    let x = c.args in to_many x.s.now x.t.now x.e.now c.requires.0 x.v.now x.m c.requires.1 c.if-m-gt-PEERS.true

pub edit_count-h-requires : goal.edit_count-h-requires
edit_count-h-requires c =
    let x = c.args in well_edits x.s.now x.t.now x.e.now c.requires.0

pub slice_bounds-version_code-count : goal.slice_bounds-version_code-count
slice_bounds-version_code-count c =
    let x = c.args in well_edits x.s.now x.t.now x.e.now c.requires.0

pub slice_bounds-version_code-start : goal.slice_bounds-version_code-start
slice_bounds-version_code-start c =
    let x = c.args in well_edits x.s.now x.t.now x.e.now c.requires.0

pub version_code-requires : goal.version_code-requires
version_code-requires c =
    let x = c.args in to_asks x.s.now x.t.now x.e.now c.requires.0 x.v.now x.m c.requires.1 (omega (arith, c.if-m-gt-PEERS.false)) c.edit_count-h.result c.edit_count-h.ensures

pub returns-in_err-version_code : goal.returns-in_err-version_code
returns-in_err-version_code c =
    let x = c.args in
    let p = err_from_is_err_and c.from_residual.result c.from_residual.ensures.1 in
    rw (p.1, p.2) (to_refused x.s.now x.t.now x.e.now c.requires.0 x.v.now x.m c.requires.1 (omega (arith, c.if-m-gt-PEERS.false)) c.edit_count-h.result c.edit_count-h.ensures _ c.in_err-version_code.ensures (number_not_zero _))

pub count-n-requires : goal.count-n-requires
count-n-requires c =
    let x = c.args in well_head x.s.now x.t.now x.e.now c.requires.0

pub slice_bounds-count_seen-count : goal.slice_bounds-count_seen-count
slice_bounds-count_seen-count c =
    let x = c.args in well_head x.s.now x.t.now x.e.now c.requires.0

pub slice_bounds-count_seen-start : goal.slice_bounds-count_seen-start
slice_bounds-count_seen-start c =
    let x = c.args in well_head x.s.now x.t.now x.e.now c.requires.0

pub slice_bounds-count_seen-count-2 : goal.slice_bounds-count_seen-count-2
slice_bounds-count_seen-count-2 c =
    let x = c.args in well_edits x.s.now x.t.now x.e.now c.requires.0

pub slice_bounds-count_seen-start-2 : goal.slice_bounds-count_seen-start-2
slice_bounds-count_seen-start-2 c =
    let x = c.args in well_edits x.s.now x.t.now x.e.now c.requires.0

pub count_seen-k-requires : goal.count_seen-k-requires
count_seen-k-requires c =
    let x = c.args in to_sees x.s.now x.t.now x.e.now c.requires.0 x.v.now x.m c.requires.1 (omega (arith, c.if-m-gt-PEERS.false)) c.edit_count-h.result c.edit_count-h.ensures 0 c.in_ok-version_code.ensures refl c.count-n.result c.count-n.ensures

pub returns-then-room-k : goal.returns-then-room-k
returns-then-room-k c =
    let x = c.args in to_full x.s.now x.t.now x.e.now c.requires.0 x.v.now x.m c.requires.1 (omega (arith, c.if-m-gt-PEERS.false)) c.edit_count-h.result c.edit_count-h.ensures 0 c.in_ok-version_code.ensures refl c.count-n.result c.count-n.ensures c.count_seen-k.result c.count_seen-k.ensures c.room.result c.room.ensures c.if-room-k.true

pub slice_bounds-stand-count : goal.slice_bounds-stand-count
slice_bounds-stand-count c =
    let x = c.args in well_edits x.s.now x.t.now x.e.now c.requires.0

pub slice_bounds-stand-start : goal.slice_bounds-stand-start
slice_bounds-stand-start c =
    let x = c.args in well_edits x.s.now x.t.now x.e.now c.requires.0

pub stand-requires : goal.stand-requires
stand-requires c =
    let x = c.args in to_stands x.s.now x.t.now x.e.now c.requires.0 x.v.now x.m c.requires.1 (omega (arith, c.if-m-gt-PEERS.false)) c.edit_count-h.result c.edit_count-h.ensures 0 c.in_ok-version_code.ensures refl c.count-n.result c.count-n.ensures c.count_seen-k.result c.count_seen-k.ensures c.room.result c.room.ensures (omega (arith, c.if-room-k.false))

pub returns : goal.returns
returns c =
    let x = c.args in
    let u = c.stand.new.s in
    let q : length u ≡ length x.s.now = omega (arith, c.stand.auto.s) in
    to_done x.s.now x.t.now x.e.now c.requires.0 x.v.now x.m c.requires.1 (omega (arith, c.if-m-gt-PEERS.false)) c.edit_count-h.result c.edit_count-h.ensures 0 c.in_ok-version_code.ensures refl c.count-n.result c.count-n.ensures c.count_seen-k.result c.count_seen-k.ensures c.room.result c.room.ensures (omega (arith, c.if-room-k.false)) u q c.stand.ensures
