use Rattle.tracker.proofs.Standing.{stand_head, stand_asks, stand_done}
use Rattle.rope.proofs.Entering.{lent, end_fits}
use Rattle.rope.proofs.Editing.{in_long}
use Prim.Native.Nat.{◌-◌}
use mathlib.Core.Path.{◌≡◌}
use native.Mathlib.Omega.{arith}
use lib.ListN.{length}
use Rattle.tracker.proofs.stand.stand.Goals as goal

pub slice_bounds-restate-end : goal.slice_bounds-restate-end
slice_bounds-restate-end c = let x = c.args in end_fits x.s.now (stand_head x.both x.n x.k x.s.now x.h x.e.now x.t.now x.ka x.a.now x.kb x.b.now c.requires) c.room_end-end.result c.room_end-end.ensures

pub restate-requires : goal.restate-requires
restate-requires c = let x = c.args in stand_asks x.both x.n x.k x.s.now x.h x.e.now x.t.now x.ka x.a.now x.kb x.b.now c.requires c.room_end-end.result c.room_end-end.ensures

pub set_count-requires : goal.set_count-requires
set_count-requires c = let x = c.args in in_long x.s.now c.restate.new.s (c.room_end-end.result - 72) (stand_head x.both x.n x.k x.s.now x.h x.e.now x.t.now x.ka x.a.now x.kb x.b.now c.requires)

pub returns : goal.returns
returns c =
    let x = c.args in
    let f = c.restate in
    let r = c.room_end-end in
    let k : length f.new.s ≡ length (lent x.s.now (stand_head x.both x.n x.k x.s.now x.h x.e.now x.t.now x.ka x.a.now x.kb x.b.now c.requires) r.result r.ensures) = omega (arith, f.auto.s) in
    stand_done x.both x.n x.k x.s.now x.h x.e.now x.t.now x.ka x.a.now x.kb x.b.now c.requires r.result r.ensures f.new.s c.set_count.new.s k f.ensures c.set_count.ensures
