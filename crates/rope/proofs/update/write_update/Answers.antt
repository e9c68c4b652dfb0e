use Rattle.rope.proofs.Updated.{rewrites_asks, rewrites_done}
use Rattle.rope.proofs.Entering.{end_fits, lent}
use mathlib.Core.Path.{◌≡◌, refl}
use native.Mathlib.Omega.{arith}
use lib.ListN.{length}
use Rattle.rope.proofs.update.write_update.Goals as goal

pub slice_bounds-update_rows-end : goal.slice_bounds-update_rows-end
slice_bounds-update_rows-end c = end_fits c.args.s.now c.requires.head c.room_end-end.result c.room_end-end.ensures

pub update_rows-k-requires : goal.update_rows-k-requires
update_rows-k-requires c = let a = c.args in rewrites_asks a.u a.n a.s.now c.requires c.room_end-end.result c.room_end-end.ensures

pub returns : goal.returns
returns c =
    let a = c.args in
    let f = c.update_rows-k in
    let k : length f.new.s ≡ length (lent a.s.now c.requires.head c.room_end-end.result c.room_end-end.ensures) = omega (arith, f.auto.s) in
    rewrites_done a.u a.n a.s.now c.requires c.room_end-end.result c.room_end-end.ensures f.new.s c.set_count.new.s f.result _ k f.ensures refl c.set_count.ensures
