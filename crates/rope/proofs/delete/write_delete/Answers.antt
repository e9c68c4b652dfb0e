use Rattle.rope.proofs.Deletion.{removes_asks, removes_done}
use Rattle.rope.proofs.Entering.{end_fits, lent}
use mathlib.Core.Path.{◌≡◌, refl}
use native.Mathlib.Omega.{arith}
use lib.ListN.{length}
use Rattle.rope.proofs.delete.write_delete.Goals as goal

pub slice_bounds-delete_rows-end : goal.slice_bounds-delete_rows-end
slice_bounds-delete_rows-end c = end_fits c.args.s.now c.requires.head c.room_end-end.result c.room_end-end.ensures

pub delete_rows-k-requires : goal.delete_rows-k-requires
delete_rows-k-requires c = let a = c.args in removes_asks a.d a.n a.s.now c.requires c.room_end-end.result c.room_end-end.ensures

pub returns : goal.returns
returns c =
    let a = c.args in
    let f = c.delete_rows-k in
    let k : length f.new.s ≡ length (lent a.s.now c.requires.head c.room_end-end.result c.room_end-end.ensures) = omega (arith, f.auto.s) in
    removes_done a.d a.n a.s.now c.requires c.room_end-end.result c.room_end-end.ensures f.new.s c.set_count.new.s f.result _ k f.ensures refl c.set_count.ensures
