use Rattle.rope.proofs.Entering.{lent, end_fits, write_asks, write_done}
use Rattle.rope.proofs.States.{room_most}
use lib.ListN.{length}
use mathlib.Core.Path.{◌≡◌}
use native.Mathlib.Omega.{arith}
use Rattle.rope.proofs.edit.write_plan.Goals as goal

pub slice_bounds-perform-end : goal.slice_bounds-perform-end
slice_bounds-perform-end c = end_fits c.args.s.now c.requires.head c.room_end-end.result c.room_end-end.ensures

pub perform-requires : goal.perform-requires
perform-requires c = write_asks c.args.p c.args.n c.args.s.now c.requires c.room_end-end.result c.room_end-end.ensures

pub rows-requires : goal.rows-requires
rows-requires c = omega (arith, c.requires.fits, room_most c.args.s.now)

pub returns : goal.returns
returns c =
    let a = c.args in
    let w = c.requires in
    let e : length c.perform.new.s ≡ length (lent a.s.now w.head c.room_end-end.result c.room_end-end.ensures) = omega (arith, c.perform.auto.s) in
    write_done a.p a.n a.s.now w c.room_end-end.result c.room_end-end.ensures c.perform.new.s _ c.rows.result e c.perform.ensures c.rows.ensures c.set_count.ensures
