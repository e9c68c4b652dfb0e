use Prim.Native.Nat.{◌/◌}
use lib.ListN.{length}
use Rattle.std.proofs.lemmas.Result.{err_from_is_err_and}
use mathlib.Core.Path.{refl}
use Rattle.rope.proofs.Entering.{state_head}
use Rattle.rope.proofs.Deletion.{some_asks, some_refused, some_report, some_room, some_removes, some_done}
use Rattle.rope.proofs.delete.delete_some.Goals as goal

pub count-n-requires : goal.count-n-requires
count-n-requires c = state_head c.args.s.now c.requires.0

pub slice_bounds-rows-count : goal.slice_bounds-rows-count
slice_bounds-rows-count c = state_head c.args.s.now c.requires.0

pub slice_bounds-rows-start : goal.slice_bounds-rows-start
slice_bounds-rows-start c = state_head c.args.s.now c.requires.0

pub refuse_delete-requires : goal.refuse_delete-requires
refuse_delete-requires c = let a = c.args in some_asks a.s.now a.out.now a.d a.reversed c.requires.0 c.requires.1 c.count-n.result c.count-n.ensures c.room-most.result c.room-most.ensures (length a.out.now / 72) refl

pub returns-in_err-refuse_delete : goal.returns-in_err-refuse_delete
returns-in_err-refuse_delete c = let a = c.args in let p = err_from_is_err_and c.from_residual.result c.from_residual.ensures.1 in rw (p.1, p.2) (some_refused a.s.now a.out.now a.d a.reversed c.requires.0 c.requires.1 c.count-n.result c.count-n.ensures c.room-most.result c.room-most.ensures (length a.out.now / 72) refl _ c.in_err-refuse_delete.ensures)

pub report-k-requires : goal.report-k-requires
report-k-requires c = let a = c.args in (some_report a.s.now a.out.now a.d a.reversed c.requires.0 c.requires.1 c.count-n.result c.count-n.ensures c.room-most.result c.room-most.ensures (length a.out.now / 72) refl 0 c.in_ok-refuse_delete.ensures refl, some_room a.s.now a.out.now a.d a.reversed c.requires.0 c.requires.1 c.count-n.result c.count-n.ensures c.room-most.result c.room-most.ensures (length a.out.now / 72) refl 0 c.in_ok-refuse_delete.ensures refl)

pub write_delete-requires : goal.write_delete-requires
write_delete-requires c = let a = c.args in some_removes a.s.now a.out.now a.d a.reversed c.requires.0 c.requires.1 c.count-n.result c.count-n.ensures c.room-most.result c.room-most.ensures (length a.out.now / 72) refl 0 c.in_ok-refuse_delete.ensures refl

pub returns : goal.returns
returns c = let a = c.args in some_done a.s.now a.out.now a.d a.reversed c.requires.0 c.requires.1 c.count-n.result c.count-n.ensures c.room-most.result c.room-most.ensures (length a.out.now / 72) refl 0 c.in_ok-refuse_delete.ensures refl c.report-k.result c.write_delete.new.s c.report-k.new.out c.report-k.ensures c.write_delete.ensures
