use Rattle.rope.proofs.Entering.{state_head}
use Rattle.rope.proofs.Updated.{some_asks, some_refused, some_rewrites, some_done}
use Rattle.span.proofs.RefusalLaws.{number_not_zero}
use Rattle.std.proofs.lemmas.Result.{err_from_is_err_and}
use mathlib.Core.Path.{refl}
use Rattle.rope.proofs.update.update_some.Goals as goal

pub count-n-requires : goal.count-n-requires
count-n-requires c = state_head c.args.s.now c.requires.0

pub slice_bounds-refuse_update-count : goal.slice_bounds-refuse_update-count
slice_bounds-refuse_update-count c = state_head c.args.s.now c.requires.0

pub slice_bounds-refuse_update-start : goal.slice_bounds-refuse_update-start
slice_bounds-refuse_update-start c = state_head c.args.s.now c.requires.0

pub refuse_update-requires : goal.refuse_update-requires
refuse_update-requires c = let a = c.args in some_asks a.s.now a.u c.requires.0 c.requires.1 c.count-n.result c.count-n.ensures c.room-most.result c.room-most.ensures

pub returns-in_err-refuse_update : goal.returns-in_err-refuse_update
returns-in_err-refuse_update c = let a = c.args in let p = err_from_is_err_and c.from_residual.result c.from_residual.ensures.1 in rw (p.1, p.2) (some_refused a.s.now a.u c.requires.0 c.requires.1 c.count-n.result c.count-n.ensures c.room-most.result c.room-most.ensures _ c.in_err-refuse_update.ensures (number_not_zero _))

pub write_update-requires : goal.write_update-requires
write_update-requires c = let a = c.args in some_rewrites a.s.now a.u c.requires.0 c.requires.1 c.count-n.result c.count-n.ensures c.room-most.result c.room-most.ensures 0 c.in_ok-refuse_update.ensures refl

pub returns : goal.returns
returns c = let a = c.args in some_done a.s.now a.u c.requires.0 c.requires.1 c.count-n.result c.count-n.ensures c.room-most.result c.room-most.ensures 0 c.in_ok-refuse_update.ensures refl c.write_update.new.s c.write_update.ensures
