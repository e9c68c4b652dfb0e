use Prim.Native.Nat.{◌-◌}
use Rattle.rope.proofs.Entering.{state_head, lent, end_fits, clear_refused, clear_asks, clear_done}
use Rattle.rope.proofs.Editing.{in_long}
use borrow.Author.Tests.{not-true, not-false}
use lib.ListN.{length}
use mathlib.Core.Path.{◌≡◌, sym, ◌∙◌}
use native.Mathlib.Omega.{arith}
use mathlib.Core.Path.{ap}
use mathlib.Core.Bool.{not}
use Rattle.rope.proofs.edit.clear_diff_status.Goals as goal

pub returns-then-not-check : goal.returns-then-not-check
returns-then-not-check c = clear_refused c.args.s.now (sym c.check.ensures ∙ not-true _ (ap not c.if-not-check.true))

pub count-n-requires : goal.count-n-requires
count-n-requires c = state_head c.args.s.now (sym c.check.ensures ∙ not-false _ (ap not c.if-not-check.false))

pub slice_bounds-clear_rows-end : goal.slice_bounds-clear_rows-end
slice_bounds-clear_rows-end c =
    let s = c.args.s.now in
    end_fits s (state_head s (sym c.check.ensures ∙ not-false _ (ap not c.if-not-check.false))) c.room_end-end.result c.room_end-end.ensures

pub clear_rows-k-requires : goal.clear_rows-k-requires
clear_rows-k-requires c = clear_asks c.args.s.now (sym c.check.ensures ∙ not-false _ (ap not c.if-not-check.false)) c.count-n.result c.count-n.ensures c.room_end-end.result c.room_end-end.ensures

pub set_count-requires : goal.set_count-requires
set_count-requires c =
    let s = c.args.s.now in
    in_long s c.clear_rows-k.new.s (c.room_end-end.result - 72) (state_head s (sym c.check.ensures ∙ not-false _ (ap not c.if-not-check.false)))

pub returns : goal.returns
returns c =
    let s = c.args.s.now in
    let st = sym c.check.ensures ∙ not-false _ (ap not c.if-not-check.false) in
    let e : length c.clear_rows-k.new.s ≡ length (lent s (state_head s st) c.room_end-end.result c.room_end-end.ensures) = omega (arith, c.clear_rows-k.auto.s) in
    clear_done s st c.count-n.result c.count-n.ensures c.room_end-end.result c.room_end-end.ensures c.clear_rows-k.new.s _ c.clear_rows-k.result e c.clear_rows-k.ensures c.set_count.ensures
