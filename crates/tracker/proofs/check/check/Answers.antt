use Rattle.tracker.proofs.CheckLaws.{room_small, is_short, is_many, is_over, is_none, is_log}
use Rattle.tracker.proofs.TakenLaws.{part_is, part_length}
use Rattle.tracker.specs.Rows.{target_room, used, edit_count}
use Rattle.rope.proofs.Entering.{state_head, state_stored}
use borrow.Author.Tests.{not-true, not-false}
use lib.ListN.{length, drop}
use native.Mathlib.Omega.{arith}
use mathlib.Core.Path.{sym, ap₂, ◌∙◌}
use Prim.Native.Nat.{◌≤◌}
use mathlib.Core.Path.{ap}
use mathlib.Core.Bool.{not}
use Rattle.tracker.proofs.check.check.Goals as goal

pub returns-then-e-lt-EDIT_BYTES : goal.returns-then-e-lt-EDIT_BYTES
returns-then-e-lt-EDIT_BYTES c = let a = c.args in sym (is_short a.s.now a.t.now a.e.now c.if-e-lt-EDIT_BYTES.true)

pub returns-then-count : goal.returns-then-count
returns-then-count c = let a = c.args in sym (is_many a.s.now a.t.now a.e.now c.if-e-lt-EDIT_BYTES.false (omega (arith, c.if-count.true, c.edit_count-count.ensures)))

pub returns-then-target_room-used_len : goal.returns-then-target_room-used_len
returns-then-target_room-used_len c = let a = c.args in let g : 512064 ≤ length a.e.now = c.if-e-lt-EDIT_BYTES.false in let m : edit_count a.e.now ≤ 2000 = omega (arith, c.if-count.false, c.edit_count-count.ensures) in let u = c.used_len.ensures ∙ ap₂ used c.edit_count-count.ensures (part_is a.e.now 64) in sym (is_over a.s.now a.t.now a.e.now g m (omega (arith, c.if-target_room-used_len.true, u, c.target_room.ensures)))

pub returns-then-not-check : goal.returns-then-not-check
returns-then-not-check c = let a = c.args in let g : 512064 ≤ length a.e.now = c.if-e-lt-EDIT_BYTES.false in let m : edit_count a.e.now ≤ 2000 = omega (arith, c.if-count.false, c.edit_count-count.ensures) in let u = c.used_len.ensures ∙ ap₂ used c.edit_count-count.ensures (part_is a.e.now 64) in let l : used (edit_count a.e.now) (drop 64 a.e.now) ≤ target_room a.t.now = omega (arith, c.if-target_room-used_len.false, u, c.target_room.ensures) in sym (is_none a.s.now a.t.now a.e.now g m l (sym c.check.ensures ∙ not-true _ (ap not c.if-not-check.true)))

pub count-n-requires : goal.count-n-requires
count-n-requires c = state_head c.args.s.now (sym c.check.ensures ∙ not-false _ (ap not c.if-not-check.false))

pub slice_bounds-log_fits-count : goal.slice_bounds-log_fits-count
slice_bounds-log_fits-count c = omega (arith, state_head c.args.s.now (sym c.check.ensures ∙ not-false _ (ap not c.if-not-check.false)))

pub slice_bounds-log_fits-start : goal.slice_bounds-log_fits-start
slice_bounds-log_fits-start c = omega (arith, state_head c.args.s.now (sym c.check.ensures ∙ not-false _ (ap not c.if-not-check.false)))

pub log_fits-requires : goal.log_fits-requires
log_fits-requires c = let a = c.args in let g : 512064 ≤ length a.e.now = c.if-e-lt-EDIT_BYTES.false in let m : edit_count a.e.now ≤ 2000 = omega (arith, c.if-count.false, c.edit_count-count.ensures) in let u = c.used_len.ensures ∙ ap₂ used c.edit_count-count.ensures (part_is a.e.now 64) in (state_stored a.s.now (sym c.check.ensures ∙ not-false _ (ap not c.if-not-check.false)) _ c.count-n.ensures, omega (arith, g, c.if-count.false, part_length a.e.now 64), c.if-count.false, omega (arith, c.used_len.ensures, c.if-target_room-used_len.false, c.target_room.ensures, (room_small a.t.now).1), omega (arith, c.used_len.ensures, c.if-target_room-used_len.false, c.target_room.ensures, (room_small a.t.now).0))

pub returns : goal.returns
returns c = let a = c.args in let g : 512064 ≤ length a.e.now = c.if-e-lt-EDIT_BYTES.false in let m : edit_count a.e.now ≤ 2000 = omega (arith, c.if-count.false, c.edit_count-count.ensures) in let u = c.used_len.ensures ∙ ap₂ used c.edit_count-count.ensures (part_is a.e.now 64) in let l : used (edit_count a.e.now) (drop 64 a.e.now) ≤ target_room a.t.now = omega (arith, c.if-target_room-used_len.false, u, c.target_room.ensures) in is_log a.s.now a.t.now a.e.now g m l (sym c.check.ensures ∙ not-false _ (ap not c.if-not-check.false)) _ c.count-n.ensures _ c.edit_count-count.ensures _ c.placeholder.ensures _ (part_is a.e.now 64) _ c.log_fits.ensures
