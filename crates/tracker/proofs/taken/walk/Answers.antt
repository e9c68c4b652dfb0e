use Rattle.tracker.proofs.FollowLaws.{walked_none, walked_low, walked_before, walked_range, walked_row}
use Rattle.tracker.specs.Rows.{to_range}
use Rattle.span.proofs.IdsLaws.{room_less}
use native.Mathlib.Omega.{arith}
use Rattle.tracker.proofs.taken.walk.Goals as goal

pub inc-x-requires : goal.inc-x-requires
inc-x-requires c = let a = c.args in room_less a.r.id.counter a.o a.r.len (omega (arith, c.requires.2)) c.requires.3

pub overflow_sub-n : goal.overflow_sub-n
overflow_sub-n c = let a = c.args in let h = walked_low a.row c.requires.0 (to_range a.r) a.k a.o c.requires.1 c.requires.2 _ _ _ c.inc-x.ensures c.rle_len-n.ensures c.offset_of.ensures _ c.in-Some.is in omega (arith, h)

pub overflow_sub-result-else-r-o : goal.overflow_sub-result-else-r-o
overflow_sub-result-else-r-o c = let a = c.args in let h = walked_low a.row c.requires.0 (to_range a.r) a.k a.o c.requires.1 c.requires.2 _ _ _ c.inc-x.ensures c.rle_len-n.ensures c.offset_of.ensures _ c.in-Some.is in omega (arith, h)

pub returns-in_default : goal.returns-in_default
returns-in_default c = let a = c.args in walked_before a.row c.requires.0 (to_range a.r) a.k a.o c.requires.1 c.requires.2 _ _ _ c.inc-x.ensures c.rle_len-n.ensures c.offset_of.ensures _ c.in-Some.is c.if-k-d.false

pub returns-in_default-2 : goal.returns-in_default-2
returns-in_default-2 c = let a = c.args in walked_none a.row c.requires.0 (to_range a.r) a.k a.o c.requires.1 c.requires.2 _ _ _ c.inc-x.ensures c.rle_len-n.ensures c.offset_of.ensures c.in_default.is

pub returns-then-r-o : goal.returns-then-r-o
returns-then-r-o c = let a = c.args in walked_range a.row c.requires.0 (to_range a.r) a.k a.o c.requires.1 c.requires.2 _ _ _ c.inc-x.ensures c.rle_len-n.ensures c.offset_of.ensures _ c.in-Some.is c.if-k-d.true c.if-r-o.true

pub returns-else-r-o : goal.returns-else-r-o
returns-else-r-o c = let a = c.args in walked_row a.row c.requires.0 (to_range a.r) a.k a.o c.requires.1 c.requires.2 _ _ _ c.inc-x.ensures c.rle_len-n.ensures c.offset_of.ensures _ c.in-Some.is c.if-k-d.true c.if-r-o.false
