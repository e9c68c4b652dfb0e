use Rattle.tracker.proofs.SameLaws.{meets_none, meets_low, meets_not, meets_some}
use native.Mathlib.Omega.{arith}
use Rattle.tracker.proofs.same.reach.Goals as goal

pub unit-requires : goal.unit-requires
unit-requires c = let a = c.args in (c.requires.2, meets_low a.row a.x a.k c.requires.0 c.requires.2 c.requires.1 _ c.unit-u.ensures _ c.offset_of.ensures _ c.in-Some.is)

pub overflow_sub-rle_len-then-same_unit : goal.overflow_sub-rle_len-then-same_unit
overflow_sub-rle_len-then-same_unit c = let a = c.args in omega (arith, c.rle_len-then-same_unit.ensures, meets_low a.row a.x a.k c.requires.0 c.requires.2 c.requires.1 _ c.unit-u.ensures _ c.offset_of.ensures _ c.in-Some.is)

pub returns-in_default : goal.returns-in_default
returns-in_default c = let a = c.args in meets_none a.row a.x a.k c.requires.0 c.requires.2 c.requires.1 _ c.unit-u.ensures _ c.offset_of.ensures c.in_default.is

pub returns-then-same_unit : goal.returns-then-same_unit
returns-then-same_unit c = let a = c.args in let l = meets_low a.row a.x a.k c.requires.0 c.requires.2 c.requires.1 _ c.unit-u.ensures _ c.offset_of.ensures _ c.in-Some.is in meets_some a.row a.x a.k c.requires.0 c.requires.2 c.requires.1 _ c.unit-u.ensures _ c.offset_of.ensures _ c.in-Some.is _ c.unit.ensures _ c.same_unit.ensures c.if-same_unit.true _ (omega (arith, l, c.requires.1, c.rle_len.ensures, c.rle_len-then-same_unit.ensures, c.min.ensures)) (omega (arith, l, c.requires.1, c.rle_len.ensures, c.rle_len-then-same_unit.ensures, c.min.ensures)) (omega (arith, l, c.requires.1, c.rle_len.ensures, c.rle_len-then-same_unit.ensures, c.min.ensures))

pub returns-else-same_unit : goal.returns-else-same_unit
returns-else-same_unit c = let a = c.args in meets_not a.row a.x a.k c.requires.0 c.requires.2 c.requires.1 _ c.unit-u.ensures _ c.offset_of.ensures _ c.in-Some.is _ c.unit.ensures _ c.same_unit.ensures c.if-same_unit.false
