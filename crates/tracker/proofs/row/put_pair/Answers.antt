use mathlib.Core.Path.{refl}
use Prim.Native.Nat.{◌*◌, ◌≤◌}
use native.Mathlib.Omega.{arith}
use lib.ListN.{length}
use mir.Facts.{to_z-of_z}
use mir.Syntax.{w32}
use mir.Val.{SFits, of_z}
use borrow.Author.Rules.{rules}
use Rattle.words.specs.Le.{bytes_of}
use Rattle.words.proofs.Bytes.{write_4, write_8}
use Rattle.words.proofs.Puts.{next}
use Rattle.tracker.specs.Rows.{pair_bytes}
use Rattle.tracker.proofs.row.put_pair.Goals as goal

pub returns : goal.returns
unfolding pair_bytes bytes_of
returns c =
    let a = c.args in
    let h : a.i * 12 ≤ length a.v.now = omega (arith, c.requires) in
    let f : SFits w32 a.k.many = search rules in
    let peer = write_8 a.k.peer _ _ _ _ c.to_le_bytes.ensures c.put.ensures in
    let many = write_4 (of_z w32 a.k.many) _ _ _ _ (rw (to_z-of_z f) at c.to_le_bytes-2.ensures) c.put-2.ensures in
    next a.v.now _ _ (a.i * 12) _ h peer many refl
