use mathlib.Core.Path.{refl, sym}
use Prim.Native.Nat.{◌*◌, ◌≤◌}
use native.Mathlib.Omega.{arith}
use lib.ListN.{length}
use Rattle.words.specs.Le.{bytes_of}
use Rattle.words.proofs.Bytes.{write_4, write_8}
use Rattle.words.proofs.Puts.{next}
use Rattle.tracker.specs.Rows.{range_bytes}
use Rattle.tracker.proofs.row.put_target.Goals as goal

pub returns : goal.returns
unfolding range_bytes bytes_of
returns c =
    let a = c.args in
    let h : a.i * 16 ≤ length a.t.now = omega (arith, c.requires) in
    let peer = write_8 a.x.id.peer _ _ _ _ c.to_le_bytes.ensures c.put.ensures in
    let counter = write_4 c.counter_bits-bits.result _ _ _ _ c.to_le_bytes-2.ensures c.put-2.ensures in
    let len = write_4 a.x.len _ _ _ _ c.to_le_bytes-3.ensures c.put-3.ensures in
    rw (sym c.counter_bits-bits.ensures.0)
    (next a.t.now _ _ (a.i * 16) _ h (next a.t.now _ _ (a.i * 16) _ h peer counter refl) len refl)
