use Prim.Native.Nat.{◌+◌, ◌*◌, ◌^◌, ◌≤◌, ◌<◌}
use mathlib.Core.Path.{◌≡◌, ap, ◌∙◌}
use native.Mathlib.Omega.{arith}
use lib.ListN.{length}
use Rattle.words.specs.Le.{bytes_of}
use Rattle.words.proofs.Bytes.{write_4, write_8}
use Rattle.words.proofs.Puts.{length_bytes, next}
use Rattle.tracker.specs.Rows.{pairs}
use Rattle.tracker.proofs.Zips.{column_put}
use Rattle.tracker.proofs.columns.put_column.Goals as goal

pub returns : goal.returns
returns c =
    let h : c.args.i * 12 ≤ length c.args.v.now = omega (arith, c.requires) in
    let f : c.args.peer < 2 ^ 64 = omega (arith, c.ranges) in
    let g : c.args.bits < 2 ^ 32 = omega (arith, c.ranges) in
    let k : length (bytes_of 8 c.args.peer) ≡ 8 = length_bytes 8 c.args.peer in
    let o : c.args.i * 12 + 8 ≡ c.args.i * 12 + length (bytes_of 8 c.args.peer) = omega (arith, k) in
    let peer = write_8 c.args.peer _ _ _ _ c.to_le_bytes.ensures c.put.ensures in
    let bits = write_4 c.args.bits _ _ _ _ c.to_le_bytes-2.ensures c.put-2.ensures in
    let q = next c.args.v.now (bytes_of 8 c.args.peer) (bytes_of 4 c.args.bits) (c.args.i * 12) _ h peer bits o in
    ap (pairs (c.args.i + 1)) q ∙ column_put c.args.v.now c.args.i c.args.peer c.args.bits f g h
