use Prim.Native.Nat.{◌*◌}
use Rattle.words.proofs.Bytes.{read_4, read_8}
use Rattle.tracker.proofs.Parts.{range_at}
use Rattle.tracker.proofs.row.get_target.Goals as goal

pub returns : goal.returns
returns c =
    rw (
      c.id_of-id.ensures,
      read_4 _ _ _ c.bytes_at-3.ensures c.from_le_bytes-len.ensures,
      read_4 _ _ _ c.bytes_at-2.ensures c.from_le_bytes-bits.ensures,
      read_8 _ _ _ c.bytes_at.ensures c.from_le_bytes-peer.ensures,
    ) (range_at c.args.t.now (c.args.i * 16))
