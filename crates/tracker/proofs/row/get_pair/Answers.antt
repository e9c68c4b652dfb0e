use Prim.Native.Nat.{◌*◌}
use Rattle.words.proofs.Bytes.{read_8, read_signed}
use Rattle.tracker.proofs.Parts.{pair_at}
use Rattle.tracker.proofs.row.get_pair.Goals as goal

pub returns : goal.returns
returns c =
    rw (
      read_signed _ _ _ (record { sfits = c.from_le_bytes-many.type_inv }) c.bytes_at-2.ensures c.from_le_bytes-many.ensures,
      read_8 _ _ _ c.bytes_at.ensures c.from_le_bytes-peer.ensures,
    ) (pair_at c.args.v.now (c.args.i * 12))
