use Rattle.words.proofs.Bytes.{read_4, read_8}
use Rattle.tracker.specs.Rows.{edit_in, act_in}
use Rattle.tracker.proofs.row.get_head.Goals as goal

pub returns : goal.returns
unfolding edit_in act_in
returns c =
    rw (
      c.does_of.ensures,
      read_4 _ _ _ c.bytes_at-9.ensures c.from_le_bytes-last.ensures,
      read_4 _ _ _ c.bytes_at-8.ensures c.from_le_bytes-first.ensures,
      read_4 _ _ _ c.bytes_at-7.ensures c.from_le_bytes-lamport.ensures,
      read_4 _ _ _ c.bytes_at-6.ensures c.from_le_bytes-kind.ensures,
      read_4 _ _ _ c.bytes_at-5.ensures c.from_le_bytes-at.ensures,
      c.id_of-target.ensures,
      read_4 _ _ _ c.bytes_at-4.ensures c.from_le_bytes-4.ensures,
      read_8 _ _ _ c.bytes_at-3.ensures c.from_le_bytes-3.ensures,
      c.id_of-id.ensures,
      read_4 _ _ _ c.bytes_at-2.ensures c.from_le_bytes-2.ensures,
      read_8 _ _ _ c.bytes_at.ensures c.from_le_bytes.ensures,
    )
