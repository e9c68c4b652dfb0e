use Rattle.words.proofs.Bytes.{read_4, read_8}
use Rattle.apply.specs.Items.{item_in}
use Rattle.apply.proofs.item.get_item.Goals as goal

pub returns : goal.returns
unfolding item_in
returns c =
    rw (
      c.id_of.ensures,
      read_8 _ _ _ c.bytes_at.ensures c.from_le_bytes.ensures,
      read_4 _ _ _ c.bytes_at-2.ensures c.from_le_bytes-2.ensures,
      read_4 _ _ _ c.bytes_at-3.ensures c.from_le_bytes-3.ensures,
      read_4 _ _ _ c.bytes_at-4.ensures c.from_le_bytes-4.ensures,
    )
