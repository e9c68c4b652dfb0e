use Rattle.words.proofs.Bytes.{read_4, read_8}
use Rattle.store.specs.Row.{words_at}
use Rattle.store.proofs.get_words.Goals as goal

pub returns : goal.returns
unfolding words_at
returns c =
    rw (
      read_8 _ _ _ c.bytes_at.ensures c.from_le_bytes.ensures,
      read_8 _ _ _ c.bytes_at-2.ensures c.from_le_bytes-2.ensures,
      read_8 _ _ _ c.bytes_at-3.ensures c.from_le_bytes-3.ensures,
      read_8 _ _ _ c.bytes_at-4.ensures c.from_le_bytes-4.ensures,
      read_4 _ _ _ c.bytes_at-5.ensures c.from_le_bytes-5.ensures,
      read_4 _ _ _ c.bytes_at-6.ensures c.from_le_bytes-6.ensures,
      read_4 _ _ _ c.bytes_at-7.ensures c.from_le_bytes-7.ensures,
      read_4 _ _ _ c.bytes_at-8.ensures c.from_le_bytes-8.ensures,
      read_4 _ _ _ c.bytes_at-9.ensures c.from_le_bytes-9.ensures,
      read_4 _ _ _ c.bytes_at-10.ensures c.from_le_bytes-10.ensures,
      read_4 _ _ _ c.bytes_at-11.ensures c.from_le_bytes-11.ensures,
      read_4 _ _ _ c.bytes_at-12.ensures c.from_le_bytes-12.ensures,
      read_4 _ _ _ c.bytes_at-13.ensures c.from_le_bytes-13.ensures,
    )
