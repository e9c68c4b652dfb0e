use Rattle.words.proofs.Bytes.{read_8}
use Rattle.store.specs.Header.{count}
use Rattle.store.proofs.header.count.Goals as goal

pub returns : goal.returns
unfolding count
returns c = read_8 _ _ _ c.bytes_at.ensures c.from_le_bytes.ensures
