use Rattle.words.proofs.Bytes.{read_8}
use Rattle.tracker.specs.Rows.{edit_count}
use Rattle.tracker.proofs.row.edit_count.Goals as goal

pub returns : goal.returns
unfolding edit_count
returns c = read_8 _ _ _ c.bytes_at.ensures c.from_le_bytes.ensures
