use Rattle.words.proofs.Bytes.{read_8}
use Rattle.tracker.specs.Rows.{placeholder_in}
use Rattle.tracker.proofs.row.placeholder.Goals as goal

pub returns : goal.returns
unfolding placeholder_in
returns c = read_8 _ _ _ c.bytes_at.ensures c.from_le_bytes.ensures
