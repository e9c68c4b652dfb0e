use Rattle.words.proofs.Bytes.{read_8}
use Rattle.tracker.specs.Rows.{edit_in}
use Rattle.tracker.proofs.held.peer_at.Goals as goal

pub returns : goal.returns
unfolding edit_in
returns c = read_8 _ _ _ c.bytes_at.ensures c.from_le_bytes.ensures
