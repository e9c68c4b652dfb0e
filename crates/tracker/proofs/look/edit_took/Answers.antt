use Prim.Native.Nat.{◌*◌}
use lib.Seq.{drop-drop}
use Rattle.words.proofs.Bytes.{read_4}
use Rattle.tracker.specs.Rows.{took_in}
use Rattle.tracker.proofs.look.edit_took.Goals as goal

pub returns : goal.returns
unfolding took_in
returns c = rw (drop-drop 44 (c.args.i * 256) c.args.e.now) (read_4 _ _ _ c.bytes_at.ensures c.from_le_bytes.ensures)
