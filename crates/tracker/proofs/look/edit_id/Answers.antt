use Prim.Native.Nat.{◌*◌}
use lib.Seq.{drop-drop}
use Rattle.words.proofs.Bytes.{read_4, read_8}
use Rattle.tracker.specs.Rows.{edit_in}
use Rattle.tracker.proofs.look.edit_id.Goals as goal

pub returns : goal.returns
unfolding edit_in
returns c =
    let a = c.args in
    rw (
      drop-drop 16 (a.i * 256) a.e.now,
      c.id_of.ensures,
      read_4 _ _ _ c.bytes_at-2.ensures c.from_le_bytes-2.ensures,
      read_8 _ _ _ c.bytes_at.ensures c.from_le_bytes.ensures,
    )
