use Prim.Native.Nat.{◌*◌, ◌≤◌}
use mathlib.Core.Path.{refl, ap, ◌∙◌}
use native.Mathlib.Omega.{arith}
use lib.ListN.{length}
use Rattle.words.specs.Le.{bytes_of}
use Rattle.words.proofs.Bytes.{bytes_4, write_8}
use Rattle.words.proofs.Puts.{next}
use Rattle.apply.specs.Items.{item_bytes}
use Rattle.apply.proofs.item.put_item.Goals as goal

pub returns : goal.returns
unfolding item_bytes bytes_of
returns c =
    let a = c.args in
    let h : a.i * 24 ≤ length a.rows.now = omega (arith, c.requires) in
    let peer = write_8 a.item.id.peer _ _ _ _ c.to_le_bytes.ensures c.put.ensures in
    let rest = rw (
      c.to_le_bytes-2.ensures ∙ bytes_4 c.counter_bits.result ∙ ap (bytes_of 4) c.counter_bits.ensures.0,
      c.to_le_bytes-3.ensures ∙ bytes_4 a.item.content.start,
      c.to_le_bytes-4.ensures ∙ bytes_4 a.item.content.end,
    ) at c.put_all.ensures in
    next a.rows.now _ _ (a.i * 24) _ h peer rest refl
