use mathlib.Core.Path.{refl, ◌∙◌}
use Prim.Native.Nat.{◌≤◌}
use native.Mathlib.Omega.{arith}
use lib.ListN.{length}
use Rattle.words.specs.Le.{bytes_of}
use Rattle.words.proofs.Bytes.{bytes_8}
use Rattle.words.proofs.Puts.{next}
use Rattle.tracker.specs.Writes.{header_bytes}
use Rattle.tracker.proofs.row.put_header.Goals as goal

pub returns : goal.returns
unfolding header_bytes bytes_of
returns c =
    let a = c.args in
    let h : 0 ≤ length a.e.now = omega arith in
    let said = rw (c.to_le_bytes.ensures ∙ bytes_8 a.count, c.to_le_bytes-2.ensures ∙ bytes_8 a.placeholder) at c.put_all.ensures in
    next a.e.now _ _ 0 _ h said c.put_all-2.ensures refl
