use Rattle.tracker.proofs.Appends.{head_put, bits_of}
use Rattle.store.specs.Row.{bits32}
use Rattle.words.specs.Le.{bytes_of}
use Rattle.words.proofs.Bytes.{bytes_4, write_8}
use Prim.Native.Nat.{◌*◌, ◌≤◌}
use native.Mathlib.Omega.{arith}
use mathlib.Core.Path.{ap, subst, ◌∙◌}
use lib.ListN.{length}
use lib.IntN.{ℤ}
use mir.Val.{SFits}
use mir.Syntax.{w32}
use Rattle.tracker.proofs.row.put_head.Goals as goal

pub returns : goal.returns
unfolding bytes_of
returns c =
    let a = c.args in
    let w = c.words_of-w.ensures in
    let h : a.i * 256 ≤ length a.e.now = omega (arith, c.requires) in
    let peer = write_8 a.x.id.peer _ _ _ _ c.to_le_bytes.ensures c.put.ensures in
    let target = write_8 c.words_of-w.result.target.peer _ _ _ _ c.to_le_bytes-2.ensures c.put-2.ensures in
    let one = rw (
      c.to_le_bytes-3.ensures ∙ bytes_4 c.counter_bits.result,
      c.to_le_bytes-4.ensures ∙ bytes_4 a.x.at,
      c.to_le_bytes-5.ensures ∙ bytes_4 c.words_of-w.result.kind,
      c.to_le_bytes-6.ensures ∙ bytes_4 c.words_of-w.result.lamport,
    ) at c.put_all.ensures in
    let two = rw (
      c.to_le_bytes-7.ensures ∙ bytes_4 c.words_of-w.result.first,
      c.to_le_bytes-8.ensures ∙ bytes_4 c.words_of-w.result.last,
      c.to_le_bytes-9.ensures ∙ bytes_4 c.counter_bits-2.result,
      c.to_le_bytes-10.ensures ∙ bytes_4 a.took,
    ) at c.put_all-2.ensures in
    let three = rw (c.to_le_bytes-11.ensures ∙ bytes_4 a.many) at c.put_all-3.ensures in (
      head_put a.x a.took a.many _ _ _ _ _ _ _ w.peer c.counter_bits.ensures.0 w.kind w.lamport w.first w.last (c.counter_bits-2.ensures.0 ∙ (ap bits32 w.counter ∙ bits_of a.x.act)) a.e.now (a.i * 256) h peer target one two three,
      record { peer = omega (arith, c.well_formed); target = omega (arith, w.peer, c.words_of-w.type_inv); counter = c.counter_bits.ensures.1; start = subst (λ (z : ℤ). SFits w32 z) w.counter c.counter_bits-2.ensures.1; at = omega (arith, c.well_formed); lamport = omega (arith, w.lamport, c.words_of-w.type_inv); first = omega (arith, w.first, c.words_of-w.type_inv); last = omega (arith, w.last, c.words_of-w.type_inv); ranges = omega (arith, c.ranges.took); pairs = omega (arith, c.ranges.many) },
    )
