use mathlib.Core.Path.{refl, ◌∙◌}
use Prim.Native.Nat.{◌≤◌}
use native.Mathlib.Omega.{arith}
use lib.ListN.{length}
use Rattle.words.specs.Le.{bytes_of}
use Rattle.words.proofs.Bytes.{bytes_4, bytes_8}
use Rattle.words.proofs.Puts.{next}
use Rattle.store.specs.Row.{word_bytes}
use Rattle.store.proofs.put_words.Goals as goal

pub returns : goal.returns
unfolding word_bytes bytes_of
returns c =
    let a = c.args in
    let h : a.b ≤ length a.s.now = omega (arith, c.requires) in
    let peers = rw (
      c.to_le_bytes.ensures ∙ bytes_8 a.w.p0,
      c.to_le_bytes-2.ensures ∙ bytes_8 a.w.p1,
      c.to_le_bytes-3.ensures ∙ bytes_8 a.w.p2,
      c.to_le_bytes-4.ensures ∙ bytes_8 a.w.p3,
    ) at c.put_all.ensures in
    let rest = rw (
      c.to_le_bytes-5.ensures ∙ bytes_4 a.w.c0,
      c.to_le_bytes-6.ensures ∙ bytes_4 a.w.c1,
      c.to_le_bytes-7.ensures ∙ bytes_4 a.w.c2,
      c.to_le_bytes-8.ensures ∙ bytes_4 a.w.c3,
      c.to_le_bytes-9.ensures ∙ bytes_4 a.w.c4,
      c.to_le_bytes-10.ensures ∙ bytes_4 a.w.c5,
      c.to_le_bytes-11.ensures ∙ bytes_4 a.w.c6,
      c.to_le_bytes-12.ensures ∙ bytes_4 a.w.c7,
      c.to_le_bytes-13.ensures ∙ bytes_4 a.w.c8,
    ) at c.put_all-2.ensures in
    next a.s.now _ _ a.b _ h peers rest refl
