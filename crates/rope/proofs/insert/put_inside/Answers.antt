use Rattle.rope.proofs.Planning.{cut_rows_lem}
use Rattle.store.specs.Row.{rows, row_at}
use Rattle.span.proofs.Unique.{in_range_lem}
use Rattle.span.specs.Span.{len_span, part_span}
use Rattle.span.specs.declared.span.FugueSpan.{FugueSpan}
use mathlib.Core.Path.{◌≡◌, sym, ap, ◌∙◌}
use Prim.Native.Nat.{ℕ, ◌+◌, ◌*◌}
use native.Mathlib.Omega.{arith}
use Rattle.rope.proofs.insert.put_inside.Goals as goal

pub piece-a-requires : goal.piece-a-requires
piece-a-requires c =
    let a = c.args in
    let w = c.requires.2 in
    rw c.get_row-row.ensures (in_range_lem (row_at a.s.now (a.r * 72)) 0 a.off w.fine w.some (omega (arith, w.below)))

pub piece-b-requires : goal.piece-b-requires
piece-b-requires c =
    let a = c.args in
    let w = c.requires.2 in
    rw (c.rle_len.ensures, c.get_row-row.ensures) (in_range_lem (row_at a.s.now (a.r * 72)) a.off (len_span (row_at a.s.now (a.r * 72))) w.fine w.below (omega arith))

pub returns : goal.returns
returns c =
    let a = c.args in
    let w = c.requires in
    let g = c.get_row-row.ensures in
    let k : a.n + 1 + 1 ≡ a.n + 2 = omega arith in
    ap (λ (m : ℕ). rows m c.insert_row-2.new.s) (sym k) ∙
    cut_rows_lem a.n a.s.now a.r a.off a.y c.piece-a.result c.piece-b.result _ _ _ w.2
    (c.piece-a.ensures ∙ ap (λ (z : FugueSpan). part_span z 0 a.off) g)
    (c.piece-b.ensures ∙ (ap (λ (m : ℕ). part_span c.get_row-row.result a.off m) c.rle_len.ensures ∙ ap (λ (z : FugueSpan). part_span z a.off (len_span z)) g))
    (c.put_row.ensures.list a.n (omega (arith, w.0)) w.2.at)
    c.insert_row.ensures
    c.insert_row-2.ensures
