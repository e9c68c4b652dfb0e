use Rattle.span.specs.Span.{len_span}
use mathlib.Core.Path.{◌≡◌}
use Rattle.rope.proofs.Exacts.{from_most, to_most, first_most, second_most, row_tail}
use native.Mathlib.Omega.{arith}
use Rattle.rope.proofs.exact.Tail.row.Goals as goal

pub part-before-requires : goal.part-before-requires
part-before-requires c = let a = c.args in (omega (arith, c.requires.0), c.requires.1, from_most a.u a.row c.cut-cut.result c.cut-cut.ensures)

pub changed-changed-requires : goal.changed-changed-requires
changed-changed-requires c = let a = c.args in let p = c.cut-cut in let m = first_most a.u a.row p.result p.ensures a.self c.part-before.result c.part-before.ensures in (omega (arith, c.requires.0, m), c.requires.1, to_most a.u a.row p.result p.ensures)

pub part-requires : goal.part-requires
part-requires c = let a = c.args in let p = c.cut-cut in let f = c.part-before in let g = c.changed-changed in let m = second_most a.u a.row p.result p.ensures a.self f.result f.ensures g.result g.ensures in (omega (arith, c.requires.0, m), c.requires.1, (let z : c.rle_len.result ≡ len_span a.row = c.rle_len.ensures in omega (arith, z)))

pub returns : goal.returns
returns c = let a = c.args in let p = c.cut-cut in let f = c.part-before in let g = c.changed-changed in row_tail a.u a.row p.result p.ensures a.self f.result f.ensures g.result g.ensures c.part.result c.rle_len.result c.rle_len.ensures c.part.ensures
