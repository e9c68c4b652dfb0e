use Rattle.span.specs.Span.{len_span, span_code, part_span}
use Prim.Native.Nat.{◌+◌, ◌*◌, ◌≤◌, ◌<◌}
use native.Mathlib.Omega.{arith}
use mathlib.Core.Path.{◌≡◌, refl, sym, subst}
use Rattle.rope.proofs.Cuts.{cut_most}
use Rattle.rope.specs.Pieces.{change_span, CanChange}
use Rattle.rope.specs.declared.change.Part.{Part}
use lib.ListN.{length}
use Rattle.rope.proofs.Queue.{part_short, changed_short, part_fine, grown_waits, changed_ok, row_waits, row_grown}
use Rattle.rope.proofs.apply.push_row.Goals as goal

pub push_part-a-requires : goal.push_part-a-requires
push_part-a-requires c = let a = c.args in let f = c.requires.2 in (c.requires.0, omega (arith, c.requires.1), f.fine, subst (λ (r : Part). r.from ≤ len_span a.row) (sym c.cut-part.ensures) (cut_most a.e a.row).0)

pub push_changed-b-requires : goal.push_changed-b-requires
push_changed-b-requires c = let a = c.args in let f = c.requires.2 in let p = c.cut-part in let g = c.push_part-a in let s = part_short a.row 0 p.result.from in (grown_waits a.m g.result _ a.q.now g.new.q c.requires.0.joined (part_fine a.row 0 p.result.from f.fine (subst (λ (r : Part). r.from ≤ len_span a.row) (sym p.ensures) (cut_most a.e a.row).0)) g.ensures (omega (arith, s, c.requires.1, g.auto.q, g.ensures.few)), omega (arith, s, c.requires.1, g.auto.q, g.ensures.few), f.fine, subst (λ (r : Part). r.to ≤ len_span a.row) (sym p.ensures) (cut_most a.e a.row).1, subst (λ (r : Part). r.from < r.to → CanChange a.e (part_span a.row r.from r.to) × (span_code (change_span a.e (part_span a.row r.from r.to)) ≡ 0)) (sym p.ensures) (λ h. (f.able h, changed_ok a.e a.row f.can f.fine h)))

pub push_part-requires : goal.push_part-requires
push_part-requires c = let a = c.args in let f = c.requires.2 in let p = c.cut-part in let g1 = c.push_part-a in let g2 = c.push_changed-b in let s1 = part_short a.row 0 p.result.from in let s2 = changed_short a.row p.result.from p.result.to a.e in let w : (g2.result * 72 ≤ length g2.new.q) × (g2.result * 72 + 72 ≤ length g2.new.q) = (omega (arith, s1, s2, c.requires.1, g1.auto.q, g1.ensures.few, g2.auto.q, g2.ensures.few), omega (arith, s1, s2, c.requires.1, g1.auto.q, g1.ensures.few, g2.auto.q, g2.ensures.few)) in (row_waits a.e a.row f a.m g1.result g2.result 0 a.q.now g1.new.q g2.new.q g2.new.q c.requires.0.joined p.result p.ensures (len_span a.row) refl g1.ensures g2.ensures w.0, w.1, f.fine, (let z : c.rle_len.result ≡ len_span a.row = c.rle_len.ensures in omega (arith, z)))

pub returns : goal.returns
returns c = let a = c.args in let f = c.requires.2 in let p = c.cut-part in let g1 = c.push_part-a in let g2 = c.push_changed-b in let g3 = c.push_part in row_grown a.e a.row f a.m g1.result g2.result g3.result a.q.now g1.new.q g2.new.q g3.new.q c.requires.0.joined p.result p.ensures c.rle_len.result c.rle_len.ensures g1.ensures g2.ensures g3.ensures
