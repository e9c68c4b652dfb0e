use Rattle.rope.proofs.Rights.{row_ok}
use Rattle.rope.specs.Reports.{PutUnits}
use Rattle.rope.specs.Pieces.{delete_cut, delete_after}
use Rattle.span.specs.Span.{len_span, span_code}
use Rattle.span.specs.declared.span.FugueSpan.{FugueSpan}
use Prim.Native.Nat.{◌≤◌}
use native.Mathlib.Omega.{arith}
use mathlib.Core.Path.{◌≡◌, sym, ap, subst, ◌∙◌}
use Rattle.rope.proofs.Reporting.{back_start, back_asks, back_turn, back_done}
use Rattle.rope.proofs.report.report_units.Goals as goal

pub loop-i-init : goal.loop-i-init
loop-i-init c = let a = c.args in back_start a.d a.n a.s.now a.out.now c.requires.0

pub put_units-requires : goal.put_units-requires
put_units-requires c = let l = c.loop-i in let v = l.invariant in let a = c.args in let h = c.loop-i-test.true in let g = c.get_row-row.ensures in let p = c.cut-part in let w = back_asks a.d a.n a.s.now a.out.now l.left l.i l.out v h c.requires.0.taken.each p.result (p.ensures ∙ ap (delete_cut l.left) g) c.requires.1 in (subst (λ (r : FugueSpan). span_code r ≡ 0) (sym g) (row_ok a.n a.s.now l.i h c.requires.0.taken.each), w.0, subst (λ (r : FugueSpan). p.result.to ≤ len_span r) (sym g) w.1.0, w.1.1.0, w.1.1.1)

pub loop-i-preserved : goal.loop-i-preserved
loop-i-preserved c = let l = c.loop-i in let v = l.invariant in let a = c.args in let h = c.loop-i-test.true in let g = c.get_row-row.ensures in let p = c.cut-part in let w = c.put_units in back_turn a.d a.n a.s.now a.out.now l.left l.i l.out v h c.requires.0.taken.each p.result c.after-left.result w.new.out (p.ensures ∙ ap (delete_cut l.left) g) (c.after-left.ensures ∙ ap (delete_after l.left) g) w.auto.out c.requires.1 (subst (λ (r : FugueSpan). PutUnits l.left.len r p.result.from p.result.to l.out w.new.out) g w.ensures)

pub returns : goal.returns
returns c = let l = c.loop-i in let v = l.invariant in let a = c.args in back_done a.d a.n a.s.now a.out.now l.left l.i l.out v (omega (arith, c.loop-i-test.false))
