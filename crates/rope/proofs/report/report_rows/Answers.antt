use Rattle.rope.specs.Reports.{PutPart}
use Rattle.rope.specs.Pieces.{delete_cut, delete_after}
use Rattle.rope.specs.declared.change.Part.{Part}
use Rattle.span.specs.Span.{len_span, span_code}
use Rattle.span.specs.declared.span.FugueSpan.{FugueSpan}
use Prim.Native.Nat.{◌≤◌}
use native.Mathlib.Omega.{arith}
use mathlib.Core.Path.{◌≡◌, sym, ap, subst, ◌∙◌}
use Rattle.rope.proofs.Cuts.{delete_most}
use Rattle.rope.proofs.Rights.{row_ok}
use Rattle.rope.proofs.Reporting.{listing_start, listing_room, listing_turn, listing_done}
use Rattle.rope.proofs.report.report_rows.Goals as goal

pub loop-i-init : goal.loop-i-init
loop-i-init c = let a = c.args in listing_start a.d a.n a.s.now a.out.now c.requires.0.can

pub put_part-k-requires : goal.put_part-k-requires
put_part-k-requires c = let l = c.loop-i in let v = l.invariant in let a = c.args in let h = c.loop-i-test.true in let g = c.get_row-row.ensures in let p = c.cut-part in (subst (λ (r : FugueSpan). span_code r ≡ 0) (sym g) (row_ok a.n a.s.now l.i h c.requires.0.each), subst (λ (q : Part). q.to ≤ len_span c.get_row-row.result) (sym p.ensures) (delete_most l.left c.get_row-row.result), omega (arith, c.loop-i.invariant.few, c.loop-i.invariant.low, c.requires.0.few), listing_room a.d a.n a.s.now a.out.now l.left l.i l.k l.out v h p.result (p.ensures ∙ ap (delete_cut l.left) g) c.requires.1)

pub loop-i-preserved : goal.loop-i-preserved
loop-i-preserved c = let l = c.loop-i in let v = l.invariant in let a = c.args in let g = c.get_row-row.ensures in let w = c.put_part-k in let p = c.cut-part in listing_turn a.d a.n a.s.now a.out.now l.left l.i l.k l.out v c.loop-i-test.true p.result c.after-left.result w.result w.new.out (p.ensures ∙ ap (delete_cut l.left) g) (c.after-left.ensures ∙ ap (delete_after l.left) g) w.auto.out (subst (λ (r : FugueSpan). PutPart l.k r p.result.from p.result.to w.result l.out w.new.out) g w.ensures)

pub returns : goal.returns
returns c = let l = c.loop-i in let v = l.invariant in let a = c.args in listing_done a.d a.n a.s.now a.out.now l.left l.i l.k l.out v (omega (arith, c.loop-i-test.false))
