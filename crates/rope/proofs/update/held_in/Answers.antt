use Rattle.units.specs.Change.{in_range}
use Rattle.units.specs.Lists.{keep_if}
use Rattle.span.specs.Span.{span_code}
use Rattle.span.specs.Units.{units_of}
use Rattle.span.specs.declared.span.FugueSpan.{FugueSpan}
use lib.IntN.{pos}
use lib.ListN.{length}
use mathlib.Core.Path.{◌≡◌, sym, ap, subst, ◌∙◌}
use Rattle.rope.proofs.Rights.{row_ok}
use Rattle.rope.proofs.Held.{sum_turn, sum_held}
use Rattle.rope.proofs.update.held_in.Goals as goal

pub part_len-sum-requires : goal.part_len-sum-requires
part_len-sum-requires c = let a = c.args in (subst (λ (r : FugueSpan). span_code r ≡ 0) (sym c.get_row.ensures) (row_ok a.n a.s.now c.loop-i.i c.loop-i-test.true c.requires.1), c.requires.3)

pub loop-i-preserved : goal.loop-i-preserved
loop-i-preserved c = let l = c.loop-i in
    let a = c.args in
    sum_turn a.n a.u a.s.now l.i l.sum l.invariant c.loop-i-test.true _ (c.part_len-sum.ensures.0 ∙ ap (λ (r : FugueSpan). length (keep_if (in_range a.u.peer (pos a.u.from) (pos a.u.to)) (units_of r))) c.get_row.ensures) c.part_len-sum.ensures.1

pub returns : goal.returns
returns c = let l = c.loop-i in
    let a = c.args in
    sum_held a.n a.u a.s.now l.i l.sum l.invariant c.loop-i-test.false c.requires.3
