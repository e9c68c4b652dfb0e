use mathlib.Core.Path.{sym, ◌∙◌}
use native.Mathlib.Omega.{arith}
use Rattle.rope.proofs.Diffs.{walk_start, walk_fits, walk_on, walk_stop, walk_end}
use Rattle.rope.proofs.diff.next_entry.Goals as goal

pub loop-i-init : goal.loop-i-init
loop-i-init c = walk_start _ _ _ _ 0 0 c.requires

pub overflow_add-gap : goal.overflow_add-gap
overflow_add-gap c = omega (arith, walk_fits _ _ _ _ c.loop-i.i c.loop-i.gap c.loop-i.invariant c.loop-i-test.true _ c.get_row-row.ensures c.requires _ c.activated_len-gap.ensures)

pub loop-i-preserved : goal.loop-i-preserved
loop-i-preserved c = let l = c.loop-i in walk_on _ _ _ _ l.i l.gap l.invariant c.loop-i-test.true _ c.get_row-row.ensures _ c.activated_len-gap.ensures (sym c.in_default.is ∙ c.change_of.ensures)

pub returns-in-Some : goal.returns-in-Some
returns-in-Some c = let l = c.loop-i in walk_stop _ _ _ _ l.i l.gap l.invariant c.loop-i-test.true _ c.get_row-row.ensures _ (sym c.in-Some.is ∙ c.change_of.ensures) _ c.gap_first.ensures

pub returns : goal.returns
returns c = let l = c.loop-i in walk_end _ _ _ _ l.i l.gap l.invariant c.loop-i-test.false
