use native.Mathlib.Omega.{arith}
use Rattle.rope.proofs.Diffs.{going_start, going_next, going_few, going_end}
use Rattle.rope.proofs.diff.count_entries.Goals as goal

pub loop-next-init : goal.loop-next-init
loop-next-init c = going_start _ _ c.requires

pub overflow_add-k : goal.overflow_add-k
overflow_add-k c = omega (arith, going_few _ _ c.loop-next.i c.loop-next.gap c.loop-next.k c.loop-next.invariant _ _ _ c.in-Some.ensures, c.loop-next.invariant.ahead.stored.long, c.well_formed)

pub loop-next-preserved : goal.loop-next-preserved
loop-next-preserved c = going_next _ _ c.loop-next.i c.loop-next.gap c.loop-next.k c.loop-next.invariant _ _ _ c.in-Some.ensures

pub returns : goal.returns
returns c = going_end _ _ c.loop-next.i c.loop-next.gap c.loop-next.k c.loop-next.invariant c.in_default.ensures
