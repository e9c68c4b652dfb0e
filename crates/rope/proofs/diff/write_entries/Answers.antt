use Rattle.rope.proofs.Diffs.{going_start, going_next}
use Rattle.rope.proofs.Fills.{start_all, fill_next, fill_end}
use Rattle.rope.proofs.diff.write_entries.Goals as goal

pub loop-next-init : goal.loop-next-init
loop-next-init c = (going_start _ _ c.requires.0, start_all _ _ _ _ _ _ _ c.requires.1)

pub returns : goal.returns
returns c = fill_end _ _ _ _ _ _ _ _ _ _ _ _ _ _ _ c.loop-next.invariant.1 c.in_default.ensures

pub loop-next-preserved : goal.loop-next-preserved
loop-next-preserved c = (
  going_next _ _ c.loop-next.i c.loop-next.gap c.loop-next.k c.loop-next.invariant.0 _ _ _ c.in-Some.ensures,
  fill_next _ _ _ _ _ _ _ _ _ _ _ _ _ _ _ c.loop-next.invariant.1 _ _ c.in-Some.ensures.is _ c.numbers_of.ensures _ _ _ _ _ _ c.put_entry.ensures,
)
