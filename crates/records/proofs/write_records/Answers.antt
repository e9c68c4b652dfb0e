use Rattle.std.proofs.Common.{rules}
use Rattle.rope.proofs.Diffs.{going_start, going_next}
use Rattle.records.proofs.Stands.{stand_start, stand_next, stand_end}
use Rattle.records.proofs.write_records.Goals as goal

pub loop-next-init : goal.loop-next-init
loop-next-init c = (going_start _ _ c.requires.0, stand_start _ _ c.requires.1)

pub loop-next-preserved : goal.loop-next-preserved
loop-next-preserved c = (
  going_next _ _ c.loop-next.i c.loop-next.gap c.loop-next.k c.loop-next.invariant.0 _ _ _ c.in-Some.ensures,
  stand_next _ _ _ _ _ c.loop-next.invariant.1 _ _ c.in-Some.ensures.is _ (search rules),
)

pub returns : goal.returns
returns c = stand_end _ _ _ _ _ c.loop-next.invariant.1 c.in_default.ensures
