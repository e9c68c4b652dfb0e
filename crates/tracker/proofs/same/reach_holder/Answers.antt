use Rattle.tracker.proofs.MadeLaws.{holder_fine, holder_none, holder_some}
use Rattle.tracker.proofs.same.reach_holder.Goals as goal

pub returns-then-p-eq0 : goal.returns-then-p-eq0
returns-then-p-eq0 c = holder_none c.args.row c.args.k c.args.p c.if-p-eq0.true c.requires.1

pub reach_new-requires : goal.reach_new-requires
reach_new-requires c = (c.requires.0, c.requires.1, holder_fine c.args.p c.if-p-eq0.false c.requires.2)

pub returns : goal.returns
returns c = holder_some c.args.row c.args.k c.args.p c.if-p-eq0.false _ c.reach_new.ensures
