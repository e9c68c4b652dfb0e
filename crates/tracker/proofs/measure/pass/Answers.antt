use Rattle.tracker.proofs.Measuring.{pass_room, pass_one, pass_none}
use Rattle.tracker.proofs.measure.pass.Goals as goal

pub on-requires : goal.on-requires
on-requires c =
    let a = c.args in (c.requires.2, c.requires.3, pass_room a.m a.q.now a.x c.get_row.result c.if-m-gt1.true c.requires.0 c.get_row.ensures c.requires.4)

pub returns-then-m-gt1 : goal.returns-then-m-gt1
returns-then-m-gt1 c =
    let a = c.args in pass_one a.m a.q.now a.x c.on.result c.get_row.result c.if-m-gt1.true c.requires.0 c.get_row.ensures c.on.ensures

pub returns-else-m-gt1 : goal.returns-else-m-gt1
returns-else-m-gt1 c = let a = c.args in pass_none a.m a.q.now a.x c.if-m-gt1.false
