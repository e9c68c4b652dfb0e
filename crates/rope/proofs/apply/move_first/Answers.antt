use Rattle.rope.proofs.Queue.{moved_one}
use Rattle.rope.proofs.apply.move_first.Goals as goal

pub returns-then-m-gt1 : goal.returns-then-m-gt1
returns-then-m-gt1 c = let a = c.args in moved_one a.w a.m a.s.now a.q.now _ _ c.get_row.result c.if-m-gt1.true c.requires.0 c.get_row.ensures c.put_row.ensures c.remove_rows.ensures
