use Rattle.rope.proofs.Counting.{kept_last}
use Rattle.rope.proofs.apply.keep_last.Goals as goal

pub returns-then-m-gt1 : goal.returns-then-m-gt1
returns-then-m-gt1 c = let a = c.args in kept_last a.m a.q.now _ c.get_row.result c.if-m-gt1.true c.requires c.get_row.ensures c.put_row.ensures
