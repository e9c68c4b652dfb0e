use Rattle.apply.proofs.Coded.{delta_done, delta_refused}
use Rattle.apply.proofs.delta.apply.Goals as goal

pub returns-in_err-check_apply : goal.returns-in_err-check_apply
returns-in_err-check_apply c = let x = c.args in delta_refused x.kind.now x.a.now x.b.now x.peer.now x.counter.now x.lamport.now x.old.now x.out.now _ c.new-columns.ensures _ _ c.from_residual.ensures.1 c.in_err-check_apply.ensures

pub returns : goal.returns
returns c = let x = c.args in delta_done x.kind.now x.a.now x.b.now x.peer.now x.counter.now x.lamport.now x.old.now x.out.now _ c.new-columns.ensures c.in_ok-check_apply.ensures _ _ c.write_items.ensures.count c.write_items.ensures.written
