use Rattle.rope.proofs.Planning.{start_plan}
use Rattle.rope.proofs.Inserts.{start_border}
use Rattle.rope.proofs.insert.plan_insert.Goals as goal

pub plan_scan-requires : goal.plan_scan-requires
plan_scan-requires c =
    let a = c.args in
    start_border a.n a.units a.at a.x a.s.now c.requires c.if-at-eq0.true

pub returns-then-at-eq0 : goal.returns-then-at-eq0
returns-then-at-eq0 c =
    let a = c.args in
    start_plan a.n a.at a.x a.s.now c.if-at-eq0.true c.plan_scan.result c.plan_scan.ensures
