use Rattle.rope.proofs.Planning.{plan_join, plan_own, plan_first}
use mathlib.Core.Path.{sym, ◌∙◌}
use Rattle.rope.proofs.insert.plan_border.Goals as goal

pub returns-then-can_merge : goal.returns-then-can_merge
returns-then-can_merge c =
    let a = c.args in
    plan_join a.n a.s.now a.r a.y c.requires c.get_row-left.result c.joined.result c.if-r-gt0.true c.get_row-left.ensures (sym c.can_merge.ensures ∙ c.if-can_merge.true) c.joined.ensures

pub returns-else-can_merge : goal.returns-else-can_merge
returns-else-can_merge c =
    let a = c.args in
    plan_own a.n a.s.now a.r a.y c.requires c.get_row-left.result c.if-r-gt0.true c.get_row-left.ensures (sym c.can_merge.ensures ∙ c.if-can_merge.false)

pub returns-else-r-gt0 : goal.returns-else-r-gt0
returns-else-r-gt0 c =
    let a = c.args in
    plan_first a.n a.s.now a.r a.y c.requires c.if-r-gt0.false
