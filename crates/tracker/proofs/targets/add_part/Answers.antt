use Rattle.tracker.proofs.Targeting.{part_first, part_is, nothing_added}
use Rattle.tracker.specs.Targets.{Adds, Added}
use Rattle.history.specs.Edit.{Range}
use mathlib.Core.List.{List}
use mathlib.Core.Path.{sym, subst}
use native.Mathlib.Omega.{arith}
use Rattle.tracker.proofs.targets.add_part.Goals as goal

pub inc-requires : goal.inc-requires
inc-requires c = let a = c.args in part_first a.row a.from a.to c.requires.1 c.if-from-to.true c.requires.2

pub add_target-requires : goal.add_target-requires
add_target-requires c = let a = c.args in subst (λ (rs : List Range). Adds a.at a.k rs a.t.now) (part_is a.row a.from a.to c.inc.result c.if-from-to.true c.inc.ensures) c.requires.0

pub returns-then-from-to : goal.returns-then-from-to
returns-then-from-to c = let a = c.args in let w = c.add_target in
    subst (λ (rs : List Range). Added a.at a.k rs w.result a.t.now w.new.t) (sym (part_is a.row a.from a.to c.inc.result c.if-from-to.true c.inc.ensures)) w.ensures

pub returns-else-from-to : goal.returns-else-from-to
returns-else-from-to c = let a = c.args in nothing_added a.at a.k a.row a.from a.to a.t.now (omega (arith, c.if-from-to.false))
