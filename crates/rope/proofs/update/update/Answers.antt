use mir.Facts.{to_z-of_z}
use mathlib.Core.Path.{sym, ◌∙◌}
use borrow.Author.Tests.{not-true, not-false}
use Rattle.rope.proofs.Updated.{update_none, update_empty, update_below, update_done}
use mathlib.Core.Path.{ap}
use mathlib.Core.Bool.{not}
use Rattle.rope.proofs.update.update.Goals as goal

pub returns-then-not-check : goal.returns-then-not-check
returns-then-not-check c = let a = c.args in update_none a.s.now a.peer a.from a.to a.set a.change a.diff (sym c.check.ensures ∙ not-true _ (ap not c.if-not-check.true))

pub returns-then-to-from : goal.returns-then-to-from
returns-then-to-from c = let a = c.args in let st = sym c.check.ensures ∙ not-false _ (ap not c.if-not-check.false) in update_empty a.s.now a.peer a.from a.to a.set a.change a.diff st (rw (to_z-of_z c.ranges.to, to_z-of_z c.ranges.from) at c.if-to-from.true)

pub returns-in_default : goal.returns-in_default
returns-in_default c = let a = c.args in let st = sym c.check.ensures ∙ not-false _ (ap not c.if-not-check.false) in let h = rw (to_z-of_z c.ranges.to, to_z-of_z c.ranges.from) at c.if-to-from.false in update_below a.s.now a.peer a.from a.to a.set a.change a.diff st h (sym c.in_default.is ∙ (rw (to_z-of_z c.ranges.from) at c.counter_of.ensures))

pub returns : goal.returns
returns c = let a = c.args in let st = sym c.check.ensures ∙ not-false _ (ap not c.if-not-check.false) in let h = rw (to_z-of_z c.ranges.to, to_z-of_z c.ranges.from) at c.if-to-from.false in let x = c.in-Some.from in let q = sym c.in-Some.is ∙ (rw (to_z-of_z c.ranges.from) at c.counter_of.ensures) in let v = rw (to_z-of_z c.ranges.to, to_z-of_z c.ranges.change) at c.update_some.ensures in update_done a.s.now a.peer a.from a.to a.set a.change a.diff st h x q _ _ v
