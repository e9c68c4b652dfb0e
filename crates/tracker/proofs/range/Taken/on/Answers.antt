use Rattle.tracker.proofs.Taking.{before_most, on_first, last_most, on_both, on_own}
use mathlib.Core.Path.{refl, sym, ◌∙◌}
use native.Mathlib.Omega.{arith}
use Rattle.tracker.proofs.range.Taken.on.Goals as goal

pub overflow_add-result : goal.overflow_add-result
overflow_add-result c = let a = c.args in omega (arith, last_most a.self a.next c.requires.2 c.requires.3 c.in-Some.last c.in-Some.is c.requires.0, c.requires.1)

pub overflow_add-result-else-follows : goal.overflow_add-result-else-follows
overflow_add-result-else-follows c = let a = c.args in omega (arith, before_most a.self, c.requires.1)

pub returns-in_default : goal.returns-in_default
returns-in_default c = let a = c.args in on_first a.self a.next c.requires.2 c.requires.3 a.self.before refl c.in_default.is

pub returns-then-follows : goal.returns-then-follows
returns-then-follows c = let a = c.args in on_both a.self a.next c.requires.2 c.requires.3 c.in-Some.last c.in-Some.is c.requires.0 a.self.before refl (sym c.follows.ensures ∙ c.if-follows.true)

pub returns-else-follows : goal.returns-else-follows
returns-else-follows c = let a = c.args in on_own a.self a.next c.requires.2 c.requires.3 c.in-Some.last c.in-Some.is c.requires.0 _ refl (sym c.follows.ensures ∙ c.if-follows.false)
