use native.Mathlib.Omega.{arith}
use borrow.Author.Rules.{rules}
use Rattle.std.proofs.lemmas.Grind.{common_steps}
use Rattle.tracker.proofs.SameLaws.{unit_derived}
use mathlib.Core.Path.{sym}
use Rattle.tracker.proofs.same.same_unit.Goals as goal

pub returns-then-u : goal.returns-then-u
returns-then-u c = rw (sym (unit_derived c.args.u c.args.v)) (search rules)

pub returns-else-u : goal.returns-else-u
returns-else-u c = rw (sym (unit_derived c.args.u c.args.v)) (grind (arith, common_steps))

pub returns-else-eq-2 : goal.returns-else-eq-2
returns-else-eq-2 c = rw (sym (unit_derived c.args.u c.args.v)) (grind (arith, common_steps))
