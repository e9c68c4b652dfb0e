use native.Mathlib.Omega.{arith}
use mathlib.Core.Bool.{true, false}
use mathlib.Core.Path.{sym, ap, ◌∙◌}
use Rattle.span.specs.Maybe.{OptId}
use Rattle.span.specs.Ids.{same_opt}
use Rattle.rope.proofs.Offsets.{unit_off}
use Rattle.rope.proofs.Rights.{right_by_lem, right_none, same_eq}
use Rattle.rope.proofs.place.right_in.Goals as goal

pub left_at-requires : goal.left_at-requires
left_at-requires c = let w = unit_off c.args.row c.requires c.args.o c.in-Some.k (sym c.in-Some.ensures) in (c.requires, omega (arith, w.0))

pub returns-in_default : goal.returns-in_default
returns-in_default c = right_none c.args.row c.args.x c.args.o (sym c.in_default.ensures)

pub returns-then-eq : goal.returns-then-eq
returns-then-eq c = right_by_lem c.args.row c.args.x c.args.o c.in-Some.k true (sym c.in-Some.ensures) (ap (λ (q : OptId). same_opt q c.args.x) (sym c.left_at.ensures) ∙ same_eq _ _ _ true c.eq.ensures c.if-eq.true)

pub returns-else-eq : goal.returns-else-eq
returns-else-eq c = right_by_lem c.args.row c.args.x c.args.o c.in-Some.k false (sym c.in-Some.ensures) (ap (λ (q : OptId). same_opt q c.args.x) (sym c.left_at.ensures) ∙ same_eq _ _ _ false c.eq.ensures c.if-eq.false)
