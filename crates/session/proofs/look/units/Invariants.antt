use Rattle.std.proofs.Common.{◌≡◌, length}
use Rattle.session.specs.Say.{Says}
use Rattle.session.specs.Lines.{units_lines}
use Rattle.session.proofs.look.units.Given as goal

abbrev pub invariant-loop-k : goal.invariant-loop-k
invariant-loop-k l = (length l.text ≡ length l.initial.text) × Says l.initial.at (units_lines l.kind l.x l.k) l.initial.text l.at l.text
