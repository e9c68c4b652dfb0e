use Rattle.std.proofs.Common.{◌≡◌, length}
use Rattle.session.specs.Say.{Says}
use Rattle.session.specs.Lines.{rows_lines}
use Rattle.session.proofs.look.rows.Given as goal

abbrev pub invariant-loop-i : goal.invariant-loop-i
invariant-loop-i l = (length l.text ≡ length l.initial.text) × Says l.initial.at (rows_lines l.kind l.s l.i) l.initial.text l.at l.text
