use Rattle.std.proofs.Common.{◌≡◌, length}
use Rattle.session.specs.Say.{Says, up_to}
use Rattle.session.specs.Entries.{entry_at}
use Rattle.session.proofs.entries.entries.Given as goal

abbrev pub invariant-loop-i : goal.invariant-loop-i
invariant-loop-i l =
    (length l.text ≡ length l.initial.text) × Says l.initial.at (up_to (entry_at l.kind l.a l.b l.peer l.counter l.lamport) l.i) l.initial.text l.at l.text
