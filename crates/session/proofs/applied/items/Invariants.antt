use Rattle.std.proofs.Common.{◌≡◌, length}
use Rattle.session.specs.Say.{Says, up_to}
use Rattle.session.specs.Entries.{item_at}
use Rattle.session.proofs.applied.items.Given as goal

abbrev pub invariant-loop-i : goal.invariant-loop-i
invariant-loop-i l = (length l.text ≡ length l.initial.text) × Says l.initial.at (up_to (item_at l.out) l.i) l.initial.text l.at l.text
