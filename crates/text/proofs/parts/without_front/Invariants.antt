use Rattle.std.proofs.Common.{◌≡◌, length}
use Rattle.text.specs.Parts.{front}
use Rattle.text.proofs.parts.without_front.Given as goal

abbrev pub invariant-loop-text : goal.invariant-loop-text
invariant-loop-text l = front l.b l.text ≡ front l.b l.s

abbrev pub decreases-loop-text : goal.decreases-loop-text
decreases-loop-text l = length l.text
