use Rattle.std.proofs.Common.{◌≡◌, length, take}
use Rattle.text.specs.Parts.{kept}
use Rattle.text.proofs.parts.without_back.Given as goal

abbrev pub invariant-loop-text : goal.invariant-loop-text
invariant-loop-text l = (kept l.b l.s (length l.text) ≡ kept l.b l.s (length l.s)) × (l.text ≡ take (length l.text) l.s)

abbrev pub decreases-loop-text : goal.decreases-loop-text
decreases-loop-text l = length l.text
