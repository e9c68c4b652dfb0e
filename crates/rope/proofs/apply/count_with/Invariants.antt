use lib.ListN.{length}
use mathlib.Core.Path.{◌≡◌}
use Rattle.rope.proofs.Counting.{Tally}
use Rattle.rope.proofs.apply.count_with.Given as goal

abbrev pub invariant-loop-i : goal.invariant-loop-i
invariant-loop-i l = Tally l.initial.left l.n l.s l.left l.i l.gone l.m l.q × (length l.q ≡ length l.initial.q)
