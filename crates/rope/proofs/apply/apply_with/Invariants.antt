use Rattle.rope.proofs.Working.{Work}
use mathlib.Core.Path.{◌≡◌}
use lib.ListN.{length}
use Rattle.rope.proofs.apply.apply_with.Given as goal

abbrev pub invariant-loop-i : goal.invariant-loop-i
invariant-loop-i l = Work l.initial.left l.n l.initial.s l.left l.i l.w l.m l.s l.q × (length l.q ≡ length l.initial.q)
