use mathlib.Core.List.{◌++◌}
use Prim.Native.Nat.{◌+◌}
use mathlib.Core.Path.{◌≡◌}
use Rattle.store.specs.Row.{rows}
use lib.ListN.{length, take}
use Rattle.rope.proofs.apply.move_all.Given as goal

abbrev pub invariant-loop-j : goal.invariant-loop-j
invariant-loop-j l = (length l.s ≡ length l.initial.s) × (rows (l.w + l.j) l.s ≡ rows l.w l.initial.s ++ take l.j (rows l.m l.q))
