use mathlib.Core.Path.{◌≡◌}
use mathlib.Core.List.{List}
use Prim.Native.Nat.{ℕ}
use Rattle.history.specs.Version.{held_count}
use Rattle.tracker.specs.Refused.{from}
use Rattle.tracker.proofs.held.last_count.Given as goal

abbrev pub invariant-loop-i : goal.invariant-loop-i
invariant-loop-i l = (t : List ℕ) → held_count (from l.h l.e t l.i) l.peer ≡ 0
