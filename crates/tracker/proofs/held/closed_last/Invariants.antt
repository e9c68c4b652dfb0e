use Rattle.tracker.specs.Rows.{pairs, held}
use Rattle.tracker.specs.Last.{closed_last}
use mathlib.Core.Path.{◌≡◌}
use Prim.Native.Nat.{ℕ}
use Rattle.tracker.specs.Refused.{from}
use mathlib.Core.List.{List}
use Rattle.tracker.proofs.held.closed_last.Given as goal

abbrev pub invariant-loop-i : goal.invariant-loop-i
invariant-loop-i l = (t : List ℕ) → closed_last (held l.h l.e t) (pairs l.m l.v) ≡ closed_last (from l.h l.e t l.i) (pairs l.m l.v)
