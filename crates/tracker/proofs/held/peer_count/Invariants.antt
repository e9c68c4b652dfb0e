use Rattle.tracker.specs.Refused.{from}
use Rattle.tracker.specs.Rows.{held}
use Rattle.history.specs.Valid.{peer_count}
use mathlib.Core.Path.{◌≡◌}
use mathlib.Core.List.{List}
use Prim.Native.Nat.{ℕ, ◌+◌, ◌≤◌}
use Rattle.tracker.proofs.held.peer_count.Given as goal

-- the peers whose last edit is one of the first i, and those left to count
pub record Counted (e : List ℕ) (h k i : ℕ) : Type 0 where
  pub few : k ≤ i
  pub left : (t : List ℕ) → peer_count (held h e t) ≡ k + peer_count (from h e t i)

abbrev pub invariant-loop-i : goal.invariant-loop-i
invariant-loop-i l = Counted l.e l.h l.k l.i
