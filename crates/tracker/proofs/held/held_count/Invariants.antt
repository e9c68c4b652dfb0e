use Rattle.history.specs.Version.{held_count}
use mathlib.Core.Path.{◌≡◌}
use Prim.Native.Nat.{ℕ, ◌+◌, ◌*◌, ◌≤◌}
use Rattle.tracker.specs.Refused.{from}
use Rattle.tracker.specs.Rows.{held}
use mathlib.Core.List.{List}
use Rattle.tracker.proofs.held.held_count.Given as goal

-- the sum of the first i edits, and what is left to count
pub record Counted (e : List ℕ) (h peer sum i : ℕ) : Type 0 where
  pub few : sum ≤ i * 4294967295
  pub left : (t : List ℕ) → held_count (held h e t) peer ≡ sum + held_count (from h e t i) peer

abbrev pub invariant-loop-i : goal.invariant-loop-i
invariant-loop-i l = Counted l.e l.h l.peer l.sum l.i
