use Rattle.history.specs.Valid.{has_peer}
use mathlib.Core.Path.{◌≡◌}
use Prim.Native.Nat.{ℕ}
use Rattle.tracker.specs.Refused.{from}
use Rattle.tracker.specs.Rows.{held}
use mathlib.Core.List.{List}
use Rattle.tracker.proofs.held.has_peer.Given as goal

abbrev pub invariant-loop-i : goal.invariant-loop-i
invariant-loop-i l = (t : List ℕ) → has_peer (held l.h l.e t) l.peer ≡ has_peer (from l.h l.e t l.i) l.peer
