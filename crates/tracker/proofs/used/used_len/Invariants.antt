use Prim.Native.Nat.{◌*◌, ◌≤◌}
use mathlib.Core.Path.{◌≡◌}
use Rattle.tracker.specs.Rows.{used}
use Rattle.tracker.proofs.used.used_len.Given as goal

abbrev pub invariant-loop-i : goal.invariant-loop-i
invariant-loop-i l = (l.sum ≤ l.i * 4294967296) × (l.sum ≡ used l.i l.e)
