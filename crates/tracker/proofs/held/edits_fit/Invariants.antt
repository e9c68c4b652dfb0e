use Rattle.tracker.specs.Refused.{from}
use Rattle.tracker.specs.Rows.{held}
use Rattle.history.specs.Valid.{edits_fit}
use mathlib.Core.Path.{◌≡◌}
use mathlib.Core.List.{List, []}
use mathlib.Core.Bool.{true}
use Prim.Native.Nat.{ℕ}
use Rattle.tracker.proofs.held.edits_fit.Given as goal

abbrev pub invariant-loop-i : goal.invariant-loop-i
invariant-loop-i l = ((t : List ℕ) → edits_fit [] (held l.h l.e t) ≡ edits_fit (held l.i l.e t) (from l.h l.e t l.i)) × ((t : List ℕ) → edits_fit [] (held l.i l.e t) ≡ true)
