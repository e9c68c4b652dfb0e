use Rattle.tracker.specs.Rows.{pairs, held}
use Rattle.history.specs.Version.{is_held}
use Rattle.units.specs.Lists.{every}
use lib.ListN.{drop}
use mathlib.Core.Path.{◌≡◌}
use mathlib.Core.List.{List}
use Prim.Native.Nat.{ℕ}
use Rattle.tracker.proofs.held.pairs_held.Given as goal

abbrev pub invariant-loop-i : goal.invariant-loop-i
invariant-loop-i l = (t : List ℕ) → every (is_held (held l.h l.e t)) (pairs l.m l.v) ≡ every (is_held (held l.h l.e t)) (drop l.i (pairs l.m l.v))
