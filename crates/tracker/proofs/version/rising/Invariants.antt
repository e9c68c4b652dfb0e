use Rattle.tracker.specs.Rows.{pairs}
use Rattle.history.specs.Version.{rising}
use mathlib.Core.Path.{◌≡◌}
use lib.ListN.{drop}
use Prim.Native.Nat.{◌-◌}
use Rattle.tracker.proofs.version.rising.Given as goal

abbrev pub invariant-loop-i : goal.invariant-loop-i
invariant-loop-i l = rising (pairs l.m l.v) ≡ rising (drop (l.i - 1) (pairs l.m l.v))
