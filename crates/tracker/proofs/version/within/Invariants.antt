use Rattle.tracker.specs.Rows.{pairs}
use Rattle.history.specs.Version.{within}
use mathlib.Core.Path.{◌≡◌}
use lib.ListN.{drop}
use Rattle.tracker.proofs.version.within.Given as goal

abbrev pub invariant-loop-i : goal.invariant-loop-i
invariant-loop-i l = within (pairs l.k l.c) (pairs l.m l.v) ≡ within (drop l.i (pairs l.k l.c)) (pairs l.m l.v)
