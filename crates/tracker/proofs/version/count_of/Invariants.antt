use Rattle.tracker.specs.Rows.{pairs}
use Rattle.history.specs.Version.{count_of}
use mathlib.Core.Path.{◌≡◌}
use lib.ListN.{drop}
use Rattle.tracker.proofs.version.count_of.Given as goal

abbrev pub invariant-loop-i : goal.invariant-loop-i
invariant-loop-i l = count_of (pairs l.m l.v) l.peer ≡ count_of (drop l.i (pairs l.m l.v)) l.peer
