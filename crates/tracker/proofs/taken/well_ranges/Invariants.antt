use Rattle.tracker.specs.Follow.{well_ranges}
use Rattle.tracker.specs.Rows.{ranges}
use lib.ListN.{drop}
use mathlib.Core.Path.{◌≡◌}
use Rattle.tracker.proofs.taken.well_ranges.Given as goal

abbrev pub invariant-loop-j : goal.invariant-loop-j
invariant-loop-j l = well_ranges (ranges l.m l.t) ≡ well_ranges (drop l.j (ranges l.m l.t))
