use mathlib.Core.Path.{◌≡◌}
use lib.ListN.{drop}
use Rattle.store.specs.Row.{rows}
use Rattle.tracker.specs.Rows.{pairs}
use Rattle.tracker.specs.Fits.{first_in}
use Rattle.tracker.proofs.fits.right_at.Given as goal

abbrev pub invariant-loop-i : goal.invariant-loop-i
invariant-loop-i l = first_in (pairs l.m l.v) (drop l.at (rows l.n l.s)) ≡ first_in (pairs l.m l.v) (drop l.i (rows l.n l.s))
