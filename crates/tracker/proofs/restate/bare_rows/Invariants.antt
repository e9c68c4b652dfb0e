use Rattle.tracker.proofs.Bares.{baring}
use Rattle.rope.specs.Streams.{Stream}
use Rattle.store.specs.Row.{rows}
use mathlib.Core.Path.{◌≡◌}
use lib.ListN.{length}
use Rattle.tracker.proofs.restate.bare_rows.Given as goal

abbrev pub invariant-loop-i : goal.invariant-loop-i
invariant-loop-i l = (length l.s ≡ length l.initial.s) × Stream l.n l.w l.i (rows l.n l.initial.s) (baring (rows l.n l.initial.s)) baring l.s
