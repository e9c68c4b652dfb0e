use Rattle.rope.proofs.Clears.{clearing}
use Rattle.rope.specs.Streams.{Stream}
use Rattle.store.specs.Row.{rows}
use mathlib.Core.Path.{◌≡◌}
use lib.ListN.{length}
use Rattle.rope.proofs.clear.clear_rows.Given as goal

abbrev pub invariant-loop-i : goal.invariant-loop-i
invariant-loop-i l = (length l.s ≡ length l.initial.s) × Stream l.n l.w l.i (rows l.n l.initial.s) (clearing (rows l.n l.initial.s)) clearing l.s
