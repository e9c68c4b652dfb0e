use Rattle.tracker.specs.Restate.{Refine}
use Rattle.tracker.specs.Looks.{seen}
use Rattle.tracker.specs.Rows.{pairs, held}
use Rattle.store.specs.Row.{rows}
use Rattle.span.specs.Units.{expand}
use mathlib.Core.Path.{◌≡◌}
use lib.ListN.{length, drop}
use Rattle.tracker.proofs.restate.refine.Given as goal

abbrev pub invariant-loop-i : goal.invariant-loop-i
invariant-loop-i l =
    (length l.s ≡ length l.initial.s) × Refine l.both (pairs l.ka l.a) (pairs l.kb l.b) (held l.h l.e l.t) l.k l.w l.i (seen l.both (pairs l.ka l.a) (pairs l.kb l.b) (held l.h l.e l.t) (expand (drop l.from (rows l.k l.initial.s)))) l.s
