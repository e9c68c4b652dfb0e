use Rattle.tracker.proofs.Refines.{Pushing}
use Rattle.tracker.specs.Rows.{pairs, held}
use Prim.Native.Nat.{◌-◌}
use Rattle.tracker.proofs.restate.push_seen.Given as goal

abbrev pub invariant-loop-c : goal.invariant-loop-c
invariant-loop-c l = Pushing l.both (pairs l.ka l.a) (pairs l.kb l.b) (held l.h l.e l.t) l.w l.row l.initial.s l.k l.c l.s

abbrev pub decreases-loop-c : goal.decreases-loop-c
decreases-loop-c l = l.len - l.c
