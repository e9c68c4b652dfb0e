use Rattle.tracker.proofs.MadeLaws.{Row}
use Rattle.tracker.specs.Made.{made_in}
use Prim.Native.Nat.{◌-◌}
use Rattle.tracker.proofs.same.row_made.Given as goal

abbrev pub invariant-loop-k : goal.invariant-loop-k
invariant-loop-k l = Row (made_in l.p l.h l.e) l.row l.k

abbrev pub decreases-loop-k : goal.decreases-loop-k
decreases-loop-k l = l.n - l.k
