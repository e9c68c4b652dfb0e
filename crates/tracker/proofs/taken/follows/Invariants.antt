use Rattle.tracker.proofs.FollowLaws.{Going}
use Prim.Native.Nat.{◌+◌, ◌-◌}
use Rattle.tracker.proofs.taken.follows.Given as goal

abbrev pub invariant-loop-j : goal.invariant-loop-j
invariant-loop-j l = Going l.n l.s l.m l.t l.i l.k l.j l.o

abbrev pub decreases-loop-j : goal.decreases-loop-j
decreases-loop-j l = (l.n - l.i) + (l.m - l.j)
