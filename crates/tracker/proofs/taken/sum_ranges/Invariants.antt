use Rattle.tracker.proofs.FollowLaws.{Summed}
use Rattle.tracker.proofs.taken.sum_ranges.Given as goal

abbrev pub invariant-loop-j : goal.invariant-loop-j
invariant-loop-j l = Summed l.m l.t l.j l.sum
