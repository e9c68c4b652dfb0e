use Rattle.tracker.proofs.Zips.{Columned}
use Rattle.tracker.proofs.columns.put_version.Given as goal

abbrev pub invariant-loop-i : goal.invariant-loop-i
invariant-loop-i l = Columned l.initial.v l.peers l.counts l.v l.i
