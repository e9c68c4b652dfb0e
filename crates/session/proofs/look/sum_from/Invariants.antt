use Rattle.std.proofs.Common.{◌≡◌, ◌<◌, drop}
use Rattle.session.specs.Lines.{sum_on, sum_from}
use Rattle.session.proofs.look.sum_from.Given as goal

abbrev pub invariant-loop-b : goal.invariant-loop-b
invariant-loop-b l = (l.sum < 4294967291) × (sum_on l.sum (drop l.b-index l.s) ≡ sum_from l.start l.s)
