use Rattle.std.proofs.Common.{arith, ap}
use Rattle.apply.specs.Given.{takes}
use Rattle.apply.proofs.Fits.{left-takes}
use Rattle.apply.proofs.delta.new_fits.Goals as goal

pub overflow_sub-left : goal.overflow_sub-left
overflow_sub-left c = let l = c.loop-i in omega (arith, c.takes-left.ensures.0, ap takes c.get-entry.ensures, left-takes _ _ l.i l.left c.loop-i-test.true l.invariant.0)
