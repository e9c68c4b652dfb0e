use Rattle.tracker.proofs.SameLaws.{unit_cut}
use Rattle.span.proofs.Unique.{len_small}
use native.Mathlib.Omega.{arith}
use Rattle.tracker.proofs.same.unit.Goals as goal

pub overflow_add-k : goal.overflow_add-k
overflow_add-k c = omega (arith, c.requires.1, len_small c.args.x c.requires.0)

pub piece-requires : goal.piece-requires
piece-requires c = unit_cut c.args.x c.args.k c.requires.0 c.requires.1
