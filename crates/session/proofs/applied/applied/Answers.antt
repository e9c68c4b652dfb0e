use Rattle.session.proofs.AppliedLaws.{is_applied}
use Rattle.std.proofs.Common.{sym, refl, arith, length-take-le}
use Rattle.session.proofs.applied.applied.Goals as goal

pub slice_bounds-with_columns-end-2 : goal.slice_bounds-with_columns-end-2
slice_bounds-with_columns-end-2 c = sym (length-take-le _ _ (omega arith))

pub returns : goal.returns
returns c = is_applied _ _ _ _ _ _ _ _ c.with_columns-r.ensures refl c.listed.ensures
