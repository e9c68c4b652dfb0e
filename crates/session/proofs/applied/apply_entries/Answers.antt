use Rattle.std.proofs.Common.{refl}
use Rattle.session.proofs.AppliedLaws.{called_as}
use Rattle.session.proofs.applied.apply_entries.Goals as goal

pub returns : goal.returns
returns c =
    called_as _
    c.front.ensures
    c.front-2.ensures
    c.front-3.ensures
    c.front-4.ensures
    c.front-5.ensures
    c.front-6.ensures
    refl
    c.apply.ensures
