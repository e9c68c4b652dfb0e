use Rattle.std.proofs.Common.{to_z-of_z, w16, w32, SFits, rules}
use Rattle.session.proofs.CallsLaws.{edit_said}
use Rattle.session.proofs.calls.update.Goals as goal

pub returns : goal.returns
returns c =
    let x = c.args.x in
    let from : SFits w32 x.from.counter = search rules in
    let to : SFits w32 x.to.counter = search rules in
    let change : SFits w16 x.change = search rules in
    edit_said _ _ _ _ _ _ (rw (to_z-of_z from, to_z-of_z to, to_z-of_z change) at c.update-outcome.ensures) (rw c.code_of.ensures at c.done.ensures)
