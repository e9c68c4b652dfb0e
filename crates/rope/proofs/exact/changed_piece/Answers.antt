use mir.Facts.{to_z-of_z}
use mir.Val.{SFits}
use mir.Syntax.{w16, w32}
use Rattle.span.specs.declared.status.Status.{Status}
use Rattle.units.specs.Change.{update_unit}
use mathlib.Core.Path.{ap, ◌∙◌}
use lib.IntN.{◌+ℤ◌}
use Rattle.rope.proofs.Exacts.{exact_by, times_changed}
use borrow.Author.Rules.{rules}
use Rattle.rope.proofs.exact.changed_piece.Goals as goal

pub returns : goal.returns
returns c = let a = c.args in
    let b = c.base in
    let f : SFits w16 b.result.delete_times = search rules in
    let k : SFits w16 a.u.change = search rules in
    let g : SFits w32 c.sum.result = search rules in
    rw (to_z-of_z g)
    (exact_by a.u.diff (update_unit a.u.set a.u.change a.u.diff a.piece) c.sum.result c.changed_bare.result
    ((rw (to_z-of_z f, to_z-of_z k) at c.sum.ensures) ∙ (ap (λ (s : Status). s.delete_times +ℤ a.u.change) b.ensures ∙ times_changed a.u.set a.u.change a.u.diff a.piece))
    c.changed_bare.ensures)
