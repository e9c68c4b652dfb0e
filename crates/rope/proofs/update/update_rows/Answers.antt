use Rattle.store.specs.Row.{rows}
use Rattle.span.specs.Units.{join}
use mathlib.Core.Path.{ap, ◌∙◌}
use Rattle.rope.proofs.Updating.{updates, update_law}
use Rattle.rope.proofs.update.update_rows.Goals as goal

pub apply-requires : goal.apply-requires
apply-requires c = let a = c.args in updates a.n a.u a.s.now c.requires

pub returns : goal.returns
returns c = let a = c.args in c.apply.ensures ∙ ap join (update_law a.u (rows a.n a.s.now) c.requires.each c.requires.order)
