use Rattle.store.specs.Row.{rows}
use Rattle.span.specs.Units.{join}
use mathlib.Core.Path.{ap, ◌∙◌}
use Rattle.rope.proofs.Deletes.{deletes, delete_law}
use Rattle.rope.proofs.delete.delete_rows.Goals as goal

pub apply-requires : goal.apply-requires
apply-requires c = let a = c.args in deletes a.n a.at a.len a.start a.s.now c.requires

pub returns : goal.returns
returns c = let a = c.args in c.apply.ensures ∙ ap join (delete_law (record { at = a.at; len = a.len; start = a.start }) (rows a.n a.s.now) c.requires.each)
