use mathlib.Core.Path.{ap, ◌∙◌}
use Rattle.std.specs.Option.{is_some}
use Rattle.rope.proofs.Finds.{found_has}
use Rattle.rope.proofs.find.has.Goals as goal

pub returns : goal.returns
returns c = c.is_some.ensures ∙ (ap is_some c.find_elem.ensures ∙ found_has _ c.args.o 0 c.requires)
