use Rattle.tracker.proofs.MadeLaws.{length_insert}
use Rattle.tracker.specs.Rows.{to_act}
use mathlib.Core.Path.{ap, ◌∙◌}
use Rattle.tracker.proofs.same.made_len.Goals as goal

pub returns-in-Insert : goal.returns-in-Insert
returns-in-Insert c = c.len.ensures ∙ length_insert _ _ c.head_at.ensures _ _ (ap to_act c.in-Insert.is)
