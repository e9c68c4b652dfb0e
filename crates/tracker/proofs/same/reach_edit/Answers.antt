use Rattle.tracker.proofs.MadeLaws.{meets_delete}
use Rattle.tracker.specs.Rows.{to_act}
use mathlib.Core.Path.{ap}
use Rattle.tracker.proofs.same.reach_edit.Goals as goal

pub returns-in-Delete : goal.returns-in-Delete
returns-in-Delete c = meets_delete c.args.row c.args.k _ _ c.head_at-head.ensures _ _ _ (ap to_act c.in-Delete.is) c.requires.1
