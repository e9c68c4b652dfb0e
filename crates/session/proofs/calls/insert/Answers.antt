use Rattle.session.proofs.CallsLaws.{edit_said}
use Rattle.session.proofs.calls.insert.Goals as goal

pub returns : goal.returns
returns c = edit_said _ _ _ _ _ _ c.insert-outcome.ensures (rw c.code_of.ensures at c.done.ensures)
