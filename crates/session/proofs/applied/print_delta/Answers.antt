use Rattle.std.proofs.Common.{sym, ap, ◌∙◌}
use Rattle.rope.specs.Columns.{diff_number}
use Rattle.session.proofs.EntriesLaws.{delta_done, delta_refused, says_as}
use Rattle.session.proofs.HistoryLaws.{is_telling}
use Rattle.session.proofs.applied.print_delta.Goals as goal

pub returns-in-Ok : goal.returns-in-Ok
returns-in-Ok c =
    let d = c.delta_into.ensures in
    is_telling _ _ _ _ _ _ _ _ d (says_as _ _ (delta_done _ _ _ _ _ _ _ _ d.diffed _ c.in-Ok.is) c.entries.ensures)

pub returns-in-Err : goal.returns-in-Err
returns-in-Err c =
    let d = c.delta_into.ensures in
    is_telling _ _ _ _ _ _ _ _ d (says_as _ _ (delta_refused _ _ _ (ap diff_number (sym c.in-Err.is) ∙ d.leaves.number)) (rw c.number.ensures at c.refused.ensures))
