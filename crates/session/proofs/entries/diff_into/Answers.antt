use Rattle.std.proofs.Common.{sym, ◌∙◌}
use Rattle.session.proofs.EntriesLaws.{delta_done, delta_refused, says_as}
use Rattle.session.proofs.NumberLaws.{number_of_diff, answered_err}
use Rattle.session.proofs.entries.diff_into.Goals as goal

pub returns-in-Ok : goal.returns-in-Ok
returns-in-Ok c = says_as _ _ (delta_done _ _ _ _ _ _ _ _ c.get_diff.ensures _ c.in-Ok.is) c.entries.ensures

pub returns-in-Err : goal.returns-in-Err
returns-in-Err c =
    let n = answered_err _ _ (number_of_diff _ _) (sym c.in-Err.is ∙ c.get_diff.ensures.said) in
    says_as _ _ (delta_refused _ _ _ n.0) (rw c.number.ensures at c.refused.ensures)
