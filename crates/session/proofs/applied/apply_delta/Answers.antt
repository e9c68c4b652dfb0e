use Rattle.std.proofs.Common.{sym, ap, ◌∙◌}
use Rattle.std.proofs.lemmas.Result.{err_from_is_err_and}
use Rattle.rope.specs.Columns.{diff_number}
use Rattle.session.proofs.AppliedLaws.{is_applying, new_done, new_refused}
use Rattle.session.proofs.applied.apply_delta.Goals as goal

pub returns-in_err-n : goal.returns-in_err-n
returns-in_err-n c =
    let d = c.delta_into.ensures in
    let p = err_from_is_err_and c.from_residual.result c.from_residual.ensures.1 in
    rw (p.1, p.2) (is_applying _ _ _ _ _ _ _ d (new_refused _ _ _ _ _ _ _ _ d.diffed _ _ _ (ap diff_number (sym c.in_err-n.was) ∙ d.leaves.number)))

pub returns : goal.returns
returns c =
    let d = c.delta_into.ensures in
    is_applying _ _ _ _ _ _ _ d (new_done _ _ _ _ _ _ _ _ d.diffed _ _ _ c.in_ok-n.was c.apply_to_list.ensures)
