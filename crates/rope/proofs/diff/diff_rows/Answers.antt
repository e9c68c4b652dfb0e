use Rattle.rope.proofs.Fills.{answer_value, rows_code_fits, hold_least, diffed_exit, diffed_done}
use Rattle.rope.proofs.diff.diff_rows.Goals as goal

pub returns-in_err-many : goal.returns-in_err-many
returns-in_err-many c = diffed_exit _ _ _ _ _ _ _ _ _ _ c.from_residual.ensures.1 (rw c.shortest-room.ensures at c.in_err-many.ensures)

pub write_entries-requires : goal.write_entries-requires
write_entries-requires c =
    let v = answer_value _ _ _ (rw c.shortest-room.ensures at c.in_ok-many.ensures) in
    (c.requires, hold_least _ _ _ _ _ _ _ (rows_code_fits _ _ v.0))

pub returns : goal.returns
returns c =
    let v = answer_value _ _ _ (rw c.shortest-room.ensures at c.in_ok-many.ensures) in
    diffed_done _ _ _ _ _ _ _ _ v.0 _ v.1 _ _ _ _ _ _ c.write_entries.ensures
