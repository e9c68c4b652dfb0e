use Rattle.session.proofs.CallsLaws.{delete_done, delete_refused}
use Rattle.session.proofs.NumberLaws.{number_of_delete}
use Rattle.session.proofs.calls.delete.Goals as goal

pub returns-in-Ok : goal.returns-in-Ok
returns-in-Ok c = delete_done _ _ _ _ _ _ _ _ _ c.delete.ensures c.in-Ok.is c.pieces.ensures

pub returns-in-Err : goal.returns-in-Err
returns-in-Err c = delete_refused _ _ _ _ _ _ _ _ _ (number_of_delete _ _ _ _ _ _) c.delete.ensures c.in-Err.is (rw c.number.ensures at c.refused.ensures)
