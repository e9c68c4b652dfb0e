use Rattle.session.proofs.HistoryLaws.{arrives_as, goes_as}
use Rattle.session.proofs.history_calls.call.Goals as goal

pub returns-in-Insert : goal.returns-in-Insert
returns-in-Insert c = rw c.in-Insert.is (arrives_as _ _ _ _ _ c.word.ensures c.inserting.ensures c.arrive.ensures)

pub returns-in-Delete : goal.returns-in-Delete
returns-in-Delete c = rw c.in-Delete.is (arrives_as _ _ _ _ _ c.word-in-Delete.ensures c.deleting.ensures c.arrive-in-Delete.ensures)

pub returns-in-Checkout : goal.returns-in-Checkout
returns-in-Checkout c = rw c.in-Checkout.is (goes_as _ _ _ _ _ c.word-in-Checkout.ensures c.checkout.ensures)

pub returns-in-Delta : goal.returns-in-Delta
returns-in-Delta c = rw c.in-Delta.is c.delta.ensures

pub returns-in-Applied : goal.returns-in-Applied
returns-in-Applied c = rw c.in-Applied.is c.applied.ensures
