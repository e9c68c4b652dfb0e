use Rattle.tracker.specs.Rows.{pairs}
use Rattle.tracker.proofs.Reaches.{version_all, version_by}
use Rattle.tracker.proofs.look.version_reach.Goals as goal

pub returns-then-peer-eq-UNKNOWN_PEER : goal.returns-then-peer-eq-UNKNOWN_PEER
returns-then-peer-eq-UNKNOWN_PEER c = let a = c.args in version_all (pairs a.m a.v.now) a.peer a.c a.most c.requires.1 c.if-peer-eq-UNKNOWN_PEER.true

pub returns-else-peer-eq-UNKNOWN_PEER : goal.returns-else-peer-eq-UNKNOWN_PEER
returns-else-peer-eq-UNKNOWN_PEER c = let n = c.count_of in let a = c.args in version_by (pairs a.m a.v.now) a.peer a.c a.most c.if-peer-eq-UNKNOWN_PEER.false n.result n.ensures c.below_reach.result c.below_reach.ensures
