use Rattle.tracker.proofs.HeldLaws.{wide_within}
use Rattle.tracker.proofs.held.covers_context.Goals as goal

pub returns-then-k-gt-PEERS : goal.returns-then-k-gt-PEERS
returns-then-k-gt-PEERS c = wide_within c.args.row.now _ _ c.get_pairs-k.ensures c.if-k-gt-PEERS.true
