use mathlib.Core.Path.{sym, ◌∙◌}
use lib.ListN.{length}
use borrow.Author.Tests.{not-true, not-false}
use Rattle.rope.specs.Columns.{least}
use Rattle.tracker.specs.Entries.{version_of, version_in}
use Rattle.tracker.proofs.Deltaing.{delta_none, delta_short}
use mathlib.Core.Path.{ap}
use mathlib.Core.Bool.{not}
use Rattle.tracker.proofs.delta.delta.Goals as goal

pub returns-then-not-check : goal.returns-then-not-check
returns-then-not-check c =
    let x = c.args in delta_none x.s.now x.t.now x.e.now (version_of x.from_peers.now x.from_counts.now) (version_of x.to_peers.now x.to_counts.now) (least (length x.kind.now) (length x.x.now) (length x.y.now) (length x.peer.now) (length x.counter.now) (length x.lamport.now)) x.kind.now x.x.now x.y.now x.peer.now x.counter.now x.lamport.now (sym c.check.ensures ∙ not-true _ (ap not c.if-not-check.true))

pub returns : goal.returns
returns c =
    let x = c.args in let a = c.put_version-ka in let b = c.put_version-kb in let g = c.delta_to in
    delta_short x.s.now x.t.now x.e.now (sym c.check.ensures ∙ not-false _ (ap not c.if-not-check.false)) (least (length x.kind.now) (length x.x.now) (length x.y.now) (length x.peer.now) (length x.counter.now) (length x.lamport.now)) g.result g.new.s x.kind.now x.x.now x.y.now x.peer.now x.counter.now x.lamport.now g.new.kind g.new.x g.new.y g.new.peer g.new.counter g.new.lamport x.from_peers.now x.from_counts.now x.to_peers.now x.to_counts.now (version_in a.result a.new.v) (version_in b.result b.new.v) a.ensures.0 b.ensures.0 g.ensures
