use Rattle.tracker.specs.Entries.{version_of, version_in}
use Rattle.tracker.proofs.Shorts.{checkout_none, checkout_short}
use borrow.Author.Tests.{not-true, not-false}
use mathlib.Core.Path.{sym, ◌∙◌}
use mathlib.Core.Path.{ap}
use mathlib.Core.Bool.{not}
use Rattle.tracker.proofs.checkout.checkout.Goals as goal

pub returns-then-not-check : goal.returns-then-not-check
returns-then-not-check c =
    let x = c.args in checkout_none x.s.now x.t.now x.e.now (version_of x.peers.now x.counts.now) (sym c.check.ensures ∙ not-true _ (ap not c.if-not-check.true))

pub returns : goal.returns
returns c =
    let x = c.args in
    let y = c.put_version-m in
    let z = c.checkout_to in
    checkout_short x.s.now x.t.now x.e.now (sym c.check.ensures ∙ not-false _ (ap not c.if-not-check.false)) x.peers.now x.counts.now (version_in y.result y.new.v) y.ensures.0 _ z.new.s z.ensures
