use Rattle.tracker.proofs.Batching.{batch_empty, batch_none}
use borrow.Author.Tests.{not-true}
use mathlib.Core.Path.{refl, sym, ◌∙◌}
use mathlib.Core.Path.{ap}
use mathlib.Core.Bool.{not}
use Rattle.tracker.proofs.run.arrive_all.Goals as goal

pub returns-then-n-eq0 : goal.returns-then-n-eq0
returns-then-n-eq0 c =
    let x = c.args in batch_empty x.s.now x.t.now x.e.now x.rows.now _ refl c.if-n-eq0.true _ refl refl

pub returns-then-not-check : goal.returns-then-not-check
returns-then-not-check c =
    let x = c.args in batch_none x.s.now x.t.now x.e.now x.rows.now _ refl c.if-n-eq0.false (sym c.check.ensures ∙ not-true _ (ap not c.if-not-check.true)) _ refl refl
