use Rattle.span.specs.Refusal.{code_of}
use Rattle.tracker.proofs.Longer.{arrive_whole}
use Rattle.tracker.specs.Rows.{to_edit}
use Rattle.tracker.specs.Entries.{version_of, Leaves, arrive_number, arrived}
use Rattle.history.specs.Edit.{Edit}
use Rattle.tracker.proofs.Accepting.{arrive_none}
use borrow.Author.Tests.{not-true, not-false}
use mathlib.Core.Path.{sym, subst, ◌∙◌}
use mathlib.Core.Path.{ap}
use mathlib.Core.Bool.{not}
use Rattle.tracker.proofs.arrive.arrive.Goals as goal

pub returns-then-not-check : goal.returns-then-not-check
returns-then-not-check c =
    let x = c.args in arrive_none x.s.now x.t.now x.e.now (to_edit x.x (version_of x.peers.now x.counts.now)) (sym c.check.ensures ∙ not-true _ (ap not c.if-not-check.true))

pub returns : goal.returns
returns c =
    let x = c.args in
    let f = c.arrive_row in
    let w = sym c.check.ensures ∙ not-false _ (ap not c.if-not-check.false) in
    arrive_whole x.s.now x.t.now x.e.now w x.x x.peers.now x.counts.now _ f.new.s f.new.t f.new.e
    (subst (λ (q : Edit). Leaves (arrive_number x.s.now x.t.now x.e.now q) (arrived x.s.now x.t.now x.e.now q) (code_of f.result) x.s.now x.t.now x.e.now f.new.s f.new.t f.new.e) c.put_edit.ensures f.ensures)
