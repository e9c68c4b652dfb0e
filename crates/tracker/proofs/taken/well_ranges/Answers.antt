use Rattle.tracker.proofs.FollowLaws.{well_turn, well_done}
use borrow.Author.Tests.{eq-eqb, ne_eqb, not-true, not-false}
use mathlib.Core.Bool.{true, false}
use mathlib.Core.Path.{refl, sym, ◌∙◌}
use mathlib.Core.Path.{ap}
use mathlib.Core.Bool.{not}
use Rattle.tracker.proofs.taken.well_ranges.Goals.{then-r-eq0-via-then-r-eq0, then-r-eq0-via-else-r-eq0+then-not-has_room, then-r-eq0-via-else-r-eq0+else-not-has_room+then-runs_into}
use Rattle.tracker.proofs.taken.well_ranges.Goals as goal

pub returns-then-r-eq0 : goal.returns-then-r-eq0
returns-then-r-eq0 c = let l = c.loop-j in let a = c.args in
    elim c.then-r-eq0.branch [
      | then-r-eq0-via-then-r-eq0 w ↦ sym (l.invariant ∙ well_turn a.m a.t.now l.j c.loop-j-test.true _ c.get_target-r.ensures true _ _ (eq-eqb _ _ w.if-r-eq0.true) refl refl)
      | then-r-eq0-via-else-r-eq0+then-not-has_room w ↦ sym (l.invariant ∙ well_turn a.m a.t.now l.j c.loop-j-test.true _ c.get_target-r.ensures false false _ (ne_eqb _ _ w.if-r-eq0.false) (sym w.has_room.ensures ∙ not-true _ (ap not w.if-not-has_room.true)) refl)
      | then-r-eq0-via-else-r-eq0+else-not-has_room+then-runs_into w ↦ sym (l.invariant ∙ well_turn a.m a.t.now l.j c.loop-j-test.true _ c.get_target-r.ensures false true true (ne_eqb _ _ w.if-r-eq0.false) (sym w.has_room.ensures ∙ not-false _ (ap not w.if-not-has_room.false)) (sym w.runs_into.ensures ∙ w.if-runs_into.true))
    ]

pub loop-j-preserved : goal.loop-j-preserved
loop-j-preserved c = let l = c.loop-j in let a = c.args in (l.invariant ∙ well_turn a.m a.t.now l.j c.loop-j-test.true _ c.get_target-r.ensures false true false (ne_eqb _ _ c.if-r-eq0.false) (sym c.has_room.ensures ∙ not-false _ (ap not c.if-not-has_room.false)) (sym c.runs_into.ensures ∙ c.if-runs_into.false))

pub returns : goal.returns
returns c = let l = c.loop-j in let a = c.args in sym (l.invariant ∙ well_done a.m a.t.now l.j c.loop-j-test.false)
