use Prim.Native.Nat.{◌*◌}
use mathlib.Core.Path.{◌≡◌, sym, ap, subst, ◌∙◌}
use mathlib.Core.Bool.{true, false, not}
use Rattle.std.specs.Prelude.{Some as At}
use Rattle.span.specs.declared.span.FugueSpan.{FugueSpan}
use Rattle.span.specs.Ids.{room_of}
use Rattle.store.specs.Row.{row_at}
use Rattle.rope.proofs.Turns.{not-true, not-false}
use Rattle.history.specs.Version.{in_version}
use Rattle.tracker.specs.Rows.{pairs}
use Rattle.tracker.proofs.Nexts.{row_fine}
use Rattle.tracker.proofs.Stays.{first_room, first_turn, first_done}
use Rattle.tracker.proofs.fits.right_at.Goals as goal

pub future_at-requires : goal.future_at-requires
future_at-requires c = let a = c.args in let l = c.loop-i in let g = sym c.get_row.ensures in (c.requires.0.first, subst (λ (r : FugueSpan). room_of r.id 1 ≡ true) g (first_room (row_at a.s.now (l.i * 72)) (row_fine a.n a.s.now c.requires.0.stored l.i c.loop-i-test.true)))

pub returns-then-not-future_at : goal.returns-then-not-future_at
returns-then-not-future_at c = let a = c.args in let l = c.loop-i in let R = c.get_row.ensures in sym (l.invariant ∙ (first_turn (pairs a.m a.v.now) a.n a.s.now l.i c.loop-i-test.true false (ap (λ (r : FugueSpan). not (in_version (pairs a.m a.v.now) r.id)) (sym R) ∙ (sym c.future_at.ensures ∙ not-true _ (ap not c.if-not-future_at.true))) ∙ ap (λ (r : FugueSpan). At r.id) (sym R)))

pub loop-i-preserved : goal.loop-i-preserved
loop-i-preserved c = let a = c.args in let l = c.loop-i in let R = c.get_row.ensures in (l.invariant ∙ first_turn (pairs a.m a.v.now) a.n a.s.now l.i c.loop-i-test.true true (ap (λ (r : FugueSpan). not (in_version (pairs a.m a.v.now) r.id)) (sym R) ∙ (sym c.future_at.ensures ∙ not-false _ (ap not c.if-not-future_at.false))))

pub returns : goal.returns
returns c = let a = c.args in let l = c.loop-i in sym (l.invariant ∙ first_done (pairs a.m a.v.now) a.n a.s.now l.i c.loop-i-test.false)
