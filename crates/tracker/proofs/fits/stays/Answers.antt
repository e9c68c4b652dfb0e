use Prim.Native.Nat.{◌+◌, ◌*◌}
use mathlib.Core.Path.{◌≡◌, sym, ap, subst, ◌∙◌}
use mathlib.Core.Bool.{Bool, true, not}
use native.Mathlib.Omega.{arith}
use Rattle.span.specs.declared.span.FugueSpan.{FugueSpan}
use Rattle.span.specs.Ids.{room_of}
use Rattle.span.specs.Units.{expand}
use Rattle.store.specs.Row.{rows, row_at}
use Rattle.units.specs.Place.{verdict}
use Rattle.rope.specs.Spans.{AllOk}
use Rattle.rope.proofs.Rights.{row_ok}
use Rattle.rope.proofs.Turns.{not-true, not-false}
use Rattle.history.specs.Version.{in_version}
use Rattle.tracker.specs.Rows.{pairs}
use Rattle.tracker.proofs.Stays.{first_room, rows_take, ok_take, Stay, stay_past, stay_stop, stay_moved, stay_on, stay_done}
use Rattle.tracker.proofs.fits.stays.Goals as goal

pub future_at-requires : goal.future_at-requires
future_at-requires c = let a = c.args in let l = c.loop-i in let W = pairs a.m a.v.now in let G = verdict (expand (rows a.n a.all.now)) a.x a.o a.p a.q in let g = c.loop-i-test.true in let R = c.get_row-row.ensures in (c.requires.3, subst (λ (r : FugueSpan). room_of r.id 1 ≡ true) (sym R) (first_room (row_at a.part.now (l.i * 72)) (row_ok a.k a.part.now l.i g c.requires.1)))

pub returns-then-not-future_at : goal.returns-then-not-future_at
returns-then-not-future_at c = let a = c.args in let l = c.loop-i in let W = pairs a.m a.v.now in let G = verdict (expand (rows a.n a.all.now)) a.x a.o a.p a.q in let g = c.loop-i-test.true in let R = c.get_row-row.ensures in stay_past W G a.k a.part.now l.holding l.i l.invariant g (ap (λ (r : FugueSpan). not (in_version W r.id)) (sym R) ∙ (sym c.future_at.ensures ∙ not-true _ (ap not c.if-not-future_at.true)))

pub weigh-said-requires : goal.weigh-said-requires
weigh-said-requires c = let a = c.args in let l = c.loop-i in let W = pairs a.m a.v.now in let G = verdict (expand (rows a.n a.all.now)) a.x a.o a.p a.q in let g = c.loop-i-test.true in let R = c.get_row-row.ensures in (c.requires.2, omega (arith, c.requires.0, g), subst AllOk (rows_take l.i a.k a.part.now (omega (arith, g))) (ok_take l.i (rows a.k a.part.now) c.requires.1))

pub returns-then-is_stop : goal.returns-then-is_stop
returns-then-is_stop c = let a = c.args in let l = c.loop-i in let W = pairs a.m a.v.now in let G = verdict (expand (rows a.n a.all.now)) a.x a.o a.p a.q in let g = c.loop-i-test.true in let R = c.get_row-row.ensures in stay_stop W G a.k a.part.now l.holding l.i l.invariant g c.weigh-said.result (ap (λ (r : FugueSpan). not (in_version W r.id)) (sym R) ∙ (sym c.future_at.ensures ∙ not-false _ (ap not c.if-not-future_at.false))) (c.weigh-said.ensures ∙ ap (λ (r : FugueSpan). G (expand (rows l.i a.part.now)) r) R) (sym c.is_stop.ensures ∙ c.if-is_stop.true)

pub returns-then-not-holding : goal.returns-then-not-holding
returns-then-not-holding c = let a = c.args in let l = c.loop-i in let W = pairs a.m a.v.now in let G = verdict (expand (rows a.n a.all.now)) a.x a.o a.p a.q in let g = c.loop-i-test.true in let R = c.get_row-row.ensures in stay_moved W G a.k a.part.now l.holding l.i l.invariant g c.weigh-said.result (ap (λ (r : FugueSpan). not (in_version W r.id)) (sym R) ∙ (sym c.future_at.ensures ∙ not-false _ (ap not c.if-not-future_at.false))) (c.weigh-said.ensures ∙ ap (λ (r : FugueSpan). G (expand (rows l.i a.part.now)) r) R) (sym c.is_stop.ensures ∙ c.if-is_stop.false) (sym c.after-holding.ensures ∙ not-true _ (ap not c.if-not-holding.true))

pub loop-i-preserved : goal.loop-i-preserved
loop-i-preserved c = let a = c.args in let l = c.loop-i in let W = pairs a.m a.v.now in let G = verdict (expand (rows a.n a.all.now)) a.x a.o a.p a.q in let g = c.loop-i-test.true in let R = c.get_row-row.ensures in subst (λ (b : Bool). Stay W G a.k a.part.now b (l.i + 1)) (sym c.after-holding.ensures) (stay_on W G a.k a.part.now l.holding l.i l.invariant g c.weigh-said.result (ap (λ (r : FugueSpan). not (in_version W r.id)) (sym R) ∙ (sym c.future_at.ensures ∙ not-false _ (ap not c.if-not-future_at.false))) (c.weigh-said.ensures ∙ ap (λ (r : FugueSpan). G (expand (rows l.i a.part.now)) r) R) (sym c.is_stop.ensures ∙ c.if-is_stop.false) (sym c.after-holding.ensures ∙ not-false _ (ap not c.if-not-holding.false)))

pub returns : goal.returns
returns c = let a = c.args in let l = c.loop-i in let W = pairs a.m a.v.now in let G = verdict (expand (rows a.n a.all.now)) a.x a.o a.p a.q in stay_done W G a.k a.part.now l.holding l.i l.invariant c.loop-i-test.false
