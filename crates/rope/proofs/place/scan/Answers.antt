use Rattle.rope.specs.Spans.{covered}
use Rattle.units.specs.Place.{mem_id, sibling}
use Rattle.store.specs.Row.{rows}
use Rattle.span.specs.Units.{expand}
use Rattle.span.specs.Ids.{same_opt}
use Rattle.span.specs.declared.span.FugueSpan.{FugueSpan}
use lib.ListN.{take}
use native.Mathlib.Omega.{arith}
use Prim.Native.Nat.{ℕ}
use mathlib.Core.Bool.{true, false}
use mathlib.Core.Path.{refl, sym, ap, ◌∙◌}
use Rattle.rope.proofs.Rights.{same_eq}
use Rattle.rope.proofs.Turns.{over, not_future, judged_stop, judged, unscanned, scanned_left, not_yet, scanned_has, not-true, not-false}
use Rattle.rope.proofs.place.scan.Goals as goal

pub scan-preserved-then-eq : goal.scan-preserved-then-eq
scan-preserved-then-eq c = let l = c.scan in let a = c.args in let g = c.scan-test.true in let R = c.get_row-row.ensures in rw (c.moved-place.ensures, c.after-holding.ensures) (judged (expand (rows a.n a.all.now)) a.x a.o a.m a.q a.k a.part.now l.holding l.place l.i l.invariant g c.judge-v.result (ap (λ (r : FugueSpan). r.status.future) (sym R) ∙ not-false _ c.if-not-row.false) (ap (λ (r : FugueSpan). same_opt r.origin_left a.x) (sym R) ∙ same_eq _ _ _ true c.eq.ensures c.if-eq.true) (c.judge-v.ensures ∙ ap (λ (r : FugueSpan). sibling (expand (rows a.n a.all.now)) a.o a.m a.q r) R) (sym c.is_stop.ensures ∙ c.if-is_stop.false))

pub scanned-init : goal.scanned-init
unfolding mem_id expand
scanned-init c = (omega arith, refl)

pub scanned-preserved : goal.scanned-preserved
scanned-preserved c = let l = c.scan in let a = c.args in let g = c.scan-test.true in let R = c.get_row-row.ensures in let s = c.scanned in (omega (arith, s.invariant.0, c.if-j-i.false), not_yet a.k a.part.now _ s.j (omega (arith, s.invariant.0, c.if-j-i.false, g)) c.requires.1 s.invariant.1 (ap (λ (r : FugueSpan). covered r c.get_row-row.result.origin_left) (sym c.get_row.ensures) ∙ (sym c.covers.ensures ∙ c.if-covers.false)))

pub scan-preserved : goal.scan-preserved
scan-preserved c = let l = c.scan in let a = c.args in let g = c.scan-test.true in let R = c.get_row-row.ensures in let s = c.scanned in rw c.moved-place-in-scan.ensures (scanned_left (expand (rows a.n a.all.now)) a.x a.o a.m a.q a.k a.part.now l.holding l.place l.i l.invariant g (ap (λ (r : FugueSpan). r.status.future) (sym R) ∙ not-false _ c.if-not-row.false) (ap (λ (r : FugueSpan). same_opt r.origin_left a.x) (sym R) ∙ same_eq _ _ _ false c.eq.ensures c.if-eq.false) (ap (λ (r : FugueSpan). mem_id r.origin_left (expand (take l.i (rows a.k a.part.now)))) (sym R) ∙ scanned_has a.k a.part.now _ s.j l.i (omega (arith, s.invariant.0, c.if-j-i.false)) (omega (arith, g)) c.requires.1 (ap (λ (r : FugueSpan). covered r c.get_row-row.result.origin_left) (sym c.get_row.ensures) ∙ (sym c.covers.ensures ∙ c.if-covers.true))))

pub returns-after-scan : goal.returns-after-scan
returns-after-scan c = let l = c.scan in let a = c.args in over (expand (rows a.n a.all.now)) a.x a.o a.m a.q a.k a.part.now l.holding l.place l.i l.invariant c.scan-test.false

pub returns-then-not-row : goal.returns-then-not-row
returns-then-not-row c = let l = c.scan in let a = c.args in let g = c.scan-test.true in let R = c.get_row-row.ensures in not_future (expand (rows a.n a.all.now)) a.x a.o a.m a.q a.k a.part.now l.holding l.place l.i l.invariant g (ap (λ (r : FugueSpan). r.status.future) (sym R) ∙ not-true _ c.if-not-row.true)

pub returns-then-is_stop : goal.returns-then-is_stop
returns-then-is_stop c = let l = c.scan in let a = c.args in let g = c.scan-test.true in let R = c.get_row-row.ensures in judged_stop (expand (rows a.n a.all.now)) a.x a.o a.m a.q a.k a.part.now l.holding l.place l.i l.invariant g c.judge-v.result (ap (λ (r : FugueSpan). r.status.future) (sym R) ∙ not-false _ c.if-not-row.false) (ap (λ (r : FugueSpan). same_opt r.origin_left a.x) (sym R) ∙ same_eq _ _ _ true c.eq.ensures c.if-eq.true) (c.judge-v.ensures ∙ ap (λ (r : FugueSpan). sibling (expand (rows a.n a.all.now)) a.o a.m a.q r) R) (sym c.is_stop.ensures ∙ c.if-is_stop.true)

pub returns-then-j-i : goal.returns-then-j-i
returns-then-j-i c = let l = c.scan in let a = c.args in let g = c.scan-test.true in let R = c.get_row-row.ensures in let s = c.scanned in unscanned (expand (rows a.n a.all.now)) a.x a.o a.m a.q a.k a.part.now l.holding l.place l.i l.invariant g (ap (λ (r : FugueSpan). r.status.future) (sym R) ∙ not-false _ c.if-not-row.false) (ap (λ (r : FugueSpan). same_opt r.origin_left a.x) (sym R) ∙ same_eq _ _ _ false c.eq.ensures c.if-eq.false) (ap (λ (r : FugueSpan). mem_id r.origin_left (expand (take l.i (rows a.k a.part.now)))) (sym R) ∙ (ap (λ (j : ℕ). mem_id c.get_row-row.result.origin_left (expand (take j (rows a.k a.part.now)))) (sym c.if-j-i.true) ∙ s.invariant.1))
