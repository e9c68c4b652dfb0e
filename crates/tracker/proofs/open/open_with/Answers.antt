use mathlib.Core.Path.{sym, ◌∙◌}
use native.Mathlib.Omega.{arith}
use Rattle.span.proofs.RefusalLaws.{number_not_zero}
use Rattle.rope.proofs.States.{with_done}
use Rattle.tracker.specs.Opens.{open_with_number}
use Rattle.tracker.proofs.Opening.{opened_not, no_units, many_units, no_room, with_short, with_opened}
use Rattle.tracker.proofs.open.open_with.Goals.{then-n-gt-UNITS-via-then-n-gt-UNITS, then-n-gt-UNITS-via-else-n-gt-UNITS+then-room-eq0}
use Rattle.tracker.proofs.open.open_with.Goals as goal

pub returns-then-n-eq0 : goal.returns-then-n-eq0
returns-then-n-eq0 c =
    let a = c.args in
    opened_not (open_with_number a.n a.s.now a.e.now) a.n 1 a.s.now a.t.now a.e.now (no_units a.s.now a.e.now a.n c.if-n-eq0.true) (λ z. omega arith)

pub returns-then-n-gt-UNITS : goal.returns-then-n-gt-UNITS
returns-then-n-gt-UNITS c =
    let a = c.args in
    opened_not (open_with_number a.n a.s.now a.e.now) a.n 10 a.s.now a.t.now a.e.now
    (elim c.then-n-gt-UNITS.branch [
      | then-n-gt-UNITS-via-then-n-gt-UNITS w ↦ many_units a.s.now a.e.now a.n w.if-n-gt-UNITS.true
      | then-n-gt-UNITS-via-else-n-gt-UNITS+then-room-eq0 w ↦ no_room a.s.now a.e.now a.n c.if-n-eq0.false w.if-n-gt-UNITS.false (sym w.room.ensures ∙ w.if-room-eq0.true)
    ])
    (λ z. omega arith)

pub returns-then-e-lt-EDIT_BYTES : goal.returns-then-e-lt-EDIT_BYTES
returns-then-e-lt-EDIT_BYTES c =
    let a = c.args in
    opened_not (open_with_number a.n a.s.now a.e.now) a.n 13 a.s.now a.t.now a.e.now (with_short a.s.now a.e.now a.n c.if-n-eq0.false c.if-n-gt-UNITS.false (λ z. c.if-room-eq0.false (c.room.ensures ∙ z)) c.if-e-lt-EDIT_BYTES.true) (λ z. omega arith)

pub returns-in_err-open_with : goal.returns-in_err-open_with
returns-in_err-open_with c =
    let a = c.args in
    absurd (number_not_zero _ (c.in_err-open_with.ensures.0 ∙ (with_done a.s.now a.n c.if-n-eq0.false c.if-n-gt-UNITS.false (λ z. c.if-room-eq0.false (c.room.ensures ∙ z))).0))

pub returns : goal.returns
returns c =
    let a = c.args in
    with_opened a.s.now a.e.now a.n c.if-n-eq0.false c.if-n-gt-UNITS.false (λ z. c.if-room-eq0.false (c.room.ensures ∙ z)) a.t.now _ _ (omega (arith, c.if-n-gt-UNITS.false)) c.if-e-lt-EDIT_BYTES.false c.in_ok-open_with.ensures.1 (rw c.from.ensures at c.put_header.ensures)
