use mathlib.Core.Path.{sym}
use native.Mathlib.Omega.{arith}
use Rattle.std.proofs.lemmas.Result.{err_from_is_err_and}
use Rattle.span.proofs.RefusalLaws.{number_not_zero}
use Rattle.tracker.specs.Opens.{open_number}
use Rattle.tracker.proofs.Opening.{opened_not, opened_short, short_edits, store_head, opened_done}
use Rattle.tracker.proofs.open.open.Goals as goal

pub returns-then-e-lt-EDIT_BYTES : goal.returns-then-e-lt-EDIT_BYTES
returns-then-e-lt-EDIT_BYTES c =
    let a = c.args in
    opened_not (open_number a.s.now a.e.now) 0 13 a.s.now a.t.now a.e.now (short_edits a.s.now a.e.now c.if-e-lt-EDIT_BYTES.true) (λ z. omega arith)

pub returns-in_err-open : goal.returns-in_err-open
returns-in_err-open c =
    let a = c.args in
    let o = c.in_err-open.ensures in
    let p = err_from_is_err_and c.from_residual.result c.from_residual.ensures.1 in
    rw (p.1, p.2) (opened_short a.s.now a.e.now _ a.t.now _ o.0 (number_not_zero _) o.1)

pub returns : goal.returns
returns c =
    let a = c.args in
    let o = c.in_ok-open.ensures in
    opened_done a.s.now a.e.now a.t.now _ _ (store_head a.s.now a.e.now (sym o.0)) c.if-e-lt-EDIT_BYTES.false o.1 c.put_header.ensures
