use Rattle.tracker.proofs.HeldLaws.{edit_by, edit_alone}
use Rattle.tracker.specs.Rows.{context_in, edit_in, held}
use Rattle.span.specs.Status.{eq_z}
use lib.IntN.{pos}
use Rattle.std.proofs.lemmas.Result.{err_from_is_err_and}
use Rattle.span.proofs.RefusalLaws.{number_not_zero}
use mathlib.Core.Path.{sym, ap, ◌∙◌}
use mathlib.Core.List.{List}
use mathlib.Core.Bool.{true, not}
use borrow.Author.Tests.{not-false}
use Prim.Native.Nat.{ℕ}
use Rattle.tracker.proofs.held.row_code.Goals as goal

pub returns-in_err-act_code : goal.returns-in_err-act_code
returns-in_err-act_code c =
    let a = c.args in let x = c.get_head-x in
    let p = err_from_is_err_and c.from_residual.result c.from_residual.ensures.1 in
    λ (t : List ℕ). rw (p.1, p.2) (edit_alone (held a.h a.e.now t) x.result (context_in a.row.now) (edit_in a.row.now) x.ensures _ c.in_err-act_code.ensures (number_not_zero _))

pub returns : goal.returns
returns c = let a = c.args in let x = c.get_head-x in λ (t : List ℕ). c.context_code.ensures t ∙ edit_by (held a.h a.e.now t) x.result (context_in a.row.now) (edit_in a.row.now) x.ensures 0 true true (sym c.in_ok-act_code.ensures) (sym (c.peer_fits.ensures t) ∙ not-false _ (ap not c.if-not-peer_fits.false)) (ap (λ (n : ℕ). eq_z x.result.id.counter (pos n)) (sym (c.held_count.ensures t)) ∙ (sym c.counter_is.ensures ∙ not-false _ (ap not c.if-not-counter_is.false)))
