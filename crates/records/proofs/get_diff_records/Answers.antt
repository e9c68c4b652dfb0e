use mathlib.Core.Path.{sym, ap, ◌∙◌}
use mathlib.Core.Bool.{not}
use native.Mathlib.Omega.{arith}
use borrow.Author.Tests.{not-true, not-false}
use Rattle.span.proofs.RefusalLaws.{answer_err}
use Rattle.rope.proofs.States.{state_of}
use Rattle.rope.proofs.Fills.{get_code_none}
use Rattle.records.proofs.Answered.{refused_slice, exit, done_fits, done}
use Rattle.records.proofs.get_diff_records.Goals as goal

pub returns-then-not-check : goal.returns-then-not-check
returns-then-not-check c =
    let e = get_code_none _ _ (sym c.check.ensures ∙ not-true _ (ap not c.if-not-check.true)) in
    (answer_err _ _ _ (sym e), refused_slice _ _ (λ z. let w = sym e ∙ z in omega (arith, w)))

pub count-n-requires : goal.count-n-requires
count-n-requires c = (state_of c.args.s.now (sym c.check.ensures ∙ not-false _ (ap not c.if-not-check.false))).head

pub slice_bounds-rows-count : goal.slice_bounds-rows-count
slice_bounds-rows-count c = (state_of c.args.s.now (sym c.check.ensures ∙ not-false _ (ap not c.if-not-check.false))).head

pub slice_bounds-rows-start : goal.slice_bounds-rows-start
slice_bounds-rows-start c = (state_of c.args.s.now (sym c.check.ensures ∙ not-false _ (ap not c.if-not-check.false))).head

pub diff_len-requires : goal.diff_len-requires
diff_len-requires c = rw c.count-n.ensures (state_of c.args.s.now (sym c.check.ensures ∙ not-false _ (ap not c.if-not-check.false))).stored

pub write_records-requires : goal.write_records-requires
write_records-requires c =
    let e = sym c.check.ensures ∙ not-false _ (ap not c.if-not-check.false) in
    (rw c.count-n.ensures (state_of c.args.s.now e).stored, done_fits c.args.s.now c.args.out.now e _ c.count-n.ensures _ c.in_ok-many.ensures)

pub returns-in_err-many : goal.returns-in_err-many
returns-in_err-many c =
    exit c.args.s.now c.args.out.now (sym c.check.ensures ∙ not-false _ (ap not c.if-not-check.false)) _ c.count-n.ensures _ _ c.from_residual.ensures.1 c.in_err-many.ensures

pub returns : goal.returns
returns c =
    done c.args.s.now c.args.out.now (sym c.check.ensures ∙ not-false _ (ap not c.if-not-check.false)) _ c.count-n.ensures _ c.in_ok-many.ensures _ c.write_records.ensures
