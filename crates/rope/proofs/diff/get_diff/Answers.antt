use mathlib.Core.Path.{sym, ◌∙◌}
use native.Mathlib.Omega.{arith}
use borrow.Author.Tests.{not-true, not-false}
use Rattle.rope.proofs.States.{state_of}
use Rattle.span.specs.Refusal.{refusal_of}
use Rattle.rope.proofs.Fills.{get_code_none, diffed_refused, diffed_all}
use mathlib.Core.Path.{ap}
use mathlib.Core.Bool.{not}
use Rattle.rope.proofs.diff.get_diff.Goals as goal

pub returns-then-not-check : goal.returns-then-not-check
unfolding refusal_of
returns-then-not-check c = diffed_refused _ _ _ _ _ _ _ _ 15 (get_code_none _ _ (sym c.check.ensures ∙ not-true _ (ap not c.if-not-check.true))) (λ z. omega arith)

pub count-n-requires : goal.count-n-requires
count-n-requires c = (state_of c.args.s.now (sym c.check.ensures ∙ not-false _ (ap not c.if-not-check.false))).head

pub slice_bounds-diff_rows-count : goal.slice_bounds-diff_rows-count
slice_bounds-diff_rows-count c = (state_of c.args.s.now (sym c.check.ensures ∙ not-false _ (ap not c.if-not-check.false))).head

pub slice_bounds-diff_rows-start : goal.slice_bounds-diff_rows-start
slice_bounds-diff_rows-start c = (state_of c.args.s.now (sym c.check.ensures ∙ not-false _ (ap not c.if-not-check.false))).head

pub diff_rows-requires : goal.diff_rows-requires
diff_rows-requires c = rw c.count-n.ensures (state_of c.args.s.now (sym c.check.ensures ∙ not-false _ (ap not c.if-not-check.false))).stored

pub returns : goal.returns
returns c = diffed_all _ c.args.s.now (sym c.check.ensures ∙ not-false _ (ap not c.if-not-check.false)) _ c.count-n.ensures _ _ _ _ _ _ _ _ _ _ _ _ _ c.diff_rows.ensures
