use mathlib.Core.Path.{sym, ap, ◌∙◌}
use mathlib.Core.Bool.{not}
use native.Mathlib.Omega.{arith}
use borrow.Author.Tests.{not-true, not-false}
use Rattle.span.proofs.RefusalLaws.{answer_ok, answer_err}
use Rattle.units.specs.Lists.{every}
use Rattle.units.specs.Delta.{insertable}
use Rattle.rope.proofs.Fills.{rows_code_real, rows_code_full, rows_code_done}
use Rattle.rope.proofs.diff.diff_len.Goals as goal

pub returns-then-not-all_real : goal.returns-then-not-all_real
returns-then-not-all_real c = answer_err _ _ _ (sym (rows_code_real _ _ (sym (c.all_real.ensures ∙ ap (every insertable) c.rows-list.ensures.list) ∙ not-true _ (ap not c.if-not-all_real.true))))

pub returns-then-room-many : goal.returns-then-room-many
returns-then-room-many c =
    answer_err _ _ _
    (sym (rows_code_full _ _ (sym (c.all_real.ensures ∙ ap (every insertable) c.rows-list.ensures.list) ∙ not-false _ (ap not c.if-not-all_real.false)) (omega (arith, c.if-room-many.true, c.count_entries-many.ensures))))

pub returns : goal.returns
returns c =
    answer_ok _ _ _
    (rows_code_done _ _ (sym (c.all_real.ensures ∙ ap (every insertable) c.rows-list.ensures.list) ∙ not-false _ (ap not c.if-not-all_real.false)) (omega (arith, c.if-room-many.false, c.count_entries-many.ensures))) c.count_entries-many.ensures
