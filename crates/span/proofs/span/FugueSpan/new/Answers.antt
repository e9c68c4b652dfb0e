use Rattle.span.proofs.RefusalLaws.{answer_exit}
use Rattle.span.specs.Span.{span_code}
use Rattle.span.proofs.span.FugueSpan.new.Goals as goal
use mathlib.Core.Path.{ap, ◌∙◌}

pub returns-in_err-check : goal.returns-in_err-check
returns-in_err-check c = answer_exit _ _ _ _ c.from_residual.ensures.1 (c.in_err-check.ensures ∙ ap span_code c.fresh-span.ensures)
