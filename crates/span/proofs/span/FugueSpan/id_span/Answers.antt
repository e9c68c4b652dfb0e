use mathlib.Core.Path.{sym, ◌∙◌}
use Rattle.span.proofs.RefusalLaws.{answer_exit}
use Rattle.span.proofs.SpanLaws.{span_ok}
use Rattle.span.proofs.span.FugueSpan.id_span.Goals as goal

pub returns-in_err-check : goal.returns-in_err-check
returns-in_err-check c = answer_exit _ _ _ _ c.from_residual.ensures.1 c.in_err-check.ensures

pub to_span-requires : goal.to_span-requires
to_span-requires c = rw c.len.ensures (span_ok _ (sym c.in_ok-check.ensures)).own
