use Rattle.span.proofs.RefusalLaws.{answer_exit}
use Rattle.span.proofs.span.FugueSpan.merge_right.Goals as goal

pub returns-in_err-check_merge : goal.returns-in_err-check_merge
returns-in_err-check_merge c = answer_exit _ _ _ _ c.from_residual.ensures.1 c.in_err-check_merge.ensures
