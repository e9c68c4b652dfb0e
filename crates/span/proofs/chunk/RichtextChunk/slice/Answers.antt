use Rattle.span.proofs.RefusalLaws.{answer_exit}
use Rattle.span.proofs.chunk.RichtextChunk.slice.Goals as goal

pub returns-in_err-check_slice : goal.returns-in_err-check_slice
returns-in_err-check_slice c = answer_exit _ _ _ _ c.from_residual.ensures.1 c.in_err-check_slice.ensures
