use Rattle.span.proofs.ChunkLaws.{merge_ok, unknown_joins, is_unknown, is_text, text_joins}
use Rattle.span.specs.Chunk.{merged_chunk}
use native.Mathlib.Omega.{arith}
use Rattle.span.proofs.chunk.RichtextChunk.merged.Goals as goal

pub overflow_add-result : goal.overflow_add-result
overflow_add-result c = omega (arith, unknown_joins _ _ c.if-start.true (merge_ok _ _ c.requires).join)

pub returns-then-start : goal.returns-then-start
unfolding merged_chunk
returns-then-start c = rw (is_unknown c.if-start.true)

pub returns-else-start : goal.returns-else-start
unfolding merged_chunk
returns-else-start c = simp (is_text (text_joins _ _ c.if-start.false (merge_ok _ _ c.requires).join))
