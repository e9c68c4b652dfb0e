use Rattle.span.proofs.ChunkLaws.{slice_ok, text_within, is_text, is_unknown, is_anchor}
use Rattle.span.specs.Chunk.{part_chunk}
use native.Mathlib.Omega.{arith}
use Rattle.span.proofs.chunk.RichtextChunk.part.Goals as goal

pub overflow_add-result : goal.overflow_add-result
overflow_add-result c = omega (arith, slice_ok _ _ _ c.requires, text_within _ _ _ c.if-start-lt-MOVE_ANCHOR.true c.requires)

pub overflow_sub-result : goal.overflow_sub-result
overflow_sub-result c = omega (arith, slice_ok _ _ _ c.requires)

pub returns-then-start-lt-MOVE_ANCHOR : goal.returns-then-start-lt-MOVE_ANCHOR
unfolding part_chunk
returns-then-start-lt-MOVE_ANCHOR c = rw (is_text c.if-start-lt-MOVE_ANCHOR.true)

pub returns-then-start : goal.returns-then-start
unfolding part_chunk
returns-then-start c = rw (is_unknown c.if-start.true)

pub returns-else-start : goal.returns-else-start
unfolding part_chunk
returns-else-start c = rw (is_anchor c.if-start-lt-MOVE_ANCHOR.false c.if-start.false)

pub overflow_add-result-then-start-lt-MOVE_ANCHOR : goal.overflow_add-result-then-start-lt-MOVE_ANCHOR
overflow_add-result-then-start-lt-MOVE_ANCHOR c = omega (arith, text_within _ _ _ c.if-start-lt-MOVE_ANCHOR.true c.requires)
