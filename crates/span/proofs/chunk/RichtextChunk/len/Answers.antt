use Rattle.span.proofs.ChunkLaws.{is_text, is_unknown, is_anchor}
use Rattle.span.specs.Chunk.{len_of}
use native.Mathlib.Omega.{arith}
use Rattle.span.proofs.chunk.RichtextChunk.len.Goals as goal

pub returns-then-start-end : goal.returns-then-start-end
unfolding len_of
returns-then-start-end c = rw (is_text c.if-start-lt-MOVE_ANCHOR.true)

pub returns-else-start-end : goal.returns-else-start-end
unfolding len_of
returns-else-start-end c = rw (is_text c.if-start-lt-MOVE_ANCHOR.true) (omega arith)

pub returns-then-start : goal.returns-then-start
unfolding len_of
returns-then-start c = rw (is_unknown c.if-start.true)

pub returns-else-start : goal.returns-else-start
unfolding len_of
returns-else-start c = rw (is_anchor c.if-start-lt-MOVE_ANCHOR.false c.if-start.false)
