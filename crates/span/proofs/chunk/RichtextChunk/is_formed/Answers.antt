use Rattle.span.proofs.ChunkLaws.{is_text, is_unknown, is_anchor}
use Rattle.span.specs.Chunk.{formed}
use borrow.Author.Tests.{lt-ltb, le-ltb, eq-eqb, ne_eqb}
use Rattle.span.proofs.chunk.RichtextChunk.is_formed.Goals as goal

pub returns-then-start-end : goal.returns-then-start-end
unfolding formed
returns-then-start-end c = simp (is_text c.if-start-lt-MOVE_ANCHOR.true, lt-ltb _ _ c.if-start-end.true)

pub returns-else-start-end : goal.returns-else-start-end
unfolding formed
returns-else-start-end c = simp (is_text c.if-start-lt-MOVE_ANCHOR.true, le-ltb _ _ c.if-start-end.false)

pub returns-then-start : goal.returns-then-start
unfolding formed
returns-then-start c = rw (is_unknown c.if-start.true)

pub returns-then-start-2 : goal.returns-then-start-2
unfolding formed
returns-then-start-2 c = simp (is_anchor c.if-start-lt-MOVE_ANCHOR.false c.if-start.false, eq-eqb _ _ c.if-start-2.true)

pub returns-else-start-2 : goal.returns-else-start-2
unfolding formed
returns-else-start-2 c = simp (is_anchor c.if-start-lt-MOVE_ANCHOR.false c.if-start.false, ne_eqb _ _ c.if-start-2.false)
