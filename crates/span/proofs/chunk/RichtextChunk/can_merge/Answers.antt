use Prim.Native.Nat.{◌+◌, ◌-◌}
use Rattle.span.specs.Chunk.{UNKNOWN, joins}
use Rattle.span.proofs.ChunkLaws.{leb_iff, is_text, is_unknown, is_anchor}
use native.Mathlib.Omega.{arith}
use borrow.Author.Tests.{lt-ltb, le-ltb, eq-eqb, ne_eqb}
use Rattle.span.proofs.chunk.RichtextChunk.can_merge.Goals as goal

pub returns-then-after-lt-MOVE_ANCHOR : goal.returns-then-after-lt-MOVE_ANCHOR
unfolding joins
returns-then-after-lt-MOVE_ANCHOR c = simp (is_text c.if-start-lt-MOVE_ANCHOR.true, lt-ltb _ _ c.if-after-lt-MOVE_ANCHOR.true)

pub returns-else-after-lt-MOVE_ANCHOR : goal.returns-else-after-lt-MOVE_ANCHOR
unfolding joins
returns-else-after-lt-MOVE_ANCHOR c = simp (is_text c.if-start-lt-MOVE_ANCHOR.true, le-ltb _ _ c.if-after-lt-MOVE_ANCHOR.false)

pub returns-then-after : goal.returns-then-after
unfolding joins
returns-then-after c = let a = c.args in
    simp (is_unknown c.if-start.true, eq-eqb _ _ c.if-after.true)
    (leb_iff a.rhs.end (UNKNOWN - a.self.end) (a.self.end + a.rhs.end) UNKNOWN (λ h. omega arith) (λ h. omega arith))

pub returns-else-after : goal.returns-else-after
unfolding joins
returns-else-after c = simp (is_unknown c.if-start.true, ne_eqb _ _ c.if-after.false)

pub returns-else-start : goal.returns-else-start
unfolding joins
returns-else-start c = rw (is_anchor c.if-start-lt-MOVE_ANCHOR.false c.if-start.false)
