use mathlib.Core.Bool.{true, false}
use borrow.Author.Tests.{lt-ltb, le-ltb}
use Rattle.units.specs.Place.{sibling}
use Rattle.rope.proofs.Rights.{same_eq}
use Rattle.rope.proofs.place.judge.Goals as goal

pub returns-then-q-row : goal.returns-then-q-row
unfolding sibling
returns-then-q-row c = rw (same_eq _ _ _ true c.eq.ensures c.if-eq.true, lt-ltb _ _ c.if-q-row.true)

pub returns-else-q-row : goal.returns-else-q-row
unfolding sibling
returns-else-q-row c = rw (same_eq _ _ _ true c.eq.ensures c.if-eq.true, le-ltb _ _ c.if-q-row.false)

pub returns : goal.returns
unfolding sibling
returns c = rw (same_eq _ _ _ false c.eq.ensures c.if-eq.false, ← c.parent_pos-p.ensures) c.by_pos.ensures
