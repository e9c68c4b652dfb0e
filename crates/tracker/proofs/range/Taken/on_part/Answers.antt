use Rattle.tracker.proofs.Taking.{on_none}
use Rattle.tracker.proofs.Pieces.{from_room, part_room}
use Rattle.span.specs.Ids.{room_of}
use Rattle.span.specs.declared.ids.Id.{Id}
use Prim.Native.Nat.{◌-◌}
use mathlib.Core.Path.{◌≡◌, sym, subst}
use mathlib.Core.Bool.{true}
use native.Mathlib.Omega.{arith}
use Rattle.tracker.proofs.range.Taken.on_part.Goals as goal

pub inc-requires : goal.inc-requires
inc-requires c = let a = c.args in from_room a.piece a.part.from c.requires.2 (omega (arith, c.if-part.true, c.requires.3))

pub on-requires : goal.on-requires
on-requires c = let a = c.args in let h = c.if-part.true in (c.requires.0, omega (arith, c.requires.1, c.requires.3), omega (arith, h), subst (λ (i : Id). room_of i (a.part.to - a.part.from) ≡ true) (sym c.inc.ensures) (part_room a.piece a.part.from c.requires.2 a.part.to h c.requires.3))

pub returns-else-part : goal.returns-else-part
returns-else-part c = let a = c.args in on_none a.self _ _ c.requires.0 (omega (arith, c.if-part.false))
