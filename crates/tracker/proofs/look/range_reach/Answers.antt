use Rattle.tracker.proofs.Reaches.{range_here, range_other}
use Rattle.tracker.specs.Reach.{Same, in_counters}
use native.Mathlib.Omega.{arith}
use mir.Facts.{to_z-of_z}
use mir.Syntax.{w32}
use mir.Val.{SFits}
use mathlib.Core.Path.{subst}
use lib.IntN.{ℤ}
use Prim.Native.Nat.{ℕ, ◌+◌}
use Rattle.tracker.proofs.look.range_reach.Goals as goal

pub returns-then-peer-x : goal.returns-then-peer-x
returns-then-peer-x c = let a = c.args in
    let f : SFits w32 a.x.id.counter = record { sfits = omega (arith, c.well_formed) } in
    range_here a.peer a.c a.x.len a.most a.x.id c.if-peer-x.true c.counters_reach.result
    (subst (λ (z : ℤ). Same (λ (j : ℕ). in_counters z a.x.len (a.c + j)) a.most c.counters_reach.result) (to_z-of_z {w = w32} f) c.counters_reach.ensures)

pub returns-else-peer-x : goal.returns-else-peer-x
returns-else-peer-x c = let a = c.args in range_other a.peer a.c a.x.len a.most a.x.id c.requires.0 c.if-peer-x.false
