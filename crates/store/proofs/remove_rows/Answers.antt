use mathlib.Core.Path.{◌≡◌, ◌∙◌}
use Prim.Native.Nat.{◌+◌, ◌*◌}
use native.Mathlib.Omega.{arith}
use Rattle.std.specs.List.{copy_within}
use Rattle.words.proofs.Moves.{moved_to}
use Rattle.store.proofs.Removed.{removed}
use Rattle.store.proofs.remove_rows.Goals as goal

-- however the code says where the range begins and ends
pub returns : goal.returns
returns c =
    let a = c.args in
    let h = c.copy_within.ensures.after in
    let moved : c.copy_within.new.self ≡ copy_within a.s.now ((a.i + a.k) * 72) (a.n * 72) (a.i * 72) = grind (arith, h) in
    let down = moved ∙ moved_to a.s.now ((a.i + a.k) * 72) (a.n * 72) (a.i * 72) (omega (arith, c.requires)) (omega (arith, c.requires)) in
    rw down (removed a.s.now a.n a.i a.k c.requires.0 c.requires.1)
