use mathlib.Core.Path.{◌∙◌}
use Prim.Native.Nat.{◌+◌, ◌*◌}
use native.Mathlib.Omega.{arith}
use Rattle.words.proofs.Moves.{moved_to}
use Rattle.store.proofs.Shifted.{inserted}
use Rattle.store.proofs.insert_row.Goals as goal

pub returns : goal.returns
returns c =
    let a = c.args in
    let up = c.copy_within.ensures.after ∙ moved_to a.s.now (a.i * 72) (a.n * 72) (a.i * 72 + 72) (omega (arith, c.requires)) (omega (arith, c.requires)) in
    c.put_row.ensures.list (a.n + 1) (omega (arith, c.copy_within.ensures.len, c.requires)) (omega (arith, c.requires))
    ∙ rw up (inserted a.s.now a.n a.i a.x (omega (arith, c.requires)) (omega (arith, c.requires)))
