use Prim.Native.Nat.{ℕ, ◌+◌, ◌*◌, ◌≤◌}
use mathlib.Core.Path.{sym, ap}
use native.Mathlib.Omega.{arith}
use lib.ListN.{length}
use Rattle.words.proofs.Puts.{next}
use Rattle.tracker.proofs.Appends.{appended, length_head}
use Rattle.tracker.proofs.row.append_edit.Goals as goal

pub returns : goal.returns
returns c =
    let a = c.args in
    let x = c.get_head-head.result in
    let m = c.get_pairs-many.result in
    let r : a.h * 256 ≤ length a.e.now = omega (arith, c.requires.0) in
    appended a.h a.x.now a.took a.e.now c.requires.0 c.requires.1 c.requires.2 x c.get_head-head.ensures m c.get_pairs-many.ensures c.put_head.ensures.1 _
    (next a.e.now _ _ (a.h * 256) _ r c.put_head.ensures.0 c.copy_bytes.ensures (ap (λ (n : ℕ). a.h * 256 + n) (sym (length_head x a.took m))))
