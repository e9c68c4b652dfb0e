use Rattle.std.proofs.Common.{◌-◌, ◌≤◌, length, arith, refl, length-drop, length-take}
use borrow.Rule.Slice.PartMut.{take_put}
use Rattle.session.proofs.InputLaws.{read_none, read_behind}
use Rattle.session.proofs.input.read_behind.Goals as goal

pub returns-then-bytes-held : goal.returns-then-bytes-held
returns-then-bytes-held c = let a = c.args in rw c.up_to.ensures (read_none a.held a.cut a.bytes.now a.bytes.now (omega arith))

pub returns : goal.returns
returns c = let a = c.args in
    let l : a.held ≤ length a.bytes.now = omega arith in
    let k : c.read-n.result ≤ length a.bytes.now - a.held = omega (arith, simp (length-take, length-drop) at c.read-n.ensures) in
    rw c.up_to-2.ensures (read_behind a.held a.cut a.bytes.now _ c.read-n.result refl (take_put a.held (length a.bytes.now - a.held) a.bytes.now c.read-n.new.bytes l) (omega arith))
