use Rattle.std.proofs.Common.{◌≡◌, [], arith}
use Rattle.std.specs.List.{copy_within}
use Rattle.session.specs.Input.{between}
use Rattle.session.proofs.InputLaws.{between_out, between_none, front_some, front_none}
use Rattle.session.proofs.input.to_front.Goals as goal
use Rattle.session.proofs.input.to_front.Goals.{else-to-bytes-via-then-to-bytes+else-from-to, else-to-bytes-via-else-to-bytes}

pub returns-then-from-to : goal.returns-then-from-to
returns-then-from-to c =
    let a = c.args in
    let h = c.copy_within.ensures.after in
    let moved : c.copy_within.new.self ≡ copy_within a.bytes.now a.from a.to 0 = grind (arith, h) in
    front_some _ _ _ c.if-from-to.true c.if-to-bytes.true moved

pub returns-else-to-bytes : goal.returns-else-to-bytes
returns-else-to-bytes c =
    let a = c.args in
    let e : between a.bytes.now a.from a.to ≡ [] = elim c.else-to-bytes.branch [
      | else-to-bytes-via-then-to-bytes+else-from-to w ↦ between_none _ _ _ (omega arith)
      | else-to-bytes-via-else-to-bytes w ↦ between_out _ _ _ (omega arith)
    ] in
    front_none a.bytes.now a.from a.to e
