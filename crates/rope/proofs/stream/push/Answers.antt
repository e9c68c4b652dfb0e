use mathlib.Core.Path.{sym, ◌∙◌}
use native.Mathlib.Omega.{arith}
use Rattle.rope.proofs.Streaming.{pushed_merge, pushed_own, pushed_first}
use Rattle.rope.proofs.stream.push.Goals as goal
use Rattle.rope.proofs.stream.push.Goals.{then-w-gt0+else-can_merge, else-w-gt0}

pub returns-then-can_merge : goal.returns-then-can_merge
returns-then-can_merge c =
    let a = c.args in
    pushed_merge a.w a.y a.s.now _ c.requires c.get_row-left.result c.joined.result c.if-w-gt0.true c.get_row-left.ensures (sym c.can_merge.ensures ∙ c.if-can_merge.true) c.joined.ensures c.put_row.ensures

pub returns : goal.returns
returns c =
    let a = c.args in
    elim c.if-w-gt0.branch [
      | then-w-gt0+else-can_merge w ↦ pushed_own a.w a.y a.s.now _ c.requires w.get_row-left.result w.if-w-gt0.true w.get_row-left.ensures (sym w.can_merge.ensures ∙ w.if-can_merge.false) c.put_row-2.ensures
      | else-w-gt0 w ↦ pushed_first a.w a.y a.s.now _ c.requires (omega (arith, w.if-w-gt0.false)) c.put_row-2.ensures
    ]
