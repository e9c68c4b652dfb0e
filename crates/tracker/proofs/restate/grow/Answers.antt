use Rattle.tracker.proofs.Grows.{grown_merge, grown_own, grown_first, own_room, first_room}
use mathlib.Core.Path.{sym, ◌∙◌}
use native.Mathlib.Omega.{arith}
use Rattle.tracker.proofs.restate.grow.Goals.{then-w-gt0+else-can_merge, else-w-gt0}
use Rattle.tracker.proofs.restate.grow.Goals as goal

pub put_row-requires-2 : goal.put_row-requires-2
put_row-requires-2 c =
    let a = c.args in
    elim c.if-w-gt0.branch [
      | then-w-gt0+else-can_merge w ↦ own_room a.w a.y a.s.now c.requires.0 c.requires.1 w.get_row-left.result w.if-w-gt0.true w.get_row-left.ensures (sym w.can_merge.ensures ∙ w.if-can_merge.false)
      | else-w-gt0 w ↦ first_room a.w a.y a.s.now c.requires.0 c.requires.1 (omega (arith, w.if-w-gt0.false))
    ]

pub returns-then-can_merge : goal.returns-then-can_merge
returns-then-can_merge c =
    let a = c.args in
    grown_merge a.w a.y a.s.now c.requires.0 c.requires.1 _ c.get_row-left.result c.joined.result c.if-w-gt0.true c.get_row-left.ensures (sym c.can_merge.ensures ∙ c.if-can_merge.true) c.joined.ensures c.put_row.ensures

pub returns : goal.returns
returns c =
    let a = c.args in
    elim c.if-w-gt0.branch [
      | then-w-gt0+else-can_merge w ↦ grown_own a.w a.y a.s.now c.requires.0 c.requires.1 _ w.get_row-left.result w.if-w-gt0.true w.get_row-left.ensures (sym w.can_merge.ensures ∙ w.if-can_merge.false) c.put_row-2.ensures
      | else-w-gt0 w ↦ grown_first a.w a.y a.s.now c.requires.0 c.requires.1 _ (omega (arith, w.if-w-gt0.false)) c.put_row-2.ensures
    ]
