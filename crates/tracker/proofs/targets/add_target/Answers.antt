use Rattle.tracker.proofs.Targeting.{last_roomy, sum_fits, own_room, first_room, added_joined, added_own, added_first}
use Prim.Native.Nat.{◌^◌, ◌<◌}
use mathlib.Core.Path.{sym, ◌∙◌}
use native.Mathlib.Omega.{arith}
use Rattle.tracker.proofs.targets.add_target.Goals.{then-k-gt0+else-follows, else-k-gt0}
use Rattle.tracker.proofs.targets.add_target.Goals as goal

pub follows-requires : goal.follows-requires
follows-requires c = let a = c.args in last_roomy a.at a.k a.x a.t.now c.requires c.if-k-gt0.true c.get_target-last.result c.get_target-last.ensures

pub overflow_add-both : goal.overflow_add-both
overflow_add-both c = let a = c.args in
    let n = sum_fits a.at a.k a.x a.t.now c.requires c.if-k-gt0.true c.get_target-last.result c.get_target-last.ensures (sym c.follows.ensures ∙ c.if-follows.true) in record { fits = omega (arith, n) }

pub put_target-requires-2 : goal.put_target-requires-2
put_target-requires-2 c = let a = c.args in
    elim c.if-k-gt0.branch [
      | then-k-gt0+else-follows w ↦ own_room a.at a.k a.x a.t.now c.requires w.if-k-gt0.true w.get_target-last.result w.get_target-last.ensures (sym w.follows.ensures ∙ w.if-follows.false)
      | else-k-gt0 w ↦ first_room a.at a.k a.x a.t.now c.requires (omega (arith, w.if-k-gt0.false))
    ]

pub returns-then-follows : goal.returns-then-follows
returns-then-follows c = let a = c.args in
    let q : c.get_target-last.result.id.peer < 2 ^ 64 = omega (arith, c.get_target-last.type_inv) in
    added_joined a.at a.k a.x a.t.now c.requires c.if-k-gt0.true c.get_target-last.result c.get_target-last.ensures (sym c.follows.ensures ∙ c.if-follows.true) q _ c.put_target.ensures

pub returns : goal.returns
returns c = let a = c.args in
    let q : a.x.id.peer < 2 ^ 64 = omega (arith, c.well_formed) in
    elim c.if-k-gt0.branch [
      | then-k-gt0+else-follows w ↦ added_own a.at a.k a.x a.t.now c.requires w.if-k-gt0.true w.get_target-last.result w.get_target-last.ensures (sym w.follows.ensures ∙ w.if-follows.false) q _ c.put_target-2.ensures
      | else-k-gt0 w ↦ added_first a.at a.k a.x a.t.now c.requires (omega (arith, w.if-k-gt0.false)) q _ c.put_target-2.ensures
    ]
