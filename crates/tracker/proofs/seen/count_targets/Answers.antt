use Rattle.tracker.proofs.Taking.{Taking, taking_start, part_most, taking_room, taking_turn, taking_done}
use Rattle.tracker.proofs.Nexts.{next_less}
use Rattle.tracker.specs.Rows.{pairs, held}
use Rattle.rope.specs.declared.change.Delete.{Delete}
use mathlib.Core.Path.{sym, subst, ◌∙◌}
use mathlib.Core.Bool.{false}
use Rattle.tracker.proofs.seen.count_targets.Goals as goal

pub loop-i-init : goal.loop-i-init
loop-i-init c = let a = c.args in taking_start false (pairs a.ka a.a.now) (pairs a.ka a.a.now) (held a.h a.e.now a.t.now) a.n a.s.now a.d c.requires.0.stored c.requires.1

pub on_part-ranges-requires : goal.on_part-ranges-requires
on_part-ranges-requires c = let l = c.loop-i in let a = c.args in let x = c.next_piece-step in let p = c.cut-part in (l.invariant.last, taking_room false (pairs a.ka a.a.now) (pairs a.ka a.a.now) (held a.h a.e.now a.t.now) a.n a.s.now a.d c.requires.0.stored l.i l.from l.left l.ranges l.invariant x.result x.ensures p.result p.ensures, x.ensures.fine, part_most false (pairs a.ka a.a.now) (pairs a.ka a.a.now) (held a.h a.e.now a.t.now) a.n a.s.now a.d c.requires.0.stored l.i l.from l.left l.ranges l.invariant x.result x.ensures p.result p.ensures)

pub loop-i-smaller : goal.loop-i-smaller
loop-i-smaller c = let l = c.loop-i in let a = c.args in let x = c.next_piece-step in next_less false (pairs a.ka a.a.now) (pairs a.ka a.a.now) (held a.h a.e.now a.t.now) a.n a.s.now c.requires.0.stored l.i l.from x.result x.ensures

pub loop-i-preserved : goal.loop-i-preserved
loop-i-preserved c = let l = c.loop-i in let a = c.args in let x = c.next_piece-step in let p = c.cut-part in let g = c.on_part-ranges in subst (λ (z : Delete). Taking false (pairs a.ka a.a.now) (pairs a.ka a.a.now) (held a.h a.e.now a.t.now) a.n a.s.now a.d x.result.row x.result.from z g.result) (sym c.after-left.ensures) (taking_turn false (pairs a.ka a.a.now) (pairs a.ka a.a.now) (held a.h a.e.now a.t.now) a.n a.s.now a.d c.requires.0.stored l.i l.from l.left l.ranges l.invariant x.result x.ensures p.result p.ensures g.result g.ensures)

pub returns : goal.returns
returns c = let l = c.loop-i in let a = c.args in c.many.ensures ∙ taking_done false (pairs a.ka a.a.now) (pairs a.ka a.a.now) (held a.h a.e.now a.t.now) a.n a.s.now a.d c.requires.0.stored l.i l.from l.left l.ranges l.invariant c.loop-i-test.false
