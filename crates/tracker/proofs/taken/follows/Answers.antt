use Rattle.rope.proofs.Rights.{row_ok}
use Rattle.span.specs.Ids.{room_of}
use Rattle.span.specs.Span.{span_code, len_span}
use Rattle.span.specs.declared.span.FugueSpan.{FugueSpan}
use Rattle.tracker.proofs.FollowLaws.{going_start, going_done, going_stop, turn_row, turn_range, well_at}
use Rattle.history.specs.Edit.{Range}
use mathlib.Core.Path.{sym, ap, subst, ◌∙◌}
use Prim.Native.Nat.{◌<◌, ◌≤◌}
use Rattle.tracker.proofs.taken.follows.Goals as goal

pub loop-j-init : goal.loop-j-init
loop-j-init c = let a = c.args in going_start a.n a.s.now a.m a.t.now c.requires.3

pub returns-then-n-i : goal.returns-then-n-i
returns-then-n-i c = let l = c.loop-j in let a = c.args in sym (going_stop a.n a.s.now a.m a.t.now c.requires.3 l.i l.k l.j l.o l.invariant c.loop-j-test.true c.if-n-i.true)

pub walk-w-requires : goal.walk-w-requires
walk-w-requires c = let l = c.loop-j in let a = c.args in (
  ap span_code c.get_row.ensures ∙ row_ok a.n a.s.now l.i c.if-n-i.false c.requires.1,
  subst (λ (y : FugueSpan). l.k ≤ len_span y) (sym c.get_row.ensures) (l.invariant.row_in c.if-n-i.false),
  subst (λ (q : Range). l.o < q.len) (sym c.get_target-r.ensures) (l.invariant.range_in_lem c.loop-j-test.true),
  ap (λ (q : Range). room_of q.id q.len) c.get_target-r.ensures ∙ (well_at a.m a.t.now l.j c.loop-j-test.true c.requires.3).room,
)

pub loop-j-preserved-then-w-r : goal.loop-j-preserved-then-w-r
loop-j-preserved-then-w-r c = let l = c.loop-j in let a = c.args in turn_row a.n a.s.now a.m a.t.now c.requires.3 l.i l.k l.j l.o l.invariant c.loop-j-test.true c.if-n-i.false _ c.get_row.ensures _ c.get_target-r.ensures _ _ c.walk-w.ensures c.if-w-r.true

pub loop-j-preserved : goal.loop-j-preserved
loop-j-preserved c = let l = c.loop-j in let a = c.args in turn_range a.n a.s.now a.m a.t.now c.requires.3 l.i l.k l.j l.o l.invariant c.loop-j-test.true c.if-n-i.false _ c.get_row.ensures _ c.get_target-r.ensures _ _ c.walk-w.ensures c.if-w-r.false

pub returns : goal.returns
returns c = let l = c.loop-j in let a = c.args in sym (going_done a.n a.s.now a.m a.t.now c.requires.3 l.i l.k l.j l.o l.invariant c.loop-j-test.false)
