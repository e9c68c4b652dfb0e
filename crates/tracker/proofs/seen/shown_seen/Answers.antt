use Rattle.tracker.proofs.Nexts.{Sum, sum_start, sum_turn, sum_done, next_less}
use Rattle.tracker.specs.Rows.{pairs, held}
use Rattle.span.specs.Span.{active_len}
use Prim.Native.Nat.{ℕ, ◌+◌}
use mathlib.Core.Path.{◌≡◌, sym, subst}
use Rattle.tracker.proofs.seen.shown_seen.Goals as goal

pub loop-i-init : goal.loop-i-init
loop-i-init c = let a = c.args in sum_start a.both (pairs a.ka a.a.now) (pairs a.kb a.b.now) (held a.h a.e.now a.t.now) a.n a.s.now c.requires.stored

pub loop-i-smaller : goal.loop-i-smaller
loop-i-smaller c = let l = c.loop-i in let a = c.args in let x = c.next_piece-step in next_less a.both (pairs a.ka a.a.now) (pairs a.kb a.b.now) (held a.h a.e.now a.t.now) a.n a.s.now c.requires.stored l.i l.from x.result x.ensures

pub loop-i-preserved : goal.loop-i-preserved
loop-i-preserved c = let l = c.loop-i in let a = c.args in let x = c.next_piece-step in let v = sum_turn a.both (pairs a.ka a.a.now) (pairs a.kb a.b.now) (held a.h a.e.now a.t.now) a.n a.s.now c.requires.stored l.i l.from l.sum l.invariant x.result x.ensures in let g : c.active_of-sum.result ≡ active_len x.result.piece = c.active_of-sum.ensures.0 in subst (λ (k : ℕ). Sum a.both (pairs a.ka a.a.now) (pairs a.kb a.b.now) (held a.h a.e.now a.t.now) a.n a.s.now x.result.row x.result.from (l.sum + k)) (sym g) v

pub returns : goal.returns
returns c = let l = c.loop-i in let a = c.args in sum_done a.both (pairs a.ka a.a.now) (pairs a.kb a.b.now) (held a.h a.e.now a.t.now) a.n a.s.now c.requires.stored l.i l.from l.sum l.invariant c.loop-i-test.false
