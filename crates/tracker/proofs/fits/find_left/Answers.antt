use Prim.Native.Nat.{ℕ, ◌-◌}
use mathlib.Core.Path.{◌≡◌, sym, subst}
use mathlib.Core.Bool.{false}
use native.Mathlib.Omega.{arith}
use Rattle.span.specs.Span.{active_len}
use Rattle.tracker.specs.Rows.{pairs, held}
use Rattle.tracker.proofs.Nexts.{next_less}
use Rattle.tracker.proofs.Lefts.{Seek, seek_start, seek_found, seek_on}
use Rattle.tracker.proofs.fits.find_left.Goals as goal

pub loop-left-init : goal.loop-left-init
loop-left-init c = let a = c.args in seek_start (pairs a.m a.v.now) (held a.h a.e.now a.t.now) a.n a.s.now c.requires.0.stored a.at c.requires.1 c.requires.2

pub returns-then-left-len : goal.returns-then-left-len
returns-then-left-len c = let a = c.args in let l = c.loop-left in let x = c.next_piece-step in let g : c.activated_len-len.result ≡ active_len x.result.piece = c.activated_len-len.ensures in seek_found (pairs a.m a.v.now) (held a.h a.e.now a.t.now) a.n a.s.now c.requires.0.stored a.at l.i l.from l.left l.invariant x.result x.ensures (omega (arith, g, c.if-left-len.true))

pub loop-left-smaller : goal.loop-left-smaller
loop-left-smaller c = let a = c.args in let l = c.loop-left in let x = c.next_piece-step in next_less false (pairs a.m a.v.now) (pairs a.m a.v.now) (held a.h a.e.now a.t.now) a.n a.s.now c.requires.0.stored l.i l.from x.result x.ensures

pub loop-left-preserved : goal.loop-left-preserved
loop-left-preserved c = let a = c.args in let l = c.loop-left in let x = c.next_piece-step in let g : c.activated_len-len.result ≡ active_len x.result.piece = c.activated_len-len.ensures in subst (λ (k : ℕ). Seek (pairs a.m a.v.now) (held a.h a.e.now a.t.now) a.n a.s.now a.at x.result.row x.result.from (l.left - k)) (sym g) (seek_on (pairs a.m a.v.now) (held a.h a.e.now a.t.now) a.n a.s.now c.requires.0.stored a.at l.i l.from l.left l.invariant x.result x.ensures (omega (arith, g, c.if-left-len.false)))
