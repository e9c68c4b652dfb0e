use Rattle.tracker.proofs.Refines.{Pushing, push_start, push_fits, push_next, push_done}
use Rattle.tracker.specs.Rows.{pairs, held}
use Prim.Native.Nat.{ℕ, ◌+◌}
use mathlib.Core.Path.{◌≡◌, sym, subst}
use lib.ListN.{length}
use native.Mathlib.Omega.{arith}
use Rattle.tracker.proofs.restate.push_seen.Goals as goal

pub loop-c-init : goal.loop-c-init
loop-c-init c = let a = c.args in push_start a.both (pairs a.ka a.a.now) (pairs a.kb a.b.now) (held a.h a.e.now a.t.now) a.w a.row a.s.now c.requires.0 c.requires.3

pub grow-k-requires : goal.grow-k-requires
grow-k-requires c = let a = c.args in let l = c.loop-c in (push_fits a.both (pairs a.ka a.a.now) (pairs a.kb a.b.now) (held a.h a.e.now a.t.now) a.w a.row a.s.now c.requires.0 c.requires.3 l.k l.c l.s l.invariant c.seen_piece-x.result c.seen_piece-x.ensures, c.seen_piece-x.ensures.fine)

pub loop-c-preserved : goal.loop-c-preserved
loop-c-preserved c = let a = c.args in let l = c.loop-c in
    let e : length c.grow-k.new.s ≡ length l.s = omega (arith, c.grow-k.auto.s) in
    subst (λ (n : ℕ). Pushing a.both (pairs a.ka a.a.now) (pairs a.kb a.b.now) (held a.h a.e.now a.t.now) a.w a.row a.s.now c.grow-k.result (l.c + n) c.grow-k.new.s) (sym c.rle_len-c.ensures)
    (push_next a.both (pairs a.ka a.a.now) (pairs a.kb a.b.now) (held a.h a.e.now a.t.now) a.w a.row a.s.now c.requires.0 c.requires.3 l.k l.c l.s l.invariant c.seen_piece-x.result c.seen_piece-x.ensures c.grow-k.result _ e c.grow-k.ensures)

pub returns : goal.returns
returns c = let a = c.args in let l = c.loop-c in push_done a.both (pairs a.ka a.a.now) (pairs a.kb a.b.now) (held a.h a.e.now a.t.now) a.w a.row a.s.now c.requires.0 c.requires.3 l.k l.c l.s l.invariant (omega (arith, c.loop-c-test.false, c.rle_len-len.ensures))
