use mathlib.Core.Path.{sym, ◌∙◌}
use mathlib.Core.List.{List}
use Prim.Native.Nat.{ℕ, ◌-◌}
use native.Mathlib.Omega.{arith}
use Rattle.tracker.proofs.Ends.{none_held, last_end}
use Rattle.tracker.proofs.held.last_count.Goals as goal

pub returns-then-peer_at-peer : goal.returns-then-peer_at-peer
returns-then-peer_at-peer c = let a = c.args in let l = c.loop-i in
    λ (t : List ℕ). c.end_at.ensures ∙ last_end a.h a.e.now t (c.requires.1 t) a.peer l.i (l.i - 1) (omega (arith, c.loop-i-test.true)) l.auto.i (sym c.peer_at.ensures ∙ c.if-peer_at-peer.true) (l.invariant t)

pub returns : goal.returns
returns c = let a = c.args in let l = c.loop-i in
    λ (t : List ℕ). sym (l.invariant t) ∙ none_held a.h a.e.now t a.peer l.i c.loop-i-test.false
