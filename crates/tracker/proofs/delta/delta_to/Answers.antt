use Prim.Native.Nat.{ℕ}
use mathlib.Core.Path.{subst}
use Rattle.std.proofs.lemmas.Result.{err_from_is_err_and}
use native.Mathlib.Omega.{arith}
use lib.ListN.{length}
use Rattle.rope.specs.Columns.{least}
use Rattle.tracker.specs.Between.{Readied}
use Rattle.tracker.proofs.Checking.{well_edits}
use Rattle.tracker.proofs.Readying.{to_refused, to_asks, to_done}
use Rattle.tracker.proofs.delta.delta_to.Goals as goal

pub returns-in_err-to : goal.returns-in_err-to
returns-in_err-to c =
    let x = c.args in let y = c.make_ready in let q = c.shortest-most.ensures in let z = subst (λ (k : ℕ). Readied x.s.now x.t.now x.e.now x.ka x.a.now x.kb x.b.now k y.result) q y.ensures in
    let p = err_from_is_err_and c.from_residual.result c.from_residual.ensures.1 in rw (p.1, p.2)
    (to_refused x.s.now x.t.now x.e.now c.requires.0 x.a.now x.b.now x.ka x.kb (least (length x.kind.now) (length x.x.now) (length x.y.now) (length x.peer.now) (length x.counter.now) (length x.lamport.now)) y.result z _ c.in_err-to.was x.kind.now x.x.now x.y.now x.peer.now x.counter.now x.lamport.now)

pub slice_bounds-write_delta-count : goal.slice_bounds-write_delta-count
slice_bounds-write_delta-count c =
    let x = c.args in well_edits x.s.now x.t.now x.e.now c.requires.0

pub slice_bounds-write_delta-start : goal.slice_bounds-write_delta-start
slice_bounds-write_delta-start c =
    let x = c.args in well_edits x.s.now x.t.now x.e.now c.requires.0

pub write_delta-requires : goal.write_delta-requires
write_delta-requires c =
    let x = c.args in let y = c.make_ready in let q = c.shortest-most.ensures in let z = subst (λ (k : ℕ). Readied x.s.now x.t.now x.e.now x.ka x.a.now x.kb x.b.now k y.result) q y.ensures in
    to_asks x.s.now x.t.now x.e.now c.requires.0 x.a.now x.b.now x.ka x.kb (least (length x.kind.now) (length x.x.now) (length x.y.now) (length x.peer.now) (length x.counter.now) (length x.lamport.now)) y.result z _ c.in_ok-to.was

pub returns : goal.returns
returns c =
    let x = c.args in let y = c.make_ready in let q = c.shortest-most.ensures in let z = subst (λ (k : ℕ). Readied x.s.now x.t.now x.e.now x.ka x.a.now x.kb x.b.now k y.result) q y.ensures in let g = c.write_delta in
    to_done x.s.now x.t.now x.e.now c.requires.0 x.a.now x.b.now x.ka x.kb (least (length x.kind.now) (length x.x.now) (length x.y.now) (length x.peer.now) (length x.counter.now) (length x.lamport.now)) y.result z _ c.in_ok-to.was g.new.s (omega (arith, g.auto)) g.ensures.0 g.result x.kind.now x.x.now x.y.now x.peer.now x.counter.now x.lamport.now g.new.kind g.new.x g.new.y g.new.peer g.new.counter g.new.lamport g.ensures.1
