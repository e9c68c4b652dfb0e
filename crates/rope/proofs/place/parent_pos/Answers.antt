use Prim.Native.Nat.{◌*◌}
use Rattle.store.specs.Row.{row_at}
use Rattle.span.specs.Span.{len_span}
use native.Mathlib.Omega.{arith}
use mathlib.Core.Path.{◌≡◌, sym, ap, ◌∙◌}
use Rattle.rope.proofs.Rights.{fine, fits, found, elsewhere, turn, done}
use Rattle.rope.proofs.place.parent_pos.Goals as goal

pub right_in-requires : goal.right_in-requires
right_in-requires c = let l = c.loop-i in let a = c.args in rw c.get_row-row.ensures (fine a.n a.units a.all.now a.x a.o l.i l.base l.invariant c.loop-i-test.true)

pub overflow_add-result : goal.overflow_add-result
overflow_add-result c = let l = c.loop-i in let a = c.args in let e = rw c.get_row-row.ensures at (sym c.right_in.ensures ∙ c.in-Here.is) in let w = found a.n a.units a.all.now a.x a.o l.i l.base l.invariant c.loop-i-test.true _ e in let q = fits a.n a.units a.all.now a.x a.o l.i l.base l.invariant c.loop-i-test.true in omega (arith, w.0, q, l.invariant.held.few)

pub returns-in-Here : goal.returns-in-Here
returns-in-Here c = let l = c.loop-i in let a = c.args in let e = rw c.get_row-row.ensures at (sym c.right_in.ensures ∙ c.in-Here.is) in (found a.n a.units a.all.now a.x a.o l.i l.base l.invariant c.loop-i-test.true _ e).1

pub returns-in-Other : goal.returns-in-Other
returns-in-Other c = let l = c.loop-i in let a = c.args in let e = rw c.get_row-row.ensures at (sym c.right_in.ensures ∙ c.in-Other.is) in elsewhere a.n a.units a.all.now a.x a.o l.i l.base l.invariant c.loop-i-test.true e

pub loop-i-preserved : goal.loop-i-preserved
loop-i-preserved c = let l = c.loop-i in let a = c.args in let e = rw c.get_row-row.ensures at (sym c.right_in.ensures ∙ c.in-Absent.is) in let g : c.len_of-base.result ≡ len_span (row_at a.all.now (l.i * 72)) = c.len_of-base.ensures.0 ∙ ap len_span c.get_row-row.ensures in rw g (turn a.n a.units a.all.now a.x a.o l.i l.base l.invariant c.loop-i-test.true e)

pub returns : goal.returns
returns c = let l = c.loop-i in let a = c.args in done a.n a.units a.all.now a.x a.o l.i l.base l.invariant c.loop-i-test.false
