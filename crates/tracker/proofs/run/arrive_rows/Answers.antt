use Rattle.tracker.proofs.Batching.{going_on, going_stop, going_end, row_lent}
use Prim.Native.Nat.{◌*◌}
use mathlib.Core.Path.{refl, sym, ◌∙◌}
use Rattle.tracker.proofs.HeldLaws.{code_of-err, code_of-ok}
use native.Mathlib.Omega.{arith}
use Rattle.tracker.proofs.run.arrive_rows.Goals as goal

pub returns-then-is_err : goal.returns-then-is_err
returns-then-is_err c =
    let x = c.args in let l = c.loop-i in going_stop x.s.now x.t.now x.e.now x.n x.rows.now l.i l.s l.t l.e l.invariant c.loop-i-test.true _ (row_lent x.rows.now (l.i * 256)) _ c.arrive_row-outcome.new.s c.arrive_row-outcome.new.t c.arrive_row-outcome.new.e c.arrive_row-outcome.ensures c.requires.0 (code_of-err _ (sym c.is_err.ensures.value ∙ c.if-is_err.true)) _ refl refl

pub loop-i-preserved : goal.loop-i-preserved
loop-i-preserved c =
    let x = c.args in let l = c.loop-i in going_on x.s.now x.t.now x.e.now x.n x.rows.now l.i l.s l.t l.e l.invariant c.loop-i-test.true _ (row_lent x.rows.now (l.i * 256)) _ c.arrive_row-outcome.new.s c.arrive_row-outcome.new.t c.arrive_row-outcome.new.e c.arrive_row-outcome.ensures (code_of-ok _ (sym c.is_err.ensures.value ∙ c.if-is_err.false)) (omega (arith, c.arrive_row-outcome.auto)) (omega (arith, c.arrive_row-outcome.auto)) (omega (arith, c.arrive_row-outcome.auto))

pub returns : goal.returns
returns c =
    let x = c.args in let l = c.loop-i in going_end x.s.now x.t.now x.e.now x.n x.rows.now c.requires.0 l.i l.s l.t l.e l.invariant (omega (arith, c.loop-i-test.false)) _ refl refl
