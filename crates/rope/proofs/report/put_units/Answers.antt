use Prim.Native.Nat.{◌+◌}
use native.Mathlib.Omega.{arith}
use Rattle.span.proofs.Unique.{in_range_lem}
use Rattle.rope.proofs.Reporting.{down_start, down_turn}
use Rattle.rope.proofs.report.put_units.Goals as goal

pub loop-u-init : goal.loop-u-init
loop-u-init c = let a = c.args in down_start a.top a.row a.from a.to a.out.now c.requires.1

pub piece-requires : goal.piece-requires
piece-requires c = let l = c.loop-u in let v = l.invariant in let a = c.args in in_range_lem a.row l.u (l.u + 1) c.requires.0 (omega arith) (omega (arith, c.loop-u-test.true, c.requires.2))

pub loop-u-preserved : goal.loop-u-preserved
loop-u-preserved c = let l = c.loop-u in let v = l.invariant in let a = c.args in let h = c.loop-u-test.true in down_turn a.top a.row a.from a.to a.out.now l.u l.t l.out v h (omega (arith, c.loop-u.invariant.sum, c.loop-u.invariant.low, h, c.requires.3)) c.requires.4 c.piece.result c.put_row.new.s c.piece.ensures c.put_row.auto.s c.put_row.ensures
