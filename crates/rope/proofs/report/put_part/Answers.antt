use native.Mathlib.Omega.{arith}
use Rattle.rope.proofs.Reporting.{put_some, put_none}
use Rattle.rope.proofs.report.put_part.Goals as goal

pub returns-then-from-to : goal.returns-then-from-to
returns-then-from-to c = let a = c.args in put_some a.k a.row c.piece.result a.from a.to a.out.now c.put_row.new.s c.if-from-to.true (omega (arith, c.requires.3, c.if-from-to.true)) c.piece.ensures c.put_row.ensures

pub returns-else-from-to : goal.returns-else-from-to
returns-else-from-to c = let a = c.args in put_none a.k a.row a.from a.to a.out.now (omega (arith, c.if-from-to.false))
