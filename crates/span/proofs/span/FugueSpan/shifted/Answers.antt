use Rattle.span.proofs.SpanLaws.{span_ok}
use Rattle.span.proofs.IdsLaws.{room_less, room_opt_less}
use native.Mathlib.Omega.{arith}
use Rattle.span.proofs.span.FugueSpan.shifted.Goals as goal

pub inc-requires : goal.inc-requires
inc-requires c = let p = c.requires in room_less _ _ _ p.1 (span_ok _ p.0).own

pub inc-requires-2 : goal.inc-requires-2
inc-requires-2 c = let p = c.requires in room_opt_less _ _ _ p.1 (span_ok _ p.0).real

pub overflow_add-result : goal.overflow_add-result
overflow_add-result c = let p = c.requires in omega (arith, p.1, (span_ok _ p.0).lam)
