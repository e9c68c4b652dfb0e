use Rattle.span.proofs.SpanLaws.{span_ok, left_past}
use Rattle.span.proofs.IdsLaws.{room_less}
use Rattle.span.specs.Span.{left_of}
use Rattle.std.specs.Prelude.{Some as At}
use native.Mathlib.Omega.{arith}
use mathlib.Core.Path.{ap, ◌∙◌, sym}
use Rattle.span.proofs.span.FugueSpan.left_at.Goals as goal

pub inc-requires : goal.inc-requires
inc-requires c = room_less _ _ _ (omega (arith, c.requires.1)) (span_ok _ c.requires.0).own

pub returns-then-i-eq0 : goal.returns-then-i-eq0
unfolding left_of
returns-then-i-eq0 c = rw c.if-i-eq0.true

pub returns-else-i-eq0 : goal.returns-else-i-eq0
returns-else-i-eq0 c = ap At c.inc.ensures ∙ sym (left_past _ _ c.if-i-eq0.false)
