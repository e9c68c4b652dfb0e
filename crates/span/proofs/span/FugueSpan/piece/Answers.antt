use native.Mathlib.Omega.{arith}
use Rattle.span.proofs.ChunkLaws.{slice_ok}
use Rattle.span.proofs.SpanLaws.{slice_span_ok}
use Rattle.span.proofs.span.FugueSpan.piece.Goals as goal

pub part-requires : goal.part-requires
part-requires c = (slice_span_ok _ _ _ c.requires).1

pub shifted-requires : goal.shifted-requires
shifted-requires c = let e = slice_span_ok _ _ _ c.requires in let k = slice_ok _ _ _ e.1 in (e.0, omega arith)
