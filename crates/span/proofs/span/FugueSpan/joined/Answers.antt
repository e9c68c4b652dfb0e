use Rattle.span.specs.Span.{merged_span}
use Rattle.span.proofs.SpanLaws.{contents_join}
use Rattle.span.proofs.span.FugueSpan.joined.Goals as goal

pub merged-requires : goal.merged-requires
merged-requires c = contents_join _ _ c.requires
