-- The list at a version, piece by piece: a place in the rows, the next piece from there on, and the place behind it. Assumes nothing.
use Rattle.std.specs.Prelude.{ℕ, ◌*◌, ◌+◌, ◌<◌, ◌≤◌, ◌≡◌, Bool, List, ◌++◌, drop}
use Rattle.span.specs.declared.span.FugueSpan.{FugueSpan}
use Rattle.span.specs.Span.{span_code, len_span}
use Rattle.span.specs.Units.{units_of, expand}
use Rattle.store.specs.Row.{rows, row_at}
use Rattle.history.specs.Edit.{Version, Held}
use Rattle.tracker.specs.declared.seen.Step.{Step}
use Rattle.tracker.specs.Looks.{seen}

-- the units from unit `from` of row i on
unfoldable pub ahead : ℕ → List ℕ → ℕ → ℕ → List FugueSpan
ahead n s i from = drop from (expand (drop i (rows n s)))

-- a place in n rows: before a unit of row i, or behind the last row
pub record Place (n : ℕ) (s : List ℕ) (i from : ℕ) : Type 0 where
  pub most : i ≤ n
  pub within : i < n → from < len_span (row_at s (i * 72))

-- the next piece of the units from a place on, and the place behind it
pub record Next (both : Bool) (a b : Version) (l : List Held) (n : ℕ) (s : List ℕ) (i from : ℕ) (r : Step) : Type 0 where
  pub fine : span_code r.piece ≡ 0
  pub some : 0 < len_span r.piece
  pub place : Place n s r.row r.from
  pub units : seen both a b l (ahead n s i from) ≡ units_of r.piece ++ seen both a b l (ahead n s r.row r.from)
