-- The list of spans that rows say. Assumes nothing.
use Rattle.std.specs.Prelude.{ℕ, List, map}
use Rattle.span.specs.declared.span.FugueSpan.{FugueSpan}
use Rattle.store.specs.Row.{row_at}

-- what one row says
abbrev pub said : List ℕ → FugueSpan
said row = row_at row 0

abbrev pub spans : List (List ℕ) → List FugueSpan
spans rows = map said rows
