-- What an insert does to the rows, as it is decided before anything is written. Assumes nothing.
use Rattle.std.specs.Prelude.{ℕ, ◌+◌, ◌*◌, ◌≤◌, ◌<◌, ◌≡◌, List, [], ◌∷◌, ◌++◌, set, take, drop}
use Rattle.span.specs.declared.span.FugueSpan.{FugueSpan}
use Rattle.span.specs.Span.{len_span, span_code, part_span}
use Rattle.span.specs.Units.{join}
use Rattle.store.specs.Row.{rows, row_at}
use Rattle.rope.specs.declared.insert.Plan.{Plan}
use Rattle.rope.specs.declared.insert.Plan.TheVariants.{Join, Own, Cut}

-- the first span cut after i units, with y between its parts
abbrev pub cut_first : List FugueSpan → ℕ → FugueSpan → List FugueSpan
cut_first [] i y = y ∷ []
cut_first (x ∷ l) i y = part_span x 0 i ∷ (y ∷ (part_span x i (len_span x) ∷ l))

abbrev pub cut_rows : ℕ → ℕ → FugueSpan → List FugueSpan → List FugueSpan
cut_rows r i y l = take r l ++ cut_first (drop r l) i y

-- the list after it
unfoldable pub planned : Plan → List FugueSpan → List FugueSpan
planned (Join r both) l = set l r both
planned (Own r y) l = take r l ++ y ∷ drop r l
planned (Cut r i y) l = cut_rows r i y l

-- how many rows these are, of n before
unfoldable pub plan_rows : Plan → ℕ → ℕ
plan_rows (Join r both) n = n
plan_rows (Own r y) n = n + 1
plan_rows (Cut r i y) n = n + 2

-- row r is there and can be cut after i units
pub record Cuts (n r i : ℕ) (s : List ℕ) : Type 0 where
  pub at : r < n
  pub some : 0 < i
  pub below : i < len_span (row_at s (r * 72))
  pub fine : span_code (row_at s (r * 72)) ≡ 0

-- it speaks of rows that are there
unfoldable pub Can : Plan → ℕ → List ℕ → Type 0
Can (Join r both) n s = r < n
Can (Own r y) n s = r ≤ n
Can (Cut r i y) n s = Cuts n r i s

-- it makes of n rows the joined list of these units
pub record Planned (p : Plan) (n : ℕ) (us : List FugueSpan) (s : List ℕ) : Type 0 where
  pub can : Can p n s
  pub list : planned p (rows n s) ≡ join us
