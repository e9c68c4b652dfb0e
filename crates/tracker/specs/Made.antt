-- The units that the edits of a log make, read from its rows, and how far a row of the list is made of them. Assumes nothing.
use Rattle.std.specs.Prelude.{ℕ, zero, suc, ◌+◌, ◌<◌, ◌≤◌, ◌≡◌, Bool, true, false, List, [], ◌++◌, drop}
use Rattle.span.specs.declared.ids.Id.{Id}
use Rattle.span.specs.declared.span.FugueSpan.{FugueSpan}
use Rattle.span.specs.Span.{len_span, span_code, new_span}
use Rattle.span.specs.Units.{unit_at}
use Rattle.units.specs.Lists.{every, some}
use Rattle.history.specs.Edit.{Act, Insert, Delete}
use Rattle.history.specs.Arrive.{start}
use Rattle.history.specs.Valid.{act_units, same_unit}
use Rattle.tracker.specs.Rows.{edit_in}

-- the units of h edits, and the placeholder's before them
unfoldable pub makes : ℕ → List ℕ → List FugueSpan
makes zero e = []
makes (suc h) e = act_units (edit_in e).act (edit_in e) ++ makes h (drop 256 e)

unfoldable pub made_in : ℕ → ℕ → List ℕ → List FugueSpan
made_in p h e = (start p).list ++ makes h e

-- what an edit inserts is a well formed span
abbrev pub FineAct : Act → Id → Type 0
FineAct (Insert lamport c) i = span_code (new_span i lamport c) ≡ 0
FineAct (Delete n reversed target) i = Unit {0}

unfoldable pub AllFine : ℕ → List ℕ → Type 0
AllFine zero e = Unit {0}
AllFine (suc h) e = FineAct (edit_in e).act (edit_in e).id × AllFine h (drop 256 e)

-- units that are some of these
unfoldable pub all_made : List FugueSpan → List FugueSpan → Bool
all_made made us = every (λ (u : FugueSpan). some (same_unit u) made) us

-- r units of a row from unit k on are some of these; r is 0 only where unit k is none of them
pub record Meets (s : FugueSpan) (k : ℕ) (made : List FugueSpan) (r : ℕ) : Type 0 where
  pub none : r ≡ 0 → some (same_unit (unit_at s k)) made ≡ false
  pub few : k + r ≤ len_span s
  pub all : (j : ℕ) → j < r → some (same_unit (unit_at s (k + j))) made ≡ true
