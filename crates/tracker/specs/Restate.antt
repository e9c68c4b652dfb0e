-- A list without its statuses, and rows written again as units are pushed on to them. Assumes nothing.
use Rattle.std.specs.Prelude.{ℕ, ◌*◌, ◌≤◌, ◌≡◌, Bool, List, [], ◌∷◌, ◌++◌, map, length, drop, None}
use Rattle.span.specs.declared.span.FugueSpan.{FugueSpan}
use Rattle.span.specs.Status.{new_status}
use Rattle.span.specs.Units.{expand, Joined, join}
use Rattle.store.specs.Row.{rows}
use Rattle.store.specs.Limits.{UNITS}
use Rattle.units.specs.Change.{with_state}
use Rattle.history.specs.Edit.{Version, Held}
use Rattle.tracker.specs.Looks.{seen}

-- a span with the status that all have as they enter, and no diff_status
unfoldable pub bare_span : FugueSpan → FugueSpan
bare_span s = with_state s new_status None s.real_id

unfoldable pub bare_units : List FugueSpan → List FugueSpan
bare_units us = map bare_span us

-- spans that have no other status
unfoldable pub AllBare : List FugueSpan → Type 0
AllBare [] = Unit {0}
AllBare (s ∷ l) = (bare_span s ≡ s) × AllBare l

-- units can be pushed on to the first w rows: there is room for what they become
pub record Fits (w : ℕ) (us : List FugueSpan) (s : List ℕ) : Type 0 where
  pub long : w * 72 ≤ length s
  pub joined : Joined (rows w s)
  pub room : length (join (expand (rows w s) ++ us)) * 72 ≤ length s

-- t is s with the units after its first w rows, joined: they are k rows now, and no row from row k on has changed
pub record Grown (w : ℕ) (us : List FugueSpan) (k : ℕ) (s t : List ℕ) : Type 0 where
  pub list : rows k t ≡ join (expand (rows w s) ++ us)
  pub rest : (n i : ℕ) → n * 72 ≤ length s → k ≤ i → drop i (rows n t) ≡ drop i (rows n s)

-- The rows from row i up to k are still to be seen, and have no statuses. Those that have been are the first w rows, none of them past row i. All
-- together are the units `goal`, which become k rows.
pub record Refine (both : Bool) (a b : Version) (l : List Held) (k w i : ℕ) (goal : List FugueSpan) (s : List ℕ) : Type 0 where
  pub long : k * 72 ≤ length s
  pub low : w ≤ i
  pub most : i ≤ k
  pub done : Joined (rows w s)
  pub joined : Joined (drop i (rows k s))
  pub bare : AllBare (drop i (rows k s))
  pub few : length (expand (drop i (rows k s))) ≤ UNITS
  pub all : expand (rows w s) ++ seen both a b l (expand (drop i (rows k s))) ≡ goal
  pub count : length (join goal) ≡ k
