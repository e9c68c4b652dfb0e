-- A change that goes through a list in place: what it asks of the list, and what a few waiting rows become as pieces are pushed on to them.
-- Assumes nothing.
use Rattle.std.specs.Prelude.{ℕ, ◌+◌, ◌-◌, ◌*◌, ◌≤◌, ◌<◌, ◌≡◌, true, List, [], ◌∷◌, ◌++◌, pos, length, take, drop, Some}
use Rattle.span.specs.declared.ids.Id.{Id}
use Rattle.span.specs.Ids.{room_opt}
use Rattle.rope.specs.declared.change.Update.{Update}
use Rattle.units.specs.Place.{Distinct}
use Rattle.rope.specs.Spans.{AllOk}
use Rattle.units.specs.Change.{delete_units, update_units}
use Rattle.units.specs.Codes.{counts_fit}
use Rattle.span.specs.declared.span.FugueSpan.{FugueSpan}
use Rattle.span.specs.Span.{span_code, part_span}
use Rattle.span.specs.Units.{expand, Joined, join}
use Rattle.store.specs.Row.{rows}
use Rattle.rope.specs.declared.change.Change.{Change}
use Rattle.rope.specs.Pieces.{cut_of, after_of, CanCut, CanChange, all_pieces}

-- a change can be made in a span
pub record Fit (e : Change) (s : FugueSpan) : Type 0 where
  pub can : CanCut e
  pub fine : span_code s ≡ 0
  pub able : (cut_of e s).from < (cut_of e s).to → CanChange e (part_span s (cut_of e s).from (cut_of e s).to)

-- and in a list of them
unfoldable pub AllFit : Change → List FugueSpan → Type 0
AllFit e [] = Unit {0}
AllFit e (s ∷ l) = Fit e s × AllFit (after_of e s) l

-- m joined rows
pub record Waiting (m : ℕ) (q : List ℕ) : Type 0 where
  pub long : m * 72 ≤ length q
  pub joined : Joined (rows m q)

-- t is s with the spans l after its first m rows, joined as far as possible: they are k rows now
pub record Grown (m : ℕ) (l : List FugueSpan) (k : ℕ) (s t : List ℕ) : Type 0 where
  pub few : k ≤ m + length l
  pub list : rows k t ≡ join (expand (rows m s) ++ expand l)

-- the change can be made in n rows, it cuts at most two of them once or one of them twice, and there is room for what they become
pub record Applies (e : Change) (n : ℕ) (s : List ℕ) : Type 0 where
  pub long : n * 72 ≤ length s
  pub fit : AllFit e (rows n s)
  pub cuts : length (all_pieces e (rows n s)) ≤ n + 2
  pub room : length (join (expand (all_pieces e (rows n s)))) * 72 ≤ length s

-- the first of m waiting rows went to row w, or there was but one
pub record Moved (w m k : ℕ) (s q t r : List ℕ) : Type 0 where
  pub one : k ≤ 1
  pub most : k ≤ m
  pub next : 1 < m → k ≡ 1
  pub last : 0 < m → 0 < m - k
  pub list : rows (w + k) t ++ rows (m - k) r ≡ rows w s ++ rows m q
  pub rest : (n i : ℕ) → n * 72 ≤ length s → w < i → drop i (rows n t) ≡ drop i (rows n s)

-- the first k of m rows went, the last stays
pub record Kept (m k : ℕ) (q r : List ℕ) : Type 0 where
  pub most : k ≤ m
  pub few : m - k ≤ 1
  pub last : 0 < m → 0 < m - k
  pub list : rows m q ≡ take k (rows m q) ++ rows (m - k) r

-- a change can be made in n rows
pub record Counts (e : Change) (n : ℕ) (s : List ℕ) : Type 0 where
  pub few : n ≤ 65536
  pub long : n * 72 ≤ length s
  pub fit : AllFit e (rows n s)

-- a delete of len units from visible position `at` on, in well formed rows
pub record Deletes (n at len : ℕ) (start : Id) (s : List ℕ) : Type 0 where
  pub long : n * 72 ≤ length s
  pub each : AllOk (rows n s)
  pub fits : at + len ≤ 4294967295
  pub ids : room_opt (Some start) len ≡ true
  pub room : length (join (delete_units at len start (expand (rows n s)))) * 72 ≤ length s

-- an update of a range of counters, in well formed rows
pub record Updates (n : ℕ) (u : Update) (s : List ℕ) : Type 0 where
  pub long : n * 72 ≤ length s
  pub each : AllOk (rows n s)
  pub distinct : Distinct (expand (rows n s))
  pub order : u.from ≤ u.to
  pub counts : counts_fit u.peer (pos u.from) (pos u.to) u.change u.diff (expand (rows n s)) ≡ true
  pub room : length (join (update_units u.peer (pos u.from) (pos u.to) u.set u.change u.diff (expand (rows n s)))) * 72 ≤ length s
