-- A list written again in place, from left to right: the rows written so far are joined, and what comes next is pushed on to them.
-- Assumes nothing.
use Rattle.std.specs.Prelude.{ℕ, ◌+◌, ◌*◌, ◌≤◌, ◌<◌, ◌≡◌, List, ◌++◌, length, drop}
use Rattle.span.specs.declared.span.FugueSpan.{FugueSpan}
use Rattle.span.specs.Span.{span_code}
use Rattle.span.specs.Units.{units_of, expand, Joined, join}
use Rattle.store.specs.Row.{rows}

-- a span can be pushed on to the first w rows
pub record Pushable (w : ℕ) (y : FugueSpan) (s : List ℕ) : Type 0 where
  pub room : w * 72 + 72 ≤ length s
  pub joined : Joined (rows w s)
  pub fine : span_code y ≡ 0

-- t is s with y after its first w rows, joined to the last of them if it can be: they are k rows now, and no row after row w has changed
pub record Pushed (w : ℕ) (y : FugueSpan) (k : ℕ) (s t : List ℕ) : Type 0 where
  pub few : k ≤ w + 1
  pub list : rows k t ≡ join (expand (rows w s) ++ units_of y)
  pub rest : (n i : ℕ) → n * 72 ≤ length s → w < i → drop i (rows n t) ≡ drop i (rows n s)

-- The rows were l, n of them. Row i is the next one to read, w rows are written, none past it. They are joined, and their units
-- and what `still` gives for the rows to come are `goal`.
pub record Stream (n w i : ℕ) (l goal : List FugueSpan) (still : List FugueSpan → List FugueSpan) (s : List ℕ) : Type 0 where
  pub long : n * 72 ≤ length s
  pub low : w ≤ i
  pub most : i ≤ n
  pub done : Joined (rows w s)
  pub to_come : drop i (rows n s) ≡ drop i l
  pub all : expand (rows w s) ++ still (drop i l) ≡ goal
