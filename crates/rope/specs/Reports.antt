-- The pieces that a delete removes, in a lent output of rows. Assumes nothing.
use Rattle.std.specs.Prelude.{ℕ, ◌+◌, ◌-◌, ◌*◌, ◌≤◌, ◌≡◌, List, ◌++◌, reverse, length, drop}
use Rattle.span.specs.declared.span.FugueSpan.{FugueSpan}
use Rattle.span.specs.Units.{tab, unit_at, expand}
use Rattle.store.specs.Row.{rows}
use Rattle.rope.specs.declared.change.Delete.{Delete}
use Rattle.units.specs.Place.{shown}
use Rattle.rope.specs.Spans.{AllOk}
use Rattle.rope.specs.Pieces.{CanDelete, part_of}

-- a delete can be made in n well formed rows
pub record Taken (d : Delete) (n : ℕ) (s : List ℕ) : Type 0 where
  pub few : n ≤ 65536
  pub long : n * 72 ≤ length s
  pub each : AllOk (rows n s)
  pub can : CanDelete d

-- and they have as many visible units
pub record Report (d : Delete) (n : ℕ) (s : List ℕ) : Type 0 where
  pub taken : Taken d n s
  pub low : d.at + d.len ≤ shown (expand (rows n s))

-- t is o with the units from i up to j of x, if any, in row k: r rows are written
pub record PutPart (k : ℕ) (x : FugueSpan) (i j r : ℕ) (o t : List ℕ) : Type 0 where
  pub number : r ≡ k + length (part_of x i j)
  pub list : rows r t ≡ rows k o ++ part_of x i j
  pub kept : drop (r * 72) t ≡ drop (r * 72) o

-- t is o with those units in the rows below row top, the first in the row right below it
pub record PutUnits (top : ℕ) (x : FugueSpan) (i j : ℕ) (o t : List ℕ) : Type 0 where
  pub list : (n : ℕ) → n * 72 ≤ length o → top ≤ n → drop (top - (j - i)) (rows n t) ≡ reverse (tab (unit_at x) i (j - i)) ++ drop top (rows n o)
  pub kept : (n : ℕ) → n * 72 ≤ length o → top ≤ n → drop (n * 72) t ≡ drop (n * 72) o

-- t is o with the spans l in its first rows, r of them; every byte past them is kept
pub record Listed (l : List FugueSpan) (r : ℕ) (o t : List ℕ) : Type 0 where
  pub number : r ≡ length l
  pub list : rows (length l) t ≡ l
  pub kept : drop (length l * 72) t ≡ drop (length l * 72) o
