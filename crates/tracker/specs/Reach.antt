-- How far a test stays the same, unit by unit: what the code that looks at a log asks of one range, of an edit's ranges, of a version. Assumes nothing.
use Rattle.std.specs.Prelude.{ℕ, ◌+◌, ◌*◌, ◌≤◌, ◌<◌, ◌≡◌, Bool, ◌&&◌, List, ℤ, pos, ◌+ℤ◌, drop}
use Rattle.std.specs.Int.Signed.{le_z, lt_z}
use Rattle.span.specs.declared.ids.Id.{Id}
use Rattle.span.specs.Ids.{id}
use Rattle.history.specs.Edit.{Version, Held}
use Rattle.history.specs.Version.{below}
use Rattle.history.specs.Checkout.{in_ranges, deletes_in}
use Rattle.tracker.specs.declared.look.Found.{Found}
use Rattle.tracker.specs.declared.look.Taken.{Taken}
use Rattle.tracker.specs.Rows.{ranges, took_in, edit_in}

-- a peer's unit, by its counter
abbrev pub unit_id : ℕ → ℕ → Id
unit_id p n = id p (pos n)

-- a counter is one of n from z on
unfoldable pub in_counters : ℤ → ℕ → ℕ → Bool
in_counters z n k = le_z z (pos k) && lt_z (pos k) (z +ℤ pos n)

-- the edit in row i of e is in the version, and one of its target ranges, which begin at range `at` of t, has the unit
unfoldable pub edit_takes : Version → List ℕ → ℕ → List ℕ → ℕ → Id → Bool
edit_takes v e i t at u = below v (edit_in (drop (i * 256) e)).id && in_ranges u (ranges (took_in (drop (i * 256) e)) (drop (at * 16) t))

-- the test p answers alike for the first r .len numbers, one at least and no more than `most`
pub record Same (p : ℕ → Bool) (most : ℕ) (r : Found) : Type 0 where
  pub some : 0 < r.len
  pub few : r.len ≤ most
  pub same : (j : ℕ) → j < r.len → p j ≡ r.hit

-- and so many deletes, no more than h, took each of the first r .len units
pub record Takes (v : Version) (l : List Held) (h p c most : ℕ) (r : Taken) : Type 0 where
  pub some : 0 < r.len
  pub few : r.len ≤ most
  pub low : r.times ≤ h
  pub same : (j : ℕ) → j < r.len → deletes_in v l (unit_id p (c + j)) ≡ r.times
