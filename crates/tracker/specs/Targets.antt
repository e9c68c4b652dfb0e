-- The ids that a delete takes, as ranges, span by span: each is added on the right of those before it. Assumes nothing.
use Rattle.std.specs.Prelude.{ℕ, ◌+◌, ◌-◌, ◌*◌, ◌≤◌, ◌≡◌, true, List, [], ◌∷◌, ◌++◌, map, length, take, drop, if◌then◌else◌, nat_lt}
use Rattle.span.specs.declared.span.FugueSpan.{FugueSpan}
use Rattle.span.specs.Ids.{room_of, inc_id, same_id}
use Rattle.rope.specs.declared.change.Delete.{Delete}
use Rattle.units.specs.Change.{taken}
use Rattle.rope.specs.Pieces.{delete_cut, delete_after}
use Rattle.history.specs.Edit.{Range}
use Rattle.history.specs.Checkout.{range, ranges_of}
use Rattle.tracker.specs.Rows.{ranges}

-- what a delete takes of a list of units: their ids in list order, as ranges joined while consecutive
abbrev pub targets_of : Delete → List FugueSpan → List Range
targets_of d us = ranges_of (map (λ (u : FugueSpan). u.id) (taken d.at d.len us))

-- a range after others: it extends the last of them where it goes on from it
unfoldable pub add_range : List Range → Range → List Range
add_range [] r = r ∷ []
add_range (q ∷ []) r = if same_id (inc_id q.id q.len) r.id then range q.id (q.len + r.len) ∷ [] else q ∷ (r ∷ [])
add_range (q ∷ (p ∷ qs)) r = q ∷ add_range (p ∷ qs) r

unfoldable pub add_all : List Range → List Range → List Range
add_all qs [] = qs
add_all qs (r ∷ rs) = add_all (add_range qs r) rs

-- the ids of the units from i up to j of a span, if there are any
unfoldable pub part_range : FugueSpan → ℕ → ℕ → List Range
part_range s i j = if nat_lt i j then range (inc_id s.id i) (j - i) ∷ [] else []

-- what a delete takes of each span
unfoldable pub took_ranges : Delete → List FugueSpan → List Range
took_ranges d [] = []
took_ranges d (s ∷ l) = part_range s (delete_cut d s).from (delete_cut d s).to ++ took_ranges (delete_after d s) l

-- the counters of each range end within i32
unfoldable pub AllRoom : List Range → Type 0
AllRoom [] = Unit {0}
AllRoom (r ∷ rs) = (room_of r.id r.len ≡ true) × AllRoom rs

-- ranges can be added to the k ranges from range `at` on
pub record Adds (at k : ℕ) (rs : List Range) (t : List ℕ) : Type 0 where
  pub long : (at + k) * 16 ≤ length t
  pub room : (at + length (add_all (ranges k (drop (at * 16) t)) rs)) * 16 ≤ length t
  pub old : AllRoom (ranges k (drop (at * 16) t))
  pub new : AllRoom rs

-- t is s with them added: they are r ranges now, and no byte before or past them has changed
pub record Added (at k : ℕ) (rs : List Range) (r : ℕ) (s t : List ℕ) : Type 0 where
  pub list : ranges r (drop (at * 16) t) ≡ add_all (ranges k (drop (at * 16) s)) rs
  pub before : take (at * 16) t ≡ take (at * 16) s
  pub past : drop ((at + r) * 16) t ≡ drop ((at + r) * 16) s

-- t is s with the ranges rs, r of them, from range `at` on; no other byte has changed
pub record Wrote (at : ℕ) (rs : List Range) (r : ℕ) (s t : List ℕ) : Type 0 where
  pub list : ranges r (drop (at * 16) t) ≡ rs
  pub before : take (at * 16) t ≡ take (at * 16) s
  pub past : drop ((at + r) * 16) t ≡ drop ((at + r) * 16) s
