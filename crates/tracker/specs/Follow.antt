-- Target ranges against a list, as the code asks: ranges that are as wide as can be, whose ids stand in the list in their order. Assumes nothing.
use Rattle.std.specs.Prelude.{ℕ, ◌-◌, ◌≤◌, ◌<◌, ◌≡◌, Bool, true, false, ◌&&◌, List, [], ◌∷◌, ◌++◌, map, if◌then◌else◌, ◌==◌}
use Rattle.span.specs.declared.ids.Id.{Id}
use Rattle.span.specs.declared.span.FugueSpan.{FugueSpan}
use Rattle.span.specs.Ids.{inc_id, same_id, room_of}
use Rattle.span.specs.Span.{len_span}
use Rattle.span.specs.Units.{tab, expand}
use Rattle.history.specs.Edit.{Act, Range}
use Rattle.history.specs.Valid.{total, act_length}

-- the ids of ranges, of units
unfoldable pub ids_in : List Range → List Id
ids_in [] = []
ids_in (r ∷ rs) = tab (inc_id r.id) 0 r.len ++ ids_in rs

unfoldable pub ids_of : List FugueSpan → List Id
ids_of us = map (λ (u : FugueSpan). u.id) us

-- some ids stand among others, in their order
unfoldable pub in_order : List Id → List Id → Bool
in_order [] is = true
in_order (t ∷ ts) [] = false
in_order (t ∷ ts) (i ∷ is) = if same_id t i then in_order ts is else in_order (t ∷ ts) is

-- a range goes on in the next one
unfoldable pub runs_into : Range → List Range → Bool
runs_into r [] = false
runs_into r (q ∷ rs) = same_id (inc_id r.id r.len) q.id

-- ranges that are not empty, have room for their ids, and do not go on in the next one
unfoldable pub well_ranges : List Range → Bool
well_ranges [] = true
well_ranges (r ∷ rs) = if r.len == 0 then false else (if room_of r.id r.len then (if runs_into r rs then false else well_ranges rs) else false)

-- what an act took fits a list of units
unfoldable pub took_fits : List FugueSpan → Act → List Range → Bool
took_fits us a took = total took == act_length a && (well_ranges took && in_order (ids_in took) (ids_of us))

-- the ids of ranges past the first o, and of rows past the first k units
unfoldable pub ids_past : List Range → ℕ → List Id
ids_past [] o = []
ids_past (r ∷ rs) o = tab (inc_id r.id) o (r.len - o) ++ ids_in rs

unfoldable pub units_past : List FugueSpan → ℕ → List Id
units_past [] k = []
units_past (s ∷ l) k = tab (inc_id s.id) k (len_span s - k) ++ ids_of (expand l)

-- a step along a row and a range, from unit k and id o on: `found` of the range's ids are found, `passed` units of the row are behind, one of the two is at its end
pub record Walks (s : FugueSpan) (k : ℕ) (r : Range) (o found passed : ℕ) : Type 0 where
  pub few : found ≤ r.len
  pub low : passed ≤ len_span s
  pub ends : found < r.len → passed ≡ len_span s
  pub same : (T I : List Id) →
      in_order (tab (inc_id r.id) o (r.len - o) ++ T) (tab (inc_id s.id) k (len_span s - k) ++ I)
      ≡ in_order (tab (inc_id r.id) found (r.len - found) ++ T) (tab (inc_id s.id) passed (len_span s - passed) ++ I)
