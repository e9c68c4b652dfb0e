-- The Fugue tree of a set of units, and its walk, as 01 states them under "Tree". A unit with a parent right is a left child of it; otherwise
-- a right child of its origin left, or of the root. Walk: left children, unit, right children; siblings by smaller peer, then counter.
-- Assumes nothing.
use Rattle.std.specs.Prelude.{ℕ, zero, suc, Bool, true, false, not, ◌&&◌, ◌||◌, List, [], ◌∷◌, ◌++◌, length, if◌then◌else◌, nat_lt, ◌==◌, Some, None}
use Rattle.std.specs.Int.Signed.{lt_z}
use Rattle.span.specs.declared.ids.Id.{Id}
use Rattle.span.specs.Maybe.{OptId}
use Rattle.span.specs.declared.span.FugueSpan.{FugueSpan}
use Rattle.span.specs.Ids.{same_opt}
use Rattle.units.specs.Lists.{keep_if}
use Rattle.units.specs.Place.{parent_right}

-- a unit as others name it: its id, its origins
abbrev pub ref : FugueSpan → OptId
ref u = Some u.id

abbrev pub ol : FugueSpan → OptId
ol u = u.origin_left

abbrev pub or : FugueSpan → OptId
or u = u.origin_right

-- the parent right of a unit of a set
unfoldable pub pr_of : List FugueSpan → FugueSpan → OptId
pr_of us u = parent_right us (ol u) (or u)

unfoldable pub is_none : OptId → Bool
is_none None = true
is_none (Some i) = false

-- the children of r; of none, the root
unfoldable pub left_kid : List FugueSpan → OptId → FugueSpan → Bool
left_kid us r u = not (is_none (pr_of us u)) && same_opt (pr_of us u) r

unfoldable pub right_kid : List FugueSpan → OptId → FugueSpan → Bool
right_kid us r u = is_none (pr_of us u) && same_opt (ol u) r

-- us holds the units sorted by peer, then counter, and so is each list of siblings below. Each sibling: its left children, itself, its right
-- children, where w walks the children.
unfoldable pub walk_each : (List FugueSpan → List FugueSpan) → List FugueSpan → List FugueSpan → List FugueSpan
walk_each w us [] = []
walk_each w us (u ∷ s) = (w (keep_if (left_kid us (ref u)) us) ++ (u ∷ w (keep_if (right_kid us (ref u)) us))) ++ walk_each w us s

-- the siblings s and what is below them, d levels deep
unfoldable pub walk_list : ℕ → List FugueSpan → List FugueSpan → List FugueSpan
walk_list zero us s = []
walk_list (suc d) us s = walk_each (walk_list d us) us s

-- the walk from the root: no path is longer than the units are many
unfoldable pub walk : List FugueSpan → List FugueSpan
walk us = walk_list (length us) us (keep_if (right_kid us None) us)

-- smaller peer, then counter
unfoldable pub id_before : Id → Id → Bool
id_before a b = nat_lt a.peer b.peer || (a.peer == b.peer && lt_z a.counter b.counter)

unfoldable pub by_id : FugueSpan → List FugueSpan → List FugueSpan
by_id u [] = u ∷ []
by_id u (v ∷ l) = if id_before u.id v.id then u ∷ v ∷ l else v ∷ by_id u l

unfoldable pub sort_id : List FugueSpan → List FugueSpan
sort_id [] = []
sort_id (u ∷ l) = by_id u (sort_id l)
