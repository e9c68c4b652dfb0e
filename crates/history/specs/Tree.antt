-- The history of a set of edits with no scan and no arrival order: an edit's origins are found at its context, its units are hung on the Fugue tree, and the
-- list is the walk of the tree. Demand 3 says that every arrival gives this list. Assumes nothing.
use Rattle.std.specs.Prelude.{ℕ, ◌+◌, List, [], ◌∷◌, ◌++◌, if◌then◌else◌, nat_lt}
use Rattle.span.specs.declared.span.FugueSpan.{FugueSpan}
use Rattle.span.specs.Span.{new_span}
use Rattle.span.specs.Units.{units_of}
use Rattle.units.specs.Place.{origin_left, origin_right, with_origins}
use Rattle.units.specs.Change.{delete_units}
use Rattle.fugue.specs.Tree.{walk, sort_id}
use Rattle.history.specs.Edit.{Act, Insert, Delete, Edit, History}
use Rattle.history.specs.Version.{count_of}
use Rattle.history.specs.Checkout.{units_at}
use Rattle.history.specs.Arrive.{start, hold}

-- the units of an insert, with their origins in the list at the context
unfoldable pub hung : ℕ → FugueSpan → List FugueSpan → List FugueSpan
hung at s l = units_of (with_origins s (origin_left at l) (origin_right at l))

-- as `act_list` with the walk in the place of the scan
unfoldable pub tree_list : Act → Edit → List FugueSpan → List FugueSpan
tree_list (Insert lamport c) e l = walk (sort_id (hung e.at (new_span e.id lamport c) l ++ l))
tree_list (Delete n reversed target) e l = delete_units e.at n target l

unfoldable pub tree_arrive : History → Edit → History
tree_arrive h e = record { placeholder = h.placeholder; list = tree_list e.act e (units_at e.context h); held = hold h e }

unfoldable pub tree_replay : History → List Edit → History
tree_replay h [] = h
tree_replay h (e ∷ es) = tree_replay (tree_arrive h e) es

-- the rank of an edit: the size of its context, counted once for each edit of the set. What a context covers has a lower rank.
unfoldable pub rank : List Edit → Edit → ℕ
rank [] e = 0
rank (g ∷ set) e = count_of e.context g.id.peer + rank set e

-- the set sorted by rank
unfoldable pub by_rank : List Edit → Edit → List Edit → List Edit
by_rank set e [] = e ∷ []
by_rank set e (f ∷ l) = if nat_lt (rank set f) (rank set e) then f ∷ by_rank set e l else e ∷ (f ∷ l)

unfoldable pub sort_rank : List Edit → List Edit → List Edit
sort_rank set [] = []
sort_rank set (e ∷ l) = by_rank set e (sort_rank set l)

-- the history built from the set alone, from an empty list or a placeholder of n units
unfoldable pub tree_of : ℕ → List Edit → History
tree_of n set = tree_replay (start n) (sort_rank set set)
