-- The arrival of an edit, on units: the list goes to its context, then the rope inserts or deletes there. Afterwards it stands at the context plus the edit
-- itself. Assumes nothing.
use Rattle.std.specs.Prelude.{ℕ, List, [], ◌∷◌, ◌++◌, map, if◌then◌else◌, ◌==◌}
use Rattle.span.specs.declared.span.FugueSpan.{FugueSpan}
use Rattle.span.specs.Span.{new_span}
use Rattle.span.specs.Units.{units_of}
use Rattle.units.specs.Place.{insert_units}
use Rattle.units.specs.Change.{delete_units, taken}
use Rattle.units.specs.Query.{placeholder}
use Rattle.history.specs.Edit.{Act, Insert, Delete, Edit, Range, Held, History}
use Rattle.history.specs.Checkout.{ranges_of, units_at}

-- the start: empty, or a placeholder of n unknown units
unfoldable pub start : ℕ → History
start n = record { placeholder = n; list = (if n == 0 then [] else units_of (placeholder n)); held = [] }

-- what an act does to the list at its context
unfoldable pub act_list : Act → Edit → List FugueSpan → List FugueSpan
act_list (Insert lamport c) e l = insert_units e.at (new_span e.id lamport c) l
act_list (Delete n reversed target) e l = delete_units e.at n target l

-- what it takes there
unfoldable pub act_took : Act → Edit → List FugueSpan → List Range
act_took (Insert lamport c) e l = []
act_took (Delete n reversed target) e l = ranges_of (map (λ (u : FugueSpan). u.id) (taken e.at n l))

abbrev pub list_after : History → Edit → List FugueSpan
list_after h e = act_list e.act e (units_at e.context h)

abbrev pub took_by : History → Edit → List Range
took_by h e = act_took e.act e (units_at e.context h)

-- the edits held, and one more
unfoldable pub hold : History → Edit → List Held
hold h e = h.held ++ (record { edit = e; took = took_by h e } ∷ [])

unfoldable pub arrive : History → Edit → History
arrive h e = record { placeholder = h.placeholder; list = list_after h e; held = hold h e }

-- one arrival after another
unfoldable pub replay : History → List Edit → History
replay h [] = h
replay h (e ∷ es) = replay (arrive h e) es
