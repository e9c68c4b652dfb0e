-- What a version shows. A unit's status at a version depends on its id, the version and the deletes, never on its old status. Assumes nothing.
use Rattle.std.specs.Prelude.{ℕ, suc, Bool, not, ◌&&◌, List, [], ◌∷◌, map, pos, ◌+ℤ◌, if◌then◌else◌, ◌==◌, Some, None}
use Rattle.std.specs.Int.Signed.{le_z, lt_z}
use Rattle.span.specs.declared.ids.Id.{Id}
use Rattle.span.specs.declared.status.Status.{Status}
use Rattle.span.specs.declared.span.FugueSpan.{FugueSpan}
use Rattle.span.specs.Ids.{inc_id, same_id}
use Rattle.span.specs.Status.{status}
use Rattle.units.specs.Lists.{some}
use Rattle.units.specs.Change.{with_state}
use Rattle.history.specs.Edit.{Version, Range, Held, History}
use Rattle.history.specs.Version.{below, in_version}

-- ---------------------------------------------------------------- id ranges

abbrev pub range : Id → ℕ → Range
range i n = record { id = i; len = n }

unfoldable pub in_range : Id → Range → Bool
in_range i r = i.peer == r.id.peer && (le_z r.id.counter i.counter && lt_z i.counter (r.id.counter +ℤ pos r.len))

unfoldable pub in_ranges : Id → List Range → Bool
in_ranges i rs = some (in_range i) rs

-- ids as ranges, joined while they are consecutive
unfoldable pub range_on : Id → List Range → List Range
range_on i [] = range i 1 ∷ []
range_on i (r ∷ rs) = if same_id (inc_id i 1) r.id then range i (suc r.len) ∷ rs else range i 1 ∷ (r ∷ rs)

unfoldable pub ranges_of : List Id → List Range
ranges_of [] = []
ranges_of (i ∷ is) = range_on i (ranges_of is)

-- ---------------------------------------------------------------- checkout

-- how many deletes in a version took a unit
unfoldable pub deletes_in : Version → List Held → Id → ℕ
deletes_in v [] i = 0
deletes_in v (h ∷ l) i = if below v h.edit.id && in_ranges i h.took then suc (deletes_in v l i) else deletes_in v l i

-- the status of a unit at a version
unfoldable pub status_at : Version → List Held → Id → Status
status_at v held i = status (not (in_version v i)) (pos (deletes_in v held i))

-- a unit at a version, with no diff_status
unfoldable pub unit_at : Version → List Held → FugueSpan → FugueSpan
unit_at v held u = with_state u (status_at v held u.id) None u.real_id

-- the units at a version: statuses alone change, the order stays
unfoldable pub units_at : Version → History → List FugueSpan
units_at v h = map (unit_at v h.held) h.list

-- the history with its list at a version
unfoldable pub checkout : Version → History → History
checkout v h = record { placeholder = h.placeholder; list = units_at v h; held = h.held }

-- a unit with a version as status and another as diff_status
unfoldable pub unit_between : Version → Version → List Held → FugueSpan → FugueSpan
unit_between a b held u = with_state u (status_at a held u.id) (Some (status_at b held u.id)) u.real_id

unfoldable pub units_between : Version → Version → History → List FugueSpan
units_between a b h = map (unit_between a b h.held) h.list
