-- Deletes and updates on a list of units, as 01 states them (000 `delete`, `update`, `clear_diff_status`). Order and ids stay. Assumes nothing.
use Rattle.std.specs.Prelude.{ℕ, zero, suc, ◌+◌, ◌-◌, min, Bool, true, false, ◌&&◌, List, [], ◌∷◌, ◌++◌, map, reverse, ℤ, pos, ◌+ℤ◌, if◌then◌else◌, nat_le, nat_lt, ◌==◌, Some, None}
use Rattle.std.specs.Int.Signed.{le_z, lt_z}
use Rattle.span.specs.declared.ids.Id.{Id}
use Rattle.span.specs.Maybe.{OptId}
use Rattle.span.specs.declared.status.Status.{Status}
use Rattle.span.specs.Maybe.{OptStatus}
use Rattle.span.specs.declared.span.FugueSpan.{FugueSpan}
use Rattle.span.specs.Ids.{inc_id}
use Rattle.span.specs.Status.{status, activated}
use Rattle.span.specs.Span.{active_len, part_span}
use Rattle.span.specs.Units.{expand}
use Rattle.units.specs.Place.{front, behind}
pub use Rattle.units.specs.declared.change.SetFuture.{SetFuture}
pub use Rattle.units.specs.declared.change.SetFuture.TheVariants.{Keep, Now, Future}

-- a unit with other statuses and another real id
unfoldable pub with_state : FugueSpan → Status → OptStatus → OptId → FugueSpan
with_state u s d r =
    record {
      id = u.id;
      lamport = u.lamport;
      real_id = r;
      status = s;
      diff_status = d;
      origin_left = u.origin_left;
      origin_right = u.origin_right;
      content = u.content;
    }

-- ---------------------------------------------------------------- delete

-- a real id, or this one if there is none
abbrev pub or_real : OptId → Id → OptId
or_real None i = Some i
or_real (Some r) i = Some r

-- a unit that a delete takes: its count goes up by 1, and it gets a real id only if it has none
unfoldable pub delete_unit : Id → FugueSpan → FugueSpan
delete_unit i u =
    with_state u (status u.status.future (u.status.delete_times +ℤ pos 1)) u.diff_status (or_real u.real_id i)

-- the first n visible units deleted: the first is offered the real id i, the next the id after it
unfoldable pub delete_first : List FugueSpan → ℕ → Id → List FugueSpan
delete_first [] n i = []
delete_first (u ∷ l) zero i = u ∷ l
delete_first (u ∷ l) (suc n) i =
    if activated u.status then delete_unit i u ∷ delete_first l n (inc_id i 1) else u ∷ delete_first l (suc n) i

-- len visible units from pos on deleted
unfoldable pub delete_units : ℕ → ℕ → Id → List FugueSpan → List FugueSpan
delete_units at len start l = front l at ++ delete_first (behind l at) len start

-- the first n visible units
unfoldable pub first_shown : List FugueSpan → ℕ → List FugueSpan
first_shown [] n = []
first_shown (u ∷ l) zero = []
first_shown (u ∷ l) (suc n) = if activated u.status then u ∷ first_shown l n else first_shown l (suc n)

-- the units that a delete takes, in list order
unfoldable pub taken : ℕ → ℕ → List FugueSpan → List FugueSpan
taken at len l = first_shown (behind l at) len

-- the pieces that it removes, as they were: one for each span of the joined list that it touches, in list order
unfoldable pub touched : List FugueSpan → ℕ → ℕ → List FugueSpan
touched [] at len = []
touched (s ∷ l) at zero = []
touched (s ∷ l) at (suc n) =
    if nat_le (active_len s) at then touched l (at - active_len s) (suc n)
    else part_span s at (min (active_len s) (at + suc n)) ∷ touched l 0 (at + suc n - active_len s)

-- reversed with len over 1: the units singly, the last first
unfoldable pub pieces : List FugueSpan → ℕ → ℕ → Bool → List FugueSpan
pieces l at len reversed =
    if reversed && nat_lt 1 len then reverse (expand (touched l at len)) else touched l at len

-- ---------------------------------------------------------------- update

-- what an update does to future
abbrev pub set_future : SetFuture → Bool → Bool
set_future Keep f = f
set_future Now f = false
set_future Future f = true

-- a status with future set as asked and the change added to its count, exactly
unfoldable pub change_status : SetFuture → ℤ → Status → Status
change_status f k s = status (set_future f s.future) (s.delete_times +ℤ k)

-- the diff_status, or the status where it is absent
abbrev pub diff_or : OptStatus → Status → Status
diff_or None s = s
diff_or (Some d) s = d

-- the status that an update works on
unfoldable pub base_of : Bool → FugueSpan → Status
base_of diff u = if diff then diff_or u.diff_status u.status else u.status

unfoldable pub update_unit : SetFuture → ℤ → Bool → FugueSpan → FugueSpan
update_unit f k diff u =
    if diff then with_state u u.status (Some (change_status f k (base_of diff u))) u.real_id
    else with_state u (change_status f k (base_of diff u)) u.diff_status u.real_id

-- a unit is of peer p with a counter in a..b
unfoldable pub in_range : ℕ → ℤ → ℤ → FugueSpan → Bool
in_range p a b u = u.id.peer == p && (le_z a u.id.counter && lt_z u.id.counter b)

unfoldable pub update_units : ℕ → ℤ → ℤ → SetFuture → ℤ → Bool → List FugueSpan → List FugueSpan
update_units p a b f k diff l = map (λ (u : FugueSpan). (if in_range p a b u then update_unit f k diff u else u)) l

-- ---------------------------------------------------------------- clear_diff_status

unfoldable pub clear_units : List FugueSpan → List FugueSpan
clear_units l = map (λ (u : FugueSpan). with_state u u.status None u.real_id) l
