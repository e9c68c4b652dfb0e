-- What each history call answers: 0 or the number of 01's refusal, from the whole input, and the history afterwards. 15 goes first and 13 last, else the lowest.
-- Assumes nothing.
use Rattle.std.specs.Prelude.{ℕ, ◌+◌, Bool, ◌&&◌, List, ◌++◌, length, if◌then◌else◌, nat_le, nat_lt, ◌==◌}
use Rattle.span.specs.declared.span.FugueSpan.{FugueSpan}
use Rattle.span.specs.Chunk.{len_of}
use Rattle.span.specs.Units.{expand, join}
use Rattle.units.specs.Limits.{UNITS, EDITS, fits}
use Rattle.units.specs.Lists.{every, over}
use Rattle.units.specs.Place.{shown}
use Rattle.units.specs.declared.diff.Entry.{Entry}
use Rattle.units.specs.Delta.{insertable}
use Rattle.units.specs.Codes.{unless, kept, placeholder_code}
use Rattle.history.specs.Edit.{Version, Act, Insert, Delete, Edit, History}
use Rattle.history.specs.Version.{named, closed}
use Rattle.history.specs.Checkout.{units_at, checkout}
use Rattle.history.specs.Arrive.{list_after, took_by, arrive}
use Rattle.history.specs.Deltas.{spans_between, delta}
use Rattle.history.specs.Valid.{edit_code, target_list, valid}

-- a stored history's meaning, on units; and the history that stores it, its list joined
unfoldable pub on_units : History → History
on_units h = record { placeholder = h.placeholder; list = expand h.list; held = h.held }

unfoldable pub stored : History → History
stored h = record { placeholder = h.placeholder; list = join h.list; held = h.held }

-- the first refusal, or else what follows
abbrev pub or_else : ℕ → ℕ → ℕ
or_else code rest = if code == 0 then rest else code

-- ---------------------------------------------------------------- opening: no placeholder, or one of n units

unfoldable pub open_code : ℕ → ℕ → ℕ
open_code spans n = if n == 0 then 0 else placeholder_code spans n

-- ---------------------------------------------------------------- the arrival of an edit

-- 8: the position, with a delete's length, is inside the visible list
unfoldable pub inside : Act → ℕ → List FugueSpan → Bool
inside (Insert lamport c) at l = nat_le at (shown l)
inside (Delete n reversed target) at l = nat_le (at + n) (shown l)

-- 10: the units, the joined list at the context and after the call, and the target list
unfoldable pub made : Act → ℕ
made (Insert lamport c) = len_of c
made (Delete n reversed target) = 0

unfoldable pub arrival_fits : ℕ → ℕ → History → Edit → Bool
arrival_fits spans targets h e =
    nat_le (length h.list + made e.act) UNITS && (fits spans (join (units_at e.context h))
    && (fits spans (join (list_after h e)) && fits targets (target_list h.held ++ took_by h e)))

unfoldable pub arrive_code : ℕ → ℕ → History → Edit → ℕ
arrive_code spans targets h e =
    unless (valid spans targets h) 15
    (or_else (edit_code h.held e)
    (unless (inside e.act e.at (units_at e.context (on_units h))) 8
    (unless (nat_lt (length h.held) EDITS) 9
    (unless (arrival_fits spans targets (on_units h) e) 10 0))))

unfoldable pub arrive_of : ℕ → ℕ → History → Edit → ℕ × History
arrive_of spans targets h e =
    (arrive_code spans targets h e, kept (arrive_code spans targets h e) (stored (arrive (on_units h) e)) h)

-- ---------------------------------------------------------------- checkout

unfoldable pub checkout_code : ℕ → ℕ → History → Version → ℕ
checkout_code spans targets h v =
    unless (valid spans targets h) 15
    (unless (named h.held v) 6
    (unless (closed h.held v) 7
    (unless (fits spans (join (units_at v (on_units h)))) 10 0)))

unfoldable pub checkout_of : ℕ → ℕ → History → Version → ℕ × History
checkout_of spans targets h v =
    (checkout_code spans targets h v, kept (checkout_code spans targets h v) (stored (checkout v (on_units h))) h)

-- ---------------------------------------------------------------- delta from A to B. The list at A is no longer than the list with both statuses.

unfoldable pub delta_code : ℕ → ℕ → List Entry → History → Version → Version → ℕ
delta_code spans targets out h a b =
    unless (valid spans targets h) 15
    (unless (named h.held a && named h.held b) 6
    (unless (closed h.held a && closed h.held b) 7
    (unless (fits spans (spans_between a b (on_units h))) 10
    (unless (every insertable (spans_between a b (on_units h))) 12
    (unless (nat_le (length (delta a b (on_units h))) (length out)) 13 0)))))

-- the number, the history at A, and the output with the entries
unfoldable pub delta_of : ℕ → ℕ → List Entry → History → Version → Version → ℕ × History × List Entry
delta_of spans targets out h a b = (
  delta_code spans targets out h a b,
  kept (delta_code spans targets out h a b) (stored (checkout a (on_units h))) h,
  kept (delta_code spans targets out h a b) (over (delta a b (on_units h)) out) out,
)

-- ---------------------------------------------------------------- what only asks: 15 alone

unfoldable pub ask_code : ℕ → ℕ → History → ℕ
ask_code spans targets h = unless (valid spans targets h) 15 0
