-- A history made by history calls from its start: opened, then edits, checkouts and deltas, each accepted. Assumes nothing.
use Rattle.std.specs.Prelude.{ℕ, ◌≡◌, List}
use Rattle.units.specs.declared.diff.Entry.{Entry}
use Rattle.history.specs.Edit.{Version, Edit, History}
use Rattle.history.specs.Arrive.{start}
use Rattle.history.specs.Codes.{stored, open_code, arrive_code, arrive_of, checkout_code, checkout_of, delta_code, delta_of}

-- with a placeholder of n units (0 for none), room for spans and for targets
pub data ByCalls (n spans targets : ℕ) : History → Type 0 where
  opened : open_code spans n ≡ 0 → ByCalls n spans targets (stored (start n))
  edited : (h : History) (e : Edit) → ByCalls n spans targets h → arrive_code spans targets h e ≡ 0 → ByCalls n spans targets (arrive_of spans targets h e).1
  checked_out : (h : History) (v : Version) → ByCalls n spans targets h → checkout_code spans targets h v ≡ 0 → ByCalls n spans targets (checkout_of spans targets h v).1
  compared : (h : History) (a b : Version) (out : List Entry) → ByCalls n spans targets h → delta_code spans targets out h a b ≡ 0 → ByCalls n spans targets (delta_of spans targets out h a b).1
