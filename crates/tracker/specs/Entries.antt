-- What the public entries of a history answer and leave, on the three lent buffers: spans s, targets t, edits e. Assumes nothing.
use Rattle.std.specs.Prelude.{ℕ, ◌+◌, ◌*◌, ◌≤◌, ◌≡◌, Bool, true, ◌&&◌, List, [], ◌∷◌, length, take, drop, if◌then◌else◌, nat_le, ◌==◌}
use Rattle.std.specs.Int.{w32}
use Rattle.std.proofs.Common.{to_z}
use Rattle.span.specs.Units.{expand, join}
use Rattle.store.specs.Header.{count, room, spans_of}
use Rattle.store.specs.Limits.{ROWS, PEERS, EDITS}
use Rattle.units.specs.Codes.{unless, kept}
use Rattle.units.specs.Store.{is_state}
use Rattle.rope.specs.Edits.{head_rest, past_rows}
use Rattle.history.specs.Edit.{Count, Version, Edit, History}
use Rattle.history.specs.Checkout.{units_at, checkout}
use Rattle.history.specs.Arrive.{arrive}
use Rattle.history.specs.Codes.{on_units, stored, arrive_code, checkout_code}
use Rattle.tracker.specs.Rows.{pairs, held, broken, target_room, history_in, is_history, EDIT_BYTES}
use Rattle.tracker.specs.Looks.{Looks, seen}

-- ---------------------------------------------------------------- versions in columns: peers, and counts by their bits

unfoldable pub zipped : List ℕ → List ℕ → Version
zipped [] cs = []
zipped (p ∷ ps) [] = []
zipped (p ∷ ps) (c ∷ cs) = record { peer = p; many = to_z w32 c } ∷ zipped ps cs

-- columns of unequal length are no version
unfoldable pub version_of : List ℕ → List ℕ → Version
version_of ps cs = if length ps == length cs then zipped ps cs else broken

-- the same where only as many pairs as peers are taken: a longer version names a peer that has no edits
unfoldable pub short_of : List ℕ → List ℕ → Version
short_of ps cs = if nat_le (length ps) PEERS then version_of ps cs else broken

-- m pairs of a buffer, where there are no more than peers
unfoldable pub version_in : ℕ → List ℕ → Version
version_in m v = if nat_le m PEERS then pairs m v else broken

-- ---------------------------------------------------------------- what a call leaves

-- the bytes that are no part of a history and no spare room for it: they are never touched
pub record Beside (s t e s' t' e' : List ℕ) : Type 0 where
  pub head : head_rest s' ≡ head_rest s
  pub spans : past_rows s' ≡ past_rows s
  pub targets : drop (ROWS * 16) t' ≡ drop (ROWS * 16) t
  pub edits : drop EDIT_BYTES e' ≡ drop EDIT_BYTES e

-- A call whose number is `code` and whose history afterwards is `after` answers r and leaves s' t' e'. A refused call keeps every byte.
pub record Leaves (code : ℕ) (after : History) (r : ℕ) (s t e s' t' e' : List ℕ) : Type 0 where
  pub number : r ≡ code
  pub history : history_in s' t' e' ≡ kept code after (history_in s t e)
  pub well : code ≡ 0 → is_history s' t' e' ≡ true
  pub bytes : (code ≡ 0 → ⊥) → (s' ≡ s) × (t' ≡ t) × (e' ≡ e)
  pub beside : Beside s t e s' t' e'

-- ---------------------------------------------------------------- numbers, and histories afterwards

unfoldable pub arrive_number : List ℕ → List ℕ → List ℕ → Edit → ℕ
arrive_number s t e x = unless (is_history s t e) 15 (arrive_code (room s) (target_room t) (history_in s t e) x)

unfoldable pub arrived : List ℕ → List ℕ → List ℕ → Edit → History
arrived s t e x = stored (arrive (on_units (history_in s t e)) x)

unfoldable pub checkout_number : List ℕ → List ℕ → List ℕ → Version → ℕ
checkout_number s t e v = unless (is_history s t e) 15 (checkout_code (room s) (target_room t) (history_in s t e) v)

unfoldable pub checked_out : List ℕ → List ℕ → List ℕ → Version → History
checked_out s t e v = stored (checkout v (on_units (history_in s t e)))

-- ---------------------------------------------------------------- inner

-- what `stand` asks: a well formed store of n rows, a log and versions, and room for the k rows that the list becomes
pub record Stands (both : Bool) (n k : ℕ) (s : List ℕ) (h : ℕ) (e t : List ℕ) (ka : ℕ) (a : List ℕ) (kb : ℕ) (b : List ℕ) : Type 0 where
  pub state : is_state s ≡ true
  pub rows : n ≡ count s
  pub first : Looks h e t ka a
  pub second : Looks h e t kb b
  pub counted : k ≡ length (join (seen both (pairs ka a) (pairs kb b) (held h e t) (expand (spans_of s))))
  pub room : k ≤ room s
