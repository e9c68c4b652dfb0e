-- What the openings of a history answer and leave, on the three lent buffers: spans s, targets t, edits e. Assumes nothing.
use Rattle.std.specs.Prelude.{ℕ, ◌≡◌, Bool, true, ◌&&◌, List, length, drop, nat_le}
use Rattle.store.specs.Header.{room}
use Rattle.units.specs.Codes.{unless, placeholder_code}
use Rattle.rope.specs.Edits.{past_rows}
use Rattle.history.specs.Arrive.{start}
use Rattle.history.specs.Codes.{or_else, stored}
use Rattle.tracker.specs.Rows.{history_in, is_history, EDIT_BYTES}

-- the edits have their full length: a shorter buffer is no room for them
abbrev pub long_edits : List ℕ → Bool
long_edits e = nat_le EDIT_BYTES (length e)

-- an empty history: room for the header of the spans, and for the edits (13). Any number of targets is room.
unfoldable pub open_number : List ℕ → List ℕ → ℕ
open_number s e = unless (nat_le 72 (length s) && long_edits e) 13 0

-- a placeholder of n units: 1 and 10 as the rope has them, then 13
unfoldable pub open_with_number : ℕ → List ℕ → List ℕ → ℕ
open_with_number n s e = or_else (placeholder_code (room s) n) (unless (long_edits e) 13 0)

-- An opening whose number is `code` answers r and leaves s' and e': the start with a placeholder of n units, or else every byte as it was.
pub record Opened (code n r : ℕ) (s t e s' e' : List ℕ) : Type 0 where
  pub number : r ≡ code
  pub history : code ≡ 0 → history_in s' t e' ≡ stored (start n)
  pub well : code ≡ 0 → is_history s' t e' ≡ true
  pub bytes : (code ≡ 0 → ⊥) → (s' ≡ s) × (e' ≡ e)
  pub spans : past_rows s' ≡ past_rows s
  pub edits : drop EDIT_BYTES e' ≡ drop EDIT_BYTES e
