-- Document 01's sizes (crate store has the numbers), and when a list fits a lent room. Assumes nothing.
use Rattle.std.specs.Prelude.{ℕ, Bool, List, length, nat_le}
pub use Rattle.store.specs.Limits.{UNITS, ROWS, PEERS, EDITS}

-- a list fits a room of so many entries: those that count, at most ROWS
unfoldable pub fits : {A : Type 0} → ℕ → List A → Bool
fits entries l = nat_le (length l) entries
