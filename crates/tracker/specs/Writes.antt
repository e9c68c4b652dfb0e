-- What the writers of a log leave: a header, an edit's words, and a log with one edit more. Assumes nothing.
use Rattle.std.specs.Prelude.{ℕ, ◌+◌, ◌*◌, ◌^◌, ◌≤◌, ◌<◌, ◌≡◌, List, [], ◌∷◌, ◌++◌, ℤ, pos, length, drop}
use Rattle.std.specs.Int.{w32}
use Rattle.std.proofs.Common.{SFits}
use Rattle.words.specs.Le.{bytes_of, put}
use Rattle.tracker.specs.declared.row.Head.{Head}
use Rattle.tracker.specs.declared.row.Does.{Does}
use Rattle.tracker.specs.declared.row.Does.TheVariants as Do
use Rattle.tracker.specs.Rows.{ranges, edit_in, held, used, lamport_of, first_of, last_of, target_peer}

-- the header of the edits as it is written at opening: their number, the placeholder's units, and 0
unfoldable pub header_bytes : ℕ → ℕ → List ℕ
header_bytes n p =
    (bytes_of 8 n ++ bytes_of 8 p ++ bytes_of 8 0 ++ bytes_of 8 0) ++ (bytes_of 8 0 ++ bytes_of 8 0 ++ bytes_of 8 0 ++ bytes_of 8 0)

-- the counter of a delete's target start
abbrev pub target_counter : Does → ℤ
target_counter (Do.Insert lamport c) = pos 0
target_counter (Do.Delete n reversed start) = start.counter

-- an edit's words fit their types, as every value of the program does
pub record HeadFits (x : Head) (took many : ℕ) : Type 0 where
  pub peer : x.id.peer < 2 ^ 64
  pub target : target_peer x.act < 2 ^ 64
  pub counter : SFits w32 x.id.counter
  pub start : SFits w32 (target_counter x.act)
  pub at : x.at < 2 ^ 32
  pub lamport : lamport_of x.act < 2 ^ 32
  pub first : first_of x.act < 2 ^ 32
  pub last : last_of x.act < 2 ^ 32
  pub ranges : took < 2 ^ 32
  pub pairs : many < 2 ^ 32

-- f is the rows e with the edit of the row x in row h, and `took` target ranges: no other row changes, and the log has that edit more
pub record Appended (h : ℕ) (x : List ℕ) (took : ℕ) (e f : List ℕ) : Type 0 where
  pub row : List ℕ
  pub few : length row ≤ 256
  pub bytes : f ≡ put (h * 256) row e
  pub count : used (h + 1) f ≡ used h e + took
  pub list : (t : List ℕ) → held (h + 1) f t ≡ held h e t ++ (record { edit = edit_in x; took = ranges took (drop (used h e * 16) t) } ∷ [])
