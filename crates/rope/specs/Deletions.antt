-- What a delete answers and leaves, on the lent bytes of a store and of an output. Assumes nothing.
use Rattle.std.specs.Prelude.{ℕ, ◌+◌, ◌/◌, ◌≤◌, ◌≡◌, Bool, List, length, drop, nat_le, Some, Ok}
use Rattle.span.specs.declared.ids.Id.{Id}
use Rattle.span.specs.declared.span.FugueSpan.{FugueSpan}
use Rattle.span.specs.Answer.{answer}
use Rattle.span.specs.Ids.{room_opt}
use Rattle.span.specs.Units.{expand, join}
use Rattle.store.specs.Row.{rows}
use Rattle.rope.specs.declared.change.Delete.{Delete}
use Rattle.rope.specs.Maybe.{DeleteAnswer}
use Rattle.span.specs.Refusal.{refused}
use Rattle.units.specs.Limits.{fits}
use Rattle.units.specs.Place.{shown}
use Rattle.units.specs.Store.{room, spans_of, is_state}
use Rattle.units.specs.Change.{delete_units, pieces}
use Rattle.units.specs.Codes.{unless, delete_code}
use Rattle.rope.specs.Reports.{Report, Listed}
use Rattle.rope.specs.Edits.{EditedIn}

-- the rows of a lent output
abbrev pub out_rows : List ℕ → List FugueSpan
out_rows o = rows (length o / 72) o

-- the number of a delete in the bytes of a store, and the list that it leaves
unfoldable pub delete_number : List ℕ → List ℕ → ℕ → ℕ → Id → Bool → ℕ
delete_number s o at len start reversed =
    unless (is_state s) 15 (delete_code (room s) (out_rows o) (spans_of s) at len start reversed)

abbrev pub delete_list : List ℕ → ℕ → ℕ → Id → List FugueSpan
delete_list s at len start = join (delete_units at len start (expand (spans_of s)))

-- what refuses the delete of some units in a well formed list, with room for `most` rows and an output of `places` rows
unfoldable pub delete_rest : ℕ → ℕ → List FugueSpan → Delete → Bool → ℕ
delete_rest most places l d reversed =
    unless (room_opt (Some d.start) d.len) 2
    (unless (nat_le (d.at + d.len) (shown (expand l))) 8
    (unless (fits most (join (delete_units d.at d.len d.start (expand l)))) 10
    (unless (nat_le (length (pieces l d.at d.len reversed)) places) 13 0)))

-- A delete whose number is `code`, whose list is `l` and whose removed pieces are `ps` answers r, and leaves t of the store s and p of the
-- output o. A refused one keeps every byte of both; a done one keeps the output past its last entry.
pub record Deleted (code : ℕ) (l ps : List FugueSpan) (r : DeleteAnswer) (s o t p : List ℕ) : Type 0 where
  pub answered : r ≡ answer Ok refused code (length ps)
  pub store : EditedIn code l code s t
  pub output : code ≡ 0 → Listed ps (length ps) o p
  pub kept : (code ≡ 0 → ⊥) → p ≡ o

-- a delete for the n rows of a store, which has room for what it leaves
pub record Removes (d : Delete) (n : ℕ) (s : List ℕ) : Type 0 where
  pub head : 72 ≤ length s
  pub ready : Report d n (drop 72 s)
  pub fits : n ≤ room s
  pub after : length (join (delete_units d.at d.len d.start (expand (rows n (drop 72 s))))) ≤ room s
