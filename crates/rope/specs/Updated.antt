-- What an update answers and leaves, on the lent bytes of a store. Assumes nothing.
use Rattle.std.specs.Prelude.{ℕ, ◌≤◌, ◌≡◌, Bool, true, List, ℤ, pos, length, drop}
use Rattle.span.specs.declared.span.FugueSpan.{FugueSpan}
use Rattle.span.specs.Units.{expand, join}
use Rattle.store.specs.Row.{rows}
use Rattle.rope.specs.declared.change.Update.{Update}
use Rattle.units.specs.Limits.{fits}
use Rattle.units.specs.Store.{room, spans_of, is_state}
use Rattle.units.specs.declared.change.SetFuture.{SetFuture}
use Rattle.units.specs.Change.{update_units}
use Rattle.units.specs.Codes.{unless, holds_all, counts_fit, update_code}
use Rattle.rope.specs.Spans.{Stored}

-- the number of an update in the bytes of a store, and the list that it leaves
unfoldable pub update_number : List ℕ → ℕ → ℤ → ℤ → SetFuture → ℤ → Bool → ℕ
update_number s p a b f k diff = unless (is_state s) 15 (update_code (room s) (spans_of s) p a b f k diff)

abbrev pub update_list : List ℕ → ℕ → ℤ → ℤ → SetFuture → ℤ → Bool → List FugueSpan
update_list s p a b f k diff = join (update_units p a b f k diff (expand (spans_of s)))

-- the units after an update of counters that are not below zero
abbrev pub updated_units : Update → List FugueSpan → List FugueSpan
updated_units u l = update_units u.peer (pos u.from) (pos u.to) u.set u.change u.diff l

-- what refuses it, of some counters in a well formed list, with room for `most` rows
unfoldable pub update_rest : ℕ → List FugueSpan → Update → ℕ
update_rest most l u =
    unless (holds_all u.peer (pos u.from) (pos u.to) (expand l)) 6
    (unless (fits most (join (updated_units u (expand l)))) 10
    (unless (counts_fit u.peer (pos u.from) (pos u.to) u.change u.diff (expand l)) 11 0))

-- an update for the n rows of a store, which has room for what it leaves
pub record Rewrites (u : Update) (n : ℕ) (s : List ℕ) : Type 0 where
  pub head : 72 ≤ length s
  pub stored : Stored n (drop 72 s)
  pub fits : n ≤ room s
  pub order : u.from ≤ u.to
  pub counts : counts_fit u.peer (pos u.from) (pos u.to) u.change u.diff (expand (rows n (drop 72 s))) ≡ true
  pub after : length (join (updated_units u (expand (rows n (drop 72 s))))) ≤ room s
