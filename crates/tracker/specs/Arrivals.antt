-- The arrival of an edit, step by step: what refuses an insert or a delete at its context, and what each step of an accepted one asks and leaves.
-- Assumes nothing.
use Rattle.std.specs.Prelude.{ℕ, ◌+◌, ◌*◌, ◌≤◌, ◌<◌, ◌≡◌, Bool, true, false, ◌&&◌, List, [], ◌∷◌, ◌++◌, map, length, take, drop, nat_le, nat_lt, Some}
use Rattle.span.specs.declared.ids.Id.{Id}
use Rattle.span.specs.declared.chunk.RichtextChunk.{RichtextChunk}
use Rattle.span.specs.declared.span.FugueSpan.{FugueSpan}
use Rattle.span.specs.Ids.{room_opt}
use Rattle.span.specs.Span.{new_span, span_code, len_span}
use Rattle.span.specs.Units.{expand, join}
use Rattle.store.specs.Row.{rows}
use Rattle.store.specs.Header.{count, room, spans_of}
use Rattle.rope.specs.declared.change.Delete.{Delete}
use Rattle.units.specs.Limits.{UNITS, EDITS, fits}
use Rattle.units.specs.Place.{shown, insert_units}
use Rattle.units.specs.Change.{delete_units, taken}
use Rattle.units.specs.Store.{is_state}
use Rattle.units.specs.Codes.{unless, insert_code}
use Rattle.rope.specs.Spans.{Fresh}
use Rattle.rope.specs.Edits.{WrittenIn}
use Rattle.history.specs.Edit.{Edit, Range, Held}
use Rattle.history.specs.Checkout.{ranges_of}
use Rattle.tracker.specs.declared.row.Head.{Head}
use Rattle.tracker.specs.declared.row.Does.{Does}
use Rattle.tracker.specs.declared.row.Does.TheVariants as Do
use Rattle.tracker.specs.Rows.{pairs, ranges, edit_in, held, used, edit_count, placeholder_in, EDIT_BYTES}
use Rattle.tracker.specs.Looks.{Sees, seen}
use Rattle.tracker.specs.Targets.{targets_of}

-- the units at the version of m pairs in v
abbrev pub units_seen : ℕ → List ℕ → ℕ → List ℕ → List ℕ → ℕ → List ℕ → List FugueSpan
units_seen n s h e t m v = seen false (pairs m v) (pairs m v) (held h e t) (expand (rows n s))

-- the list fits a room of so many rows, and again with the insert, or after the delete
unfoldable pub insert_fits : ℕ → List FugueSpan → ℕ → FugueSpan → Bool
insert_fits most us at x = fits most (join us) && fits most (join (insert_units at x us))

unfoldable pub delete_fits : ℕ → List FugueSpan → Delete → Bool
delete_fits most us d = fits most (join us) && fits most (join (delete_units d.at d.len d.start us))

-- what refuses the insert of x among the units us at its context, in a history of h edits: 8, 9, 10
unfoldable pub insert_rest : ℕ → ℕ → List FugueSpan → ℕ → FugueSpan → ℕ
insert_rest most h us at x =
    unless (nat_le at (shown us)) 8
    (unless (nat_lt h EDITS) 9
    (unless (nat_le (length us + len_span x) UNITS && (fits most (join us) && fits most (join (insert_units at x us)))) 10 0))

-- what refuses a delete, where the history has so many target ranges
unfoldable pub delete_rest : ℕ → ℕ → ℕ → ℕ → List FugueSpan → Delete → ℕ
delete_rest most places h had us d =
    unless (nat_le (d.at + d.len) (shown us)) 8
    (unless (nat_lt h EDITS) 9
    (unless (fits most (join us) && (fits most (join (delete_units d.at d.len d.start us)) && nat_le (had + length (targets_of d us)) places)) 10 0))

-- a well formed list at a version, and a new span
pub record Inserting (n : ℕ) (s : List ℕ) (h : ℕ) (e t : List ℕ) (m : ℕ) (v : List ℕ) (x : FugueSpan) : Type 0 where
  pub sees : Sees n s h e t m v m v
  pub fine : span_code x ≡ 0
  pub new : Fresh x (units_seen n s h e t m v)

-- a well formed list at a version, and a delete with a real id for each unit that it takes
pub record Deleting (n : ℕ) (s : List ℕ) (h : ℕ) (e t : List ℕ) (m : ℕ) (v : List ℕ) (d : Delete) : Type 0 where
  pub sees : Sees n s h e t m v m v
  pub ids : room_opt (Some d.start) d.len ≡ true

-- either, by what the edit does
abbrev pub delete_of : ℕ → ℕ → Id → Delete
delete_of at n start = record { at = at; len = n; start = start }

abbrev pub does_rest : ℕ → ℕ → ℕ → ℕ → List FugueSpan → Id → ℕ → Does → ℕ
does_rest most places h had us i at (Do.Insert lamport c) = insert_rest most h us at (new_span i lamport c)
does_rest most places h had us i at (Do.Delete n reversed start) = delete_rest most places h had us (delete_of at n start)

abbrev pub CanDo : List FugueSpan → Id → Does → Type 0
CanDo us i (Do.Insert lamport c) = (span_code (new_span i lamport c) ≡ 0) × Fresh (new_span i lamport c) us
CanDo us i (Do.Delete n reversed start) = room_opt (Some start) n ≡ true

-- a well formed list at a version, target ranges that fit, and an edit that 1 to 7 do not refuse
pub record Acting (n : ℕ) (s : List ℕ) (h : ℕ) (e t : List ℕ) (m : ℕ) (v : List ℕ) (x : Head) (places : ℕ) : Type 0 where
  pub sees : Sees n s h e t m v m v
  pub few : n ≤ 65536
  pub had : used h e ≤ places
  pub can : CanDo (units_seen n s h e t m v) x.id x.act

-- what it does to the units at its context, and the target ranges that it takes there
abbrev pub does_list : Does → Id → ℕ → List FugueSpan → List FugueSpan
does_list (Do.Insert lamport c) i at us = insert_units at (new_span i lamport c) us
does_list (Do.Delete n reversed start) i at us = delete_units at n start us

abbrev pub does_took : Does → ℕ → List FugueSpan → List Range
does_took (Do.Insert lamport c) at us = []
does_took (Do.Delete n reversed start) at us = targets_of (delete_of at n start) us

-- an insert that a store takes
pub record Takes (s : List ℕ) (at : ℕ) (id : Id) (lamport : ℕ) (content : RichtextChunk) : Type 0 where
  pub state : is_state s ≡ true
  pub fine : span_code (new_span id lamport content) ≡ 0
  pub taken : insert_code (room s) (spans_of s) at (new_span id lamport content) ≡ 0

-- a delete that a store takes, with room for its target ranges behind `had` of them
pub record Gives (s t : List ℕ) (had : ℕ) (d : Delete) : Type 0 where
  pub state : is_state s ≡ true
  pub some : 0 < d.len
  pub ids : room_opt (Some d.start) d.len ≡ true
  pub low : d.at + d.len ≤ shown (expand (spans_of s))
  pub room : length (join (delete_units d.at d.len d.start (expand (spans_of s)))) ≤ room s
  pub ranges : (had + length (targets_of d (expand (spans_of s)))) * 16 ≤ length t

abbrev pub CanTake : List ℕ → List ℕ → ℕ → Id → ℕ → Does → Type 0
CanTake s t had i at (Do.Insert lamport c) = Takes s at i lamport c
CanTake s t had i at (Do.Delete n reversed start) = Gives s t had (delete_of at n start)

-- t' is t with these target ranges behind the first `had`, r of them; no other byte changes
pub record Ranged (l : List Range) (had r : ℕ) (t t' : List ℕ) : Type 0 where
  pub ranges : ranges r (drop (had * 16) t') ≡ l
  pub front : take (had * 16) t' ≡ take (had * 16) t
  pub past : drop ((had + r) * 16) t' ≡ drop ((had + r) * 16) t

-- f is e with one edit more, that of the row x, with `took` target ranges
pub record Logged (h : ℕ) (x : List ℕ) (took : ℕ) (e f : List ℕ) : Type 0 where
  pub count : edit_count f ≡ h + 1
  pub placeholder : placeholder_in f ≡ placeholder_in e
  pub list : (t : List ℕ) → held (h + 1) (drop 64 f) t ≡ held h (drop 64 e) t ++ (record { edit = edit_in x; took = ranges took (drop (used h (drop 64 e) * 16) t) } ∷ [])
  pub past : drop EDIT_BYTES f ≡ drop EDIT_BYTES e
