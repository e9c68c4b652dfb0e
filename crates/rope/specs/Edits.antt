-- What the calls that edit a store answer and leave, on the lent bytes. Assumes nothing.
use Rattle.std.specs.Prelude.{ℕ, ◌+◌, ◌*◌, ◌≤◌, ◌≡◌, not, List, length, take, drop, nat_le, ◌==◌}
use Rattle.span.specs.declared.span.FugueSpan.{FugueSpan}
use Rattle.span.specs.Ids.{UNKNOWN_PEER}
use Rattle.span.specs.Span.{len_span, span_code}
use Rattle.span.specs.Units.{expand, join}
use Rattle.store.specs.Row.{rows}
use Rattle.rope.specs.declared.insert.Plan.{Plan}
use Rattle.units.specs.Limits.{UNITS, ROWS}
use Rattle.units.specs.Place.{shown, insert_units}
use Rattle.units.specs.Store.{room, spans_of, is_state}
use Rattle.units.specs.Codes.{unless, kept, holds_some, insert_code}
use Rattle.rope.specs.Spans.{Stored}
use Rattle.rope.specs.Plans.{plan_rows, Can}

-- the bytes of the header beside the count
abbrev pub head_rest : List ℕ → List ℕ
head_rest s = take 64 (drop 8 s)

-- t is s with the list l: the header counts its rows, and is else as it was. The room past the last row is no part of the store.
pub record Written (l : List FugueSpan) (s t : List ℕ) : Type 0 where
  pub list : spans_of t ≡ l
  pub head : head_rest t ≡ head_rest s

-- A call whose number is `code` and whose list is `l` answers r and leaves t. A refused call keeps every byte.
pub record Edited (code : ℕ) (l : List FugueSpan) (r : ℕ) (s t : List ℕ) : Type 0 where
  pub number : r ≡ code
  pub list : spans_of t ≡ kept code l (spans_of s)
  pub head : head_rest t ≡ head_rest s
  pub bytes : (code ≡ 0 → ⊥) → t ≡ s

-- the bytes past the rows that count: a longer room counts as ROWS rows, and the rest of it is never touched
abbrev pub past_rows : List ℕ → List ℕ
past_rows s = drop (72 + ROWS * 72) s

pub record WrittenIn (l : List FugueSpan) (s t : List ℕ) : Type 0 where
  pub written : Written l s t
  pub past : past_rows t ≡ past_rows s

pub record EditedIn (code : ℕ) (l : List FugueSpan) (r : ℕ) (s t : List ℕ) : Type 0 where
  pub edited : Edited code l r s t
  pub past : past_rows t ≡ past_rows s

-- ---------------------------------------------------------------- insert

-- the number of an insert into the bytes of a store, and the list that it leaves
unfoldable pub insert_number : List ℕ → ℕ → FugueSpan → ℕ
insert_number s at x = unless (is_state s) 15 (insert_code (room s) (spans_of s) at x)

abbrev pub insert_list : List ℕ → ℕ → FugueSpan → List FugueSpan
insert_list s at x = join (insert_units at x (expand (spans_of s)))

-- what refuses the insert of a well formed span into a well formed list, but for the room
unfoldable pub insert_first : List FugueSpan → ℕ → FugueSpan → ℕ
insert_first l at x =
    unless (not (x.id.peer == UNKNOWN_PEER)) 2
    (unless (not (holds_some (len_span x) x.id (expand l))) 3
    (unless (nat_le at (shown (expand l))) 8
    (unless (nat_le (length (expand l) + len_span x) UNITS) 10 0)))

-- a well formed list in n rows, of so many units, and a well formed span
pub record Asked (n units : ℕ) (x : FugueSpan) (s : List ℕ) : Type 0 where
  pub stored : Stored n s
  pub count : units ≡ length (expand (rows n s))
  pub fine : span_code x ≡ 0

-- a plan for the n rows of a store, which has room for what it leaves
pub record Writable (p : Plan) (n : ℕ) (s : List ℕ) : Type 0 where
  pub head : 72 ≤ length s
  pub fits : n ≤ room s
  pub can : Can p n (drop 72 s)
  pub after : plan_rows p n ≤ room s
