-- A store: the list of spans in a lent buffer, and when it is well formed (refusal 15). Assumes nothing.
use Rattle.std.specs.Prelude.{ℕ, Bool, true, false, not, ◌&&◌, List, [], ◌∷◌, length, if◌then◌else◌, nat_le, ◌==◌, Some, None}
use Rattle.span.specs.Maybe.{OptId}
use Rattle.span.specs.declared.span.FugueSpan.{FugueSpan}
use Rattle.span.specs.Span.{span_code, joins_span}
use Rattle.span.specs.Units.{expand}
use Rattle.store.specs.Limits.{UNITS}
use Rattle.units.specs.Place.{mem_id}
-- the number of rows, the room for rows, and the list of spans in the rows (crate store)
unfoldable pub use Rattle.store.specs.Header.{count, room, spans_of}

-- a span joins the front of a list
unfoldable pub touching : FugueSpan → List FugueSpan → Bool
touching s [] = false
touching s (t ∷ l) = joins_span s t

-- each span meets 1 and 2, and no two neighbours join
unfoldable pub joined_rows : List FugueSpan → Bool
joined_rows [] = true
joined_rows (s ∷ l) = if span_code s == 0 then (if touching s l then false else joined_rows l) else false

-- no id twice, among units
unfoldable pub distinct_ids : List FugueSpan → Bool
distinct_ids [] = true
distinct_ids (u ∷ us) = not (mem_id (Some u.id) us) && distinct_ids us

-- an origin is none, or it names one of the units
unfoldable pub named : OptId → List FugueSpan → Bool
named None us = true
named (Some i) us = mem_id (Some i) us

-- every origin, left and right, of these spans
unfoldable pub origins_named : List FugueSpan → List FugueSpan → Bool
origins_named [] us = true
origins_named (s ∷ l) us = (named s.origin_left us && named s.origin_right us) && origins_named l us

-- a well formed list: 15 is given where it is not
unfoldable pub well_formed : List FugueSpan → Bool
well_formed l =
    joined_rows l && (nat_le (length (expand l)) UNITS && (distinct_ids (expand l) && origins_named l (expand l)))

-- a well formed store: the header is there, and the rows that it counts fit and are a well formed list
unfoldable pub is_state : List ℕ → Bool
is_state s = nat_le 72 (length s) && (nat_le (count s) (room s) && well_formed (spans_of s))

-- the number that a store gives
unfoldable pub state_code : List ℕ → ℕ
state_code s = if is_state s then 0 else 15
