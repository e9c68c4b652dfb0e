-- What the entries that open a store or ask it a question answer and leave, on the lent bytes. Assumes nothing.
use Rattle.std.specs.Prelude.{ℕ, List, length, nat_le}
use Rattle.words.specs.Le.{put}
use Rattle.span.specs.Answer.{answer}
use Rattle.span.specs.Units.{expand}
use Rattle.store.specs.Row.{row_bytes}
use Rattle.store.specs.Header.{header_bytes}
use Rattle.rope.specs.Maybe.{LenAnswer, RealAnswer}
use Rattle.std.specs.Prelude.{Option, Some, None, Ok, Err}
use Rattle.span.specs.declared.ids.Id.{Id}
use Rattle.span.specs.Refusal.{number_of, refused}
use Rattle.units.specs.Place.{shown}
use Rattle.units.specs.Store.{room, spans_of, state_code}
use Rattle.units.specs.Query.{RealSpan, Nothing, At, real_span_at, placeholder}
use Rattle.units.specs.Codes.{unless, kept, placeholder_code}

-- ---------------------------------------------------------------- opening

-- an empty store: a header of no rows
unfoldable pub open_code : List ℕ → ℕ
open_code s = unless (nat_le 72 (length s)) 13 0

unfoldable pub open_bytes : List ℕ → List ℕ
open_bytes s = kept (open_code s) (put 0 (header_bytes 0) s) s

-- a store with a placeholder: a header of one row, and the row. (Too few bytes for the header leave no room for a row: 10, which goes before 13.)
unfoldable pub open_with_code : ℕ → List ℕ → ℕ
open_with_code n s = placeholder_code (room s) n

unfoldable pub open_with_bytes : ℕ → List ℕ → List ℕ
open_with_bytes n s = kept (open_with_code n s) (put 72 (row_bytes (placeholder n)) (put 0 (header_bytes 1) s)) s

-- ---------------------------------------------------------------- questions

-- the visible length
unfoldable pub len_answer : List ℕ → LenAnswer
len_answer s = answer Ok refused (state_code s) (shown (expand (spans_of s)))

-- active_real_span_at
abbrev pub real_said : RealSpan → Option (Id × ℕ)
real_said Nothing = None
real_said (At i k) = Some (i, k)

abbrev pub real_done : RealSpan → RealAnswer
real_done r = Ok (real_said r)

unfoldable pub real_answer : List ℕ → ℕ → RealAnswer
real_answer s at = answer real_done refused (state_code s) (real_span_at (spans_of s) at)

-- 01's number of an answer: 0 is done
abbrev pub len_number : LenAnswer → ℕ
len_number (Ok n) = 0
len_number (Err e) = number_of e

abbrev pub real_number : RealAnswer → ℕ
real_number (Ok r) = 0
real_number (Err e) = number_of e
