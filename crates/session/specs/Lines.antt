-- The lines of an answer (docs/SCRIPT.md).
use Rattle.std.specs.Prelude.{ℕ, zero, suc, ◌+◌, ◌*◌, ◌/◌, ◌%◌, ◌^◌, Bool, List, [], ◌∷◌, ◌++◌, length, ◌==◌, nat_lt, if◌then◌else◌}
use Rattle.io.specs.Digits.{last_digits}
use Rattle.words.specs.Le.{bytes_of, put}
use Rattle.text.specs.Ascii.{ascii}
use Rattle.script.specs.Print.{head_line, unit_line, span_line, item_line, at_line}
use Rattle.script.specs.declared.call.Look.{Look}
use Rattle.script.specs.declared.call.Look.TheVariants as Look
use Rattle.span.specs.declared.span.FugueSpan.{FugueSpan}
use Rattle.span.specs.Maybe.{SpanAnswer}
use Rattle.std.specs.Prelude.{Some, None, Ok, Err}
use Rattle.span.specs.Refusal.{number_of}
use Rattle.span.specs.Span.{len_span, active_len, real_of, slice_span_of}
use Rattle.store.specs.Row.{row_at, row_bytes}
use Rattle.store.specs.Header.{count}
use Rattle.rope.specs.Maybe.{LenAnswer, RealAnswer}
use Rattle.units.specs.Store.{is_state}
use Rattle.rope.specs.Entries.{len_answer, real_answer}
use Rattle.tracker.specs.Rows.{is_history}
use Rattle.tracker.specs.Asks.{len_asked, real_asked}
use Rattle.session.specs.Maybe.{Row}
use Rattle.session.specs.declared.look.Kind.{Kind}
use Rattle.session.specs.declared.look.Kind.TheVariants as Kind
use Rattle.session.specs.Say.{up_to}

-- ---------------------------------------------------------------- one line

abbrev pub ok_lines : List (List ℕ)
ok_lines = (ascii "ok" ++ (10 ∷ [])) ∷ []

abbrev pub error_lines : List (List ℕ)
error_lines = (ascii "error" ++ (10 ∷ [])) ∷ []

-- no K
abbrev pub refused_lines : ℕ → List (List ℕ)
refused_lines code = head_line (ascii "no") code ∷ []

-- ok, or the refusal
unfoldable pub done_lines : ℕ → List (List ℕ)
done_lines code = if code == 0 then ok_lines else refused_lines code

-- len N
unfoldable pub len_lines : LenAnswer → List (List ℕ)
len_lines (Ok n) = head_line (ascii "len") n ∷ []
len_lines (Err e) = refused_lines (number_of e)

-- at ID LEFT, or at nothing
unfoldable pub at_lines : RealAnswer → List (List ℕ)
at_lines (Ok (Some (i, left))) = at_line i left ∷ []
at_lines (Ok None) = (ascii "at nothing" ++ (10 ∷ [])) ∷ []
at_lines (Err e) = refused_lines (number_of e)

-- sum HEX
abbrev pub sum_lines : ℕ → List (List ℕ)
sum_lines n = (ascii "sum " ++ last_digits 16 16 n ++ (10 ∷ [])) ∷ []

-- ---------------------------------------------------------------- the list: a line for each unit, span or visible unit

-- a unit
unfoldable pub one_lines : Kind → FugueSpan → List (List ℕ)
one_lines Kind.Units u = unit_line u ∷ []
one_lines Kind.Spans u = []
one_lines Kind.Items u = item_line (real_of u) u.content ∷ []

-- the unit of a slice; a malformed span has none
unfoldable pub unit_lines : Kind → SpanAnswer → List (List ℕ)
unit_lines kind (Ok u) = one_lines kind u
unit_lines kind (Err e) = []

-- the first n units of a span
abbrev pub units_lines : Kind → FugueSpan → ℕ → List (List ℕ)
units_lines kind x = up_to (λ (k : ℕ). unit_lines kind (slice_span_of x k (k + 1)))

unfoldable pub span_lines : Kind → FugueSpan → List (List ℕ)
span_lines Kind.Units x = units_lines Kind.Units x (len_span x)
span_lines Kind.Spans x = span_line (ascii "span") (len_span x) x ∷ []
span_lines Kind.Items x = units_lines Kind.Items x (active_len x)

-- how many they are
unfoldable pub span_count : Kind → FugueSpan → ℕ
span_count Kind.Units x = len_span x
span_count Kind.Spans x = 1
span_count Kind.Items x = active_len x

-- row i of a store's list, which begins after the header; none past the room
unfoldable pub row_of : List ℕ → ℕ → Row
row_of s i = if nat_lt (i + 1) (length s / 72) then Some (row_at s ((i + 1) * 72)) else None

unfoldable pub row_lines : Kind → Row → List (List ℕ)
row_lines kind (Some x) = span_lines kind x
row_lines kind None = []

unfoldable pub row_count : Kind → Row → ℕ
row_count kind (Some x) = span_count kind x
row_count kind None = 0

-- the rows that the header says; none without a header
unfoldable pub rows_said : List ℕ → ℕ
rows_said s = if nat_lt (length s) 72 then 0 else count s

-- the lines of the first n rows
abbrev pub rows_lines : Kind → List ℕ → ℕ → List (List ℕ)
rows_lines kind s = up_to (λ (i : ℕ). row_lines kind (row_of s i))

-- how many they are
unfoldable pub rows_count : Kind → List ℕ → ℕ → ℕ
rows_count kind s zero = 0
rows_count kind s (suc n) = rows_count kind s n + row_count kind (row_of s n)

unfoldable pub kind_name : Kind → List ℕ
kind_name Kind.Units = ascii "units"
kind_name Kind.Spans = ascii "spans"
kind_name Kind.Items = ascii "list"

-- units N, spans N or list N, and N lines, where the store is well formed
unfoldable pub list_lines : Bool → Kind → List ℕ → List (List ℕ)
list_lines fine kind s =
    if fine then head_line (kind_name kind) (rows_count kind s (rows_said s) % 2 ^ 64) ∷ rows_lines kind s (rows_said s) else refused_lines 15

-- ---------------------------------------------------------------- a delete's pieces

-- piece LEN SPAN of row i of the output; none past its end
unfoldable pub piece_lines : List ℕ → ℕ → List (List ℕ)
piece_lines out i =
    if nat_lt i (length out / 72) then span_line (ascii "piece") (len_span (row_at out (i * 72))) (row_at out (i * 72)) ∷ [] else []

abbrev pub pieces_lines : List ℕ → ℕ → List (List ℕ)
pieces_lines out n = head_line (ascii "pieces") n ∷ up_to (piece_lines out) n

-- ---------------------------------------------------------------- the checksum

-- a polynomial in 257 over the greatest prime below 2^32, that goes on from another
unfoldable pub sum_on : ℕ → List ℕ → ℕ
sum_on sum [] = sum
sum_on sum (b ∷ s) = sum_on ((sum * 257 + b) % 4294967291) s

abbrev pub sum_from : ℕ → List ℕ → ℕ
sum_from start s = sum_on (start % 4294967291) s

-- over all that is lent to a rope, and to a history
abbrev pub rope_sum : List ℕ → List ℕ → ℕ
rope_sum s out = sum_from (sum_from 1 s) out

abbrev pub history_sum : List ℕ → List ℕ → List ℕ → List ℕ → ℕ
history_sum s t e out = sum_from (sum_from (sum_from (sum_from 1 s) t) e) out

-- ---------------------------------------------------------------- what works on whatever is open

-- row I and rows N: ok within the room
abbrev pub within_lines : Bool → List (List ℕ)
within_lines b = if b then ok_lines else error_lines

unfoldable pub row_fits : ℕ → List ℕ → Bool
row_fits i s = nat_lt (i + 1) (length s / 72)

unfoldable pub rows_fit : ℕ → List ℕ → Bool
rows_fit n s = nat_lt n (length s / 72)

-- the store with row i of its list written, and with n rows
abbrev pub row_set : ℕ → FugueSpan → List ℕ → List ℕ
row_set i x s = if row_fits i s then put ((i + 1) * 72) (row_bytes x) s else s

abbrev pub rows_set : ℕ → List ℕ → List ℕ
rows_set n s = if rows_fit n s then put 0 (bytes_of 8 n) s else s

-- the lines, given what the open store says of itself
unfoldable pub look_lines : Look → Bool → (ℕ → RealAnswer) → LenAnswer → ℕ → List ℕ → List (List ℕ)
look_lines (Look.At at) fine real len sum s = at_lines (real at)
look_lines Look.Len fine real len sum s = len_lines len
look_lines Look.Dump fine real len sum s = list_lines fine Kind.Units s
look_lines Look.Spans fine real len sum s = list_lines fine Kind.Spans s
look_lines Look.Visible fine real len sum s = list_lines fine Kind.Items s
look_lines (Look.Row i x) fine real len sum s = within_lines (row_fits i s)
look_lines (Look.Rows n) fine real len sum s = within_lines (rows_fit n s)
look_lines Look.Sum fine real len sum s = sum_lines sum

-- the store afterwards
unfoldable pub look_store : Look → List ℕ → List ℕ
look_store (Look.At at) s = s
look_store Look.Len s = s
look_store Look.Dump s = s
look_store Look.Spans s = s
look_store Look.Visible s = s
look_store (Look.Row i x) s = row_set i x s
look_store (Look.Rows n) s = rows_set n s
look_store Look.Sum s = s

abbrev pub rope_look : Look → List ℕ → List ℕ → List (List ℕ)
rope_look l s out = look_lines l (is_state s) (real_answer s) (len_answer s) (rope_sum s out) s

abbrev pub history_look : Look → List ℕ → List ℕ → List ℕ → List ℕ → List (List ℕ)
history_look l s t e out = look_lines l (is_history s t e) (real_asked s t e) (len_asked s t e) (history_sum s t e out) s
