-- What a word says, field by field (docs/SCRIPT.md). Text is bytes: 32 is the blank, 46 `.`, 58 `:`.
use Rattle.std.specs.Prelude.{ℕ, ℤ, Bool, true, false, List, Option, None, Some, if◌then◌else◌, ◌==◌}
use Rattle.text.specs.Ascii.{ascii}
use Rattle.text.specs.Parts.{before, after, part, parts, same_text}
use Rattle.text.specs.Numbers.{decimal_of, int_of, fit32}
use Rattle.span.specs.Chunk.{UNKNOWN, START, END, move_chunk}
use Rattle.span.specs.Maybe.{OptId, OptStatus}
use Rattle.span.specs.declared.chunk.RichtextChunk.{RichtextChunk}
use Rattle.span.specs.declared.ids.Id.{Id}
use Rattle.span.specs.declared.span.FugueSpan.{FugueSpan}
use Rattle.span.specs.declared.status.Status.{Status}

abbrev pub word_of : List ℕ → ℕ → List ℕ
word_of s i = part 32 i s

-- a u32
abbrev pub number_of : List ℕ → Option ℕ
number_of w = fit32 (decimal_of 4294967295 w)

-- a u64, or `U`
unfoldable pub peer_of : List ℕ → Option ℕ
peer_of w = if same_text w (ascii "U") then Some 18446744073709551615 else decimal_of 18446744073709551615 w

-- an i32
abbrev pub counter_of : List ℕ → Option ℤ
counter_of w = int_of 2147483647 w

-- a peer and a counter
abbrev pub id_by : Option ℕ → Option ℤ → Option Id
id_by None c = None
id_by (Some p) None = None
id_by (Some p) (Some c) = Some (record { peer = p; counter = c })

unfoldable pub id_from : List ℕ → List ℕ → Option Id
id_from p c = id_by (peer_of p) (counter_of c)

-- PEER.COUNTER
abbrev pub id_word : List ℕ → Option Id
id_word w = id_from (before 46 w) (after 46 w)

-- an id, or `-`
abbrev pub opt_by : Option Id → Option OptId
opt_by None = None
opt_by (Some i) = Some (Some i)

unfoldable pub opt_word : List ℕ → Option OptId
opt_word w = if same_text w (ascii "-") then Some None else opt_by (id_word w)

-- an i16
unfoldable pub change_word : List ℕ → Option ℤ
change_word w = int_of 32767 w

abbrev pub status_by : Bool → Option ℤ → Option Status
status_by f None = None
status_by f (Some z) = Some (record { future = f; delete_times = z })

unfoldable pub status_from : Bool → List ℕ → Option Status
status_from f w = status_by f (change_word w)

-- now:COUNT, future:COUNT
unfoldable pub status_word : List ℕ → Option Status
status_word w =
    if same_text (before 58 w) (ascii "now") then status_from false (after 58 w)
    else (if same_text (before 58 w) (ascii "future") then status_from true (after 58 w) else None)

-- a status, or `-`
abbrev pub diff_by : Option Status → Option OptStatus
diff_by None = None
diff_by (Some s) = Some (Some s)

unfoldable pub diff_word : List ℕ → Option OptStatus
diff_word w = if same_text w (ascii "-") then Some None else diff_by (status_word w)

-- exactly 0 or 1
unfoldable pub flag_word : List ℕ → Option Bool
flag_word w = if same_text w (ascii "0") then Some false else (if same_text w (ascii "1") then Some true else None)

-- any two numbers
abbrev pub raw_by : Option ℕ → Option ℕ → Option RichtextChunk
raw_by None b = None
raw_by (Some a) None = None
raw_by (Some a) (Some b) = Some (record { start = a; end = b })

unfoldable pub raw_from : List ℕ → List ℕ → Option RichtextChunk
raw_from a b = raw_by (number_of a) (number_of b)

-- a reserved start and a number
abbrev pub reserved_by : ℕ → Option ℕ → Option RichtextChunk
reserved_by start None = None
reserved_by start (Some n) = Some (record { start = start; end = n })

-- unknown N, start I, end I
unfoldable pub two_words : List ℕ → List ℕ → Option RichtextChunk
two_words name n =
    if same_text name (ascii "unknown") then reserved_by UNKNOWN (number_of n)
    else (if same_text name (ascii "start") then reserved_by START (number_of n)
    else (if same_text name (ascii "end") then reserved_by END (number_of n) else None))

-- text A B, raw A B
unfoldable pub three_words : List ℕ → List ℕ → List ℕ → Option RichtextChunk
three_words name a b =
    if same_text name (ascii "text") then raw_from a b
    else (if same_text name (ascii "raw") then raw_from a b else None)

-- move
unfoldable pub one_word : List ℕ → Option RichtextChunk
one_word name = if same_text name (ascii "move") then Some move_chunk else None

-- a chunk of n words
unfoldable pub chunk_by : ℕ → List ℕ → Option RichtextChunk
chunk_by n t =
    if n == 1 then one_word (word_of t 0)
    else (if n == 2 then two_words (word_of t 0) (word_of t 1)
    else (if n == 3 then three_words (word_of t 0) (word_of t 1) (word_of t 2) else None))

abbrev pub chunk_of : List ℕ → Option RichtextChunk
chunk_of t = chunk_by (parts 32 t) t

-- the fields of a span
abbrev pub span_by : Option Id → Option ℕ → Option OptId → Option Status → Option OptStatus → Option OptId → Option OptId → Option RichtextChunk → Option FugueSpan
span_by None n r s d x y c = None
span_by (Some i) None r s d x y c = None
span_by (Some i) (Some n) None s d x y c = None
span_by (Some i) (Some n) (Some r) None d x y c = None
span_by (Some i) (Some n) (Some r) (Some s) None x y c = None
span_by (Some i) (Some n) (Some r) (Some s) (Some d) None y c = None
span_by (Some i) (Some n) (Some r) (Some s) (Some d) (Some x) None c = None
span_by (Some i) (Some n) (Some r) (Some s) (Some d) (Some x) (Some y) None = None
span_by (Some i) (Some n) (Some r) (Some s) (Some d) (Some x) (Some y) (Some c) =
    Some (record { id = i; lamport = n; real_id = r; status = s; diff_status = d; origin_left = x; origin_right = y; content = c })

-- PEER.COUNTER LAMPORT REAL STATUS DIFF LEFT RIGHT A B
unfoldable pub span_of : List ℕ → Option FugueSpan
span_of t =
    if parts 32 t == 9
    then span_by (id_word (word_of t 0)) (number_of (word_of t 1)) (opt_word (word_of t 2)) (status_word (word_of t 3)) (diff_word (word_of t 4))
    (opt_word (word_of t 5)) (opt_word (word_of t 6)) (raw_from (word_of t 7) (word_of t 8))
    else None
