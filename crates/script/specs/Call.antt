-- The call that a line says (docs/SCRIPT.md): its name is the first word, and blanks (32) stand between the words. What is no call is `None`.
use Rattle.std.specs.Prelude.{ℕ, Bool, true, false, ◌&&◌, List, [], ◌∷◌, Option, None, Some, ℤ, if◌then◌else◌, ◌==◌}
use Prim.Native.String.{String}
use Rattle.text.specs.Ascii.{ascii}
use Rattle.text.specs.Parts.{rest, parts, same_text}
use Rattle.units.specs.declared.change.SetFuture.{SetFuture}
use Rattle.units.specs.declared.change.SetFuture.TheVariants as Set
use Rattle.script.specs.declared.call.Insert.{Insert}
use Rattle.script.specs.declared.call.Delete.{Delete}
use Rattle.script.specs.declared.call.RopeCall.TheVariants as Rope
use Rattle.script.specs.declared.call.HistoryCall.{HistoryCall}
use Rattle.script.specs.declared.call.HistoryCall.TheVariants as History
use Rattle.script.specs.declared.call.Look.TheVariants as Look
use Rattle.script.specs.declared.call.Call.{Call}
use Rattle.span.specs.declared.chunk.RichtextChunk.{RichtextChunk}
use Rattle.span.specs.declared.ids.Id.{Id}
use Rattle.span.specs.declared.span.FugueSpan.{FugueSpan}
use Rattle.script.specs.Field.{word_of, number_of, id_from, change_word, flag_word, chunk_of, span_of}
use Rattle.script.specs.Version.{is_version}

-- ---- what stands after a name

-- the fields of an insert
abbrev pub insert_by : Option ℕ → Option Id → Option ℕ → Option RichtextChunk → Option Insert
insert_by None i n c = None
insert_by (Some p) None n c = None
insert_by (Some p) (Some i) None c = None
insert_by (Some p) (Some i) (Some n) None = None
insert_by (Some p) (Some i) (Some n) (Some c) = Some (record { pos = p; id = i; lamport = n; content = c })

-- POS PEER COUNTER LAMPORT CHUNK
unfoldable pub insert_from : List ℕ → Option Insert
insert_from t = insert_by (number_of (word_of t 0)) (id_from (word_of t 1) (word_of t 2)) (number_of (word_of t 3)) (chunk_of (rest 32 4 t))

-- into a rope, or where it arrives into a history
abbrev pub insert_call : Bool → Option Insert → Option Call
insert_call arrives None = None
insert_call false (Some x) = Some (Call.Rope (Rope.Insert x))
insert_call true (Some x) = Some (Call.History (History.Insert x))

-- the fields of a delete
abbrev pub delete_by : Option ℕ → Option ℕ → Option Id → Option Bool → Option Delete
delete_by None n i r = None
delete_by (Some p) None i r = None
delete_by (Some p) (Some n) None r = None
delete_by (Some p) (Some n) (Some i) None = None
delete_by (Some p) (Some n) (Some i) (Some r) = Some (record { pos = p; len = n; start = i; reversed = r })

-- POS LEN of t, TPEER TCOUNTER REV of u
unfoldable pub delete_from : List ℕ → List ℕ → Option Delete
delete_from t u = delete_by (number_of (word_of t 0)) (number_of (word_of t 1)) (id_from (word_of u 0) (word_of u 1)) (flag_word (word_of u 2))

-- POS LEN TPEER TCOUNTER REV
abbrev pub delete_call : Option Delete → Option Call
delete_call None = None
delete_call (Some x) = Some (Call.Rope (Rope.Delete x))

unfoldable pub deleting_of : List ℕ → Option Call
deleting_of t = if parts 32 t == 5 then delete_call (delete_from t (rest 32 2 t)) else None

-- POS LEN PEER COUNTER TPEER TCOUNTER REV
abbrev pub arriving_by : Option Id → Option Delete → Option Call
arriving_by None d = None
arriving_by (Some i) None = None
arriving_by (Some i) (Some x) = Some (Call.History (History.Delete (record { id = i; delete = x })))

unfoldable pub arriving_of : List ℕ → Option Call
arriving_of t = if parts 32 t == 7 then arriving_by (id_from (word_of t 2) (word_of t 3)) (delete_from t (rest 32 4 t)) else None

-- future|now|keep
unfoldable pub set_word : List ℕ → Option SetFuture
set_word w =
    if same_text w (ascii "future") then Some Set.Future
    else (if same_text w (ascii "now") then Some Set.Now
    else (if same_text w (ascii "keep") then Some Set.Keep else None))

-- the fields of an update
abbrev pub update_by : Option Id → Option Id → Option SetFuture → Option ℤ → Option Bool → Option Call
update_by None j s c d = None
update_by (Some i) None s c d = None
update_by (Some i) (Some j) None c d = None
update_by (Some i) (Some j) (Some s) None d = None
update_by (Some i) (Some j) (Some s) (Some c) None = None
update_by (Some i) (Some j) (Some s) (Some c) (Some d) =
    Some (Call.Rope (Rope.Update (record { from = i; to = j; future = s; change = c; on_diff = d })))

-- PEER FROM TO future|now|keep CHANGE DIFF: the ids FROM to TO of the peer
unfoldable pub updating_of : List ℕ → Option Call
updating_of t =
    if parts 32 t == 6
    then update_by (id_from (word_of t 0) (word_of t 1)) (id_from (word_of t 0) (word_of t 2)) (set_word (word_of t 3)) (change_word (word_of t 4)) (flag_word (word_of t 5))
    else None

-- CTX, and an insert; CTX, and a delete
unfoldable pub ins_of : List ℕ → Option Call
ins_of t = if is_version (word_of t 0) then insert_call true (insert_from (rest 32 1 t)) else None

unfoldable pub del_of : List ℕ → Option Call
del_of t = if is_version (word_of t 0) then arriving_of (rest 32 1 t) else None

-- A B
unfoldable pub two_versions : List ℕ → Bool
two_versions t = parts 32 t == 2 && (is_version (word_of t 0) && is_version (word_of t 1))

abbrev pub on_versions : Bool → HistoryCall → Option Call
on_versions are c = if are then Some (Call.History c) else None

-- I SPAN
abbrev pub row_by : Option ℕ → Option FugueSpan → Option Call
row_by None x = None
row_by (Some i) None = None
row_by (Some i) (Some x) = Some (Call.Look (Look.Row i x))

unfoldable pub row_of : List ℕ → Option Call
row_of t = row_by (number_of (word_of t 0)) (span_of (rest 32 1 t))

-- ---- the names

-- the call of this name
abbrev pub named : List ℕ → List (String × Option Call) → Option Call
named name [] = None
named name (c ∷ l) = if same_text name (ascii c.0) then c.1 else named name l

-- of one word
unfoldable pub alone_of : List ℕ → Option Call
alone_of name =
    named name
    (("empty", Some (Call.Empty))
    ∷ ("clear", Some (Call.Rope Rope.Clear))
    ∷ ("diff", Some (Call.Rope Rope.Diff))
    ∷ ("len", Some (Call.Look Look.Len))
    ∷ ("dump", Some (Call.Look Look.Dump))
    ∷ ("spans", Some (Call.Look Look.Spans))
    ∷ ("visible", Some (Call.Look Look.Visible))
    ∷ ("sum", Some (Call.Look Look.Sum))
    ∷ [])

-- of a name and a number
unfoldable pub numbered_of : List ℕ → ℕ → Option Call
numbered_of name n =
    named name
    (("room", Some (Call.Room n))
    ∷ ("targets", Some (Call.Targets n))
    ∷ ("out", Some (Call.Out n))
    ∷ ("placeholder", Some (Call.Placeholder n))
    ∷ ("new", Some (Call.New n))
    ∷ ("at", Some (Call.Look (Look.At n)))
    ∷ ("rows", Some (Call.Look (Look.Rows n)))
    ∷ [])

abbrev pub number_call : List ℕ → Option ℕ → Option Call
number_call name None = None
number_call name (Some n) = numbered_of name n

-- of two words
unfoldable pub pair_call : List ℕ → List ℕ → Option Call
pair_call name w = if same_text name (ascii "checkout") then on_versions (is_version w) History.Checkout else number_call name (number_of w)

-- of more words, t those after the name
unfoldable pub several_of : List ℕ → List ℕ → Option Call
several_of name t =
    named name
    (("insert", insert_call false (insert_from t))
    ∷ ("delete", deleting_of t)
    ∷ ("update", updating_of t)
    ∷ ("ins", ins_of t)
    ∷ ("del", del_of t)
    ∷ ("delta", on_versions (two_versions t) History.Delta)
    ∷ ("applied", on_versions (two_versions t) History.Applied)
    ∷ ("row", row_of t)
    ∷ [])

-- a line of n words
unfoldable pub call_by : ℕ → List ℕ → Option Call
call_by n line =
    if n == 1 then alone_of (word_of line 0)
    else (if n == 2 then pair_call (word_of line 0) (word_of line 1)
    else several_of (word_of line 0) (rest 32 1 line))

abbrev pub call_of : List ℕ → Option Call
call_of line = call_by (parts 32 line) line
