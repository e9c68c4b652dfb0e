-- The delta from status to diff_status, as 01 states it (000 `get_diff`), on spans or on units. Assumes nothing.
use Rattle.std.specs.Prelude.{ℕ, ◌+◌, Bool, true, false, ◌&&◌, List, [], ◌∷◌, if◌then◌else◌, ◌==◌, Some, None}
use Rattle.span.specs.Maybe.{OptId}
use Rattle.span.specs.declared.span.FugueSpan.{FugueSpan}
use Rattle.span.specs.declared.span.DiffStatus.{DiffStatus}
use Rattle.span.specs.declared.span.DiffStatus.TheVariants.{NotChanged, Created, Deleted}
use Rattle.span.specs.Chunk.{len_of, joins, merged_chunk}
use Rattle.span.specs.Ids.{UNKNOWN_PEER, inc_id, same_id}
use Rattle.span.specs.Span.{len_span, active_len, real_of, diff_of}
-- an entry: Retain, Delete or Insert, the last with a lamport or none
pub use Rattle.units.specs.Maybe.{OptLamport}
pub use Rattle.units.specs.declared.diff.Entry.{Entry}
pub use Rattle.units.specs.declared.diff.Entry.TheVariants.{Retain, Delete, Insert}

-- the lamport of an Insert: none for the unknown peer
unfoldable pub lamport_of : FugueSpan → OptLamport
lamport_of s = if s.id.peer == UNKNOWN_PEER then None else Some s.lamport

-- an Insert of a span (one without real id is refused, 12)
unfoldable pub insert_of_span : FugueSpan → Entry
insert_of_span s = Insert s.content (real_of s) (lamport_of s)

-- a positive gap since the last change gives Retain first
unfoldable pub retain : ℕ → List Entry → List Entry
retain gap es = if gap == 0 then es else Retain gap ∷ es

-- what a span does to the delta: `same` is the rest of it if the span is no change, `next` if it is
abbrev pub entry_by : DiffStatus → ℕ → FugueSpan → List Entry → List Entry → List Entry
entry_by NotChanged gap s same next = same
entry_by Created gap s same next = retain gap (insert_of_span s ∷ next)
entry_by Deleted gap s same next = retain gap (Delete (len_span s) ∷ next)

-- the entries from a span on, with the visible units since the last change
unfoldable pub entries_from : List FugueSpan → ℕ → List Entry
entries_from [] gap = []
entries_from (s ∷ l) gap = entry_by (diff_of s) gap s (entries_from l (gap + active_len s)) (entries_from l 0)

unfoldable pub entries : List FugueSpan → List Entry
entries l = entries_from l 0

-- ---------------------------------------------------------------- a delta would insert a unit without real id: 12

abbrev pub is_real : OptId → Bool
is_real None = false
is_real (Some i) = true

abbrev pub real_if_created : DiffStatus → OptId → Bool
real_if_created NotChanged r = true
real_if_created Created r = is_real r
real_if_created Deleted r = true

unfoldable pub insertable : FugueSpan → Bool
insertable s = real_if_created (diff_of s) s.real_id

-- ---------------------------------------------------------------- like neighbours

-- lamports run on, or are both absent
unfoldable pub lamports_run : OptLamport → ℕ → OptLamport → Bool
lamports_run None n None = true
lamports_run None n (Some b) = false
lamports_run (Some a) n None = false
lamports_run (Some a) n (Some b) = (a + n) == b

-- two Retains, two Deletes, or two Inserts whose chunks join, whose real ids run on and whose lamports run on or are both absent
unfoldable pub like : Entry → Entry → Bool
like (Retain a) (Retain b) = true
like (Retain a) (Delete b) = false
like (Retain a) (Insert d j m) = false
like (Delete a) (Retain b) = false
like (Delete a) (Delete b) = true
like (Delete a) (Insert d j m) = false
like (Insert c i l) (Retain b) = false
like (Insert c i l) (Delete b) = false
like (Insert c i l) (Insert d j m) = joins c d && (same_id (inc_id i (len_of c)) j && lamports_run l (len_of c) m)

unfoldable pub size_of : Entry → ℕ
size_of (Retain n) = n
size_of (Delete n) = n
size_of (Insert c i l) = len_of c

-- like neighbours as one entry
unfoldable pub merged_entry : Entry → Entry → Entry
merged_entry (Retain a) f = Retain (a + size_of f)
merged_entry (Delete a) f = Delete (a + size_of f)
merged_entry (Insert c i l) (Retain b) = Insert c i l
merged_entry (Insert c i l) (Delete b) = Insert c i l
merged_entry (Insert c i l) (Insert d j m) = Insert (merged_chunk c d) i l

-- a delta with like neighbours joined: the form in which deltas are compared
unfoldable pub join_entry : Entry → List Entry → List Entry
join_entry e [] = e ∷ []
join_entry e (f ∷ l) = if like e f then merged_entry e f ∷ l else e ∷ (f ∷ l)

unfoldable pub join_entries : List Entry → List Entry
join_entries [] = []
join_entries (e ∷ l) = join_entry e (join_entries l)
