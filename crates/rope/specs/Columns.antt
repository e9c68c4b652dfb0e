-- The delta one entry after the other, and in lent columns of numbers. Assumes nothing.
use Rattle.std.specs.Prelude.{ℕ, ◌+◌, ◌≤◌, min, ◌≡◌, List, [], ◌∷◌, map, length, set, drop, if◌then◌else◌, nat_le, ◌==◌}
use Rattle.span.specs.declared.ids.Id.{Id}
use Rattle.span.specs.declared.chunk.RichtextChunk.{RichtextChunk}
use Rattle.span.specs.declared.span.FugueSpan.{FugueSpan}
use Rattle.span.specs.declared.span.DiffStatus.{DiffStatus}
use Rattle.span.specs.declared.span.DiffStatus.TheVariants.{NotChanged, Created, Deleted}
use Rattle.span.specs.Answer.{answer}
use Rattle.span.specs.Span.{len_span, diff_of}
use Rattle.span.specs.Units.{expand}
use Rattle.store.specs.Row.{rows, bits32}
use Rattle.rope.specs.Maybe.{Change}
use Rattle.rope.specs.declared.diff.Step.{Step}
use Rattle.rope.specs.declared.diff.EntryNumbers.{EntryNumbers}
use Rattle.rope.specs.Maybe.{DiffAnswer}
use Rattle.std.specs.Prelude.{Option, Some, None, Ok, Err}
use Rattle.span.specs.Refusal.{refused, number_of}
use Rattle.units.specs.Lists.{every, over}
use Rattle.units.specs.Store.{spans_of, is_state}
use Rattle.units.specs.Maybe.{OptLamport}
use Rattle.units.specs.declared.diff.Entry.{Entry}
use Rattle.units.specs.declared.diff.Entry.TheVariants.{Retain, Delete, Insert}
use Rattle.units.specs.Delta.{insert_of_span, insertable, entries_from, entries}
use Rattle.units.specs.Codes.{unless, kept}
use Rattle.rope.specs.Spans.{Stored}

-- ---------------------------------------------------------------- one entry after the other

-- what a span does to the delta
abbrev pub change_by : DiffStatus → FugueSpan → Change
change_by NotChanged s = None
change_by Created s = Some (insert_of_span s)
change_by Deleted s = Some (Delete (len_span s))

unfoldable pub change_of : FugueSpan → Change
change_of s = change_by (diff_of s) s

abbrev pub step : Entry → ℕ → ℕ → Step
step e i gap = record { entry = e; row = i; gap = gap }

-- a change of row i after a gap: a positive gap first
unfoldable pub step_by : ℕ → ℕ → Entry → Step
step_by gap i e = if gap == 0 then step e (i + 1) 0 else step (Retain gap) i 0

-- n rows that are a well formed list, row i among them or just past them, and a gap of units before it
pub record Ahead (n : ℕ) (s : List ℕ) (i gap : ℕ) : Type 0 where
  pub stored : Stored n s
  pub low : i ≤ n
  pub few : gap + length (expand (drop i (rows n s))) ≤ 65536

-- the next entry e of what is left from row i and a gap on, and row j and gap g for what is left after it
pub record NextIs (l : List FugueSpan) (i gap : ℕ) (e : Entry) (j g : ℕ) : Type 0 where
  pub low : j ≤ length l
  pub few : g + length (expand (drop j l)) ≤ gap + length (expand (drop i l))
  pub is : entries_from (drop i l) gap ≡ e ∷ entries_from (drop j l) g

abbrev pub NextOf : List FugueSpan → ℕ → ℕ → Option Step → Type 0
NextOf l i gap None = entries_from (drop i l) gap ≡ []
NextOf l i gap (Some x) = NextIs l i gap x.entry x.row x.gap

-- ---------------------------------------------------------------- columns of numbers

abbrev pub numbers : ℕ → ℕ → ℕ → ℕ → ℕ → ℕ → EntryNumbers
numbers k a b p c l = record { kind = k; a = a; b = b; peer = p; counter = c; lamport = l }

abbrev pub insert_numbers : RichtextChunk → Id → OptLamport → EntryNumbers
insert_numbers c i None = numbers 3 c.start c.end i.peer (bits32 i.counter) 0
insert_numbers c i (Some l) = numbers 2 c.start c.end i.peer (bits32 i.counter) l

-- an entry as numbers
unfoldable pub entry_numbers : Entry → EntryNumbers
entry_numbers (Retain n) = numbers 0 n 0 0 0 0
entry_numbers (Delete n) = numbers 1 n 0 0 0 0
entry_numbers (Insert c i l) = insert_numbers c i l

-- a column of the entries
abbrev pub column : (EntryNumbers → ℕ) → List Entry → List ℕ
column f es = map (λ (e : Entry). f (entry_numbers e)) es

-- a room of several columns is as long as its shortest
abbrev pub least : ℕ → ℕ → ℕ → ℕ → ℕ → ℕ → ℕ
least a b c d e f = min a (min b (min c (min d (min e f))))

-- so many entries fit each column
pub record Hold (n : ℕ) (k a b p c l : List ℕ) : Type 0 where
  pub kind : n ≤ length k
  pub first : n ≤ length a
  pub second : n ≤ length b
  pub peer : n ≤ length p
  pub counter : n ≤ length c
  pub lamport : n ≤ length l

-- the columns with an entry in place i
pub record Set (i : ℕ) (x : EntryNumbers) (k a b p c l k2 a2 b2 p2 c2 l2 : List ℕ) : Type 0 where
  pub kind : k2 ≡ set k i x.kind
  pub first : a2 ≡ set a i x.a
  pub second : b2 ≡ set b i x.b
  pub peer : p2 ≡ set p i x.peer
  pub counter : c2 ≡ set c i x.counter
  pub lamport : l2 ≡ set l i x.lamport

-- the columns with entries at their fronts
pub record Filled (es : List Entry) (k a b p c l k2 a2 b2 p2 c2 l2 : List ℕ) : Type 0 where
  pub kind : k2 ≡ over (column (λ (x : EntryNumbers). x.kind) es) k
  pub first : a2 ≡ over (column (λ (x : EntryNumbers). x.a) es) a
  pub second : b2 ≡ over (column (λ (x : EntryNumbers). x.b) es) b
  pub peer : p2 ≡ over (column (λ (x : EntryNumbers). x.peer) es) p
  pub counter : c2 ≡ over (column (λ (x : EntryNumbers). x.counter) es) c
  pub lamport : l2 ≡ over (column (λ (x : EntryNumbers). x.lamport) es) l

-- get_diff: the number of the refusal, of a well formed list and of a store
unfoldable pub diff_rows_code : ℕ → List FugueSpan → ℕ
diff_rows_code room l = unless (every insertable l) 12 (unless (nat_le (length (entries l)) room) 13 0)

unfoldable pub get_diff_code : ℕ → List ℕ → ℕ
get_diff_code room s = unless (is_state s) 15 (diff_rows_code room (spans_of s))

-- a column afterwards
abbrev pub column_of : ℕ → (EntryNumbers → ℕ) → List Entry → List ℕ → List ℕ
column_of code f es col = kept code (over (column f es) col) col

-- what get_diff answers, and the columns afterwards: those of the entries, or if it is refused what they were
pub record Diffed (code : ℕ) (spans : List FugueSpan) (r : DiffAnswer) (k a b p c l k2 a2 b2 p2 c2 l2 : List ℕ) : Type 0 where
  pub said : r ≡ answer Ok refused code (length (entries spans))
  pub kind : k2 ≡ column_of code (λ (x : EntryNumbers). x.kind) (entries spans) k
  pub first : a2 ≡ column_of code (λ (x : EntryNumbers). x.a) (entries spans) a
  pub second : b2 ≡ column_of code (λ (x : EntryNumbers). x.b) (entries spans) b
  pub peer : p2 ≡ column_of code (λ (x : EntryNumbers). x.peer) (entries spans) p
  pub counter : c2 ≡ column_of code (λ (x : EntryNumbers). x.counter) (entries spans) c
  pub lamport : l2 ≡ column_of code (λ (x : EntryNumbers). x.lamport) (entries spans) l

-- the number of an answer: 0 is done
abbrev pub diff_number : DiffAnswer → ℕ
diff_number (Ok n) = 0
diff_number (Err e) = number_of e
