-- The answers of deltas: a line for each entry, and for each item of the list that one is applied to (docs/SCRIPT.md)
use Rattle.std.specs.Prelude.{ℕ, ◌/◌, List, [], ◌∷◌, ◌++◌, map, length, ◌==◌, nat_lt, slice_index, if◌then◌else◌, Ok}
use Rattle.text.specs.Ascii.{ascii}
use Rattle.span.specs.Chunk.{chunk}
use Rattle.store.specs.Row.{id_of}
use Rattle.units.specs.declared.diff.Entry.{Entry}
use Rattle.rope.specs.declared.diff.EntryNumbers.{EntryNumbers}
use Rattle.units.specs.Store.{spans_of}
use Rattle.units.specs.Delta.{entries}
use Rattle.rope.specs.Columns.{numbers, entry_numbers, get_diff_code}
use Rattle.apply.specs.declared.item.Item.{Item}
use Rattle.apply.specs.Maybe.{ApplyAnswer}
use Rattle.std.specs.Prelude.{Err}
use Rattle.span.specs.Refusal.{number_of}
use Rattle.apply.specs.Items.{item_in}
use Rattle.script.specs.Print.{number_text, id_text, chunk_text, head_line, item_line}
use Rattle.session.specs.Say.{up_to}
use Rattle.session.specs.Lines.{refused_lines}

-- ---------------------------------------------------------------- entries, by their six numbers

-- LAMPORT, or - where the entry has none
unfoldable pub lamport_text : EntryNumbers → List ℕ
lamport_text x = if x.kind == 2 then number_text x.lamport else ascii " -"

-- insert ID LAMPORT CHUNK
unfoldable pub insert_line : EntryNumbers → List ℕ
insert_line x = ascii "insert" ++ id_text (id_of x.peer x.counter) ++ lamport_text x ++ chunk_text (chunk x.a x.b) ++ (10 ∷ [])

-- retain N, delete N, or an insert
unfoldable pub entry_line : EntryNumbers → List ℕ
entry_line x =
    if x.kind == 0 then head_line (ascii "retain") x.a
    else (if x.kind == 1 then head_line (ascii "delete") x.a else insert_line x)

-- entry i of columns; past a column's end its number is 0
abbrev pub numbers_at : List ℕ → List ℕ → List ℕ → List ℕ → List ℕ → List ℕ → ℕ → EntryNumbers
numbers_at k a b p c l i = numbers (slice_index k i) (slice_index a i) (slice_index b i) (slice_index p i) (slice_index c i) (slice_index l i)

abbrev pub entry_at : List ℕ → List ℕ → List ℕ → List ℕ → List ℕ → List ℕ → ℕ → List (List ℕ)
entry_at k a b p c l i = entry_line (numbers_at k a b p c l i) ∷ []

-- entries N, and the N entries at the fronts of columns
abbrev pub columns_lines : List ℕ → List ℕ → List ℕ → List ℕ → List ℕ → List ℕ → ℕ → List (List ℕ)
columns_lines k a b p c l n = head_line (ascii "entries") n ∷ up_to (entry_at k a b p c l) n

-- entries N, and N entries
unfoldable pub entries_lines : List Entry → List (List ℕ)
entries_lines es = head_line (ascii "entries") (length es) ∷ map (λ (e : Entry). entry_line (entry_numbers e)) es

-- a delta with this number and these entries
unfoldable pub delta_lines : ℕ → List Entry → List (List ℕ)
delta_lines code es = if code == 0 then entries_lines es else refused_lines code

-- the delta of a rope, with room for so many entries
abbrev pub diff_lines : ℕ → List ℕ → List (List ℕ)
diff_lines room s = delta_lines (get_diff_code room s) (entries (spans_of s))

-- so many entries are lent, where n are asked
unfoldable pub lent_entries : ℕ → ℕ
lent_entries n = if nat_lt n 8192 then n else 8192

-- ---------------------------------------------------------------- items

-- item i of rows: none, where they are not so many
unfoldable pub item_at : List ℕ → ℕ → List (List ℕ)
item_at out i = if nat_lt i (length out / 24) then item_line (item_in out i).id (item_in out i).content ∷ [] else []

-- list N, and the first N items of rows
abbrev pub listed_lines : List ℕ → ℕ → List (List ℕ)
listed_lines out n = head_line (ascii "list") n ∷ up_to (item_at out) n

-- the applier's answer
unfoldable pub answer_lines : ApplyAnswer → List ℕ → List (List ℕ)
answer_lines (Ok n) out = listed_lines out n
answer_lines (Err e) out = refused_lines (number_of e)

-- list N, and N items
unfoldable pub items_lines : List Item → List (List ℕ)
items_lines xs = head_line (ascii "list") (length xs) ∷ map (λ (x : Item). item_line x.id x.content) xs

-- a list with this number and these items
unfoldable pub applied_lines : ℕ → List Item → List (List ℕ)
applied_lines code xs = if code == 0 then items_lines xs else refused_lines code
