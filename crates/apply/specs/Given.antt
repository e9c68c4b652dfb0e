-- Entries as columns of numbers say them: what each uses, gives and is refused for. Assumes nothing.
use Rattle.std.specs.Prelude.{ℕ, ◌+◌, ◌-◌, ◌&&◌, List, [], ◌∷◌, length, take, if◌then◌else◌, nat_lt, slice_index, ◌==◌, Some, None}
use Rattle.span.specs.declared.chunk.RichtextChunk.{RichtextChunk}
use Rattle.span.specs.declared.ids.Id.{Id}
use Rattle.span.specs.declared.span.FugueSpan.{FugueSpan}
use Rattle.span.specs.Chunk.{chunk, len_of, formed}
use Rattle.span.specs.Status.{new_status}
use Rattle.span.specs.Ids.{room_opt}
use Rattle.span.specs.Answer.{lower}
use Rattle.span.specs.Units.{tab}
use Rattle.store.specs.Row.{id_of}
use Rattle.rope.specs.declared.diff.EntryNumbers.{EntryNumbers}
use Rattle.units.specs.Maybe.{OptLamport}
use Rattle.units.specs.declared.diff.Entry.TheVariants.{Retain, Delete, Insert}
use Rattle.units.specs.Codes.{unless}
use Rattle.rope.specs.Columns.{numbers, least}
use Rattle.apply.specs.declared.item.Item.{Item}
use Rattle.apply.specs.Apply.{Given, Known, Strange, items_of, lamport_fits, entry_formed, entry_ids, entry_known, item_formed, item_ids, item_single}

-- what the numbers of an entry say
abbrev pub insert_given : EntryNumbers → OptLamport → Given
insert_given w l = Known (Insert (chunk w.a w.b) (id_of w.peer w.counter) l)

unfoldable pub given_of : EntryNumbers → Given
given_of w =
    if w.kind == 0 then Known (Retain w.a)
    else (if w.kind == 1 then Known (Delete w.a)
    else (if nat_lt 3 w.kind then Strange
    else (if w.kind == 2 then insert_given w (Some w.lamport) else insert_given w None)))

-- the entry in place i of the columns, and all of them: as many as in the shortest
module _ (k a b p c l : List ℕ) where
  unfoldable pub given_at : ℕ → Given
  given_at i = given_of (numbers (slice_index k i) (slice_index a i) (slice_index b i) (slice_index p i) (slice_index c i) (slice_index l i))

  unfoldable pub givens : List Given
  givens = tab given_at 0 (least (length k) (length a) (length b) (length p) (length c) (length l))

-- the old units that an entry uses, and the new ones that it gives
unfoldable pub takes : Given → ℕ
takes Strange = 0
takes (Known (Retain n)) = n
takes (Known (Delete n)) = n
takes (Known (Insert c i l)) = 0

unfoldable pub gives : Given → ℕ
gives Strange = 0
gives (Known (Retain n)) = n
gives (Known (Delete n)) = 0
gives (Known (Insert c i l)) = len_of c

-- the new units that an entry gives, from the old ones left
unfoldable pub made : Given → List Item → List Item
made Strange old = []
made (Known (Retain n)) old = take n old
made (Known (Delete n)) old = []
made (Known (Insert c i l)) old = items_of c i

-- a span of an Insert's units, with nothing else
abbrev pub bare_span : Id → RichtextChunk → FugueSpan
bare_span i c =
    record {
      id = i;
      lamport = 0;
      real_id = None;
      status = new_status;
      diff_status = None;
      origin_left = None;
      origin_right = None;
      content = c;
    }

-- how many new units there are in all, of m old ones
unfoldable pub new_len : List Given → ℕ → ℕ
new_len [] m = m
new_len (g ∷ es) m = gives g + new_len es (m - takes g)

-- what refuses an entry: 1, 2, 14, the lowest
unfoldable pub insert_code : RichtextChunk → Id → OptLamport → ℕ
insert_code c i l = unless (formed c) 1 (unless (room_opt (Some i) (len_of c) && lamport_fits l (len_of c)) 2 0)

-- 14 of a length 0
abbrev pub len_code : ℕ → ℕ
len_code n = if n == 0 then 14 else 0

unfoldable pub given_code : Given → ℕ
given_code g = unless (entry_formed g) 1 (unless (entry_ids g) 2 (unless (entry_known g) 14 0))

-- what refuses an old unit: 1, 2, 14, the lowest
unfoldable pub item_code : Item → ℕ
item_code x = unless (item_formed x) 1 (unless (item_ids x) 2 (unless (item_single x) 14 0))

-- the lowest number of a list, where 0 is none
unfoldable pub lowest : {A : Type 0} → (A → ℕ) → List A → ℕ
lowest f [] = 0
lowest f (a ∷ l) = lower (f a) (lowest f l)
