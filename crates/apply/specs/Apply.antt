-- The delta applier, on lists of units as real id (own id if none) and one-unit chunk, and its refusals 1, 2, 14, 13: the lowest over the whole input, 13 last.
-- Assumes nothing.
use Rattle.std.specs.Prelude.{ℕ, suc, ◌+◌, Bool, true, false, not, ◌&&◌, List, [], ◌∷◌, ◌++◌, map, length, take, drop, nat_le, ◌==◌, Some, None}
use Rattle.span.specs.declared.chunk.RichtextChunk.{RichtextChunk}
use Rattle.span.specs.declared.ids.Id.{Id}
use Rattle.span.specs.declared.status.Status.{Status}
use Rattle.span.specs.Maybe.{OptStatus}
use Rattle.span.specs.declared.span.FugueSpan.{FugueSpan}
use Rattle.span.specs.Chunk.{len_of, formed, part_chunk}
use Rattle.span.specs.Ids.{inc_id, room_of, room_opt}
use Rattle.span.specs.Span.{real_of}
use Rattle.span.specs.Units.{tab}
use Rattle.units.specs.Lists.{every, over}
use Rattle.units.specs.Maybe.{OptLamport}
use Rattle.units.specs.declared.diff.Entry.TheVariants.{Retain, Delete, Insert}
use Rattle.units.specs.Query.{visibles}
use Rattle.units.specs.Codes.{unless, kept}
use Rattle.units.specs.Change.{with_state}
use Rattle.apply.specs.declared.item.Item.{Item}
-- an entry as it is handed in: one of the three kinds, or none of them
pub use Rattle.apply.specs.Maybe.{Given}
pub use Rattle.std.specs.Prelude.{Some as Known, None as Strange}

-- a unit as the applier sees it: its real id (own id if none) and its chunk
unfoldable pub item_of : FugueSpan → Item
item_of u = record { id = real_of u; content = u.content }

-- the visible list as items
unfoldable pub items : List FugueSpan → List Item
items l = map item_of (visibles l)

-- a unit at the version compared with: its diff_status, where it has one, as its status
abbrev pub or_status : OptStatus → Status → Status
or_status None now = now
or_status (Some d) now = d

unfoldable pub new_unit : FugueSpan → FugueSpan
new_unit u = with_state u (or_status u.diff_status u.status) None u.real_id

-- the units of an Insert
unfoldable pub item_at : RichtextChunk → Id → ℕ → Item
item_at c i k = record { id = inc_id i k; content = part_chunk c k (suc k) }

unfoldable pub items_of : RichtextChunk → Id → List Item
items_of c i = tab (item_at c i) 0 (len_of c)

-- what is left over after the last entry stays
unfoldable pub applied : List Given → List Item → List Item
applied [] old = old
applied (Strange ∷ es) old = applied es old
applied (Known (Retain n) ∷ es) old = take n old ++ applied es (drop n old)
applied (Known (Delete n) ∷ es) old = applied es (drop n old)
applied (Known (Insert c i l) ∷ es) old = items_of c i ++ applied es old

-- ---------------------------------------------------------------- refusals

-- 1: a chunk that is not formed
unfoldable pub entry_formed : Given → Bool
entry_formed Strange = true
entry_formed (Known (Retain n)) = true
entry_formed (Known (Delete n)) = true
entry_formed (Known (Insert c i l)) = formed c

-- 2: an id or a lamport past its end, the unknown peer in an Insert
unfoldable pub lamport_fits : OptLamport → ℕ → Bool
lamport_fits None n = true
lamport_fits (Some lamport) n = nat_le (lamport + n) 4294967295

unfoldable pub entry_ids : Given → Bool
entry_ids Strange = true
entry_ids (Known (Retain n)) = true
entry_ids (Known (Delete n)) = true
entry_ids (Known (Insert c i l)) = room_opt (Some i) (len_of c) && lamport_fits l (len_of c)

-- 14: no known kind, or of length 0
unfoldable pub entry_known : Given → Bool
entry_known Strange = false
entry_known (Known (Retain n)) = not (n == 0)
entry_known (Known (Delete n)) = not (n == 0)
entry_known (Known (Insert c i l)) = true

-- the old units that Retains and Deletes use
unfoldable pub used : List Given → ℕ
used [] = 0
used (Strange ∷ es) = used es
used (Known (Retain n) ∷ es) = n + used es
used (Known (Delete n) ∷ es) = n + used es
used (Known (Insert c i l) ∷ es) = used es

-- an old unit is formed; its id is in range (it may have the unknown peer); it is one unit
unfoldable pub item_formed : Item → Bool
item_formed x = formed x.content

unfoldable pub item_ids : Item → Bool
item_ids x = room_of x.id (len_of x.content)

unfoldable pub item_single : Item → Bool
item_single x = len_of x.content == 1

unfoldable pub apply_code : List Item → List Given → List Item → ℕ
apply_code out es old =
    unless (every entry_formed es && every item_formed old) 1
    (unless (every entry_ids es && every item_ids old) 2
    (unless (every entry_known es && (every item_single old && nat_le (used es) (length old))) 14
    (unless (nat_le (length (applied es old)) (length out)) 13 0)))

-- the number, and the output with the new list
unfoldable pub apply_of : List Item → List Given → List Item → ℕ × List Item
apply_of out es old = (apply_code out es old, kept (apply_code out es old) (over (applied es old) out) out)
