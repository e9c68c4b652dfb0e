-- The bytes of a history beside its list of spans: the target ranges, 16 bytes each, and the edits, a header and rows of 256 bytes. Assumes nothing.
--
-- A pair of a version, 12 bytes: 0 peer (u64), 8 count by its bits (u32).
-- A target range, 16 bytes: 0 peer (u64), 8 counter by its bits, 12 length (u32).
-- An edit, 256 bytes: 0 peer, 8 target's peer (u64); 16 counter by its bits, 20 position, 24 kind, 28 lamport, 32 the chunk's start or the length,
-- 36 the chunk's end, 40 target's counter by its bits, 44 number of target ranges, 48 number of pairs (u32); 52 to 64 spare, written 0; 64 room for 16 pairs.
-- The header of the edits, 64 bytes: 0 number of edits, 8 units of the placeholder (u64), the rest written 0 and never read.
use Rattle.std.specs.Prelude.{ℕ, zero, suc, ◌+◌, ◌*◌, ◌/◌, min, ◌≡◌, Bool, ◌&&◌, List, [], ◌∷◌, ◌++◌, pos, length, take, drop, if◌then◌else◌, nat_le}
use Rattle.std.specs.Int.{w32}
use Rattle.std.proofs.Common.{to_z}
use Rattle.words.specs.Le.{le, bytes_of}
use Rattle.span.specs.Chunk.{chunk}
use Rattle.store.specs.Row.{bits32, id_of, low_of, bit_of, u64_at, u32_at}
use Rattle.store.specs.Header.{room, spans_of}
use Rattle.store.specs.Limits.{ROWS, EDITS, PEERS}
use Rattle.units.specs.Store.{is_state}
use Rattle.history.specs.Edit.{Count, Version, Act, Insert, Delete, Edit, Range, Held, History}
use Rattle.history.specs.Checkout.{range}
use Rattle.history.specs.Valid.{valid}
use Rattle.tracker.specs.declared.row.Pair.{Pair}
use Rattle.tracker.specs.declared.row.Target.{Target}
use Rattle.tracker.specs.declared.row.Head.{Head}
use Rattle.tracker.specs.declared.row.Does.{Does}
use Rattle.tracker.specs.declared.row.Does.TheVariants as Do

-- ---------------------------------------------------------------- values of the program as the history's

abbrev pub to_count : Pair → Count
to_count k = record { peer = k.peer; many = k.many }

abbrev pub to_range : Target → Range
to_range t = range t.id t.len

abbrev pub to_act : Does → Act
to_act (Do.Insert lamport c) = Insert lamport c
to_act (Do.Delete n reversed start) = Delete n reversed start

abbrev pub to_edit : Head → Version → Edit
to_edit e v = record { id = e.id; at = e.at; act = to_act e.act; context = v }

-- ---------------------------------------------------------------- versions

unfoldable pub pair_in : List ℕ → Count
pair_in v = record { peer = u64_at v 0; many = to_z w32 (u32_at v 8) }

-- the first m pairs
unfoldable pub pairs : ℕ → List ℕ → Version
pairs zero v = []
pairs (suc m) v = pair_in v ∷ pairs m (drop 12 v)

unfoldable pub pair_bytes : Pair → List ℕ
pair_bytes k = bytes_of 8 k.peer ++ bytes_of 4 (bits32 k.many)

-- what is no version (columns of unequal length, more pairs than peers) stands as a pair whose count is 0: that is refused as 6
abbrev pub broken : Version
broken = record { peer = 0; many = pos 0 } ∷ []

-- ---------------------------------------------------------------- target ranges

unfoldable pub range_in : List ℕ → Range
range_in t = range (id_of (u64_at t 0) (u32_at t 8)) (u32_at t 12)

unfoldable pub ranges : ℕ → List ℕ → List Range
ranges zero t = []
ranges (suc m) t = range_in t ∷ ranges m (drop 16 t)

unfoldable pub range_bytes : Target → List ℕ
range_bytes t = bytes_of 8 t.id.peer ++ bytes_of 4 (bits32 t.id.counter) ++ bytes_of 4 t.len

-- the target ranges that fit: a longer room counts as ROWS
unfoldable pub target_room : List ℕ → ℕ
target_room t = min ROWS (length t / 16)

-- ---------------------------------------------------------------- edits

-- the kind: its lowest bit says delete, the next one reversed
abbrev pub kind_in : List ℕ → ℕ
kind_in e = u32_at e 24

unfoldable pub act_in : List ℕ → Act
act_in e =
    if low_of (kind_in e) then Delete (u32_at e 32) (low_of (kind_in e / 2)) (id_of (u64_at e 8) (u32_at e 40))
    else Insert (u32_at e 28) (chunk (u32_at e 32) (u32_at e 36))

unfoldable pub took_in : List ℕ → ℕ
took_in e = u32_at e 44

unfoldable pub pairs_in : List ℕ → ℕ
pairs_in e = u32_at e 48

-- more pairs than there is room for are no version
unfoldable pub context_in : List ℕ → Version
context_in e = if nat_le (pairs_in e) PEERS then pairs (pairs_in e) (drop 64 e) else broken

unfoldable pub edit_in : List ℕ → Edit
edit_in e = record { id = id_of (u64_at e 0) (u32_at e 16); at = u32_at e 20; act = act_in e; context = context_in e }

-- the first n edits, and how many target ranges they have
unfoldable pub held : ℕ → List ℕ → List ℕ → List Held
held zero e t = []
held (suc n) e t = record { edit = edit_in e; took = ranges (took_in e) t } ∷ held n (drop 256 e) (drop (took_in e * 16) t)

unfoldable pub used : ℕ → List ℕ → ℕ
used zero e = 0
used (suc n) e = took_in e + used n (drop 256 e)

-- the words of an act, as they are written: what it does not have is 0
abbrev pub kind_of : Does → ℕ
kind_of (Do.Insert lamport c) = 0
kind_of (Do.Delete n reversed start) = 1 + 2 * bit_of reversed

abbrev pub lamport_of : Does → ℕ
lamport_of (Do.Insert lamport c) = lamport
lamport_of (Do.Delete n reversed start) = 0

abbrev pub first_of : Does → ℕ
first_of (Do.Insert lamport c) = c.start
first_of (Do.Delete n reversed start) = n

abbrev pub last_of : Does → ℕ
last_of (Do.Insert lamport c) = c.end
last_of (Do.Delete n reversed start) = 0

abbrev pub target_peer : Does → ℕ
target_peer (Do.Insert lamport c) = 0
target_peer (Do.Delete n reversed start) = start.peer

abbrev pub target_bits : Does → ℕ
target_bits (Do.Insert lamport c) = 0
target_bits (Do.Delete n reversed start) = bits32 start.counter

-- an edit's row up to its pairs
unfoldable pub head_bytes : Head → ℕ → ℕ → List ℕ
head_bytes e took many =
    (bytes_of 8 e.id.peer ++ bytes_of 8 (target_peer e.act))
    ++ (bytes_of 4 (bits32 e.id.counter) ++ bytes_of 4 e.at ++ bytes_of 4 (kind_of e.act) ++ bytes_of 4 (lamport_of e.act))
    ++ (bytes_of 4 (first_of e.act) ++ bytes_of 4 (last_of e.act) ++ bytes_of 4 (target_bits e.act) ++ bytes_of 4 took)
    ++ (bytes_of 4 many ++ bytes_of 4 0 ++ bytes_of 4 0 ++ bytes_of 4 0)

-- ---------------------------------------------------------------- a history in three lent buffers: spans, targets, edits

unfoldable pub edit_count : List ℕ → ℕ
edit_count e = le (take 8 e)

unfoldable pub placeholder_in : List ℕ → ℕ
placeholder_in e = le (take 8 (drop 8 e))

unfoldable pub history_in : List ℕ → List ℕ → List ℕ → History
history_in s t e = record { placeholder = placeholder_in e; list = spans_of s; held = held (edit_count e) (drop 64 e) t }

-- the bytes of the edits: a header and EDITS rows. A shorter buffer is no history.
abbrev pub EDIT_BYTES : ℕ
EDIT_BYTES = 64 + EDITS * 256

-- the buffers hold a history: rows and ranges fit their rooms, and it is well formed (15)
unfoldable pub is_history : List ℕ → List ℕ → List ℕ → Bool
is_history s t e =
    nat_le EDIT_BYTES (length e) && (nat_le (edit_count e) EDITS && (nat_le (used (edit_count e) (drop 64 e)) (target_room t)
    && (is_state s && valid (room s) (target_room t) (history_in s t e))))
