-- What refuses an edit by the edits held (1, 2, 4, 5, 6, 7), and a well-formed history (15). Assumes nothing.
use Rattle.std.specs.Prelude.{ℕ, suc, ◌+◌, Bool, true, false, not, ◌&&◌, ◌||◌, List, [], ◌∷◌, ◌++◌, map, pos, length, if◌then◌else◌, nat_le, ◌==◌, Some}
use Rattle.span.specs.declared.span.FugueSpan.{FugueSpan}
use Rattle.span.specs.Chunk.{formed, len_of}
use Rattle.span.specs.Status.{eq_z}
use Rattle.span.specs.Ids.{UNKNOWN_PEER, room_opt, same_id, same_opt}
use Rattle.span.specs.Span.{new_span}
use Rattle.span.specs.Units.{expand, units_of}
use Rattle.units.specs.Limits.{PEERS, EDITS, fits}
use Rattle.units.specs.Lists.{every, some, keep_if}
use Rattle.units.specs.Store.{well_formed}
use Rattle.units.specs.Codes.{unless}
use Rattle.history.specs.Edit.{Act, Insert, Delete, Edit, size, Range, Held, History}
use Rattle.history.specs.Version.{count_of, held_count, named, closed}
use Rattle.history.specs.Checkout.{in_ranges, ranges_of}
use Rattle.history.specs.Arrive.{start}

-- ---------------------------------------------------------------- an edit against those held

-- 1: the chunk is formed; a delete has a length
abbrev pub act_formed : Act → Bool
act_formed (Insert lamport c) = formed c
act_formed (Delete n reversed target) = not (n == 0)

-- 2: lamport and target start in range, the target's peer known
abbrev pub act_ids : Act → Bool
act_ids (Insert lamport c) = nat_le (lamport + len_of c) 4294967295
act_ids (Delete n reversed target) = room_opt (Some target) n

-- 4: the peers that have edits
unfoldable pub has_peer : List Held → ℕ → Bool
has_peer held p = some (λ (h : Held). (h.edit.id.peer == p)) held

unfoldable pub peer_count : List Held → ℕ
peer_count [] = 0
peer_count (h ∷ l) = if has_peer l h.edit.id.peer then peer_count l else suc (peer_count l)

-- 7: the context holds exactly the peer's own earlier counters
unfoldable pub own_count : Edit → Bool
own_count e = eq_z (pos (count_of e.context e.id.peer)) e.id.counter

unfoldable pub edit_code : List Held → Edit → ℕ
edit_code held e =
    unless (act_formed e.act) 1
    (unless (room_opt (Some e.id) (size e) && act_ids e.act) 2
    (unless (has_peer held e.id.peer || not (nat_le PEERS (peer_count held))) 4
    (unless (eq_z e.id.counter (pos (held_count held e.id.peer))) 5
    (unless (named held e.context) 6
    (unless (closed held e.context && own_count e) 7 0)))))

-- every edit against those before it
unfoldable pub edits_fit : List Held → List Held → Bool
edits_fit before [] = true
edits_fit before (h ∷ l) = edit_code before h.edit == 0 && edits_fit (before ++ (h ∷ [])) l

-- ---------------------------------------------------------------- the units are those of the placeholder and the edits

abbrev pub act_units : Act → Edit → List FugueSpan
act_units (Insert lamport c) e = units_of (new_span e.id lamport c)
act_units (Delete n reversed target) e = []

unfoldable pub edit_units : List Held → List FugueSpan
edit_units [] = []
edit_units (h ∷ l) = act_units h.edit.act h.edit ++ edit_units l

abbrev pub made_units : History → List FugueSpan
made_units h = (start h.placeholder).list ++ edit_units h.held

-- the same id, lamport and chunk; and real id, which is free for the placeholder's
unfoldable pub same_unit : FugueSpan → FugueSpan → Bool
same_unit u v =
    same_id u.id v.id && (u.lamport == v.lamport && (u.content.start == v.content.start
    && (u.content.end == v.content.end && (u.id.peer == UNKNOWN_PEER || same_opt u.real_id v.real_id))))

-- as many, and each is one of them (no id is there twice)
unfoldable pub same_units : List FugueSpan → List FugueSpan → Bool
same_units us made = length us == length made && every (λ (u : FugueSpan). some (same_unit u) made) us

-- ---------------------------------------------------------------- targets

unfoldable pub same_ranges : List Range → List Range → Bool
same_ranges [] [] = true
same_ranges [] (s ∷ ss) = false
same_ranges (r ∷ rs) [] = false
same_ranges (r ∷ rs) (s ∷ ss) = (same_id r.id s.id && r.len == s.len) && same_ranges rs ss

unfoldable pub total : List Range → ℕ
total [] = 0
total (r ∷ rs) = r.len + total rs

-- the units that ranges name, in list order, as ranges
unfoldable pub ranges_in : List FugueSpan → List Range → List Range
ranges_in us rs = ranges_of (map (λ (u : FugueSpan). u.id) (keep_if (λ (u : FugueSpan). in_ranges u.id rs) us))

abbrev pub act_length : Act → ℕ
act_length (Insert lamport c) = 0
act_length (Delete n reversed target) = n

-- a delete's targets are its length of distinct units of the list, in list order, in ranges joined while consecutive; an insert has none
unfoldable pub targets_fit : List FugueSpan → Held → Bool
targets_fit us h = total h.took == act_length h.edit.act && same_ranges h.took (ranges_in us h.took)

-- ---------------------------------------------------------------- 15

-- all target ranges, in the order of their edits
unfoldable pub target_list : List Held → List Range
target_list [] = []
target_list (h ∷ l) = h.took ++ target_list l

-- a well-formed history, as stored: rooms for spans and targets, and a list of spans
unfoldable pub valid : ℕ → ℕ → History → Bool
valid spans targets h =
    (fits spans h.list && (fits targets (target_list h.held) && nat_le (length h.held) EDITS))
    && (well_formed h.list && (edits_fit [] h.held
    && (same_units (expand h.list) (made_units h) && every (targets_fit (expand h.list)) h.held)))
