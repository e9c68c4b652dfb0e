-- What each rope call answers: 0 or the number of 01's refusal, from the whole input, and the list afterwards. 15 goes first and 13 last, else the lowest. Assumes nothing.
use Rattle.std.specs.Prelude.{ℕ, zero, suc, ◌+◌, Bool, false, not, ◌&&◌, ◌||◌, List, [], ◌∷◌, ℤ, pos, ◌+ℤ◌, ◌-ℤ◌, length, if◌then◌else◌, nat_le, ◌==◌, Some}
use Rattle.std.specs.Int.Signed.{le_z}
use Rattle.span.specs.declared.ids.Id.{Id}
use Rattle.span.specs.declared.span.FugueSpan.{FugueSpan}
use Rattle.span.specs.Chunk.{formed}
use Rattle.span.specs.Ids.{UNKNOWN_PEER, inc_id, room_opt}
use Rattle.span.specs.Status.{eq_z, in_i16}
use Rattle.span.specs.Span.{len_span, ids_ok}
use Rattle.span.specs.Units.{expand, join}
use Rattle.units.specs.Place.{mem_id, shown, insert_units}
use Rattle.units.specs.Limits.{UNITS, fits}
use Rattle.units.specs.Lists.{every, keep_if, over}
use Rattle.units.specs.Change.{SetFuture, delete_units, pieces, base_of, in_range, update_units, clear_units}
use Rattle.units.specs.Delta.{Entry, entries, insertable}
use Rattle.units.specs.Query.{placeholder}
use Rattle.units.specs.Store.{well_formed}

-- a number unless a test holds, and else what follows
abbrev pub unless : Bool → ℕ → ℕ → ℕ
unless ok number rest = if ok then rest else number

-- what an accepted call leaves, or what was there if the call is refused
abbrev pub kept : {A : Type 0} → ℕ → A → A → A
kept code new old = if code == 0 then new else old

-- some of the n ids from i on are in the list
unfoldable pub holds_some : ℕ → Id → List FugueSpan → Bool
holds_some zero i l = false
holds_some (suc n) i l = mem_id (Some i) l || holds_some n (inc_id i 1) l

-- all ids a..b of a peer are in the list: as many units as ids, since no id is there twice
unfoldable pub holds_all : ℕ → ℤ → ℤ → List FugueSpan → Bool
holds_all p a b l = eq_z (pos (length (keep_if (in_range p a b) l))) (b -ℤ a)

-- ---------------------------------------------------------------- opening

unfoldable pub placeholder_code : ℕ → ℕ → ℕ
placeholder_code room n =
    unless (not (n == 0)) 1
    (unless (nat_le n UNITS && fits room (placeholder n ∷ [])) 10 0)

-- ---------------------------------------------------------------- insert of a span at a visible position

-- its ids and lamport are in range, and its peer is known
unfoldable pub insert_ids : FugueSpan → Bool
insert_ids s = ids_ok s (len_span s) && not (s.id.peer == UNKNOWN_PEER)

unfoldable pub insert_code : ℕ → List FugueSpan → ℕ → FugueSpan → ℕ
insert_code room l at s =
    unless (well_formed l) 15
    (unless (formed s.content) 1
    (unless (insert_ids s) 2
    (unless (not (holds_some (len_span s) s.id (expand l))) 3
    (unless (nat_le at (shown (expand l))) 8
    (unless (nat_le (length (expand l) + len_span s) UNITS && fits room (join (insert_units at s (expand l)))) 10 0)))))

unfoldable pub insert_of : ℕ → List FugueSpan → ℕ → FugueSpan → ℕ × List FugueSpan
insert_of room l at s =
    (insert_code room l at s, kept (insert_code room l at s) (join (insert_units at s (expand l))) l)

-- ---------------------------------------------------------------- delete of len visible units from a position

unfoldable pub delete_code : ℕ → List FugueSpan → List FugueSpan → ℕ → ℕ → Id → Bool → ℕ
delete_code room out l at len start reversed =
    unless (well_formed l) 15
    (if len == 0 then 0
    else unless (room_opt (Some start) len) 2
    (unless (nat_le (at + len) (shown (expand l))) 8
    (unless (fits room (join (delete_units at len start (expand l)))) 10
    (unless (nat_le (length (pieces l at len reversed)) (length out)) 13 0))))

-- the number, the list, and the output with the removed pieces
unfoldable pub delete_of : ℕ → List FugueSpan → List FugueSpan → ℕ → ℕ → Id → Bool → ℕ × List FugueSpan × List FugueSpan
delete_of room out l at len start reversed = (
  delete_code room out l at len start reversed,
  kept (delete_code room out l at len start reversed) (join (delete_units at len start (expand l))) l,
  kept (delete_code room out l at len start reversed) (over (pieces l at len reversed) out) out,
)

-- ---------------------------------------------------------------- update of the ids a..b of a peer

-- the counts stay within i16
unfoldable pub counts_fit : ℕ → ℤ → ℤ → ℤ → Bool → List FugueSpan → Bool
counts_fit p a b k diff l =
    every (λ (u : FugueSpan). not (in_range p a b u) || in_i16 ((base_of diff u).delete_times +ℤ k)) l

unfoldable pub update_code : ℕ → List FugueSpan → ℕ → ℤ → ℤ → SetFuture → ℤ → Bool → ℕ
update_code room l p a b f k diff =
    unless (well_formed l) 15
    (if le_z b a then 0
    else unless (holds_all p a b (expand l)) 6
    (unless (fits room (join (update_units p a b f k diff (expand l)))) 10
    (unless (counts_fit p a b k diff (expand l)) 11 0)))

unfoldable pub update_of : ℕ → List FugueSpan → ℕ → ℤ → ℤ → SetFuture → ℤ → Bool → ℕ × List FugueSpan
update_of room l p a b f k diff =
    (update_code room l p a b f k diff, kept (update_code room l p a b f k diff) (join (update_units p a b f k diff (expand l))) l)

-- ---------------------------------------------------------------- clear_diff_status, active_real_span_at

unfoldable pub ask_code : List FugueSpan → ℕ
ask_code l = unless (well_formed l) 15 0

unfoldable pub clear_of : List FugueSpan → ℕ × List FugueSpan
clear_of l = (ask_code l, kept (ask_code l) (join (clear_units (expand l))) l)

-- ---------------------------------------------------------------- get_diff

unfoldable pub diff_code : List Entry → List FugueSpan → ℕ
diff_code out l =
    unless (well_formed l) 15
    (unless (every insertable l) 12
    (unless (nat_le (length (entries l)) (length out)) 13 0))

unfoldable pub get_diff_of : List Entry → List FugueSpan → ℕ × List Entry
get_diff_of out l = (diff_code out l, kept (diff_code out l) (over (entries l) out) out)
