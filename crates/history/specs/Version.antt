-- Versions: what is in one, what a history holds, and when a version is well formed (6), closed and ending inside no delete (7). Assumes nothing.
use Rattle.std.specs.Prelude.{ℕ, ◌+◌, Bool, true, not, ◌&&◌, ◌||◌, List, [], ◌∷◌, ℤ, pos, negsuc, ◌+ℤ◌, if◌then◌else◌, nat_le, nat_lt, ◌==◌}
use Rattle.std.specs.Int.Signed.{le_z, lt_z}
use Rattle.span.specs.declared.ids.Id.{Id}
use Rattle.span.specs.Ids.{UNKNOWN_PEER}
use Rattle.units.specs.Lists.{every}
use Rattle.units.specs.Codes.{unless}
use Rattle.history.specs.Edit.{Count, Version, Act, Insert, Delete, Edit, Held, size}

-- a count as a number; below zero it is none (and its version is refused, 6)
abbrev pub number : ℤ → ℕ
number (pos n) = n
number (negsuc n) = 0

-- a peer's count in a version
unfoldable pub count_of : Version → ℕ → ℕ
count_of [] p = 0
count_of (k ∷ v) p = if k.peer == p then number k.many else count_of v p

-- an id's counter is below its peer's count
unfoldable pub below : Version → Id → Bool
below v i = lt_z i.counter (pos (count_of v i.peer))

-- a unit is in a version; the placeholder's are in every one
unfoldable pub in_version : Version → Id → Bool
in_version v i = i.peer == UNKNOWN_PEER || below v i

-- the count held for a peer
unfoldable pub held_count : List Held → ℕ → ℕ
held_count [] p = 0
held_count (h ∷ l) p = if h.edit.id.peer == p then size h.edit + held_count l p else held_count l p

-- ---------------------------------------------------------------- well formed, and held

-- peers rise strictly
unfoldable pub above : ℕ → Version → Bool
above p [] = true
above p (k ∷ v) = nat_lt p k.peer

unfoldable pub rising : Version → Bool
rising [] = true
rising (k ∷ v) = above k.peer v && rising v

-- counts are at least 1, and held
unfoldable pub is_held : List Held → Count → Bool
is_held held k = le_z (pos 1) k.many && le_z k.many (pos (held_count held k.peer))

unfoldable pub named : List Held → Version → Bool
named held v = rising v && every (is_held held) v

-- ---------------------------------------------------------------- closed, and ending inside no delete

-- a version covers another
unfoldable pub within : Version → Version → Bool
within c v = every (λ (k : Count). nat_le (number k.many) (count_of v k.peer)) c

-- a version that covers the first of n counters covers them all, where they are a delete's
abbrev pub whole_act : Act → Version → Id → Bool
whole_act (Insert lamport c) v i = true
whole_act (Delete n reversed start) v i = le_z (i.counter +ℤ pos n) (pos (count_of v i.peer))

-- an edit that is covered, even in part, has its context covered too; and a delete is covered whole
unfoldable pub closed_for : Version → Edit → Bool
closed_for v e = not (below v e.id) || (within e.context v && whole_act e.act v e.id)

unfoldable pub closed : List Held → Version → Bool
closed held v = every (λ (h : Held). closed_for v h.edit) held

unfoldable pub version_code : List Held → Version → ℕ
version_code held v = unless (named held v) 6 (unless (closed held v) 7 0)
