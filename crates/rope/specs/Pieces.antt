-- A change, span by span: the units of a span that change, the pieces that it is cut into, and what is left for the spans after.
-- Assumes nothing.
use Rattle.std.specs.Prelude.{ℕ, ◌+◌, ◌-◌, ◌≤◌, min, ◌≡◌, true, List, [], ◌∷◌, ◌++◌, ℤ, pos, negsuc, ◌+ℤ◌, if◌then◌else◌, nat_lt, ◌==◌, Some}
use Rattle.span.specs.declared.span.FugueSpan.{FugueSpan}
use Rattle.span.specs.Ids.{room_opt, inc_id}
use Rattle.span.specs.Status.{activated, in_i16}
use Rattle.span.specs.Span.{len_span, active_len, part_span}
use Rattle.rope.specs.declared.change.Delete.{Delete}
use Rattle.rope.specs.declared.change.Update.{Update}
use Rattle.rope.specs.declared.change.Change.{Change}
use Rattle.rope.specs.declared.change.Change.TheVariants as Ch
use Rattle.rope.specs.declared.change.Part.{Part}
use Rattle.units.specs.Change.{delete_unit, base_of, update_unit}

abbrev pub part : ℕ → ℕ → Part
part i j = record { from = i; to = j }

-- ---- a delete

-- the visible units of a span that it takes
unfoldable pub delete_cut : Delete → FugueSpan → Part
delete_cut d s = part (min d.at (active_len s)) (min (d.at + d.len) (active_len s))

unfoldable pub took_of : Delete → FugueSpan → ℕ
took_of d s = (delete_cut d s).to - (delete_cut d s).from

-- what is left of it after a span
unfoldable pub delete_after : Delete → FugueSpan → Delete
delete_after d s =
    record { at = d.at - (delete_cut d s).from; len = d.len - took_of d s; start = inc_id d.start (took_of d s) }

-- its positions fit u32, and there is a real id for each unit that it takes
pub record CanDelete (d : Delete) : Type 0 where
  pub fits : d.at + d.len ≤ 4294967295
  pub room : room_opt (Some d.start) d.len ≡ true

-- ---- an update

-- its units among n units of its peer from counter c on
unfoldable pub part_at : Update → ℕ → ℕ → Part
part_at u c n = part (min (u.from - c) n) (min (u.to - c) n)

abbrev pub part_from : Update → ℤ → ℕ → Part
part_from u (pos c) n = part_at u c n
part_from u (negsuc c) n = part 0 0

unfoldable pub update_cut : Update → FugueSpan → Part
update_cut u s = if s.id.peer == u.peer then part_from u s.id.counter (len_span s) else part 0 0

-- ---- either

unfoldable pub cut_of : Change → FugueSpan → Part
cut_of (Ch.Delete d) s = delete_cut d s
cut_of (Ch.Update u) s = update_cut u s

unfoldable pub after_of : Change → FugueSpan → Change
after_of (Ch.Delete d) s = Ch.Delete (delete_after d s)
after_of (Ch.Update u) s = Ch.Update u

unfoldable pub change_span : Change → FugueSpan → FugueSpan
change_span (Ch.Delete d) s = delete_unit d.start s
change_span (Ch.Update u) s = update_unit u.set u.change u.diff s

unfoldable pub CanCut : Change → Type 0
CanCut (Ch.Delete d) = CanDelete d
CanCut (Ch.Update u) = Unit {0}

-- a delete takes visible units, and a count stays within i16
unfoldable pub CanChange : Change → FugueSpan → Type 0
CanChange (Ch.Delete d) s = activated s.status ≡ true
CanChange (Ch.Update u) s = in_i16 ((base_of u.diff s).delete_times +ℤ u.change) ≡ true

-- the units from i up to j as a span, if there are any
unfoldable pub part_of : FugueSpan → ℕ → ℕ → List FugueSpan
part_of s i j = if nat_lt i j then part_span s i j ∷ [] else []

unfoldable pub changed_of : Change → FugueSpan → ℕ → ℕ → List FugueSpan
changed_of e s i j = if nat_lt i j then change_span e (part_span s i j) ∷ [] else []

-- the pieces of a span, those that change changed
unfoldable pub pieces_of : Change → FugueSpan → List FugueSpan
pieces_of e s =
    part_of s 0 (cut_of e s).from ++ (changed_of e s (cut_of e s).from (cut_of e s).to ++ part_of s (cut_of e s).to (len_span s))

-- the pieces of a list
unfoldable pub all_pieces : Change → List FugueSpan → List FugueSpan
all_pieces e [] = []
all_pieces e (s ∷ l) = pieces_of e s ++ all_pieces (after_of e s) l
