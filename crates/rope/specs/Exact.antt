-- The rows that an update would leave, counted piece by piece. The count that it works on stands apart from the rest of a piece, since the
-- exact sum may be no i16. Assumes nothing.
use Rattle.std.specs.Prelude.{◌+◌, Bool, ◌&&◌, List, [], ◌∷◌, pos, if◌then◌else◌, nat_lt, Some, None}
use Rattle.span.specs.declared.status.Status.{Status}
use Rattle.span.specs.Maybe.{OptStatus}
use Rattle.span.specs.declared.span.FugueSpan.{FugueSpan}
use Rattle.span.specs.Status.{status, eq_z}
use Rattle.span.specs.Span.{joins_span}
use Rattle.rope.specs.declared.exact.Exact.{Exact}
use Rattle.rope.specs.declared.exact.Tail.{Tail}
use Rattle.units.specs.Change.{with_state, base_of}

-- a status with a count of 0
abbrev pub uncounted : Status → Status
uncounted s = status s.future (pos 0)

abbrev pub uncounted_diff : OptStatus → OptStatus
uncounted_diff None = None
uncounted_diff (Some d) = Some (uncounted d)

-- a span with a count of 0 in the status that an update works on
unfoldable pub bare : Bool → FugueSpan → FugueSpan
bare diff x =
    with_state x (if diff then x.status else uncounted x.status) (if diff then uncounted_diff x.diff_status else x.diff_status) x.real_id

-- a span in two: that count, and the rest
unfoldable pub exact_of : Bool → FugueSpan → Exact
exact_of diff x = record { times = (base_of diff x).delete_times; rest = bare diff x }

unfoldable pub joins_exact : Exact → Exact → Bool
joins_exact a b = eq_z a.times b.times && joins_span a.rest b.rest

-- a piece joins the last one
unfoldable pub follows : Tail → Exact → Bool
follows t x = nat_lt 0 t.rows && joins_exact t.last x

-- one more piece: it is a row of its own if it does not join the last
unfoldable pub step_of : Tail → Exact → Tail
step_of t x = record { rows = (if follows t x then t.rows else t.rows + 1); last = x }

-- some more pieces
unfoldable pub tail_of : Bool → Tail → List FugueSpan → Tail
tail_of diff t [] = t
tail_of diff t (x ∷ l) = tail_of diff (step_of t (exact_of diff x)) l
