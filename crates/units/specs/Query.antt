-- What a list shows, and the lists that a store starts with. Assumes nothing.
use Rattle.std.specs.Prelude.{ℕ, ◌-◌, List, [], ◌∷◌, pos, if◌then◌else◌, nat_lt}
use Rattle.span.specs.declared.ids.Id.{Id}
use Rattle.span.specs.declared.span.FugueSpan.{FugueSpan}
use Rattle.span.specs.Chunk.{UNKNOWN, chunk}
use Rattle.span.specs.Ids.{UNKNOWN_PEER, id, inc_id}
use Rattle.span.specs.Status.{activated}
use Rattle.span.specs.Span.{active_len, real_of, new_span}
use Rattle.units.specs.Lists.{keep_if}

-- the visible units, in list order (`shown` is their number)
unfoldable pub visibles : List FugueSpan → List FugueSpan
visibles l = keep_if (λ (u : FugueSpan). activated u.status) l

-- the answer of active_real_span_at: a real id and the units left in its span, or nothing
pub data RealSpan : Type 0 where
  Nothing : RealSpan
  At : Id → ℕ → RealSpan

-- the real id (own id if none) at a visible position of a joined list, and the units left in its span
unfoldable pub real_span_at : List FugueSpan → ℕ → RealSpan
real_span_at [] at = Nothing
real_span_at (s ∷ l) at =
    if nat_lt at (active_len s) then At (inc_id (real_of s) at) (active_len s - at) else real_span_at l (at - active_len s)

-- a placeholder of n unknown units: the unknown peer, counter 0, lamport 0
unfoldable pub placeholder : ℕ → FugueSpan
placeholder n = new_span (id UNKNOWN_PEER (pos 0)) 0 (chunk UNKNOWN n)
