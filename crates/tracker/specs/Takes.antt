-- Target ranges, taken from left to right: ids that follow the last range join it. Assumes nothing.
use Rattle.std.specs.Prelude.{ℕ, zero, suc, ◌+◌, ◌<◌, ◌≤◌, ◌≡◌, true, List, [], ◌∷◌, ◌++◌, map, length, Some, None}
use Rattle.span.specs.declared.ids.Id.{Id}
use Rattle.span.specs.Ids.{room_of, inc_id}
use Rattle.span.specs.declared.span.FugueSpan.{FugueSpan}
use Rattle.rope.specs.declared.change.Delete.{Delete}
use Rattle.units.specs.Change.{taken}
use Rattle.history.specs.Checkout.{ranges_of}
use Rattle.tracker.specs.Maybe.{OptTarget}
use Rattle.tracker.specs.declared.range.Taken.{Taken}

-- n ids from i on
unfoldable pub ids_from : Id → ℕ → List Id
ids_from i zero = []
ids_from i (suc n) = i ∷ ids_from (inc_id i 1) n

abbrev pub last_ids : OptTarget → List Id
last_ids None = []
last_ids (Some t) = ids_from t.id t.len

abbrev pub last_len : OptTarget → ℕ
last_len None = 0
last_len (Some t) = t.len

-- a range with some ids, and counters for them
abbrev pub LastOk : OptTarget → Type 0
LastOk None = Unit {0}
LastOk (Some t) = (0 < t.len) × (room_of t.id t.len ≡ true)

-- no more ranges before the last than ids, as many ids as there are units at the most
unfoldable pub ids_most : Taken → ℕ
ids_most t = t.before + last_len t.last

-- how many ranges there are once the ids `is` are taken too
unfoldable pub ranges_with : Taken → List Id → ℕ
ranges_with t is = t.before + length (ranges_of (last_ids t.last ++ is))

-- r is t with k ids from i on taken too
pub record TakesOn (t : Taken) (i : Id) (k : ℕ) (r : Taken) : Type 0 where
  pub last : LastOk r.last
  pub few : ids_most r ≤ ids_most t + k
  pub ranges : (is : List Id) → ranges_with r is ≡ ranges_with t (ids_from i k ++ is)

-- the ids of the units that a delete takes
abbrev pub ids_taken : Delete → List FugueSpan → List Id
ids_taken d us = map (λ (u : FugueSpan). u.id) (taken d.at d.len us)
