-- Buffers that calls lead to from an opening: their list is the walk of the Fugue tree, after every call, taken or refused.
use Prim.Native.Nat.{ℕ}
use mathlib.Core.Path.{◌≡◌}
use Rattle.span.specs.Units.{expand}
use Rattle.store.specs.Header.{room, spans_of}
use Rattle.fugue.specs.Tree.{walk, sort_id}
use Rattle.history.proofs.Histories.{is_walk}
use Rattle.tracker.specs.Rows.{target_room, history_in}
use Rattle.tracker.specs.Calls.{Lent, said, Reaches}
use Rattle.tracker.proofs.Outcomes.{by_calls}

-- THE LIST IS THE WALK, of the entries (01, "Tree")
pub list_is_walk_calls : (n : ℕ) (a : Lent) → Reaches n a → expand (spans_of a.spans) ≡ walk (sort_id (expand (spans_of a.spans)))
unfolding history_in
list_is_walk_calls n a k = is_walk n (room a.spans) (target_room a.targets) (said a) (by_calls n a k)
