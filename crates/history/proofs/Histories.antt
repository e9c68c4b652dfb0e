-- What holds of every history made by history calls from its start: its list is the walk of the tree, it is well formed (15 is never given), delete counts stay within
-- i16, and 12 is never given.
use Prim.Native.Nat.{ℕ, suc, ◌≤◌}
use mathlib.Core.Path.{◌≡◌, refl, sym, ap, subst, ◌∙◌}
use mathlib.Core.Bool.{Bool, true, false, ◌&&◌, cond}
use mathlib.Core.List.{List, [], ◌∷◌}
use native.Mathlib.Omega.{arith}
use lib.Dec.{ltb}
use lib.IntN.{pos}
use lib.ListN.{length}
use lib.Signed.{mag}
use borrow.Author.Tests.{lt-ltb}
use Rattle.span.specs.declared.ids.Id.{Id}
use Rattle.span.specs.declared.span.FugueSpan.{FugueSpan}
use Rattle.span.specs.Status.{in_i16}
use Rattle.span.specs.Units.{expand}
use Rattle.units.specs.Lists.{every}
use Rattle.units.specs.Delta.{insertable}
use Rattle.fugue.specs.Tree.{walk, sort_id}
use Rattle.history.specs.Edit.{Version, Edit, Held, History}
use Rattle.history.specs.Version.{below}
use Rattle.history.specs.Checkout.{in_ranges, deletes_in, status_at}
use Rattle.history.specs.Deltas.{spans_between}
use Rattle.history.specs.Valid.{valid}
use Rattle.history.specs.Codes.{on_units, arrive_of}
use Rattle.history.specs.Demand.{Accepted, arrive_all}
use Rattle.history.specs.ByCalls.{ByCalls, edited}
use Rattle.history.proofs.Arrive.{real}
use Rattle.history.proofs.Converge.{list_is_walk}
use Rattle.history.proofs.Reals.{no_12}
use Rattle.history.proofs.Reached.{Reached, reached, on_units_lem}
use Rattle.history.proofs.Valid.{is_valid}

module _ (n spans targets : ℕ) where
  -- THE LIST IS THE WALK, for histories made by history calls from their start (01, "Tree").
  pub is_walk : (h : History) → ByCalls n spans targets h → expand h.list ≡ walk (sort_id (expand h.list))
  is_walk h b = on (reached n spans targets h b)
    where
      on : Reached n spans targets h → expand h.list ≡ walk (sort_id (expand h.list))
      on t = subst (λ (z : List FugueSpan). z ≡ walk (sort_id z)) (ap (λ (z : History). z.list) (sym (on_units_lem n spans targets h t)) ∙ (unfold on_units in refl)) (list_is_walk n t.done t.units t.key t.run)

  -- delete counts stay within i16: there are at most 2,000 edits
  few_deletes : (v : Version) (l : List Held) (i : Id) → deletes_in v l i ≤ length l
  unfolding deletes_in
  few_deletes v [] i = omega arith
  few_deletes v (x ∷ l) i = go (below v x.edit.id && in_ranges i x.took) (few_deletes v l i)
    where
      go : (b : Bool) → deletes_in v l i ≤ length l → cond b (suc (deletes_in v l i)) (deletes_in v l i) ≤ suc (length l)
      go true k = omega arith
      go false k = omega arith

  pub counts_fit : (h : History) → ByCalls n spans targets h → (v : Version) (i : Id) → in_i16 (status_at v h.held i).delete_times ≡ true
  unfolding in_i16 status_at
  counts_fit h b v i = on (reached n spans targets h b)
    where
      on : Reached n spans targets h → ltb (mag (pos (deletes_in v h.held i))) 32768 ≡ true
      on t =
          let same : length (on_units h).held ≡ length h.held = (unfold on_units in refl) in
          lt-ltb (deletes_in v h.held i) 32768 (omega (arith, few_deletes v h.held i, t.rooms.edits, same, ap (λ (z : History). length z.held) (on_units_lem n spans targets h t)))

  -- 12 is never given
  pub never_12 : (h : History) → ByCalls n spans targets h → (a b : Version) → every insertable (spans_between a b (on_units h)) ≡ true
  never_12 h c a b = on (reached n spans targets h c)
    where
      on : Reached n spans targets h → every insertable (spans_between a b (on_units h)) ≡ true
      on t = ap (λ (z : History). every insertable (spans_between a b z)) (on_units_lem n spans targets h t)
          ∙ no_12 n t.done t.units t.key t.run t.reals (real n t.done t.units t.key t.run) t.store.units a b

  -- 15 is never given
  pub never_15 : (h : History) → ByCalls n spans targets h → valid spans targets h ≡ true
  never_15 h c = on (reached n spans targets h c)
    where
      on : Reached n spans targets h → valid spans targets h ≡ true
      on t = ap (valid spans targets) t.is ∙ is_valid n t.done t.arrivals t.units t.key t.run t.store spans targets t.rooms.joined t.rooms.units t.rooms.ranges t.rooms.edits

  -- edits accepted one after another make a history made by calls
  pub arrivals_are_calls : (es : List Edit) (h : History) → ByCalls n spans targets h → Accepted spans targets h es → ByCalls n spans targets (arrive_all spans targets h es)
  unfolding Accepted arrive_all
  arrivals_are_calls [] h c a = c
  arrivals_are_calls (e ∷ es) h c a = arrivals_are_calls es (arrive_of spans targets h e).1 (edited h e c a.0) a.1
