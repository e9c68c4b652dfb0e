-- Every history made by history calls from its start keeps the invariant: its list, as stored, is that of units of which all is known.
use Prim.Native.Nat.{ℕ}
use mathlib.Core.Path.{◌≡◌, refl, sym, ap, ◌∙◌}
use mathlib.Core.Bool.{cond}
use mathlib.Core.List.Memᴰ
use mathlib.Core.List.{List, [], ◌∷◌, ◌++◌}
use lib.Dec.{eqb, ltb}
use lib.ListN.{length}
use Rattle.span.specs.Maybe.{OptId}
use Rattle.units.specs.Limits.{EDITS}
use Rattle.units.specs.declared.diff.Entry.{Entry}
use Rattle.fugue.proofs.Keys.{Key}
use Rattle.history.specs.Edit.{Version, Edit, History}
use Rattle.history.specs.Checkout.{units_at, checkout}
use Rattle.history.specs.Arrive.{start, arrive}
use Rattle.history.specs.Codes.{on_units, stored, inside, arrive_code, arrive_of, checkout_code, checkout_of, delta_code, delta_of, arrival_fits}
use Rattle.history.specs.ByCalls.{ByCalls, opened, edited, checked_out, compared}
use Rattle.history.proofs.Context.{base}
use Rattle.history.proofs.Run.{Run}
use Rattle.history.proofs.Start.{run_start}
use Rattle.history.proofs.Arrive.{Arriving, run_arrive}
use Rattle.history.proofs.Valid.{Store, read_back}
use Rattle.history.proofs.Stored.{store_next, store_start}
use Rattle.history.proofs.Accepts.{Five, parts, formed_e, ids_e, arriving}
use Rattle.history.proofs.Reals.{Touched, touched_arrive, touched_checkout}
use Rattle.history.proofs.Rooms.{Rooms, open_few, rooms_start, rooms_arrive, rooms_checkout, checkout_room, delta_room}
use Rattle.history.proofs.Checkouts.{run_checkout, store_checkout}
use Rattle.history.specs.Valid.{edit_code, valid}

-- ---- every history made by calls

-- the units that it stores, with all that is known of them
pub record Reached (n spans targets : ℕ) (h : History) : Type 0 where
  pub units : History
  pub is : h ≡ stored units
  pub done : List Edit
  pub arrivals : List Edit
  pub key : OptId → Key
  pub run : Run n done units key
  pub store : Store n done arrivals units
  pub rooms : Rooms spans targets units
  pub reals : Touched units

none_touched : (n : ℕ) → Touched (start n)
unfolding Touched start
none_touched n x m u k i = absurd (Memᴰ.not-nil m)

module _ (n spans targets : ℕ) where
  arrive_left : (h u : History) (e : Edit) → h ≡ stored u → on_units (stored u) ≡ u → arrive_code spans targets h e ≡ 0 → (arrive_of spans targets h e).1 ≡ stored (arrive u e)
  unfolding arrive_of
  arrive_left h u e d back c = ap (λ (k : ℕ). cond (eqb k 0) (stored (arrive (on_units h) e)) h) c ∙ ap (λ (z : History). stored (arrive z e)) (ap on_units d ∙ back)

  checkout_left : (h u : History) (v : Version) → h ≡ stored u → on_units (stored u) ≡ u → checkout_code spans targets h v ≡ 0 → (checkout_of spans targets h v).1 ≡ stored (checkout v u)
  unfolding checkout_of
  checkout_left h u v d back c = ap (λ (k : ℕ). cond (eqb k 0) (stored (checkout v (on_units h))) h) c ∙ ap (λ (z : History). stored (checkout v z)) (ap on_units d ∙ back)

  delta_left : (h u : History) (a b : Version) (out : List Entry) → h ≡ stored u → on_units (stored u) ≡ u → delta_code spans targets out h a b ≡ 0 → (delta_of spans targets out h a b).1 ≡ stored (checkout a u)
  unfolding delta_of
  delta_left h u a b out d back c = ap (λ (k : ℕ). cond (eqb k 0) (stored (checkout a (on_units h))) h) c ∙ ap (λ (z : History). stored (checkout a z)) (ap on_units d ∙ back)

  back_of : (h : History) (t : Reached n spans targets h) → on_units (stored t.units) ≡ t.units
  back_of h t = read_back n t.done t.arrivals t.units t.key t.run t.store

  pub on_units_lem : (h : History) (t : Reached n spans targets h) → on_units h ≡ t.units
  on_units_lem h t = ap on_units t.is ∙ back_of h t

  pub reached : (h : History) → ByCalls n spans targets h → Reached n spans targets h
  reached h (opened c) = record { units = start n; is = refl; done = base n; arrivals = []; key = (run_start n).0; run = (run_start n).1; store = store_start n (open_few spans n c); rooms = rooms_start spans targets n c; reals = none_touched n }
  reached h (edited g e b c) = on (reached g b)
    where
      on : Reached n spans targets g → Reached n spans targets (arrive_of spans targets g e).1
      on t = record {
        units = arrive t.units e;
        is = arrive_left g t.units e t.is (back_of g t) c;
        done = e ∷ t.done;
        arrivals = t.arrivals ++ (e ∷ []);
        key = next.0;
        run = next.1;
        store = store_next n t.done t.arrivals t.units t.store e arr (formed_e n t.done t.arrivals t.units t.key t.run t.store e spans targets ok)
            (ids_e n t.done t.arrivals t.units t.key t.run t.store e spans targets ok) five.edit;
        rooms = rooms_arrive spans targets t.units e t.rooms five.fits five.few;
        reals = touched_arrive n t.done t.units t.key t.run t.reals e arr;
      }
        where
          ok : arrive_code spans targets (stored t.units) e ≡ 0
          ok = ap (λ (z : History). arrive_code spans targets z e) (sym t.is) ∙ c

          five : Five (valid spans targets (stored t.units)) (edit_code t.units.held e) (inside e.act e.at (units_at e.context t.units)) (ltb (length t.units.held) EDITS) (arrival_fits spans targets t.units e)
          five = parts n t.done t.arrivals t.units t.key t.run t.store e spans targets ok

          arr : Arriving n t.done t.units e
          arr = arriving n t.done t.arrivals t.units t.key t.run t.store e spans targets ok

          next : (key2 : OptId → Key) × Run n (e ∷ t.done) (arrive t.units e) key2
          next = run_arrive n t.done t.units t.key t.run e arr
  reached h (checked_out g v b c) = on (reached g b)
    where
      on : Reached n spans targets g → Reached n spans targets (checkout_of spans targets g v).1
      on t = record {
        units = checkout v t.units;
        is = checkout_left g t.units v t.is (back_of g t) c;
        done = t.done;
        arrivals = t.arrivals;
        key = t.key;
        run = run_checkout n t.done t.units t.key t.run v;
        store = store_checkout n t.done t.units t.key t.run v t.arrivals t.store;
        rooms = rooms_checkout spans targets t.units v t.rooms (checkout_room spans targets g t.units v (on_units_lem g t) c);
        reals = touched_checkout n t.done t.units t.key t.run t.reals v;
      }
  reached h (compared g v w out b c) = on (reached g b)
    where
      on : Reached n spans targets g → Reached n spans targets (delta_of spans targets out g v w).1
      on t = record {
        units = checkout v t.units;
        is = delta_left g t.units v w out t.is (back_of g t) c;
        done = t.done;
        arrivals = t.arrivals;
        key = t.key;
        run = run_checkout n t.done t.units t.key t.run v;
        store = store_checkout n t.done t.units t.key t.run v t.arrivals t.store;
        rooms = rooms_checkout spans targets t.units v t.rooms (delta_room spans targets out g t.units v w (on_units_lem g t) t.store.units c);
        reals = touched_checkout n t.done t.units t.key t.run t.reals v;
      }
