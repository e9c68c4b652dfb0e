-- What an accepted edit is: from the number 0 back to the conditions that it stands for.
use Prim.Native.Nat.{ℕ, suc, ◌<◌, ◌≤◌}
use mathlib.Core.Path.{◌≡◌, refl, sym, ap, subst, ◌∙◌}
use mathlib.Core.Logic.{◌⊎◌, inl, inr}
use mathlib.Core.Bool.{Bool, true, false, not, ◌&&◌, ◌||◌, cond, true≢false, and-eq-true_iff}
use mathlib.Core.List.Memᴰ
use mathlib.Core.List.{List, [], ◌∷◌}
use native.Mathlib.Omega.{arith}
use lib.Dec.{eqb, leb, ltb}
use lib.IntN.{ℤ, pos, negsuc}
use lib.Signed.{le_z}
use lib.ListN.{length}
use borrow.Author.Tests.{leb-true}
use Rattle.std.specs.Prelude.{Some}
use Rattle.span.specs.Maybe.{OptId}
use Rattle.span.specs.Ids.{UNKNOWN_PEER, room_opt}
use Rattle.span.specs.Status.{eq_z}
use Rattle.span.proofs.StatusLaws.{eq_z-true}
use Rattle.units.specs.Limits.{PEERS, EDITS}
use Rattle.units.specs.Lists.{every}
use Rattle.fugue.proofs.Keys.{Key}
use Rattle.fugue.proofs.Tests.{Test, pass, fail, eqb_test}
use Rattle.fugue.proofs.Clocks.{cnt, Fits}
use Rattle.history.specs.Edit.{Version, Edit, size, Held, History}
use Rattle.history.specs.Version.{number, count_of, held_count, rising, is_held, named, closed_for, closed}
use Rattle.history.specs.Checkout.{units_at}
use Rattle.history.specs.Valid.{act_formed, act_ids, has_peer, peer_count, own_count, edit_code, valid}
use Rattle.history.specs.Codes.{on_units, stored, inside, arrival_fits, arrive_code}
use Rattle.history.specs.Demand.{InSet, first_of}
use Rattle.history.proofs.Context.{count, holds, clock, Known, holds_known, count_known, count_unknown, Natural, lt-below, base}
use Rattle.history.proofs.Run.{MemE, MemH, Run}
use Rattle.history.proofs.Arrive.{Arriving}
use Rattle.history.proofs.Sets.{room_known, formed_some, count_of-le, closed_within, base_is}
use Rattle.history.proofs.Valid.{Store, read_back}
use Rattle.history.proofs.Codes.{every_in}

-- ---- codes that are 0

pub record Five (v : Bool) (k : ℕ) (i l f : Bool) : Type 0 where
  pub valid : v ≡ true
  pub edit : k ≡ 0
  pub inside : i ≡ true
  pub few : l ≡ true
  pub fits : f ≡ true

five_back : (v : Bool) (k : ℕ) (i l f : Bool) → ◌≡◌ {A = ℕ} (cond v (cond (eqb k 0) (cond i (cond l (cond f 0 10) 9) 8) k) 15) 0 → Five v k i l f
five_back v k i l f e = go v i l f (eqb_test k 0) e
  where
    bad : {A : Type 0} (m : ℕ) → suc m ≡ 0 → A
    bad m h = absurd (let z : ⊥ = omega arith in z)

    at : (i l f : Bool) → k ≡ 0 → ◌≡◌ {A = ℕ} (cond i (cond l (cond f 0 10) 9) 8) 0 → Five true k i l f
    at true true true d h = record { valid = refl; edit = d; inside = refl; few = refl; fits = refl }
    at true true false d h = bad 9 h
    at true false f d h = bad 8 h
    at false l f d h = bad 7 h

    go : (v i l f : Bool) → Test (eqb k 0) (k ≡ 0) → ◌≡◌ {A = ℕ} (cond v (cond (eqb k 0) (cond i (cond l (cond f 0 10) 9) 8) k) 15) 0 → Five v k i l f
    go true i l f (pass b d) h = at i l f d (ap (λ (z : Bool). cond z (cond i (cond l (cond f 0 10) 9) 8) k) (sym b) ∙ h)
    go true i l f (fail b d) h = absurd (d (ap (λ (z : Bool). cond z (cond i (cond l (cond f 0 10) 9) 8) k) (sym b) ∙ h))
    go false i l f t h = bad 14 h

record Six (a b c d f g : Bool) : Type 0 where
  one : a ≡ true
  two : b ≡ true
  four : c ≡ true
  five : d ≡ true
  six : f ≡ true
  seven : g ≡ true

six_back : (a b c d f g : Bool) → ◌≡◌ {A = ℕ} (cond a (cond b (cond c (cond d (cond f (cond g 0 7) 6) 5) 4) 2) 1) 0 → Six a b c d f g
six_back true true true true true true h = record { one = refl; two = refl; four = refl; five = refl; six = refl; seven = refl }
six_back true true true true true false h = absurd (let z : ⊥ = omega arith in z)
six_back true true true true false g h = absurd (let z : ⊥ = omega arith in z)
six_back true true true false f g h = absurd (let z : ⊥ = omega arith in z)
six_back true true false d f g h = absurd (let z : ⊥ = omega arith in z)
six_back true false c d f g h = absurd (let z : ⊥ = omega arith in z)
six_back false b c d f g h = absurd (let z : ⊥ = omega arith in z)

-- ---- what is held

count_le : (z : ℤ) (m : ℕ) → (le_z (pos 1) z && le_z z (pos m)) ≡ true → number z ≤ m
count_le (pos k) m e = leb-true k m ((and-eq-true_iff (le_z (pos 1) (pos k)) (leb k m)).0 e).1
count_le (negsuc k) m e = absurd (true≢false (sym e))

held-le : (held : List Held) (v : Version) → every (is_held held) v ≡ true → (p : ℕ) → count_of v p ≤ held_count held p
unfolding every is_held count_of
held-le held [] h p = omega arith
held-le held (k ∷ v) h p =
    let t = (and-eq-true_iff (is_held held k) (every (is_held held) v)).0 h in
    pick (eqb_test k.peer p) (count_le k.many (held_count held k.peer) t.0) (held-le held v t.1 p)
  where
    G : Bool → Type 0
    G z = cond z (number k.many) (count_of v p) ≤ held_count held p

    pick : Test (eqb k.peer p) (k.peer ≡ p) → number k.many ≤ held_count held k.peer → count_of v p ≤ held_count held p → G (eqb k.peer p)
    pick (pass b d) x y = subst G (sym b) (subst (λ (q : ℕ). number k.many ≤ held_count held q) d x)
    pick (fail b d) x y = subst G (sym b) y

pub named-le : (held : List Held) (v : Version) → named held v ≡ true → (p : ℕ) → count_of v p ≤ held_count held p
unfolding named
named-le held v e p = held-le held v ((and-eq-true_iff (rising v) (every (is_held held) v)).0 e).1 p

-- ---- an accepted edit

module _ (n : ℕ) (done A : List Edit) (h : History) (key : OptId → Key) (r : Run n done h key) (st : Store n done A h) (e : Edit) (spans targets : ℕ) (ok : arrive_code spans targets (stored h) e ≡ 0) where
  back : on_units (stored h) ≡ h
  back = read_back n done A h key r st

  pub parts : Five (valid spans targets (stored h)) (edit_code h.held e) (inside e.act e.at (units_at e.context h)) (ltb (length h.held) EDITS) (arrival_fits spans targets h e)
  unfolding arrive_code stored
  parts = subst (λ (z : History). Five (valid spans targets (stored h)) (edit_code h.held e) (inside e.act e.at (units_at e.context z)) (ltb (length h.held) EDITS) (arrival_fits spans targets z e)) back
      (five_back (valid spans targets (stored h)) (edit_code h.held e) (inside e.act e.at (units_at e.context (on_units (stored h)))) (ltb (length h.held) EDITS) (arrival_fits spans targets (on_units (stored h)) e) ok)

  conditions : Six (act_formed e.act) (room_opt (Some e.id) (size e) && act_ids e.act) (has_peer h.held e.id.peer || not (leb PEERS (peer_count h.held)))
      (eq_z e.id.counter (pos (held_count h.held e.id.peer))) (named h.held e.context) (closed h.held e.context && own_count e)
  unfolding edit_code
  conditions = six_back (act_formed e.act) (room_opt (Some e.id) (size e) && act_ids e.act) (has_peer h.held e.id.peer || not (leb PEERS (peer_count h.held)))
      (eq_z e.id.counter (pos (held_count h.held e.id.peer))) (named h.held e.context) (closed h.held e.context && own_count e) parts.edit

  sound_e : Known e × Natural e.id
  sound_e = room_known e.id (size e) ((and-eq-true_iff (room_opt (Some e.id) (size e)) (act_ids e.act)).0 conditions.two).0

  pub formed_e : act_formed e.act ≡ true
  formed_e = conditions.one

  pub ids_e : (room_opt (Some e.id) (size e) && act_ids e.act) ≡ true
  ids_e = conditions.two

  holds_is : (p : ℕ) → ¬ (p ≡ UNKNOWN_PEER) → holds n e p ≡ count_of e.context p
  holds_is p k = holds_known n e p sound_e.0 ∙ count_known n e.context p k

  fits_e : Fits (clock n) done e
  unfolding closed
  fits_e = record {
    own = sym (st.counts e.id.peer sound_e.0) ∙ ap number (sym (eq_z-true e.id.counter (pos (held_count h.held e.id.peer)) conditions.five));
    held = λ (p : ℕ). held p (eqb_test p UNKNOWN_PEER);
    closed = λ (f : Edit) (m : MemE f done) (b : first_of f < holds n e f.id.peer) (p : ℕ). below_of f m b p (st.from f m);
  }
    where
      held : (p : ℕ) → Test (eqb p UNKNOWN_PEER) (p ≡ UNKNOWN_PEER) → holds n e p ≤ cnt (clock n) done p
      held p (pass b d) =
          let x : holds n e p ≡ n = holds_known n e p sound_e.0 ∙ (ap (count n e.context) d ∙ count_unknown n e.context) in
          let y : cnt (clock n) done p ≡ n = ap (cnt (clock n) done) d ∙ r.base in
          omega arith
      held p (fail b d) = omega (arith, holds_is p d, named-le h.held e.context conditions.six p, st.counts p d)

      all_closed : every (λ (x : Held). closed_for e.context x.edit) h.held ≡ true
      all_closed = ((and-eq-true_iff (every (λ (x : Held). closed_for e.context x.edit) h.held) (own_count e)).0 conditions.seven).0

      covered : (f : Edit) → Known f → Natural f.id → closed_for e.context f ≡ true → first_of f < holds n e f.id.peer → (p : ℕ) → Test (eqb p UNKNOWN_PEER) (p ≡ UNKNOWN_PEER) → holds n f p ≤ holds n e p
      covered f k nat c b p (pass t d) = omega (arith, holds_known n f p k, holds_known n e p sound_e.0, ap (count n f.context) d ∙ count_unknown n f.context, ap (count n e.context) d ∙ count_unknown n e.context)
      covered f k nat c b p (fail t d) = omega (
        arith,
        holds_known n f p k ∙ count_known n f.context p d,
        holds_is p d,
        count_of-le f.context e.context (closed_within e.context f c (lt-below e.context f.id nat (subst (λ (z : ℕ). first_of f < z) (holds_is f.id.peer k) b))) p,
      )

      below_of : (f : Edit) → MemE f done → first_of f < holds n e f.id.peer → (p : ℕ) → MemE f (base n) ⊎ InSet f A → holds n f p ≤ holds n e p
      below_of f m b p (inl k) =
          let z : holds n f p ≡ 0 = ap (λ (x : Edit). holds n x p) (base_is n f k).0 ∙ (unfold holds in refl) in
          omega arith
      below_of f m b p (inr k) = go (Memᴰ.of_map (λ (x : Held). x.edit) h.held (subst (λ (z : List Edit). InSet f z) (sym st.order) k))
        where
          go : (x : Held) × MemH x h.held × (x.edit ≡ f) → holds n f p ≤ holds n e p
          go t = covered f (subst Known t.2 (r.tooks t.0 t.1).1) (r.natural f m)
              (subst (λ (z : Edit). closed_for e.context z ≡ true) t.2 (every_in (λ (x : Held). closed_for e.context x.edit) h.held all_closed t.0 t.1)) b p (eqb_test p UNKNOWN_PEER)

  pub arriving : Arriving n done h e
  arriving = record { known = sound_e.0; natural = sound_e.1; fits = fits_e; some = formed_some e.act conditions.one; inside = parts.inside }
