-- What is stored fits its rooms after every accepted call.
use Prim.Native.Nat.{ℕ, zero, suc, ◌+◌, ◌≤◌}
use mathlib.Core.Path.{◌≡◌, refl, sym, ap, subst, ◌∙◌}
use mathlib.Core.Bool.{Bool, true, false, not, ◌&&◌, cond, and-eq-true_iff}
use mathlib.Core.List.Memᴰ
use mathlib.Core.List.{List, [], ◌∷◌, ◌++◌, append-nil, append_assoc}
use native.Mathlib.Omega.{arith}
use lib.Dec.{leb, ltb}
use lib.ListN.{length, length-append}
use borrow.Author.Tests.{leb-true, ltb-true, ne_eqb}
use Rattle.span.specs.declared.span.FugueSpan.{FugueSpan}
use Rattle.span.specs.Span.{span_code}
use Rattle.span.specs.Units.{units_of, expand, join}
use Rattle.units.specs.Limits.{UNITS, EDITS, fits}
use Rattle.units.specs.Lists.{every}
use Rattle.units.specs.Query.{placeholder}
use Rattle.units.specs.Codes.{placeholder_code}
use Rattle.units.specs.declared.diff.Entry.{Entry}
use Rattle.units.specs.Delta.{insertable}
use Rattle.fugue.proofs.ScanPlace.{Mem}
use Rattle.history.specs.Edit.{Version, Edit, Range, Held, History}
use Rattle.history.specs.Version.{named, closed}
use Rattle.history.specs.Checkout.{units_at, checkout}
use Rattle.history.specs.Arrive.{start, list_after, took_by, hold, arrive}
use Rattle.history.specs.Deltas.{spans_between, delta}
use Rattle.history.specs.Valid.{target_list, valid}
use Rattle.history.specs.Codes.{on_units, made, open_code, arrival_fits, checkout_code, delta_code}
use Rattle.history.proofs.Start.{start-list, holder_code, start_is}
use Rattle.history.proofs.WellUnits.{Units1, units_between_lem}
use Rattle.history.proofs.Stored.{act_length_lem, at_length}
use Rattle.history.proofs.Shorter.{shortest, one_version}

pub record Rooms (spans targets : ℕ) (h : History) : Type 0 where
  pub joined : length (join h.list) ≤ spans
  pub units : length h.list ≤ UNITS
  pub ranges : length (target_list h.held) ≤ targets
  pub edits : length h.held ≤ EDITS

-- ---- opening

open_parts : (spans m : ℕ) → open_code spans (suc m) ≡ 0 → (leb (suc m) UNITS && fits spans (placeholder (suc m) ∷ [])) ≡ true
unfolding open_code placeholder_code
open_parts spans m e = go (leb (suc m) UNITS && fits spans (placeholder (suc m) ∷ []))
    (ap (λ (z : Bool). cond z 0 (cond (not z) (cond (leb (suc m) UNITS && fits spans (placeholder (suc m) ∷ [])) 0 10) 1)) (sym (ne_eqb (suc m) 0 (λ (d : suc m ≡ 0). omega arith))) ∙ e)
  where
    go : (b : Bool) → ◌≡◌ {A = ℕ} (cond b 0 10) 0 → b ≡ true
    go true h = refl
    go false h = absurd (let z : ⊥ = omega arith in z)

pub open_few : (spans n : ℕ) → open_code spans n ≡ 0 → n ≤ UNITS
open_few spans zero e = omega arith
open_few spans (suc m) e = leb-true (suc m) UNITS ((and-eq-true_iff (leb (suc m) UNITS) (fits spans (placeholder (suc m) ∷ []))).0 (open_parts spans m e)).0

open_room : (spans m : ℕ) → open_code spans (suc m) ≡ 0 → 1 ≤ spans
unfolding fits
open_room spans m e = leb-true 1 spans ((and-eq-true_iff (leb (suc m) UNITS) (leb 1 spans)).0 (open_parts spans m e)).1

start_joined : (spans n : ℕ) → open_code spans n ≡ 0 → length (join (start n).list) ≤ spans
unfolding expand
start_joined spans zero e = let q : (start 0).list ≡ [] = (unfold start in refl) in subst (λ (z : List FugueSpan). length (join z) ≤ spans) (sym q) (unfold join in omega arith)
start_joined spans (suc m) e =
    omega (
      arith,
      open_room spans m e,
      shortest (placeholder (suc m) ∷ []) (start (suc m)).list
          (λ (s : FugueSpan) (k : Mem s (placeholder (suc m) ∷ [])). ap span_code (Memᴰ.eq_of_singleton k) ∙ holder_code m (open_few spans (suc m) e)) (append-nil (units_of (placeholder (suc m))) ∙ sym (start_is m)),
    )

pub rooms_start : (spans targets n : ℕ) → open_code spans n ≡ 0 → Rooms spans targets (start n)
rooms_start spans targets n e = record { joined = start_joined spans n e; units = omega (arith, (start-list n).0, open_few spans n e); ranges = (unfold start target_list in omega arith); edits = (unfold start in omega arith) }

-- ---- an arrival

list_snoc : (l : List Held) (x : Held) → target_list (l ++ (x ∷ [])) ≡ target_list l ++ x.took
unfolding target_list
list_snoc [] x = append-nil x.took
list_snoc (y ∷ l) x = ap (λ (z : List Range). y.took ++ z) (list_snoc l x) ∙ sym (append_assoc y.took (target_list l) x.took)

pub rooms_arrive : (spans targets : ℕ) (h : History) (e : Edit) → Rooms spans targets h → arrival_fits spans targets h e ≡ true → ltb (length h.held) EDITS ≡ true → Rooms spans targets (arrive h e)
unfolding arrival_fits fits arrive hold
rooms_arrive spans targets h e r f l =
    let a = (and-eq-true_iff (leb (length h.list + made e.act) UNITS) (leb (length (join (units_at e.context h))) spans && (leb (length (join (list_after h e))) spans && leb (length (target_list h.held ++ took_by h e)) targets))).0 f in
    let b = (and-eq-true_iff (leb (length (join (units_at e.context h))) spans) (leb (length (join (list_after h e))) spans && leb (length (target_list h.held ++ took_by h e)) targets)).0 a.1 in
    let c = (and-eq-true_iff (leb (length (join (list_after h e))) spans) (leb (length (target_list h.held ++ took_by h e)) targets)).0 b.1 in
    let x : Held = record { edit = e; took = took_by h e } in
    record {
      joined = leb-true (length (join (list_after h e))) spans c.0;
      units = omega (arith, leb-true (length h.list + made e.act) UNITS a.0, act_length_lem e.act e (units_at e.context h), at_length e.context h);
      ranges = subst (λ (z : List Range). length z ≤ targets) (sym (list_snoc h.held (record { edit = e; took = took_by h e }))) (leb-true (length (target_list h.held ++ took_by h e)) targets c.1);
      edits = omega (arith, ltb-true (length h.held) EDITS l, length-append h.held (record { edit = e; took = took_by h e } ∷ []));
    }

-- ---- a checkout, and a delta

pub rooms_checkout : (spans targets : ℕ) (h : History) (v : Version) → Rooms spans targets h → length (join (units_at v h)) ≤ spans → Rooms spans targets (checkout v h)
unfolding checkout
rooms_checkout spans targets h v r b = record { joined = b; units = omega (arith, at_length v h, r.units); ranges = r.ranges; edits = r.edits }

four_back : (v k c f : Bool) → ◌≡◌ {A = ℕ} (cond v (cond k (cond c (cond f 0 10) 7) 6) 15) 0 → f ≡ true
four_back true true true true h = refl
four_back true true true false h = absurd (let z : ⊥ = omega arith in z)
four_back true true false f h = absurd (let z : ⊥ = omega arith in z)
four_back true false c f h = absurd (let z : ⊥ = omega arith in z)
four_back false k c f h = absurd (let z : ⊥ = omega arith in z)

six_back : (v k c f i o : Bool) → ◌≡◌ {A = ℕ} (cond v (cond k (cond c (cond f (cond i (cond o 0 13) 12) 10) 7) 6) 15) 0 → f ≡ true
six_back true true true true i o h = refl
six_back true true true false i o h = absurd (let z : ⊥ = omega arith in z)
six_back true true false f i o h = absurd (let z : ⊥ = omega arith in z)
six_back true false c f i o h = absurd (let z : ⊥ = omega arith in z)
six_back false k c f i o h = absurd (let z : ⊥ = omega arith in z)

-- h is what is stored, u its units
pub checkout_room : (spans targets : ℕ) (h u : History) (v : Version) → on_units h ≡ u → checkout_code spans targets h v ≡ 0 → length (join (units_at v u)) ≤ spans
unfolding checkout_code fits
checkout_room spans targets h u v q e = subst (λ (z : History). length (join (units_at v z)) ≤ spans) q
    (leb-true (length (join (units_at v (on_units h)))) spans (four_back (valid spans targets h) (named h.held v) (closed h.held v) (leb (length (join (units_at v (on_units h)))) spans) e))

pub delta_room : (spans targets : ℕ) (out : List Entry) (h u : History) (a b : Version) → on_units h ≡ u → Units1 u.list → delta_code spans targets out h a b ≡ 0 → length (join (units_at a u)) ≤ spans
unfolding delta_code fits
delta_room spans targets out h u a b q us e =
    let f : length (spans_between a b (on_units h)) ≤ spans = leb-true (length (spans_between a b (on_units h))) spans (six_back (valid spans targets h) (named h.held a && named h.held b) (closed h.held a && closed h.held b)
    (leb (length (spans_between a b (on_units h))) spans) (every insertable (spans_between a b (on_units h))) (leb (length (delta a b (on_units h))) (length out)) e) in
    omega (arith, subst (λ (z : History). length (spans_between a b z) ≤ spans) q f, one_version a b u (units_between_lem a b u us))
