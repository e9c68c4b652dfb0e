-- One call on lent buffers that hold a well formed history: its number and the history that it leaves are those of the definitions, and the buffers go on holding
-- a well formed history with the same room.
use Prim.Native.Nat.{ℕ, ◌-◌, ◌/◌, min}
use mathlib.Core.Path.{◌≡◌, refl, sym, ap, subst, ◌∙◌}
use mathlib.Core.Bool.{Bool, true, false, and-eq-true_iff, true≢false}
use mathlib.Core.List.{List}
use native.Mathlib.Omega.{arith}
use lib.Dec.{eqb, leb}
use lib.ListN.{length}
use borrow.Author.Tests.{eqb-true, eq-eqb, leb-true}
use Rattle.store.specs.Header.{room}
use Rattle.store.specs.Limits.{ROWS}
use Rattle.units.specs.declared.diff.Entry.{Entry}
use Rattle.units.specs.Store.{is_state}
use Rattle.units.specs.Codes.{unless, kept}
use Rattle.history.specs.Edit.{Version, Edit, History}
use Rattle.history.specs.Checkout.{checkout}
use Rattle.history.specs.Arrive.{start, arrive}
use Rattle.history.specs.Codes.{on_units, stored, open_code, arrive_code, arrive_of, checkout_code, checkout_of, delta_code, delta_of}
use Rattle.tracker.specs.Rows.{target_room}
use Rattle.tracker.specs.Entries.{arrive_number, arrived, checkout_number, checked_out}
use Rattle.tracker.specs.Calls.{Lent, said, is_well, Long, Opens, Calls, Arrives, ChecksOut, Compares}
use Rattle.tracker.proofs.Leaving.{Well, well_of}

-- ---- buffers that hold a well formed history, with so much room

pub record Holds (spans targets : ℕ) (a : Lent) : Type 0 where
  pub span_room : room a.spans ≡ spans
  pub range_room : target_room a.targets ≡ targets
  pub well : is_well a ≡ true

room_same : (s s' : List ℕ) → length s' ≡ length s → room s' ≡ room s
unfolding room
room_same s s' e = ap (λ (k : ℕ). min ROWS ((k - 72) / 72)) e

target_same : (t t' : List ℕ) → length t' ≡ length t → target_room t' ≡ target_room t
unfolding target_room
target_same t t' e = ap (λ (k : ℕ). min ROWS (k / 16)) e

-- ---- a call, by a number that goes on from 15

module _ (spans targets code : ℕ) (after : History) (r : ℕ) (a b : Lent) (call : Calls (unless (is_well a) 15 code) after r a b) (h : Holds spans targets a) where
  passed : unless (is_well a) 15 code ≡ code
  passed = ap (λ (z : Bool). unless z 15 code) h.well

  pub call_number : r ≡ code
  call_number = call.leaves.number ∙ passed

  pub call_said : said b ≡ kept code after (said a)
  call_said = call.leaves.history ∙ ap (λ (k : ℕ). kept k after (said a)) passed

  pub call_holds : Holds spans targets b
  call_holds = record {
    span_room = room_same a.spans b.spans call.lengths.spans ∙ h.span_room;
    range_room = target_same a.targets b.targets call.lengths.targets ∙ h.range_room;
    well = go (eqb (unless (is_well a) 15 code) 0) refl;
  }
    where
      go : (z : Bool) → eqb (unless (is_well a) 15 code) 0 ≡ z → is_well b ≡ true
      go true q = call.leaves.well (eqb-true (unless (is_well a) 15 code) 0 q)
      go false q =
          let same = call.leaves.bytes (λ (d : unless (is_well a) 15 code ≡ 0). true≢false (sym (eq-eqb (unless (is_well a) 15 code) 0 d) ∙ q)) in
          ap (λ (x : Lent). is_well x) (λ i. record { spans = same.0 i; targets = same.1 i; edits = same.2 i }) ∙ h.well

-- ---- an opening that is accepted

pub record Fresh (n : ℕ) (a : Lent) : Type 0 where
  pub code : open_code (room a.spans) n ≡ 0
  pub history : said a ≡ stored (start n)
  pub holds : Holds (room a.spans) (target_room a.targets) a

well_long : (a : Lent) → is_well a ≡ true → Long a
unfolding is_state
well_long a w =
    let p : Well a.spans a.targets a.edits = well_of a.spans a.targets a.edits w in
    record { spans = leb-true 72 (length a.spans) ((and-eq-true_iff (leb 72 (length a.spans)) _).0 p.state).0; edits = p.long }

-- buffers that come to hold a history were long enough
pub fresh : (n r : ℕ) (a b : Lent) → Opens n r a b → r ≡ 0 → Fresh n b
fresh n r a b o z = record {
  code = ap (λ (k : ℕ). open_code k n) (room_same a.spans b.spans o.lengths.spans) ∙ (sym (o.number long) ∙ z);
  history = o.history z;
  holds = record { span_room = refl; range_room = refl; well = o.well z };
}
  where
    after : Long b
    after = well_long b (o.well z)

    long : Long a
    long = record { spans = omega (arith, after.spans, o.lengths.spans); edits = omega (arith, after.edits, o.lengths.edits) }

-- the room is that of the buffers as they were given
pub fresh_holds : (n r : ℕ) (a b : Lent) → Opens n r a b → r ≡ 0 → Holds (room a.spans) (target_room a.targets) b
fresh_holds n r a b o z = record {
  span_room = room_same a.spans b.spans o.lengths.spans;
  range_room = target_same a.targets b.targets o.lengths.targets;
  well = o.well z;
}

-- ---- the three calls

module _ (spans targets : ℕ) (x : Edit) (r : ℕ) (a b : Lent) (call : Arrives x r a b) (h : Holds spans targets a) where
  arrive_call : Calls (unless (is_well a) 15 (arrive_code spans targets (said a) x)) (stored (arrive (on_units (said a)) x)) r a b
  arrive_call = subst (λ (k : ℕ). Calls (unless (is_well a) 15 k) (stored (arrive (on_units (said a)) x)) r a b)
      (ap (λ (k : ℕ). arrive_code k (target_room a.targets) (said a) x) h.span_room ∙ ap (λ (k : ℕ). arrive_code spans k (said a) x) h.range_room) (unfold arrive_number arrived in call)

  pub arrive_number_lem : r ≡ arrive_code spans targets (said a) x
  arrive_number_lem = call_number spans targets (arrive_code spans targets (said a) x) (stored (arrive (on_units (said a)) x)) r a b arrive_call h

  pub arrive_said : said b ≡ (arrive_of spans targets (said a) x).1
  unfolding arrive_of
  arrive_said = call_said spans targets (arrive_code spans targets (said a) x) (stored (arrive (on_units (said a)) x)) r a b arrive_call h

  pub arrive_holds : Holds spans targets b
  arrive_holds = call_holds spans targets (arrive_code spans targets (said a) x) (stored (arrive (on_units (said a)) x)) r a b arrive_call h

module _ (spans targets : ℕ) (v : Version) (r : ℕ) (a b : Lent) (call : ChecksOut v r a b) (h : Holds spans targets a) where
  checkout_call : Calls (unless (is_well a) 15 (checkout_code spans targets (said a) v)) (stored (checkout v (on_units (said a)))) r a b
  checkout_call = subst (λ (k : ℕ). Calls (unless (is_well a) 15 k) (stored (checkout v (on_units (said a)))) r a b)
      (ap (λ (k : ℕ). checkout_code k (target_room a.targets) (said a) v) h.span_room ∙ ap (λ (k : ℕ). checkout_code spans k (said a) v) h.range_room) (unfold checkout_number checked_out in call)

  pub checkout_number_lem : r ≡ checkout_code spans targets (said a) v
  checkout_number_lem = call_number spans targets (checkout_code spans targets (said a) v) (stored (checkout v (on_units (said a)))) r a b checkout_call h

  pub checkout_said : said b ≡ (checkout_of spans targets (said a) v).1
  unfolding checkout_of
  checkout_said = call_said spans targets (checkout_code spans targets (said a) v) (stored (checkout v (on_units (said a)))) r a b checkout_call h

  pub checkout_holds : Holds spans targets b
  checkout_holds = call_holds spans targets (checkout_code spans targets (said a) v) (stored (checkout v (on_units (said a)))) r a b checkout_call h

module _ (spans targets : ℕ) (out : List Entry) (v w : Version) (r : ℕ) (a b : Lent) (call : Compares out v w r a b) (h : Holds spans targets a) where
  delta_call : Calls (unless (is_well a) 15 (delta_code spans targets out (said a) v w)) (stored (checkout v (on_units (said a)))) r a b
  delta_call = subst (λ (k : ℕ). Calls (unless (is_well a) 15 k) (stored (checkout v (on_units (said a)))) r a b)
      (ap (λ (k : ℕ). delta_code k (target_room a.targets) out (said a) v w) h.span_room ∙ ap (λ (k : ℕ). delta_code spans k out (said a) v w) h.range_room) (unfold checked_out in call)

  pub delta_number : r ≡ delta_code spans targets out (said a) v w
  delta_number = call_number spans targets (delta_code spans targets out (said a) v w) (stored (checkout v (on_units (said a)))) r a b delta_call h

  pub delta_said : said b ≡ (delta_of spans targets out (said a) v w).1
  unfolding delta_of
  delta_said = call_said spans targets (delta_code spans targets out (said a) v w) (stored (checkout v (on_units (said a)))) r a b delta_call h

  pub delta_holds : Holds spans targets b
  delta_holds = call_holds spans targets (delta_code spans targets out (said a) v w) (stored (checkout v (on_units (said a)))) r a b delta_call h
