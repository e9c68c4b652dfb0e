-- what the entries of a history leave: a well formed history by its parts, a refused call, an accepted one
use Prim.Native.Nat.{ℕ, ◌+◌, ◌-◌, ◌*◌, ◌<◌, ◌≤◌}
use mathlib.Core.Path.{◌≡◌, refl, sym, ap, ap₂, subst, ◌∙◌}
use mathlib.Core.Bool.{Bool, true, false, cond, ◌&&◌, true≢false, and-eq-true_iff}
use mathlib.Core.List.{List, []}
use native.Mathlib.Omega.{arith}
use lib.Dec.{eqb, leb}
use lib.ListN.{length, take, drop}
use borrow.Author.Tests.{eq-eqb, ne_eqb, leb-true, le-leb}
use Rattle.span.specs.declared.span.FugueSpan.{FugueSpan}
use Rattle.span.specs.Units.{expand, join}
use Rattle.store.specs.Row.{rows}
use Rattle.store.specs.Header.{count, room, spans_of}
use Rattle.store.proofs.Laws.{length-rows}
use Rattle.units.specs.Limits.{EDITS}
use Rattle.units.specs.Store.{well_formed, is_state}
use Rattle.units.specs.Codes.{unless, kept}
use Rattle.rope.specs.Edits.{Written, WrittenIn}
use Rattle.rope.proofs.States.{state_rows}
use Rattle.history.specs.Edit.{History}
use Rattle.history.specs.Valid.{valid, target_list}
use Rattle.history.proofs.Sound.{Sound, sound_of}
use Rattle.tracker.specs.Rows.{held, used, target_room, edit_count, placeholder_in, history_in, is_history, EDIT_BYTES}
use Rattle.tracker.specs.Entries.{Beside, Leaves}
use Rattle.tracker.proofs.Logs.{length-held, length-ranges, targets_held}

-- ---- a well formed history, part by part, and back

pub record Well (s t e : List ℕ) : Type 0 where
  pub long : EDIT_BYTES ≤ length e
  pub edits : edit_count e ≤ EDITS
  pub ranges : used (edit_count e) (drop 64 e) ≤ target_room t
  pub state : is_state s ≡ true
  pub valid : valid (room s) (target_room t) (history_in s t e) ≡ true

module _ (s t e : List ℕ) where
  pub well_of : is_history s t e ≡ true → Well s t e
  unfolding is_history
  well_of w =
      let a = (and-eq-true_iff (leb EDIT_BYTES (length e)) _).0 w in
      let b = (and-eq-true_iff (leb (edit_count e) EDITS) _).0 a.1 in
      let c = (and-eq-true_iff (leb (used (edit_count e) (drop 64 e)) (target_room t)) _).0 b.1 in
      let d = (and-eq-true_iff (is_state s) _).0 c.1 in
      record {
        long = leb-true EDIT_BYTES (length e) a.0;
        edits = leb-true (edit_count e) EDITS b.0;
        ranges = leb-true (used (edit_count e) (drop 64 e)) (target_room t) c.0;
        state = d.0;
        valid = d.1;
      }

  -- what fits its rooms fits them as bytes too
  pub history_well : EDIT_BYTES ≤ length e → 72 ≤ length s → valid (room s) (target_room t) (history_in s t e) ≡ true → is_history s t e ≡ true
  unfolding is_history history_in spans_of
  history_well long head v =
      let k = sound_of (room s) (target_room t) (history_in s t e) v in
      let n : count s ≤ room s = omega (arith, k.room, length-rows (count s) (drop 72 s)) in
      let m : edit_count e ≤ EDITS = omega (arith, k.edits, length-held (edit_count e) (drop 64 e) t) in
      let u : used (edit_count e) (drop 64 e) ≤ target_room t = omega (arith, k.ranges, ap length (targets_held (edit_count e) (drop 64 e) t), length-ranges (used (edit_count e) (drop 64 e)) t) in
      (and-eq-true_iff _ _).1 (le-leb EDIT_BYTES (length e) long, (and-eq-true_iff _ _).1 (le-leb (edit_count e) EDITS m, (and-eq-true_iff _ _).1 (le-leb (used (edit_count e) (drop 64 e)) (target_room t) u, (and-eq-true_iff _ _).1 (state_rows s head n ∙ k.formed, v))))

-- ---- a call that is refused, and one that is done

pub kept_not : {A : Type 0} (code : ℕ) (new old : A) → (code ≡ 0 → ⊥) → kept code new old ≡ old
kept_not code new old z = ap (λ (b : Bool). cond b new old) (ne_eqb code 0 z)

pub kept_done : {A : Type 0} (code : ℕ) (new old : A) → code ≡ 0 → kept code new old ≡ new
kept_done code new old z = ap (λ (b : Bool). cond b new old) (eq-eqb code 0 z)

pub same_beside : (s t e : List ℕ) → Beside s t e s t e
same_beside s t e = record { head = refl; spans = refl; targets = refl; edits = refl }

pub leaves_refused : (code : ℕ) (after : History) (r : ℕ) (s t e : List ℕ) → r ≡ code → (r ≡ 0 → ⊥) → Leaves code after r s t e s t e
leaves_refused code after r s t e n z =
    let c : code ≡ 0 → ⊥ = λ (q : code ≡ 0). z (n ∙ q) in
    record {
      number = n;
      history = sym (kept_not code after (history_in s t e) c);
      well = λ (q : code ≡ 0). absurd (c q);
      bytes = λ _. (refl, refl, refl);
      beside = same_beside s t e;
    }

pub leaves_done : (code : ℕ) (after : History) (r : ℕ) (s t e s' t' e' : List ℕ) → r ≡ code → code ≡ 0 → history_in s' t' e' ≡ after → is_history s' t' e' ≡ true → Beside s t e s' t' e' → Leaves code after r s t e s' t' e'
leaves_done code after r s t e s' t' e' n z h w b =
    record {
      number = n;
      history = h ∙ sym (kept_done code after (history_in s t e) z);
      well = λ _. w;
      bytes = λ (q : code ≡ 0 → ⊥). absurd (q z);
      beside = b;
    }

-- the same call by another name of its number and history
pub leaves_as : (c d : ℕ) (x y : History) (r : ℕ) (s t e s' t' e' : List ℕ) → c ≡ d → kept c x (history_in s t e) ≡ kept d y (history_in s t e) → Leaves c x r s t e s' t' e' → Leaves d y r s t e s' t' e'
leaves_as c d x y r s t e s' t' e' n h l =
    record {
      number = l.number ∙ n;
      history = l.history ∙ h;
      well = λ (q : d ≡ 0). l.well (n ∙ q);
      bytes = λ (q : d ≡ 0 → ⊥). l.bytes (λ (z : c ≡ 0). q (sym n ∙ z));
      beside = l.beside;
    }

-- ---- the outcome is one: two outcomes that meet the contract say the same history, and the same bytes where the call is refused
pub leaves_one : (c : ℕ) (x : History) (p r : ℕ) (s t e s' t' e' s'' t'' e'' : List ℕ) → Leaves c x p s t e s' t' e' → Leaves c x r s t e s'' t'' e'' → (p ≡ r) × (history_in s' t' e' ≡ history_in s'' t'' e'')
leaves_one c x p r s t e s' t' e' s'' t'' e'' l m = (l.number ∙ sym m.number, l.history ∙ sym m.history)
