-- where the edits fit, a peer's last edit ends at the count held for it
use Prim.Native.Nat.{ℕ, zero, suc, ◌+◌, ◌≤◌, ◌<◌, ◌*◌}
use mathlib.Core.Path.{◌≡◌, refl, sym, ap, subst, ◌∙◌}
use mathlib.Core.Bool.{Bool, true, cond, and-eq-true_iff}
use mathlib.Core.List.{List, []}
use native.Mathlib.Omega.{arith}
use lib.Dec.{eqb}
use lib.IntN.{ℤ, pos}
use lib.ListN.{drop}
use borrow.Author.Tests.{eqb-true, eq-eqb, ne_eqb}
use Rattle.store.specs.Row.{bits32}
use Rattle.history.specs.Edit.{Held, Edit, size}
use Rattle.history.specs.Version.{number, held_count}
use Rattle.history.specs.Valid.{edit_code, edits_fit}
use Rattle.history.proofs.Sound.{EditOk, edit_ok}
use Rattle.history.proofs.Stored.{count_snoc}
use Rattle.tracker.specs.Rows.{edit_in, held}
use Rattle.tracker.specs.Refused.{from}
use Rattle.tracker.proofs.Logs.{held_one, held_at}
use Rattle.tracker.proofs.HeldLaws.{from_all, fit_start, fit_turn, count_turn}

module _ (h : ℕ) (e t : List ℕ) where
  abbrev edit : ℕ → Edit
  edit i = edit_in (drop (i * 256) e)

  next : (i : ℕ) → i + 1 ≡ suc i
  next i = omega arith

  module _ (fit : edits_fit [] (held h e t) ≡ true) where
    fit_at : (i : ℕ) → i ≤ h → edits_fit (held i e t) (from h e t i) ≡ true
    fit_at zero l = sym (fit_start h e t) ∙ fit
    fit_at (suc i) l =
        let b : Bool = eqb (edit_code (held i e t) (edit i)) 0 in
        let p = (and-eq-true_iff b (edits_fit (held (i + 1) e t) (from h e t (i + 1)))).0 (sym (fit_turn h e t i (omega arith) b refl) ∙ fit_at i (omega arith)) in
        subst (λ (j : ℕ). edits_fit (held j e t) (from h e t j) ≡ true) (next i) p.1

    edit_fits : (i : ℕ) → i < h → EditOk (held i e t) (edit i)
    edit_fits i l =
        let b : Bool = eqb (edit_code (held i e t) (edit i)) 0 in
        let p = (and-eq-true_iff b (edits_fit (held (i + 1) e t) (from h e t (i + 1)))).0 (sym (fit_turn h e t i l b refl) ∙ fit_at i (omega arith)) in
        edit_ok (held i e t) (edit i) (eqb-true (edit_code (held i e t) (edit i)) 0 p.0)

  part : ℕ → ℕ → ℕ
  part p i = cond (eqb (edit i).id.peer p) (size (edit i)) 0

  -- what is held is what the first i edits hold and the others
  count_all : (p i : ℕ) → i ≤ h → held_count (held h e t) p ≡ held_count (held i e t) p + held_count (from h e t i) p
  unfolding held held_count part
  count_all p zero l = ap (λ (s : List Held). held_count s p) (sym (from_all h e t)) ∙ (let z : held_count (from h e t 0) p ≡ 0 + held_count (from h e t 0) p = omega arith in z)
  count_all p (suc i) l =
      let f = count_turn h e t i (omega arith) p (part p i) refl in
      let g : held_count (held (i + 1) e t) p ≡ held_count (held i e t) p + part p i = ap (λ (s : List Held). held_count s p) (held_one i e t) ∙ count_snoc (held i e t) (held_at i e t) p in
      let q : held_count (held h e t) p ≡ held_count (held (i + 1) e t) p + held_count (from h e t (i + 1)) p = count_all p i (omega arith) ∙ (let z : held_count (held i e t) p + held_count (from h e t i) p ≡ held_count (held (i + 1) e t) p + held_count (from h e t (i + 1)) p = omega (arith, f, g) in z) in
      subst (λ (j : ℕ). held_count (held h e t) p ≡ held_count (held j e t) p + held_count (from h e t j) p) (next i) q

  -- no edit from i on is the peer's
  pub passed : (p i k : ℕ) → k + 1 ≡ i → i ≤ h → ((edit k).id.peer ≡ p → ⊥) → held_count (from h e t i) p ≡ 0 → held_count (from h e t k) p ≡ 0
  passed p i k n l d z =
      let f = count_turn h e t k (omega arith) p 0 (sym (ap (λ (b : Bool). cond b (size (edit k)) 0) (ne_eqb (edit k).id.peer p d))) in
      let y : held_count (from h e t (k + 1)) p ≡ 0 = subst (λ (j : ℕ). held_count (from h e t j) p ≡ 0) (sym n) z in
      omega (arith, f, y)

  pub none_held : (p i : ℕ) → i ≤ 0 → held_count (from h e t i) p ≡ held_count (held h e t) p
  none_held p i l = ap (λ (j : ℕ). held_count (from h e t j) p) (let z : i ≡ 0 = omega (arith, l) in z) ∙ ap (λ (s : List Held). held_count s p) (from_all h e t)

  natural_bits : (z : ℤ) → z ≡ pos (number z) → bits32 z ≡ number z
  natural_bits z n = ap bits32 n

  pub last_end : edits_fit [] (held h e t) ≡ true → (p i k : ℕ) → k + 1 ≡ i → i ≤ h → (edit k).id.peer ≡ p → held_count (from h e t i) p ≡ 0
      → bits32 (edit k).id.counter + size (edit k) ≡ held_count (held h e t) p
  last_end fit p i k n l d z =
      let ok : EditOk (held k e t) (edit k) = edit_fits fit k (omega arith) in
      let f = count_turn h e t k (omega arith) p (size (edit k)) (sym (ap (λ (b : Bool). cond b (size (edit k)) 0) (eq-eqb (edit k).id.peer p d))) in
      let y : held_count (from h e t (k + 1)) p ≡ 0 = subst (λ (j : ℕ). held_count (from h e t j) p ≡ 0) (sym n) z in
      let a = count_all p k (omega arith) in
      let c : number (edit k).id.counter ≡ held_count (held k e t) p = ok.next ∙ ap (held_count (held k e t)) d in
      let b : bits32 (edit k).id.counter ≡ number (edit k).id.counter = natural_bits (edit k).id.counter ok.natural in
      omega (arith, f, y, a, c, b)
