-- What an insert does to a list of units: the units of the span come in somewhere, and each is the span's unit at its offset.
use Prim.Native.Nat.{ℕ, zero, suc, ◌+◌, ◌<◌}
use mathlib.Core.Path.{◌≡◌, refl, sym, ap, subst, ◌∙◌}
use mathlib.Core.Logic.{◌⊎◌, inl, inr}
use mathlib.Core.List.Memᴰ
use mathlib.Core.List.{List, [], ◌∷◌, ◌++◌, append_assoc, append-nil, Memᴰ}
use native.Mathlib.Omega.{arith}
use lib.ListN.{length, length-append}
use Rattle.span.specs.declared.span.FugueSpan.{FugueSpan}
use Rattle.span.specs.Span.{len_span}
use Rattle.span.specs.Units.{tab, unit_at, units_of}
use Rattle.units.specs.Place.{front, behind, put_at, scan_place, with_origins, origin_left, origin_right, insert_units}
use Rattle.fugue.proofs.ScanPlace.{Mem}
use Rattle.fugue.proofs.Cursor.{front-behind}
use Rattle.fugue.proofs.Sorts.{Splice}

put_at_splice : (n : ℕ) (new l : List FugueSpan) → Splice l new (put_at n new l)
unfolding put_at
put_at_splice zero new l = record { before = []; rest = l; old = refl; now = refl }
put_at_splice (suc n) new [] = record { before = []; rest = []; old = refl; now = sym (append-nil new) }
put_at_splice (suc n) new (v ∷ l) = let s : Splice l new (put_at n new l) = put_at_splice n new l in
    record { before = v ∷ s.before; rest = s.rest; old = ap (λ (z : List FugueSpan). v ∷ z) s.old; now = ap (λ (z : List FugueSpan). v ∷ z) s.now }

pub insert_splice : (pos : ℕ) (s : FugueSpan) (l : List FugueSpan) → Splice l (units_of (with_origins s (origin_left pos l) (origin_right pos l))) (insert_units pos s l)
unfolding insert_units
insert_splice pos s l = record {
  before = F ++ p.before;
  rest = p.rest;
  old = sym (front-behind l pos) ∙ (ap (λ (z : List FugueSpan). F ++ z) p.old ∙ sym (append_assoc F p.before p.rest));
  now = ap (λ (z : List FugueSpan). F ++ z) p.now ∙ sym (append_assoc F p.before (new ++ p.rest));
}
  where
    F : List FugueSpan
    F = front l pos

    new : List FugueSpan
    new = units_of (with_origins s (origin_left pos l) (origin_right pos l))

    at : ℕ
    at = scan_place l (behind l pos) (origin_left pos l) (origin_right pos l) s.id.peer

    p : Splice (behind l pos) new (put_at at new (behind l pos))
    p = put_at_splice at new (behind l pos)

module _ {l new l' : List FugueSpan} (s : Splice l new l') where
  pub splice_from : (w : FugueSpan) → Mem w l' → Mem w l ⊎ Mem w new
  splice_from w m = two (Memᴰ.append_cases s.before (subst (λ (z : List FugueSpan). Mem w z) s.now m))
    where
      three : Mem w new ⊎ Mem w s.rest → Mem w l ⊎ Mem w new
      three (inl k) = inr k
      three (inr k) = inl (subst (λ (z : List FugueSpan). Mem w z) (sym s.old) (Memᴰ.append_right s.before k))

      two : Mem w s.before ⊎ Mem w (new ++ s.rest) → Mem w l ⊎ Mem w new
      two (inl k) = inl (subst (λ (z : List FugueSpan). Mem w z) (sym s.old) (Memᴰ.append_left s.rest k))
      two (inr k) = three (Memᴰ.append_cases new k)

  pub splice_old : (w : FugueSpan) → Mem w l → Mem w l'
  splice_old w m = two (Memᴰ.append_cases s.before (subst (λ (z : List FugueSpan). Mem w z) s.old m))
    where
      two : Mem w s.before ⊎ Mem w s.rest → Mem w l'
      two (inl k) = subst (λ (z : List FugueSpan). Mem w z) (sym s.now) (Memᴰ.append_left (new ++ s.rest) k)
      two (inr k) = subst (λ (z : List FugueSpan). Mem w z) (sym s.now) (Memᴰ.append_right s.before (Memᴰ.append_right new k))

  pub splice_new : (w : FugueSpan) → Mem w new → Mem w l'
  splice_new w m = subst (λ (z : List FugueSpan). Mem w z) (sym s.now) (Memᴰ.append_right s.before (Memᴰ.append_left s.rest m))

  pub splice_length : length l' ≡ length l + length new
  splice_length =
      let a : length l' ≡ length (s.before ++ (new ++ s.rest)) = ap length s.now in
      let b : length l ≡ length (s.before ++ s.rest) = ap length s.old in
      omega (arith, a, b, length-append s.before (new ++ s.rest), length-append new s.rest, length-append s.before s.rest)

-- ---- the units of a span

tab_from : {A : Type 0} (f : ℕ → A) (i n : ℕ) (w : A) → Memᴰ w (tab f i n) → (k : ℕ) × (k < n) × (w ≡ f (i + k))
unfolding tab
tab_from f i zero w m = absurd (Memᴰ.not-nil m)
tab_from {A} f i (suc n) w m = go (Memᴰ.cases_cons m) (tab_from f (suc i) n w)
  where
    go : (w ≡ f i) ⊎ Memᴰ w (tab f (suc i) n) → (Memᴰ w (tab f (suc i) n) → (k : ℕ) × (k < n) × (w ≡ f (suc i + k))) → (k : ℕ) × (k < suc n) × (w ≡ f (i + k))
    go (inl e) ih = (0, omega arith, e ∙ ap f (let z : i ≡ i + 0 = omega arith in z))
    go (inr h) ih =
        let t : (k : ℕ) × (k < n) × (w ≡ f (suc i + k)) = ih h in
        let b : t.0 < n = t.1 in
        (suc t.0, omega arith, t.2 ∙ ap f (let z : suc i + t.0 ≡ i + suc t.0 = omega arith in z))

tab_in : {A : Type 0} (f : ℕ → A) (i n k : ℕ) → k < n → Memᴰ (f (i + k)) (tab f i n)
unfolding tab
tab_in f i zero k h = absurd (let z : ⊥ = omega arith in z)
tab_in {A} f i (suc n) zero h = Memᴰ.head (ap f (let z : i + 0 ≡ i = omega arith in z))
tab_in {A} f i (suc n) (suc k) h = Memᴰ.tail (subst (λ (z : ℕ). Memᴰ (f z) (tab f (suc i) n)) (let z : suc i + k ≡ i + suc k = omega arith in z) (tab_in f (suc i) n k (omega arith)))

pub unit_from : (y w : FugueSpan) → Mem w (units_of y) → (k : ℕ) × (k < len_span y) × (w ≡ unit_at y k)
unfolding units_of
unit_from y w m =
    let t : (k : ℕ) × (k < len_span y) × (w ≡ unit_at y (0 + k)) = tab_from (unit_at y) 0 (len_span y) w m in
    (t.0, t.1, t.2 ∙ ap (unit_at y) (let z : 0 + t.0 ≡ t.0 = omega arith in z))

pub unit_in : (y : FugueSpan) (k : ℕ) → k < len_span y → Mem (unit_at y k) (units_of y)
unfolding units_of
unit_in y k h = subst (λ (z : ℕ). Memᴰ (unit_at y z) (tab (unit_at y) 0 (len_span y))) (let z : 0 + k ≡ k = omega arith in z) (tab_in (unit_at y) 0 (len_span y) k h)
