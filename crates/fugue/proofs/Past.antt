-- Independence of what is concurrent (§6): an edit's origins and targets are those that the units that are not future alone give.
use Prim.Native.Nat.{ℕ, zero, suc, ◌≤◌}
use mathlib.Core.Path.{◌≡◌, refl, sym, ap, ap₂, subst, ◌∙◌}
use mathlib.Core.Logic.{◌⊎◌, inl, inr}
use mathlib.Core.Bool.{Bool, true, false, not, ◌&&◌, cond, true≢false}
use mathlib.Core.List.Memᴰ
use mathlib.Core.List.{List, [], ◌∷◌}
use lib.IntN.{pos}
use native.Mathlib.Omega.{arith}
use Rattle.std.specs.Prelude.{None}
use Rattle.span.specs.Maybe.{OptId}
use Rattle.span.specs.declared.span.FugueSpan.{FugueSpan}
use Rattle.span.specs.Status.{activated, eq_z}
use Rattle.units.specs.Place.{front, behind, last_id, first_past, origin_left, origin_right, shown}
use Rattle.units.specs.Lists.{keep_if}
use Rattle.units.specs.Change.{first_shown, taken}
use Rattle.fugue.specs.Tree.{ref}
use Rattle.fugue.proofs.ScanPlace.{Mem}

abbrev pub not_future : FugueSpan → Bool
not_future u = not u.status.future

-- the units that are not future, in order
abbrev pub past_of : List FugueSpan → List FugueSpan
past_of l = keep_if not_future l

-- the visible unit number n, from 0
unfoldable pub nth : List FugueSpan → ℕ → OptId
nth [] n = None
nth (v ∷ l) zero = cond (activated v.status) (ref v) (nth l zero)
nth (v ∷ l) (suc n) = nth l (cond (activated v.status) n (suc n))

pub front_zero : (l : List FugueSpan) → front l zero ≡ []
unfolding front
front_zero [] = refl
front_zero (v ∷ l) = refl

pub behind_zero : (l : List FugueSpan) → behind l zero ≡ l
unfolding behind
behind_zero [] = refl
behind_zero (v ∷ l) = refl

-- one step of nth, over the test
nth_step : Bool → FugueSpan → List FugueSpan → ℕ → OptId
nth_step b v l zero = cond b (ref v) (nth l zero)
nth_step b v l (suc n) = nth l (cond b n (suc n))

nth-cons : (v : FugueSpan) (l : List FugueSpan) (n : ℕ) → nth (v ∷ l) n ≡ nth_step (activated v.status) v l n
unfolding nth nth_step
nth-cons v l zero = refl
nth-cons v l (suc n) = refl

last_step : (b : Bool) (v : FugueSpan) (l : List FugueSpan) (n : ℕ) → suc n ≤ cond b (suc (shown l)) (shown l)
    → ((n : ℕ) (r : OptId) → suc n ≤ shown l → last_id r (front l (suc n)) ≡ nth l n) → last_id (ref v) (front l (cond b n (suc n))) ≡ nth_step b v l n
unfolding nth_step last_id
last_step true v l zero h ih = ap (last_id (ref v)) (front_zero l)
last_step true v l (suc n) h ih = ih n (ref v) (omega arith)
last_step false v l zero h ih = ih zero (ref v) h
last_step false v l (suc n) h ih = ih (suc n) (ref v) h

-- the last unit of the front is the visible unit before the position
pub last_nth : (l : List FugueSpan) (n : ℕ) (r : OptId) → suc n ≤ shown l → last_id r (front l (suc n)) ≡ nth l n
unfolding front last_id shown
last_nth [] n r h = absurd (let z : ⊥ = omega arith in z)
last_nth (v ∷ l) n r h = last_step (activated v.status) v l n h (last_nth l) ∙ sym (nth-cons v l n)

-- a future unit is not visible
hidden : (v : FugueSpan) → v.status.future ≡ true → activated v.status ≡ false
unfolding activated
hidden v e = ap (λ (b : Bool). not b && eq_z v.status.delete_times (pos 0)) e

pub shown_past : (l : List FugueSpan) → shown l ≡ shown (past_of l)
unfolding keep_if shown
shown_past [] = refl
shown_past (v ∷ l) = go v.status.future refl (shown_past l)
  where
    go : (b : Bool) → v.status.future ≡ b → shown l ≡ shown (past_of l) → cond (activated v.status) (suc (shown l)) (shown l) ≡ shown (cond (not b) (v ∷ past_of l) (past_of l))
    go true e ih = ap (λ (b : Bool). cond b (suc (shown l)) (shown l)) (hidden v e) ∙ ih
    go false e ih = ap (λ (n : ℕ). cond (activated v.status) (suc n) n) ih

pub nth_past : (l : List FugueSpan) (n : ℕ) → nth l n ≡ nth (past_of l) n
unfolding keep_if
nth_past [] n = refl
nth_past (v ∷ l) n = go v.status.future refl n (nth_past l)
  where
    same : (b : Bool) (n : ℕ) → ((n : ℕ) → nth l n ≡ nth (past_of l) n) → nth_step b v l n ≡ nth_step b v (past_of l) n
    same true zero ih = unfold nth_step in refl
    same false zero ih = unfold nth_step in ih zero
    same true (suc n) ih = unfold nth_step in ih n
    same false (suc n) ih = unfold nth_step in ih (suc n)

    skip : (n : ℕ) → nth_step false v l n ≡ nth l n
    skip zero = unfold nth_step in refl
    skip (suc n) = unfold nth_step in refl

    go : (b : Bool) → v.status.future ≡ b → (n : ℕ) → ((n : ℕ) → nth l n ≡ nth (past_of l) n) → nth (v ∷ l) n ≡ nth (cond (not b) (v ∷ past_of l) (past_of l)) n
    go true e n ih = nth-cons v l n ∙ (ap (λ (b : Bool). nth_step b v l n) (hidden v e) ∙ (skip n ∙ ih n))
    go false e n ih = nth-cons v l n ∙ (same (activated v.status) n ih ∙ sym (nth-cons v (past_of l) n))

-- L6.2: the origin left
pub origin_left_past : (l : List FugueSpan) (n : ℕ) → n ≤ shown l → origin_left n l ≡ origin_left n (past_of l)
unfolding origin_left
origin_left_past l zero h = ap (last_id None) (front_zero l ∙ sym (front_zero (past_of l)))
origin_left_past l (suc n) h = last_nth l n None h ∙ (nth_past l n ∙ sym (last_nth (past_of l) n None (subst (λ (k : ℕ). suc n ≤ k) (shown_past l) h)))

-- what is behind the cursor
pub behind_past : (l : List FugueSpan) (n : ℕ) → past_of (behind l n) ≡ behind (past_of l) n
unfolding behind keep_if
behind_past [] n = refl
behind_past (v ∷ l) zero = sym (behind_zero (cond (not v.status.future) (v ∷ past_of l) (past_of l)))
behind_past (v ∷ l) (suc n) = go v.status.future refl (behind_past l)
  where
    go : (b : Bool) → v.status.future ≡ b → ((n : ℕ) → past_of (behind l n) ≡ behind (past_of l) n) → past_of (behind l (cond (activated v.status) n (suc n))) ≡ behind (cond (not b) (v ∷ past_of l) (past_of l)) (suc n)
    go true e ih = ap (λ (b : Bool). past_of (behind l (cond b n (suc n)))) (hidden v e) ∙ ih (suc n)
    go false e ih = ih (cond (activated v.status) n (suc n))

pub first_past_past : (l : List FugueSpan) → first_past l ≡ first_past (past_of l)
unfolding first_past keep_if
first_past_past [] = refl
first_past_past (v ∷ l) = go v.status.future refl (first_past_past l)
  where
    go : (b : Bool) → v.status.future ≡ b → first_past l ≡ first_past (past_of l) → cond b (first_past l) (ref v) ≡ first_past (cond (not b) (v ∷ past_of l) (past_of l))
    go true e ih = ih
    go false e ih = ap (λ (b : Bool). cond b (first_past (past_of l)) (ref v)) (sym e)

-- L6.3: the origin right
pub origin_right_past : (l : List FugueSpan) (n : ℕ) → origin_right n l ≡ origin_right n (past_of l)
unfolding origin_right
origin_right_past l n = first_past_past (behind l n) ∙ ap first_past (behind_past l n)

pub first_shown_past : (l : List FugueSpan) (n : ℕ) → first_shown l n ≡ first_shown (past_of l) n
unfolding first_shown keep_if
first_shown_past [] n = refl
first_shown_past (v ∷ l) zero = go (not v.status.future)
  where
    z : (l : List FugueSpan) → [] ≡ first_shown l zero
    z [] = refl
    z (u ∷ l) = refl

    go : (b : Bool) → [] ≡ first_shown (cond b (v ∷ past_of l) (past_of l)) zero
    go true = refl
    go false = z (past_of l)
first_shown_past (v ∷ l) (suc n) = go v.status.future refl (first_shown_past l)
  where
    go : (b : Bool) → v.status.future ≡ b → ((n : ℕ) → first_shown l n ≡ first_shown (past_of l) n)
        → cond (activated v.status) (v ∷ first_shown l n) (first_shown l (suc n)) ≡ first_shown (cond (not b) (v ∷ past_of l) (past_of l)) (suc n)
    go true e ih = ap (λ (b : Bool). cond b (v ∷ first_shown l n) (first_shown l (suc n))) (hidden v e) ∙ ih (suc n)
    go false e ih = ap₂ (λ (a b : List FugueSpan). cond (activated v.status) (v ∷ a) b) (ih n) (ih (suc n))

-- L6.4: the targets of a delete
pub taken_past : (l : List FugueSpan) (n k : ℕ) → taken n k l ≡ taken n k (past_of l)
unfolding taken
taken_past l n k = first_shown_past (behind l n) k ∙ ap (λ (z : List FugueSpan). first_shown z k) (behind_past l n)

-- the visible unit before the position is a unit of the list that is not future
nth_in : (l : List FugueSpan) (n : ℕ) → suc n ≤ shown l → (w : FugueSpan) × Mem w l × (ref w ≡ nth l n) × (w.status.future ≡ false)
unfolding shown
nth_in [] n h = absurd (let z : ⊥ = omega arith in z)
nth_in (v ∷ l) n h = go (activated v.status) refl n h (nth_in l)
  where
    seen : activated v.status ≡ true → v.status.future ≡ false
    seen e = at_future v.status.future refl
      where
        at_future : (b : Bool) → v.status.future ≡ b → v.status.future ≡ false
        at_future true d = absurd (true≢false (sym e ∙ hidden v d))
        at_future false d = d

    R : ℕ → Type 0
    R n = (w : FugueSpan) × Mem w (v ∷ l) × (ref w ≡ nth (v ∷ l) n) × (w.status.future ≡ false)

    up : (n m : ℕ) → nth l m ≡ nth (v ∷ l) n → (w : FugueSpan) × Mem w l × (ref w ≡ nth l m) × (w.status.future ≡ false) → R n
    up n m e t = (t.0, Memᴰ.tail t.1, t.2 ∙ e, t.3)

    step : (b : Bool) (n : ℕ) → activated v.status ≡ b → nth (v ∷ l) n ≡ nth_step b v l n
    step b n e = nth-cons v l n ∙ ap (λ (b : Bool). nth_step b v l n) e

    go : (b : Bool) → activated v.status ≡ b → (n : ℕ) → suc n ≤ cond b (suc (shown l)) (shown l)
        → ((n : ℕ) → suc n ≤ shown l → (w : FugueSpan) × Mem w l × (ref w ≡ nth l n) × (w.status.future ≡ false)) → R n
    go true e zero h ih = (v, Memᴰ.head refl, unfold nth_step in sym (step true zero e), seen e)
    go true e (suc n) h ih = up (suc n) n (unfold nth_step in sym (step true (suc n) e)) (ih n (omega arith))
    go false e zero h ih = up zero zero (unfold nth_step in sym (step false zero e)) (ih zero h)
    go false e (suc n) h ih = up (suc n) (suc n) (unfold nth_step in sym (step false (suc n) e)) (ih (suc n) h)

pub origin_left_in : (l : List FugueSpan) (n : ℕ) → n ≤ shown l → (origin_left n l ≡ None) ⊎ ((w : FugueSpan) × Mem w l × (ref w ≡ origin_left n l) × (w.status.future ≡ false))
unfolding origin_left last_id
origin_left_in l zero h = inl (ap (last_id None) (front_zero l))
origin_left_in l (suc n) h = let t : (w : FugueSpan) × Mem w l × (ref w ≡ nth l n) × (w.status.future ≡ false) = nth_in l n h in inr (t.0, t.1, t.2 ∙ sym (last_nth l n None h), t.3)
