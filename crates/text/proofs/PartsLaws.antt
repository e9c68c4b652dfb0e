-- the parts of a text, as loops over it meet them
use mathlib.Core.Path.{◌≡◌, refl, sym, ap, ◌∙◌}
use mathlib.Core.Bool.{Bool, true, false, cond, and-eq-true_iff, false≢true}
use mathlib.Core.List.{List, [], ◌∷◌}
use Prim.Native.Nat.{ℕ, zero, suc, ◌+◌, ◌-◌, ◌≤◌, ◌<◌}
use native.Mathlib.Omega.{arith}
use native.Mathlib.Numerals.{unary_clauses}
use borrow.Author.Tests.{eq-eqb, ne_eqb, eqb-true, ltb-true, ltb-false}
use Rattle.std.specs.Prelude.{Some, None}
use Rattle.std.specs.List.{position, count_by}
use Rattle.std.proofs.lemmas.List.Sums.{sum_by-cons}
use lib.Dec.{eqb, ltb}
use lib.ListN.{length, take, drop, get_or, length-drop}
use lib.Seq.{take_all, take-take, length-take-le}
use Rattle.std.proofs.Common.{get_or-take}
use Rattle.text.specs.Bytes.{index_of}
use Rattle.text.specs.Parts.{after, rest, parts, front, kept, same_text}

-- what is lent of s from a on
pub lent : (s : List ℕ) (a : ℕ) → take (length s - a) (drop a s) ≡ drop a s
lent s a = take_all (length s - a) (drop a s) (rw length-drop (omega arith))

-- ---- what stands before and after the first b

module _ (b : ℕ) (s : List ℕ) where
  pub found_in : (k : ℕ) → position (λ x. eqb x b) s ≡ Some k → (index_of b s ≡ k) × (k < length s)
  found_in k e = go (ltb (index_of b s) (length s)) refl e
    where
      go : (q : Bool) → ltb (index_of b s) (length s) ≡ q → cond q (Some (index_of b s)) None ≡ Some k → (index_of b s ≡ k) × (k < length s)
      go true p h = let i : index_of b s ≡ k = cc in (i, omega (arith, ltb-true _ _ p))
      go false p h = let z : ◌≡◌ {A = ℕ} 0 1 = cc in absurd (omega arith)

  pub found_none : position (λ x. eqb x b) s ≡ None → length s ≤ index_of b s
  found_none e = go (ltb (index_of b s) (length s)) refl e
    where
      go : (q : Bool) → ltb (index_of b s) (length s) ≡ q → cond q (Some (index_of b s)) None ≡ None → length s ≤ index_of b s
      go true p h = let z : ◌≡◌ {A = ℕ} 0 1 = cc in absurd (omega arith)
      go false p h = ltb-false _ _ p

-- ---- rest

pub rest_next : (b i : ℕ) (s : List ℕ) → 0 < i → rest b (i - 1) (after b s) ≡ rest b i s
unfolding rest
rest_next b zero s h = absurd (omega arith)
rest_next b (suc i) s h = simp unary_clauses

pub rest_here : (b i : ℕ) (s : List ℕ) → i ≤ 0 → s ≡ rest b i s
unfolding rest
rest_here b zero s h = refl
rest_here b (suc i) s h = absurd (omega arith)

-- ---- parts

pub parts_counted : (b : ℕ) (s : List ℕ) → 1 + count_by (λ x. eqb x b) s ≡ parts b s
unfolding parts
parts_counted b [] = refl
parts_counted b (x ∷ s) = ap (λ (n : ℕ). 1 + n) (sum_by-cons (λ y. cond (eqb y b) 1 0) x s) ∙ go (eqb x b) (parts_counted b s)
  where
    go : (q : Bool) → 1 + count_by (λ y. eqb y b) s ≡ parts b s → 1 + (cond q 1 0 + count_by (λ y. eqb y b) s) ≡ cond q (suc (parts b s)) (parts b s)
    go true e = omega (arith, e)
    go false e = omega (arith, e)

-- ---- front

pub front_same : (b : ℕ) (t : List ℕ) → 0 < length t → get_or t 0 0 ≡ b → front b (drop 1 t) ≡ front b t
unfolding front
front_same b [] h e = absurd (omega arith)
front_same b (x ∷ t) h e = rw (eq-eqb x b e)

pub front_other : (b : ℕ) (t : List ℕ) → 0 < length t → (get_or t 0 0 ≡ b → ⊥) → t ≡ front b t
unfolding front
front_other b [] h e = absurd (omega arith)
front_other b (x ∷ t) h e = rw (ne_eqb x b e)

pub front_end : (b : ℕ) (t : List ℕ) → length t ≤ 0 → t ≡ front b t
unfolding front
front_end b [] h = refl
front_end b (x ∷ t) h = absurd (omega arith)

-- ---- kept

module _ (b : ℕ) (s : List ℕ) where
  pub kept_same : (n : ℕ) → 0 < n → get_or s (n - 1) 0 ≡ b → kept b s n ≡ kept b s (n - 1)
  unfolding kept
  kept_same zero h e = absurd (omega arith)
  kept_same (suc n) h e = simp (unary_clauses, eq-eqb (get_or s n 0) b (simp unary_clauses at e))

  pub kept_other : (n : ℕ) → 0 < n → (get_or s (n - 1) 0 ≡ b → ⊥) → kept b s n ≡ n
  unfolding kept
  kept_other zero h e = absurd (omega arith)
  kept_other (suc n) h e = rw (ne_eqb (get_or s n 0) b (simp unary_clauses at e))

  -- the last byte of the front of s, and the front without it
  module _ (t : List ℕ) (e : t ≡ take (length t) s) (h : 1 ≤ length t) where
    last_at : get_or s (length t - 1) 0 ≡ get_or t (length t - 1) 0
    last_at = sym (ap (λ (l : List ℕ). get_or l (length t - 1) 0) e ∙ get_or-take (length t) s (length t - 1) 0 (omega arith))

    pub last_other : (get_or t (length t - 1) 0 ≡ b → ⊥) → length t ≡ kept b s (length t)
    last_other g = sym (kept_other (length t) (omega arith) (rw last_at g))

    pub last_same : get_or t (length t - 1) 0 ≡ b → (kept b s (length (take (length t - 1) t)) ≡ kept b s (length t)) × (take (length t - 1) t ≡ take (length (take (length t - 1) t)) s)
    last_same g =
        let n : length (take (length t - 1) t) ≡ length t - 1 = length-take-le (length t - 1) t (omega arith) in
        rw n (sym (kept_same (length t) (omega arith) (last_at ∙ g)), ap (take (length t - 1)) e ∙ take-take (length t - 1) (length t) s (omega arith))

  pub kept_end : (n : ℕ) → n ≤ 0 → kept b s n ≡ 0
  unfolding kept
  kept_end zero h = refl
  kept_end (suc n) h = absurd (omega arith)

-- ---- same_text

-- the same exactly where they are equal
pub same_refl : (s : List ℕ) → same_text s s ≡ true
same_refl [] = refl
same_refl (x ∷ s) = rw (eq-eqb x x refl) (same_refl s)

pub same_equal : (s t : List ℕ) → same_text s t ≡ true → s ≡ t
same_equal [] [] e = refl
same_equal [] (y ∷ t) e = absurd (false≢true e)
same_equal (x ∷ s) [] e = absurd (false≢true e)
same_equal (x ∷ s) (y ∷ t) e =
    let p = (and-eq-true_iff (eqb x y) (same_text s t)).0 e in
    let q : x ≡ y = eqb-true x y p.0 in
    let r : s ≡ t = same_equal s t p.1 in
    cc
