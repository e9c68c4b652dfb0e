-- Lists without doubles: counting the members of a kind gives the same number in two of them that have the same members of that kind.
use Prim.Native.Nat.{ℕ, suc}
use mathlib.Core.Path.{◌≡◌, refl, sym, ap, ◌∙◌}
use mathlib.Core.Logic.{◌⊎◌, inl, inr}
use mathlib.Core.Bool.{Bool, true, false, cond, true≢false}
use mathlib.Core.List.Memᴰ
use mathlib.Core.List.{List, [], ◌∷◌, ◌++◌, Memᴰ}

module _ {A : Type 0} where
  -- no entry twice
  abbrev pub NoTwice : List A → Type 0
  NoTwice [] = Unit {0}
  NoTwice (a ∷ l) = ((x : A) → Memᴰ x l → x ≡ a → ⊥) × NoTwice l

  pub no_twice_snoc : (l : List A) (a : A) → NoTwice l → ((x : A) → Memᴰ x l → x ≡ a → ⊥) → NoTwice (l ++ (a ∷ []))
  no_twice_snoc [] a n f = (λ (x : A) (m : Memᴰ x []). absurd (Memᴰ.not-nil m), tt)
  no_twice_snoc (b ∷ l) a n f = (λ (x : A) (m : Memᴰ x (l ++ (a ∷ []))). go x (Memᴰ.append_cases l m), no_twice_snoc l a n.1 (λ (x : A) (m : Memᴰ x l). f x (Memᴰ.tail m)))
    where
      go : (x : A) → Memᴰ x l ⊎ Memᴰ x (a ∷ []) → x ≡ b → ⊥
      go x (inl m) e = n.0 x m e
      go x (inr m) e = f b (Memᴰ.head refl) (sym e ∙ Memᴰ.eq_of_singleton m)

  unfoldable pub count_if : (A → Bool) → List A → ℕ
  count_if t [] = 0
  count_if t (d ∷ ds) = cond (t d) (suc (count_if t ds)) (count_if t ds)

  record Removed (t : A → Bool) (a : A) (B : List A) : Type 0 where
    left : List A
    number : count_if t B ≡ suc (count_if t left)
    distinct : NoTwice left
    down : (x : A) → Memᴰ x left → Memᴰ x B
    up : (x : A) → Memᴰ x B → (x ≡ a → ⊥) → Memᴰ x left
    gone : (x : A) → Memᴰ x left → x ≡ a → ⊥

  remove : (t : A → Bool) (a : A) (B : List A) → t a ≡ true → NoTwice B → Memᴰ a B → Removed t a B
  unfolding count_if
  remove t a [] ta d_b m = absurd (Memᴰ.not-nil m)
  remove t a (b ∷ B) ta d_b m = go (Memᴰ.cases_cons m) (remove t a B ta d_b.1)
    where
      go : (a ≡ b) ⊎ Memᴰ a B → (Memᴰ a B → Removed t a B) → Removed t a (b ∷ B)
      go (inl e) ih = record {
        left = B;
        number = ap (λ (z : Bool). cond z (suc (count_if t B)) (count_if t B)) (ap t (sym e) ∙ ta);
        distinct = d_b.1;
        down = λ (x : A) (k : Memᴰ x B). Memᴰ.tail k;
        up = λ (x : A) (k : Memᴰ x (b ∷ B)) (n : x ≡ a → ⊥). split x n (Memᴰ.cases_cons k);
        gone = λ (x : A) (k : Memᴰ x B) (d : x ≡ a). d_b.0 x k (d ∙ e);
      }
        where
          split : (x : A) → (x ≡ a → ⊥) → (x ≡ b) ⊎ Memᴰ x B → Memᴰ x B
          split x n (inl d) = absurd (n (d ∙ sym e))
          split x n (inr k) = k
      go (inr k) ih = record {
        left = b ∷ s.left;
        number = num (t b);
        distinct = (λ (x : A) (j : Memᴰ x s.left). d_b.0 x (s.down x j), s.distinct);
        down = λ (x : A) (j : Memᴰ x (b ∷ s.left)). dn x (Memᴰ.cases_cons j);
        up = λ (x : A) (j : Memᴰ x (b ∷ B)) (n : x ≡ a → ⊥). upw x n (Memᴰ.cases_cons j);
        gone = λ (x : A) (j : Memᴰ x (b ∷ s.left)). no x (Memᴰ.cases_cons j);
      }
        where
          s : Removed t a B
          s = ih k

          num : (z : Bool) → cond z (suc (count_if t B)) (count_if t B) ≡ suc (cond z (suc (count_if t s.left)) (count_if t s.left))
          num true = ap suc s.number
          num false = s.number

          dn : (x : A) → (x ≡ b) ⊎ Memᴰ x s.left → Memᴰ x (b ∷ B)
          dn x (inl d) = Memᴰ.head d
          dn x (inr j) = Memᴰ.tail (s.down x j)

          upw : (x : A) → (x ≡ a → ⊥) → (x ≡ b) ⊎ Memᴰ x B → Memᴰ x (b ∷ s.left)
          upw x n (inl d) = Memᴰ.head d
          upw x n (inr j) = Memᴰ.tail (s.up x j n)

          no : (x : A) → (x ≡ b) ⊎ Memᴰ x s.left → x ≡ a → ⊥
          no x (inl d) e = d_b.0 a k (sym e ∙ d)
          no x (inr j) e = s.gone x j e

  none_counted : (t : A → Bool) (B : List A) → ((x : A) → Memᴰ x B → t x ≡ true → ⊥) → count_if t B ≡ 0
  unfolding count_if
  none_counted t [] n = refl
  none_counted t (b ∷ B) n = go (t b) refl (none_counted t B (λ (x : A) (m : Memᴰ x B). n x (Memᴰ.tail m)))
    where
      go : (z : Bool) → t b ≡ z → count_if t B ≡ 0 → cond z (suc (count_if t B)) (count_if t B) ≡ 0
      go true e ih = absurd (n b (Memᴰ.head refl) e)
      go false e ih = ih

  pub count_same : (t : A → Bool) (X Y : List A) → NoTwice X → NoTwice Y → ((x : A) → Memᴰ x X → t x ≡ true → Memᴰ x Y) → ((x : A) → Memᴰ x Y → t x ≡ true → Memᴰ x X) → count_if t X ≡ count_if t Y
  unfolding count_if
  count_same t [] Y d_x d_y f g = sym (none_counted t Y (λ (x : A) (m : Memᴰ x Y) (e : t x ≡ true). Memᴰ.not-nil (g x m e)))
  count_same t (a ∷ X) Y d_x d_y f g = go (t a) refl (count_same t X)
    where
      Hyp : Type 0
      Hyp = (Y : List A) → NoTwice X → NoTwice Y → ((x : A) → Memᴰ x X → t x ≡ true → Memᴰ x Y) → ((x : A) → Memᴰ x Y → t x ≡ true → Memᴰ x X) → count_if t X ≡ count_if t Y

      pick : (x : A) → (x ≡ a → ⊥) → (x ≡ a) ⊎ Memᴰ x X → Memᴰ x X
      pick x n (inl e) = absurd (n e)
      pick x n (inr m) = m

      go : (z : Bool) → t a ≡ z → Hyp → cond z (suc (count_if t X)) (count_if t X) ≡ count_if t Y
      go true e ih =
          let s : Removed t a Y = remove t a Y e d_y (f a (Memᴰ.head refl) e) in
          ap suc (ih s.left d_x.1 s.distinct
          (λ (x : A) (m : Memᴰ x X) (k : t x ≡ true). s.up x (f x (Memᴰ.tail m) k) (d_x.0 x m))
          (λ (x : A) (m : Memᴰ x s.left) (k : t x ≡ true). pick x (s.gone x m) (Memᴰ.cases_cons (g x (s.down x m) k)))) ∙ sym s.number
      go false e ih = ih Y d_x.1 d_y (λ (x : A) (m : Memᴰ x X). f x (Memᴰ.tail m))
          (λ (x : A) (m : Memᴰ x Y) (k : t x ≡ true). pick x (λ (d : x ≡ a). true≢false (sym k ∙ (ap t d ∙ e))) (Memᴰ.cases_cons (g x m k)))
