-- Contracts that are equations determine the result; answers by their code; and the lower of two refusals. Assumes nothing.
use Prim.Native.Nat.{ℕ, min}
use mathlib.Core.Path.{◌≡◌, refl, sym, ◌∙◌}
use mathlib.Core.Bool.{Bool, true, false, cond}
use native.Mathlib.Omega.{arith}
use lib.Dec.{eqb}
use borrow.Author.Tests.{ne_eqb, eqb-true, eqb-false}
use Rattle.span.specs.Answer.{answer, lower}

-- A public contract of this crate is `r ≡ definition arguments`: any two results that meet it, from the same arguments, are equal. Six say the
-- number, `code_of r ≡ definition arguments` (`check`, `check_merge`, `check_slice` of chunk and of span): for these `code_of-injective`
-- (RefusalLaws) says it.
pub determined : {A : Type 0} (definition : A) {r s : A} → r ≡ definition → s ≡ definition → r ≡ s
determined d p q = p ∙ sym q

-- where the code is 0 the answer is the value, and else the code
pub is_done : {X A : Type 0} (d : X → A) (r : ℕ → A) (k : ℕ) {x y : X} → k ≡ 0 → x ≡ y → d x ≡ answer d r k y
unfolding answer
is_done d r k e q = rw (e, q)

pub is_refused : {X A : Type 0} (d : X → A) (r : ℕ → A) (k c : ℕ) (y : X) → (c ≡ 0 → ⊥) → c ≡ k → r c ≡ answer d r k y
unfolding answer
is_refused d r k c y n e = rw (← e) (rw (ne_eqb c 0 n))

-- the lower of two refusals, by whether each is one
pub lower_by : (x y : ℕ) (t u : Bool) → eqb x 0 ≡ t → eqb y 0 ≡ u → cond t y (cond u x (min x y)) ≡ lower x y
unfolding lower
lower_by x y t u p q = rw (p, q)

-- it is none exactly where both are none
pub lower_none : (x y : ℕ) → x ≡ 0 → y ≡ 0 → lower x y ≡ 0
unfolding lower
lower_none x y p q = rw (p, q)

pub lower_zero : (x y : ℕ) → lower x y ≡ 0 → (x ≡ 0) × (y ≡ 0)
unfolding lower
lower_zero x y e = go (eqb x 0) (eqb y 0) refl refl e
  where
    go : (t u : Bool) → eqb x 0 ≡ t → eqb y 0 ≡ u → cond t y (cond u x (min x y)) ≡ 0 → (x ≡ 0) × (y ≡ 0)
    go true u p q z = (eqb-true x 0 p, z)
    go false true p q z = absurd (eqb-false x 0 p z)
    go false false p q z = (omega (arith, eqb-false x 0 p, eqb-false y 0 q), omega (arith, eqb-false x 0 p, eqb-false y 0 q))
