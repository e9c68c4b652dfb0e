-- Ids in order: smaller peer, then smaller counter. A counter is a ℤ. The order is strict and total.
use Prim.Native.Nat.{ℕ, suc, ◌+◌, ◌-◌, ◌<◌}
use mathlib.Core.Path.{◌≡◌, refl, sym, ap, ap₂, subst, ◌∙◌}
use mathlib.Core.Logic.{◌⊎◌, inl, inr}
use mathlib.Core.Bool.{Bool, true, false, cond}
use lib.Dec.{ltb}
use borrow.Author.Tests.{ltb-true}
use native.Mathlib.Omega.{arith}
use native.Mathlib.Decide.{dec_lt}
use lib.IntN.{ℤ, pos, negsuc, ◌+ℤ◌}
use Rattle.span.specs.declared.ids.Id.{Id}
use Rattle.span.specs.Ids.{id, inc_id}
use Rattle.span.proofs.IdsLaws.{add-add}

-- the three ways two things can lie
pub data Tri (A B C : Type 0) : Type 0 where
  tlt : A → Tri A B C
  teq : B → Tri A B C
  tgt : C → Tri A B C

abbrev pub LtZ : ℤ → ℤ → Type 0
LtZ (pos a) (pos b) = a < b
LtZ (pos a) (negsuc b) = ⊥
LtZ (negsuc a) (pos b) = Unit {0}
LtZ (negsuc a) (negsuc b) = b < a

pub LtZ-irrefl : (a : ℤ) → LtZ a a → ⊥
LtZ-irrefl (pos a) h = omega arith
LtZ-irrefl (negsuc a) h = omega arith

pub LtZ-trans : (a b c : ℤ) → LtZ a b → LtZ b c → LtZ a c
LtZ-trans (pos a) (pos b) (pos c) h k = omega arith
LtZ-trans (pos a) (pos b) (negsuc c) h k = k
LtZ-trans (pos a) (negsuc b) c h k = absurd h
LtZ-trans (negsuc a) (pos b) (pos c) h k = tt
LtZ-trans (negsuc a) (pos b) (negsuc c) h k = absurd k
LtZ-trans (negsuc a) (negsuc b) (pos c) h k = tt
LtZ-trans (negsuc a) (negsuc b) (negsuc c) h k = omega arith

tri_nat : (a b : ℕ) → Tri (a < b) (a ≡ b) (b < a)
tri_nat a b = go (dec_lt a b) (dec_lt b a)
  where
    go : Dec (a < b) → Dec (b < a) → Tri (a < b) (a ≡ b) (b < a)
    go (yes h) k = tlt h
    go (no h) (yes k) = tgt k
    go (no h) (no k) = teq (omega arith)

tri_z : (a b : ℤ) → Tri (LtZ a b) (a ≡ b) (LtZ b a)
tri_z (pos a) (pos b) = elim (tri_nat a b) [ tlt h ↦ tlt h | teq h ↦ teq (ap pos h) | tgt h ↦ tgt h ]
tri_z (pos a) (negsuc b) = tgt tt
tri_z (negsuc a) (pos b) = tlt tt
tri_z (negsuc a) (negsuc b) = elim (tri_nat b a) [ tlt h ↦ tlt h | teq h ↦ teq (ap negsuc (sym h)) | tgt h ↦ tgt h ]

abbrev pub LtId : Id → Id → Type 0
LtId a b = (a.peer < b.peer) ⊎ ((a.peer ≡ b.peer) × LtZ a.counter b.counter)

pub LtId-irrefl : (a : Id) → LtId a a → ⊥
LtId-irrefl a (inl h) = omega arith
LtId-irrefl a (inr h) = LtZ-irrefl a.counter h.1

pub LtId-trans : (a b c : Id) → LtId a b → LtId b c → LtId a c
LtId-trans a b c (inl h) (inl k) = inl (omega arith)
LtId-trans a b c (inl h) (inr k) = inl (omega arith)
LtId-trans a b c (inr h) (inl k) = inl (omega arith)
LtId-trans a b c (inr h) (inr k) = inr (h.0 ∙ k.0, LtZ-trans a.counter b.counter c.counter h.1 k.1)

pub tri_id : (a b : Id) → Tri (LtId a b) (a ≡ b) (LtId b a)
tri_id a b = go (tri_nat a.peer b.peer) (tri_z a.counter b.counter)
  where
    go : Tri (a.peer < b.peer) (a.peer ≡ b.peer) (b.peer < a.peer) → Tri (LtZ a.counter b.counter) (a.counter ≡ b.counter) (LtZ b.counter a.counter) → Tri (LtId a b) (a ≡ b) (LtId b a)
    go (tlt h) k = tlt (inl h)
    go (tgt h) k = tgt (inl h)
    go (teq h) (tlt k) = tlt (inr (h, k))
    go (teq h) (teq k) = teq (ap₂ id h k)
    go (teq h) (tgt k) = tgt (inr (sym h, k))

-- of one peer, and past it: what every unit of a new unit's peer is to it
abbrev pub Older : Id → Id → Type 0
Older a b = a.peer ≡ b.peer → LtZ a.counter b.counter

pub older_no : (a b : Id) → Older a b → a ≡ b → ⊥
older_no a b h e = LtZ-irrefl b.counter (subst (λ (z : Id). LtZ z.counter b.counter) e (h (ap (λ (z : Id). z.peer) e)))

-- the ids of a span rise
add-one : (z : ℤ) → LtZ z (z +ℤ pos 1)
add-one (pos a) = omega arith
add-one (negsuc a) = go (ltb 1 (suc a)) refl
  where
    go : (b : Bool) → ltb 1 (suc a) ≡ b → LtZ (negsuc a) (cond b (negsuc (suc a - 2)) (pos (1 - suc a)))
    go true e = let h : 1 < suc a = ltb-true 1 (suc a) e in omega arith
    go false e = tt

pub add_lt : (z : ℤ) (k : ℕ) → LtZ (z +ℤ pos k) (z +ℤ pos (suc k))
add_lt z k = subst (λ (y : ℤ). LtZ (z +ℤ pos k) y) (add-add z k 1 ∙ ap (λ (n : ℕ). z +ℤ pos n) (let e : k + 1 ≡ suc k = omega arith in e)) (add-one (z +ℤ pos k))

pub inc_older : (i : Id) (k : ℕ) → Older (inc_id i k) (inc_id i (suc k))
unfolding inc_id
inc_older i k e = add_lt i.counter k

pub older_inc : (a i : Id) (k : ℕ) → Older a (inc_id i k) → Older a (inc_id i (suc k))
unfolding inc_id
older_inc a i k h e = LtZ-trans a.counter (i.counter +ℤ pos k) (i.counter +ℤ pos (suc k)) (h e) (add_lt i.counter k)
