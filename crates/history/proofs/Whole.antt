-- The version of the whole set has rising peers, counts of at least 1, and for each office what its edits add up to.
use Prim.Native.Nat.{ℕ, ◌+◌, ◌<◌, ◌≤◌}
use mathlib.Core.Path.{◌≡◌, refl, sym, ap, ap₂, subst, ◌∙◌}
use mathlib.Core.Bool.{Bool, true, false, ◌&&◌, cond, and-eq-true_iff}
use mathlib.Core.List.Memᴰ
use mathlib.Core.List.{List, [], ◌∷◌, Memᴰ}
use mathlib.Core.Logic.{◌⊎◌, inl, inr}
use native.Mathlib.Omega.{arith}
use lib.Dec.{eqb, ltb}
use lib.IntN.{pos}
use lib.Signed.{le_z}
use borrow.Author.Tests.{lt-ltb, le-leb}
use Rattle.units.specs.Lists.{every}
use Rattle.fugue.proofs.Tests.{Test, pass, fail, eqb_test, ltb_test}
use Rattle.history.specs.Edit.{Count, Version, Edit, size}
use Rattle.history.specs.Version.{number, count_of, above, rising}
use Rattle.history.specs.Demand.{InSet, counted, sum, add_count, whole_of}
use Rattle.history.proofs.Codes.{rising-above}

pub record Whole (S : List Edit) (v : Version) : Type 0 where
  pub pairs : rising v && counted v ≡ true
  pub counts : (p : ℕ) → count_of v p ≡ sum (λ (e : Edit). cond (eqb e.id.peer p) (size e) 0) S

-- ---- one more office, or more of one

-- the three ways that an office lies to the first pair
data Place (p : ℕ) (k : Count) : Type 0 where
  less : p < k.peer → ltb p k.peer ≡ true → Place p k
  same : p ≡ k.peer → ltb p k.peer ≡ false → eqb p k.peer ≡ true → Place p k
  more : k.peer < p → ltb p k.peer ≡ false → eqb p k.peer ≡ false → Place p k

place : (p : ℕ) (k : Count) → Place p k
place p k = go (ltb_test p k.peer) (eqb_test p k.peer)
  where
    go : Test (ltb p k.peer) (p < k.peer) → Test (eqb p k.peer) (p ≡ k.peer) → Place p k
    go (pass a h) t = less h a
    go (fail a h) (pass b d) = same d a b
    go (fail a h) (fail b d) = more (omega arith) a b

above_add : (q p m : ℕ) (v : Version) → q < p → above q v ≡ true → above q (add_count p m v) ≡ true
unfolding above add_count
above_add q p m [] h a = lt-ltb q p h
above_add q p m (k ∷ v) h a = go (place p k)
  where
    G : Bool → Bool → Type 0
    G x y = above q (cond x (record { peer = p; many = pos m } ∷ (k ∷ v)) (cond y (record { peer = p; many = pos (m + number k.many) } ∷ v) (k ∷ add_count p m v))) ≡ true

    go : Place p k → G (ltb p k.peer) (eqb p k.peer)
    go (less d x) = subst (λ (z : Bool). G z (eqb p k.peer)) (sym x) (lt-ltb q p h)
    go (same d x y) = subst (λ (z : Bool). G z (eqb p k.peer)) (sym x) (subst (λ (z : Bool). G false z) (sym y) (lt-ltb q p h))
    go (more d x y) = subst (λ (z : Bool). G z (eqb p k.peer)) (sym x) (subst (λ (z : Bool). G false z) (sym y) a)

rising_add : (p m : ℕ) (v : Version) → rising v ≡ true → rising (add_count p m v) ≡ true
unfolding rising add_count above
rising_add p m [] r = refl
rising_add p m (k ∷ v) r = go (place p k) ((and-eq-true_iff (above k.peer v) (rising v)).0 r) (rising_add p m v)
  where
    G : Bool → Bool → Type 0
    G x y = rising (cond x (record { peer = p; many = pos m } ∷ (k ∷ v)) (cond y (record { peer = p; many = pos (m + number k.many) } ∷ v) (k ∷ add_count p m v))) ≡ true

    go : Place p k → (above k.peer v ≡ true) × (rising v ≡ true) → (rising v ≡ true → rising (add_count p m v) ≡ true) → G (ltb p k.peer) (eqb p k.peer)
    go (less d x) b ih = subst (λ (z : Bool). G z (eqb p k.peer)) (sym x) (ap₂ ◌&&◌ (lt-ltb p k.peer d) r)
    go (same d x y) b ih = subst (λ (z : Bool). G z (eqb p k.peer)) (sym x) (subst (λ (z : Bool). G false z) (sym y) (ap₂ ◌&&◌ (ap (λ (q : ℕ). above q v) d ∙ b.0) b.1))
    go (more d x y) b ih = subst (λ (z : Bool). G z (eqb p k.peer)) (sym x) (subst (λ (z : Bool). G false z) (sym y) (ap₂ ◌&&◌ (above_add k.peer p m v d b.0) (ih b.1)))

counted_add : (p m : ℕ) (v : Version) → 1 ≤ m → counted v ≡ true → counted (add_count p m v) ≡ true
unfolding add_count every
counted_add p m [] h c = ap₂ ◌&&◌ (le-leb 1 m h) refl
counted_add p m (k ∷ v) h c = go (place p k) ((and-eq-true_iff (le_z (pos 1) k.many) (counted v)).0 c) (counted_add p m v h)
  where
    G : Bool → Bool → Type 0
    G x y = counted (cond x (record { peer = p; many = pos m } ∷ (k ∷ v)) (cond y (record { peer = p; many = pos (m + number k.many) } ∷ v) (k ∷ add_count p m v))) ≡ true

    go : Place p k → (le_z (pos 1) k.many ≡ true) × (counted v ≡ true) → (counted v ≡ true → counted (add_count p m v) ≡ true) → G (ltb p k.peer) (eqb p k.peer)
    go (less d x) b ih = subst (λ (z : Bool). G z (eqb p k.peer)) (sym x) (ap₂ ◌&&◌ (le-leb 1 m h) c)
    go (same d x y) b ih = subst (λ (z : Bool). G z (eqb p k.peer)) (sym x) (subst (λ (z : Bool). G false z) (sym y) (ap₂ ◌&&◌ (le-leb 1 (m + number k.many) (omega arith)) b.1))
    go (more d x y) b ih = subst (λ (z : Bool). G z (eqb p k.peer)) (sym x) (subst (λ (z : Bool). G false z) (sym y) (ap₂ ◌&&◌ b.0 (ih b.1)))

-- an office below all pairs has no count
none_below : (p : ℕ) (v : Version) → ((k : Count) → Memᴰ k v → p < k.peer) → count_of v p ≡ 0
unfolding count_of
none_below p [] f = refl
none_below p (k ∷ v) f = go (eqb_test k.peer p) (none_below p v (λ (c : Count) (m : Memᴰ c v). f c (Memᴰ.tail m)))
  where
    go : Test (eqb k.peer p) (k.peer ≡ p) → count_of v p ≡ 0 → cond (eqb k.peer p) (number k.many) (count_of v p) ≡ 0
    go (pass b d) ih = absurd (let z : ⊥ = omega (arith, f k (Memᴰ.head refl)) in z)
    go (fail b d) ih = ap (λ (z : Bool). cond z (number k.many) (count_of v p)) b ∙ ih

count_add : (p m : ℕ) (v : Version) → rising v ≡ true → (q : ℕ) → count_of (add_count p m v) q ≡ cond (eqb p q) m 0 + count_of v q
unfolding count_of add_count rising
count_add p m [] r q = go (eqb p q)
  where
    go : (b : Bool) → cond b m 0 ≡ cond b m 0 + 0
    go true = omega arith
    go false = omega arith
count_add p m (k ∷ v) r q = at (place p k) ((and-eq-true_iff (above k.peer v) (rising v)).0 r) (λ (h : rising v ≡ true). count_add p m v h q)
  where
    K : ℕ
    K = cond (eqb k.peer q) (number k.many) (count_of v q)

    G : Bool → Bool → Type 0
    G x y = count_of (cond x (record { peer = p; many = pos m } ∷ (k ∷ v)) (cond y (record { peer = p; many = pos (m + number k.many) } ∷ v) (k ∷ add_count p m v))) q ≡ cond (eqb p q) m 0 + cond (eqb k.peer q) (number k.many) (count_of v q)

    less_case : p < k.peer → above k.peer v ≡ true → rising v ≡ true → Test (eqb p q) (p ≡ q) → cond (eqb p q) m (cond (eqb k.peer q) (number k.many) (count_of v q)) ≡ cond (eqb p q) m 0 + cond (eqb k.peer q) (number k.many) (count_of v q)
    less_case h a b (fail t d) = ap (λ (z : Bool). cond z m (cond (eqb k.peer q) (number k.many) (count_of v q))) t ∙ (let e : cond (eqb k.peer q) (number k.many) (count_of v q) ≡ 0 + cond (eqb k.peer q) (number k.many) (count_of v q) = omega arith in e
        ∙ ap (λ (z : Bool). cond z m 0 + cond (eqb k.peer q) (number k.many) (count_of v q)) (sym t))
    less_case h a b (pass t d) =
        let none : cond (eqb k.peer q) (number k.many) (count_of v q) ≡ 0 = subst (λ (z : ℕ). cond (eqb k.peer z) (number k.many) (count_of v z) ≡ 0) d (none_below p (k ∷ v) below) in
        ap (λ (z : Bool). cond z m (cond (eqb k.peer q) (number k.many) (count_of v q))) t ∙ (omega_step none ∙ ap (λ (z : Bool). cond z m 0 + cond (eqb k.peer q) (number k.many) (count_of v q)) (sym t))
      where
        below : (c : Count) → Memᴰ c (k ∷ v) → p < c.peer
        below c mc = two (Memᴰ.cases_cons mc)
          where
            two : (c ≡ k) ⊎ Memᴰ c v → p < c.peer
            two (inl e) = subst (λ (z : Count). p < z.peer) (sym e) h
            two (inr j) = omega (arith, rising-above k.peer v a b c j)

        omega_step : cond (eqb k.peer q) (number k.many) (count_of v q) ≡ 0 → m ≡ m + cond (eqb k.peer q) (number k.many) (count_of v q)
        omega_step e = omega arith

    same_case : p ≡ k.peer → cond (eqb p q) (m + number k.many) (count_of v q) ≡ cond (eqb p q) m 0 + cond (eqb k.peer q) (number k.many) (count_of v q)
    same_case d = subst (λ (z : ℕ). cond (eqb p q) (m + number k.many) (count_of v q) ≡ cond (eqb p q) m 0 + cond (eqb z q) (number k.many) (count_of v q)) d (go (eqb p q))
      where
        go : (b : Bool) → cond b (m + number k.many) (count_of v q) ≡ cond b m 0 + cond b (number k.many) (count_of v q)
        go true = refl
        go false = omega arith

    more_case : k.peer < p → count_of (add_count p m v) q ≡ cond (eqb p q) m 0 + count_of v q → Test (eqb k.peer q) (k.peer ≡ q) → Test (eqb p q) (p ≡ q)
        → cond (eqb k.peer q) (number k.many) (count_of (add_count p m v) q) ≡ cond (eqb p q) m 0 + cond (eqb k.peer q) (number k.many) (count_of v q)
    more_case h ih (fail t d) s = ap (λ (z : Bool). cond z (number k.many) (count_of (add_count p m v) q)) t ∙ (ih ∙ ap (λ (z : Bool). cond (eqb p q) m 0 + cond z (number k.many) (count_of v q)) (sym t))
    more_case h ih (pass t d) (pass s c) = absurd (let z : ⊥ = omega arith in z)
    more_case h ih (pass t d) (fail s c) = ap (λ (z : Bool). cond z (number k.many) (count_of (add_count p m v) q)) t
        ∙ (let e : number k.many ≡ 0 + number k.many = omega arith in e ∙ ap₂ (λ (z w : Bool). cond z m 0 + cond w (number k.many) (count_of v q)) (sym s) (sym t))

    at : Place p k → (above k.peer v ≡ true) × (rising v ≡ true) → (rising v ≡ true → count_of (add_count p m v) q ≡ cond (eqb p q) m 0 + count_of v q) → G (ltb p k.peer) (eqb p k.peer)
    at (less d x) b ih = subst (λ (z : Bool). G z (eqb p k.peer)) (sym x) (less_case d b.0 b.1 (eqb_test p q))
    at (same d x y) b ih = subst (λ (z : Bool). G z (eqb p k.peer)) (sym x) (subst (λ (z : Bool). G false z) (sym y) (same_case d))
    at (more d x y) b ih = subst (λ (z : Bool). G z (eqb p k.peer)) (sym x) (subst (λ (z : Bool). G false z) (sym y) (more_case d (ih b.1) (eqb_test k.peer q) (eqb_test p q)))

pub whole_of_lem : (S : List Edit) → ((e : Edit) → InSet e S → 1 ≤ size e) → Whole S (whole_of S)
unfolding whole_of sum
whole_of_lem [] f = record { pairs = (unfold rising every in refl); counts = λ (p : ℕ). (unfold count_of in refl) }
whole_of_lem (e ∷ S) f = on (whole_of_lem S (λ (g : Edit) (m : InSet g S). f g (Memᴰ.tail m)))
  where
    on : Whole S (whole_of S) → Whole (e ∷ S) (add_count e.id.peer (size e) (whole_of S))
    on t =
        let b = (and-eq-true_iff (rising (whole_of S)) (counted (whole_of S))).0 t.pairs in
        record {
          pairs = ap₂ ◌&&◌ (rising_add e.id.peer (size e) (whole_of S) b.0) (counted_add e.id.peer (size e) (whole_of S) (f e (Memᴰ.head refl)) b.1);
          counts = λ (p : ℕ). count_add e.id.peer (size e) (whole_of S) b.0 p ∙ (unfold sum in ap (λ (k : ℕ). cond (eqb e.id.peer p) (size e) 0 + k) (t.counts p));
        }
