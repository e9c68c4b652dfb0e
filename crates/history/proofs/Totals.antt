-- What edits add up to does not depend on their order: sums, lengths and the number of offices over two lists without doubles that have the same members.
use Prim.Native.Nat.{ℕ, suc, ◌+◌, ◌≤◌}
use mathlib.Core.Path.{◌≡◌, refl, sym, ap, subst, ◌∙◌}
use mathlib.Core.Logic.{◌⊎◌, inl, inr}
use mathlib.Core.Bool.{Bool, true, false, not, ◌||◌, cond, true≢false}
use mathlib.Core.List.Memᴰ
use mathlib.Core.List.{List, [], ◌∷◌, ◌++◌}
use native.Mathlib.Omega.{arith}
use lib.Dec.{eqb}
use lib.ListN.{length}
use borrow.Author.Tests.{eq-eqb}
use Rattle.units.specs.Lists.{some, keep_if}
use Rattle.fugue.proofs.Tests.{Test, pass, fail, eqb_test}
use Rattle.history.specs.Edit.{Edit}
use Rattle.history.specs.Demand.{InSet, Once, peers, sum}

-- ---- sums

pub sum-app : (f : Edit → ℕ) (X Y : List Edit) → sum f (X ++ Y) ≡ sum f X + sum f Y
unfolding sum
sum-app f [] Y = omega arith
sum-app f (e ∷ X) Y = let h : sum f (X ++ Y) ≡ sum f X + sum f Y = sum-app f X Y in omega arith

record Removed (f : Edit → ℕ) (a : Edit) (B : List Edit) : Type 0 where
  left : List Edit
  number : sum f B ≡ f a + sum f left
  once : Once left
  down : (x : Edit) → InSet x left → InSet x B
  up : (x : Edit) → InSet x B → (x ≡ a → ⊥) → InSet x left
  gone : (x : Edit) → InSet x left → x ≡ a → ⊥

remove : (f : Edit → ℕ) (a : Edit) (B : List Edit) → Once B → InSet a B → Removed f a B
unfolding sum
remove f a [] o m = absurd (Memᴰ.not-nil m)
remove f a (b ∷ B) o m = go (Memᴰ.cases_cons m) (remove f a B o.1)
  where
    go : (a ≡ b) ⊎ InSet a B → (InSet a B → Removed f a B) → Removed f a (b ∷ B)
    go (inl e) ih = record {
      left = B;
      number = ap (λ (z : Edit). f z + sum f B) (sym e);
      once = o.1;
      down = λ (x : Edit) (k : InSet x B). Memᴰ.tail k;
      up = λ (x : Edit) (k : InSet x (b ∷ B)) (n : x ≡ a → ⊥). split x n (Memᴰ.cases_cons k);
      gone = λ (x : Edit) (k : InSet x B) (d : x ≡ a). o.0 x k (d ∙ e);
    }
      where
        split : (x : Edit) → (x ≡ a → ⊥) → (x ≡ b) ⊎ InSet x B → InSet x B
        split x n (inl d) = absurd (n (d ∙ sym e))
        split x n (inr k) = k
    go (inr k) ih = record {
      left = b ∷ s.left;
      number = num;
      once = ((λ (x : Edit) (j : InSet x s.left). o.0 x (s.down x j)), s.once);
      down = λ (x : Edit) (j : InSet x (b ∷ s.left)). dn x (Memᴰ.cases_cons j);
      up = λ (x : Edit) (j : InSet x (b ∷ B)) (n : x ≡ a → ⊥). upw x n (Memᴰ.cases_cons j);
      gone = λ (x : Edit) (j : InSet x (b ∷ s.left)). not_a x (Memᴰ.cases_cons j);
    }
      where
        s : Removed f a B
        s = ih k

        num : f b + sum f B ≡ f a + (f b + sum f s.left)
        num = omega (arith, s.number)

        dn : (x : Edit) → (x ≡ b) ⊎ InSet x s.left → InSet x (b ∷ B)
        dn x (inl d) = Memᴰ.head d
        dn x (inr j) = Memᴰ.tail (s.down x j)

        upw : (x : Edit) → (x ≡ a → ⊥) → (x ≡ b) ⊎ InSet x B → InSet x (b ∷ s.left)
        upw x n (inl d) = Memᴰ.head d
        upw x n (inr j) = Memᴰ.tail (s.up x j n)

        not_a : (x : Edit) → (x ≡ b) ⊎ InSet x s.left → x ≡ a → ⊥
        not_a x (inl d) e = o.0 a k (sym e ∙ d)
        not_a x (inr j) e = s.gone x j e

pub sum_same : (f : Edit → ℕ) (X Y : List Edit) → Once X → Once Y → ((x : Edit) → InSet x X → InSet x Y) → ((x : Edit) → InSet x Y → InSet x X) → sum f X ≡ sum f Y
unfolding sum
sum_same f [] [] o_x o_y to from = refl
sum_same f [] (y ∷ Y) o_x o_y to from = absurd (Memᴰ.not-nil (from y (Memᴰ.head refl)))
sum_same f (a ∷ X) Y o_x o_y to from =
    let s : Removed f a Y = remove f a Y o_y (to a (Memᴰ.head refl)) in
    let ih : sum f X ≡ sum f s.left = sum_same f X s.left o_x.1 s.once
    (λ (x : Edit) (m : InSet x X). s.up x (to x (Memᴰ.tail m)) (o_x.0 x m))
    (λ (x : Edit) (m : InSet x s.left). pick x (s.gone x m) (Memᴰ.cases_cons (from x (s.down x m)))) in
    ap (λ (k : ℕ). f a + k) ih ∙ sym s.number
  where
    pick : (x : Edit) → (x ≡ a → ⊥) → (x ≡ a) ⊎ InSet x X → InSet x X
    pick x n (inl d) = absurd (n d)
    pick x n (inr k) = k

pub sum-length : (X : List Edit) → sum (λ (e : Edit). 1) X ≡ length X
unfolding sum
sum-length [] = refl
sum-length (e ∷ X) = let h : sum (λ (e : Edit). 1) X ≡ length X = sum-length X in omega arith

-- ---- offices

abbrev of : ℕ → Edit → Bool
of p f = eqb f.id.peer p

-- an edit of the office is there
some_of : (p : ℕ) (X : List Edit) → some (of p) X ≡ true → (e : Edit) × InSet e X × (e.id.peer ≡ p)
unfolding some
some_of p [] h = absurd (true≢false (sym h))
some_of p (e ∷ X) h = go (eqb_test e.id.peer p) (some_of p X)
  where
    go : Test (eqb e.id.peer p) (e.id.peer ≡ p) → (some (of p) X ≡ true → (f : Edit) × InSet f X × (f.id.peer ≡ p)) → (f : Edit) × InSet f (e ∷ X) × (f.id.peer ≡ p)
    go (pass b d) ih = (e, Memᴰ.head refl, d)
    go (fail b d) ih = let t : (f : Edit) × InSet f X × (f.id.peer ≡ p) = ih (ap (λ (z : Bool). z || some (of p) X) (sym b) ∙ h) in (t.0, Memᴰ.tail t.1, t.2)

of_some : (p : ℕ) (X : List Edit) (e : Edit) → InSet e X → e.id.peer ≡ p → some (of p) X ≡ true
unfolding some
of_some p [] e m d = absurd (Memᴰ.not-nil m)
of_some p (f ∷ X) e m d = go (Memᴰ.cases_cons m) (λ (k : InSet e X). of_some p X e k d)
  where
    right : (b : Bool) → b || true ≡ true
    right true = refl
    right false = refl

    go : (e ≡ f) ⊎ InSet e X → (InSet e X → some (of p) X ≡ true) → (eqb f.id.peer p || some (of p) X) ≡ true
    go (inl q) ih = ap (λ (b : Bool). b || some (of p) X) (eq-eqb f.id.peer p (ap (λ (z : Edit). z.id.peer) (sym q) ∙ d))
    go (inr k) ih = ap (λ (b : Bool). eqb f.id.peer p || b) (ih k) ∙ right (eqb f.id.peer p)

-- those of other offices
others : ℕ → List Edit → List Edit
others p X = keep_if (λ (f : Edit). not (of p f)) X

others_in : (p : ℕ) (X : List Edit) (e : Edit) → InSet e (others p X) → InSet e X × ¬ (e.id.peer ≡ p)
unfolding others keep_if
others_in p [] e m = absurd (Memᴰ.not-nil m)
others_in p (f ∷ X) e m = go (eqb_test f.id.peer p) (others_in p X e)
  where
    two : ¬ (f.id.peer ≡ p) → (InSet e (others p X) → InSet e X × ¬ (e.id.peer ≡ p)) → (e ≡ f) ⊎ InSet e (others p X) → InSet e (f ∷ X) × ¬ (e.id.peer ≡ p)
    two d ih (inl q) = (Memᴰ.head q, λ (k : e.id.peer ≡ p). d (ap (λ (z : Edit). z.id.peer) (sym q) ∙ k))
    two d ih (inr k) = (Memᴰ.tail (ih k).0, (ih k).1)

    go : Test (eqb f.id.peer p) (f.id.peer ≡ p) → (InSet e (others p X) → InSet e X × ¬ (e.id.peer ≡ p)) → InSet e (f ∷ X) × ¬ (e.id.peer ≡ p)
    go (pass b d) ih = let k : InSet e (others p X) = subst (λ (z : Bool). InSet e (cond (not z) (f ∷ others p X) (others p X))) b m in (Memᴰ.tail (ih k).0, (ih k).1)
    go (fail b d) ih = two d ih (Memᴰ.cases_cons (subst (λ (z : Bool). InSet e (cond (not z) (f ∷ others p X) (others p X))) b m))

in_others : (p : ℕ) (X : List Edit) (e : Edit) → InSet e X → ¬ (e.id.peer ≡ p) → InSet e (others p X)
unfolding others keep_if
in_others p [] e m d = absurd (Memᴰ.not-nil m)
in_others p (f ∷ X) e m d = go (eqb_test f.id.peer p) (Memᴰ.cases_cons m) (λ (k : InSet e X). in_others p X e k d)
  where
    G : Bool → Type 0
    G z = InSet e (cond (not z) (f ∷ others p X) (others p X))

    go : Test (eqb f.id.peer p) (f.id.peer ≡ p) → (e ≡ f) ⊎ InSet e X → (InSet e X → InSet e (others p X)) → G (eqb f.id.peer p)
    go (pass b k) (inl q) ih = absurd (d (ap (λ (z : Edit). z.id.peer) q ∙ k))
    go (pass b k) (inr j) ih = subst G (sym b) (ih j)
    go (fail b k) (inl q) ih = subst G (sym b) (Memᴰ.head q)
    go (fail b k) (inr j) ih = subst G (sym b) (Memᴰ.tail (ih j))

-- being there is the same in those of other offices
some-others : (p q : ℕ) (X : List Edit) → ¬ (q ≡ p) → some (of q) (others p X) ≡ some (of q) X
some-others p q X d = go (some (of q) X) refl (some (of q) (others p X)) refl
  where
    go : (a : Bool) → some (of q) X ≡ a → (b : Bool) → some (of q) (others p X) ≡ b → some (of q) (others p X) ≡ some (of q) X
    go true x true y = y ∙ sym x
    go false x false y = y ∙ sym x
    go true x false y =
        let t : (e : Edit) × InSet e X × (e.id.peer ≡ q) = some_of q X x in
        absurd (true≢false (sym (of_some q (others p X) t.0 (in_others p X t.0 t.1 (λ (k : t.0.id.peer ≡ p). d (sym t.2 ∙ k))) t.2) ∙ y))
    go false x true y =
        let t : (e : Edit) × InSet e (others p X) × (e.id.peer ≡ q) = some_of q (others p X) y in
        absurd (true≢false (sym (of_some q X t.0 (others_in p X t.0 t.1).0 t.2) ∙ x))

-- an office that is there is one of those counted
peers-others : (p : ℕ) (X : List Edit) → peers X ≡ cond (some (of p) X) (suc (peers (others p X))) (peers (others p X))
unfolding peers others keep_if some
peers-others p [] = refl
peers-others p (f ∷ X) = go (eqb_test f.id.peer p) (peers-others p X)
  where
    R : Bool → ℕ
    R b = cond (b || some (of p) X) (suc (peers (cond (not b) (f ∷ others p X) (others p X)))) (peers (cond (not b) (f ∷ others p X) (others p X)))

    same : f.id.peer ≡ p → peers X ≡ cond (some (of p) X) (suc (peers (others p X))) (peers (others p X)) → cond (some (of f.id.peer) X) (peers X) (suc (peers X)) ≡ suc (peers (others p X))
    same d ih = ap (λ (q : ℕ). cond (some (of q) X) (peers X) (suc (peers X))) d ∙ at (some (of p) X) ih
      where
        at : (b : Bool) → peers X ≡ cond b (suc (peers (others p X))) (peers (others p X)) → cond b (peers X) (suc (peers X)) ≡ suc (peers (others p X))
        at true ih = ih
        at false ih = ap suc ih

    diff : ¬ (f.id.peer ≡ p) → peers X ≡ cond (some (of p) X) (suc (peers (others p X))) (peers (others p X))
        → cond (some (of f.id.peer) X) (peers X) (suc (peers X)) ≡ cond (some (of p) X) (suc (cond (some (of f.id.peer) (others p X)) (peers (others p X)) (suc (peers (others p X))))) (cond (some (of f.id.peer) (others p X)) (peers (others p X)) (suc (peers (others p X))))
    diff d ih = at (some (of f.id.peer) X) (some (of p) X) (some (of f.id.peer) (others p X)) (some-others p f.id.peer X d) ih
      where
        at : (a b c : Bool) → c ≡ a → peers X ≡ cond b (suc (peers (others p X))) (peers (others p X))
            → cond a (peers X) (suc (peers X)) ≡ cond b (suc (cond c (peers (others p X)) (suc (peers (others p X))))) (cond c (peers (others p X)) (suc (peers (others p X))))
        at true true true e ih = ih
        at true false true e ih = ih
        at false true false e ih = ap suc ih
        at false false false e ih = ap suc ih
        at true b false e ih = absurd (true≢false (sym e))
        at false b true e ih = absurd (true≢false e)

    go : Test (eqb f.id.peer p) (f.id.peer ≡ p) → peers X ≡ cond (some (of p) X) (suc (peers (others p X))) (peers (others p X)) → cond (some (of f.id.peer) X) (peers X) (suc (peers X)) ≡ R (eqb f.id.peer p)
    go (pass b d) ih = same d ih ∙ ap R (sym b)
    go (fail b d) ih = diff d ih ∙ ap R (sym b)

-- more edits, more offices
pub peers-le : (X Y : List Edit) → ((e : Edit) → InSet e X → (f : Edit) × InSet f Y × (f.id.peer ≡ e.id.peer)) → peers X ≤ peers Y
unfolding peers
peers-le [] Y h = omega arith
peers-le (e ∷ X) Y h = go (some (of e.id.peer) X) refl (peers-le X Y (λ (x : Edit) (m : InSet x X). h x (Memᴰ.tail m))) (λ (none : some (of e.id.peer) X ≡ false). peers-le X (others e.id.peer Y) (λ (x : Edit) (m : InSet x X). keep none x m (h x (Memᴰ.tail m))))
  where
    keep : some (of e.id.peer) X ≡ false → (x : Edit) → InSet x X → (f : Edit) × InSet f Y × (f.id.peer ≡ x.id.peer) → (f : Edit) × InSet f (others e.id.peer Y) × (f.id.peer ≡ x.id.peer)
    keep none x m t = (t.0, in_others e.id.peer Y t.0 t.1 (λ (k : t.0.id.peer ≡ e.id.peer). true≢false (sym (of_some e.id.peer X x m (sym t.2 ∙ k)) ∙ none)), t.2)

    go : (b : Bool) → some (of e.id.peer) X ≡ b → peers X ≤ peers Y → (some (of e.id.peer) X ≡ false → peers X ≤ peers (others e.id.peer Y)) → cond b (peers X) (suc (peers X)) ≤ peers Y
    go true d ih less = ih
    go false d ih less =
        let t : (f : Edit) × InSet f Y × (f.id.peer ≡ e.id.peer) = h e (Memᴰ.head refl) in
        let q : peers Y ≡ suc (peers (others e.id.peer Y)) = peers-others e.id.peer Y ∙ ap (λ (b : Bool). cond b (suc (peers (others e.id.peer Y))) (peers (others e.id.peer Y))) (of_some e.id.peer Y t.0 t.1 t.2) in
        omega (arith, less d, q)
