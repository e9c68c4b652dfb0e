-- What the computed tests decide, and positions in a list with rising keys (L5.1).
use Prim.Native.Nat.{ℕ, zero, suc, ◌<◌}
use mathlib.Core.Path.{◌≡◌, refl, sym, ap, ap₂, subst, subst₂, ◌∙◌}
use mathlib.Core.Logic.{◌⊎◌, inl, inr}
use mathlib.Core.Bool.{Bool, true, false, ◌||◌, cond, true≢false}
use mathlib.Core.List.Memᴰ
use mathlib.Core.List.{List, [], ◌∷◌}
use lib.Dec.{T, eqb, ltb, eqb→eq, eqb_refl, ltb→lt, lt→ltb}
use lib.ListN.{length}
use native.Mathlib.Omega.{arith}
use Rattle.std.specs.Prelude.{None}
use Rattle.span.specs.Maybe.{OptId}
use Rattle.span.specs.declared.span.FugueSpan.{FugueSpan}
use Rattle.span.specs.Ids.{same_opt}
use Rattle.span.proofs.Same.{same_opt-true, same_opt_refl}
use Rattle.units.specs.Place.{mem_id, has_ol, pos_of}
use Rattle.fugue.specs.Tree.{ref, ol}
use Rattle.fugue.proofs.Keys.{Key, Lt, Lt-irrefl, Lt-asym}
use Rattle.fugue.proofs.ScanPlace.{Mem, Sorted}

-- A test that decides a type: it is true and the type holds, or false and it does not.
pub data Test (b : Bool) (A : Type 0) : Type 0 where
  pass : b ≡ true → A → Test b A
  fail : b ≡ false → ¬ A → Test b A

pub eqb_test : (m n : ℕ) → Test (eqb m n) (m ≡ n)
eqb_test m n = go (eqb m n) refl
  where
    go : (b : Bool) → eqb m n ≡ b → Test (eqb m n) (m ≡ n)
    go true e = pass e (eqb→eq m n (subst T (sym e) tt))
    go false e = fail e (λ (d : m ≡ n). subst T e (subst (λ (k : ℕ). T (eqb m k)) d (eqb_refl m)))

pub ltb_test : (m n : ℕ) → Test (ltb m n) (m < n)
ltb_test m n = go (ltb m n) refl
  where
    go : (b : Bool) → ltb m n ≡ b → Test (ltb m n) (m < n)
    go true e = pass e (ltb→lt m n (subst T (sym e) tt))
    go false e = fail e (λ (d : m < n). subst T e (lt→ltb m n d))

pub same_opt_test : (a b : OptId) → Test (same_opt a b) (a ≡ b)
same_opt_test a b = go (same_opt a b) refl
  where
    go : (t : Bool) → same_opt a b ≡ t → Test (same_opt a b) (a ≡ b)
    go true e = pass e (same_opt-true a b e)
    go false e = fail e (λ (d : a ≡ b). true≢false (sym (same_opt_refl b) ∙ (ap (λ (z : OptId). same_opt z b) (sym d) ∙ e)))

-- a unit of the list with this reference
pub Found : OptId → List FugueSpan → Type 0
Found r l = (w : FugueSpan) × Mem w l × (ref w ≡ r)

pub mem_id_test : (r : OptId) (l : List FugueSpan) → Test (mem_id r l) ((w : FugueSpan) × Mem w l × (ref w ≡ r))
unfolding mem_id
mem_id_test r [] = fail refl (λ (t : (w : FugueSpan) × Mem w [] × (ref w ≡ r)). Memᴰ.not-nil t.1)
mem_id_test r (v ∷ l) = go (same_opt_test r (ref v)) (mem_id_test r l)
  where
    go : Test (same_opt r (ref v)) (r ≡ ref v) → Test (mem_id r l) ((w : FugueSpan) × Mem w l × (ref w ≡ r))
        → Test (same_opt r (ref v) || mem_id r l) ((w : FugueSpan) × Mem w (v ∷ l) × (ref w ≡ r))
    go (pass e h) t = pass (ap (λ (b : Bool). b || mem_id r l) e) (v, Memᴰ.head refl, sym h)
    go (fail e h) (pass e' t) = pass (ap₂ ◌||◌ e e') (t.0, Memᴰ.tail t.1, t.2)
    go (fail e h) (fail e' n) = fail (ap₂ ◌||◌ e e') (λ (t : (w : FugueSpan) × Mem w (v ∷ l) × (ref w ≡ r)). split t (Memᴰ.cases_cons t.1))
      where
        split : (t : (w : FugueSpan) × Mem w (v ∷ l) × (ref w ≡ r)) → (t.0 ≡ v) ⊎ Mem t.0 l → ⊥
        split t (inl d) = h (sym t.2 ∙ ap ref d)
        split t (inr m) = n (t.0, m, t.2)

-- has_ol: yes, with the unit; or no, and then no unit of a sorted list
pub has_ol_test : (key : OptId → Key) (l : List FugueSpan) (r x : OptId) → Sorted key l → Test (has_ol l r x) ((w : FugueSpan) × Mem w l × (ref w ≡ r) × (ol w ≡ x))
unfolding has_ol
has_ol_test key [] r x srt = fail refl (λ (t : (w : FugueSpan) × Mem w [] × (ref w ≡ r) × (ol w ≡ x)). Memᴰ.not-nil t.1)
has_ol_test key (v ∷ l) r x srt = go (same_opt_test r (ref v)) (same_opt_test (ol v) x) (has_ol_test key l r x srt.1)
  where
    G : List FugueSpan → Type 0
    G l = (w : FugueSpan) × Mem w l × (ref w ≡ r) × (ol w ≡ x)

    go : Test (same_opt r (ref v)) (r ≡ ref v) → Test (same_opt (ol v) x) (ol v ≡ x) → Test (has_ol l r x) (G l)
        → Test (cond (same_opt r (ref v)) (same_opt (ol v) x) (has_ol l r x)) (G (v ∷ l))
    go (pass e h) (pass e' d) t = pass (ap (λ (b : Bool). cond b (same_opt (ol v) x) (has_ol l r x)) e ∙ e') (v, Memᴰ.head refl, sym h, d)
    go (pass e h) (fail e' n) t = fail (ap (λ (b : Bool). cond b (same_opt (ol v) x) (has_ol l r x)) e ∙ e') (λ (g : G (v ∷ l)). split g (Memᴰ.cases_cons g.1))
      where
        split : (g : G (v ∷ l)) → (g.0 ≡ v) ⊎ Mem g.0 l → ⊥
        split g (inl d) = n (ap (λ (u : FugueSpan). ol u) (sym d) ∙ g.3)
        split g (inr m) = Lt-irrefl (key (ref v)) (subst (λ (z : OptId). Lt (key (ref v)) (key z)) (g.2 ∙ h) (srt.0 g.0 m))
    go (fail e h) o (pass e' t) = pass (ap (λ (b : Bool). cond b (same_opt (ol v) x) (has_ol l r x)) e ∙ e') (t.0, Memᴰ.tail t.1, t.2, t.3)
    go (fail e h) o (fail e' n) = fail (ap (λ (b : Bool). cond b (same_opt (ol v) x) (has_ol l r x)) e ∙ e') (λ (g : G (v ∷ l)). split g (Memᴰ.cases_cons g.1))
      where
        split : (g : G (v ∷ l)) → (g.0 ≡ v) ⊎ Mem g.0 l → ⊥
        split g (inl d) = h (sym g.2 ∙ ap ref d)
        split g (inr m) = n (g.0, m, g.2, g.3)

-- positions in a sorted list
pub pos_none : (l : List FugueSpan) → pos_of l None ≡ length l
unfolding pos_of same_opt
pos_none [] = refl
pos_none (v ∷ l) = ap suc (pos_none l)

pub pos_in : (l : List FugueSpan) (w : FugueSpan) → Mem w l → pos_of l (ref w) < length l
unfolding pos_of
pos_in [] w m = absurd (Memᴰ.not-nil m)
pos_in (v ∷ l) w m = go (same_opt_test (ref w) (ref v)) (Memᴰ.cases_cons m) (pos_in l w)
  where
    go : Test (same_opt (ref w) (ref v)) (ref w ≡ ref v) → (w ≡ v) ⊎ Mem w l → (Mem w l → pos_of l (ref w) < length l)
        → cond (same_opt (ref w) (ref v)) zero (suc (pos_of l (ref w))) < suc (length l)
    go (pass e h) s ih = subst (λ (b : Bool). cond b zero (suc (pos_of l (ref w))) < suc (length l)) (sym e) (omega arith)
    go (fail e h) (inl d) ih = absurd (h (ap ref d))
    go (fail e h) (inr d) ih = subst (λ (b : Bool). cond b zero (suc (pos_of l (ref w))) < suc (length l)) (sym e) (omega (arith, ih d))

pub pos_mono : (key : OptId → Key) (l : List FugueSpan) → Sorted key l → (u w : FugueSpan) → Mem u l → Mem w l → Lt (key (ref u)) (key (ref w)) → pos_of l (ref u) < pos_of l (ref w)
unfolding pos_of
pos_mono key [] srt u w mu mw k = absurd (Memᴰ.not-nil mu)
pos_mono key (v ∷ l) srt u w mu mw k = go (same_opt_test (ref u) (ref v)) (same_opt_test (ref w) (ref v)) (Memᴰ.cases_cons mu) (Memᴰ.cases_cons mw)
    (λ (a : Mem u l) (b : Mem w l). pos_mono key l srt.1 u w a b k)
  where
    P : Bool → Bool → Type 0
    P a b = cond a zero (suc (pos_of l (ref u))) < cond b zero (suc (pos_of l (ref w)))

    go : Test (same_opt (ref u) (ref v)) (ref u ≡ ref v) → Test (same_opt (ref w) (ref v)) (ref w ≡ ref v) → (u ≡ v) ⊎ Mem u l → (w ≡ v) ⊎ Mem w l
        → (Mem u l → Mem w l → pos_of l (ref u) < pos_of l (ref w)) → P (same_opt (ref u) (ref v)) (same_opt (ref w) (ref v))
    go (pass e h) (pass e' h') a b ih = absurd (Lt-irrefl (key (ref v)) (subst (λ (z : OptId). Lt (key (ref v)) (key z)) h' (subst (λ (z : OptId). Lt (key z) (key (ref w))) h k)))
    go (pass e h) (fail e' h') a b ih = subst₂ P (sym e) (sym e') (omega arith)
    go (fail e h) t (inl d) b ih = absurd (h (ap ref d))
    go (fail e h) (pass e' h') (inr a) b ih = absurd (Lt-asym (key (ref u)) (key (ref v)) (subst (λ (z : OptId). Lt (key (ref u)) (key z)) h' k) (srt.0 u a))
    go (fail e h) (fail e' h') (inr a) (inl d) ih = absurd (h' (ap ref d))
    go (fail e h) (fail e' h') (inr a) (inr b) ih = subst₂ P (sym e) (sym e') (omega (arith, ih a b))
