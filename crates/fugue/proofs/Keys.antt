-- Path keys (L2.1-L2.4). A unit's place in the walk is decided by the path from the root to it: the order of paths, its laws, and the two laws
-- of no crossing.
use mathlib.Core.Path.{◌≡◌, refl, sym, ap, ap₂, subst, ◌∙◌}
use mathlib.Core.Logic.{◌⊎◌, inl, inr}
use mathlib.Core.List.{List, [], ◌∷◌, ◌++◌}
use Rattle.span.specs.declared.ids.Id.{Id}
use Rattle.fugue.proofs.Order.{Tri, tlt, teq, tgt, LtId, LtId-irrefl, LtId-trans, tri_id}

-- A step down the tree: to a left or a right child with this id.
pub data Step : Type 0 where
  sl : Id → Step
  sr : Id → Step

abbrev pub Key : Type 0
Key = List Step

-- left children are before right children, siblings by id
abbrev pub LtS : Step → Step → Type 0
LtS (sl a) (sl b) = LtId a b
LtS (sl a) (sr b) = Unit {0}
LtS (sr a) (sl b) = ⊥
LtS (sr a) (sr b) = LtId a b

abbrev pub IsR : Step → Type 0
IsR (sl a) = ⊥
IsR (sr a) = Unit {0}

abbrev pub IsL : Step → Type 0
IsL (sl a) = Unit {0}
IsL (sr a) = ⊥

-- left children, unit, right children
abbrev pub Lt : Key → Key → Type 0
Lt [] [] = ⊥
Lt [] (t ∷ q) = IsR t
Lt (s ∷ p) [] = IsL s
Lt (s ∷ p) (t ∷ q) = LtS s t ⊎ ((s ≡ t) × Lt p q)

abbrev pub AllL : Key → Type 0
AllL [] = Unit {0}
AllL (s ∷ p) = IsL s × AllL p

-- ---- the laws of a strict total order

pub LtS-irrefl : (s : Step) → LtS s s → ⊥
LtS-irrefl (sl a) h = LtId-irrefl a h
LtS-irrefl (sr a) h = LtId-irrefl a h

pub LtS-trans : (s t r : Step) → LtS s t → LtS t r → LtS s r
LtS-trans (sl a) (sl b) (sl c) h k = LtId-trans a b c h k
LtS-trans (sl a) (sl b) (sr c) h k = tt
LtS-trans (sl a) (sr b) (sl c) h k = absurd k
LtS-trans (sl a) (sr b) (sr c) h k = tt
LtS-trans (sr a) (sl b) (sl c) h k = absurd h
LtS-trans (sr a) (sl b) (sr c) h k = absurd h
LtS-trans (sr a) (sr b) (sl c) h k = absurd k
LtS-trans (sr a) (sr b) (sr c) h k = LtId-trans a b c h k

pub Lt-irrefl : (p : Key) → Lt p p → ⊥
Lt-irrefl [] h = h
Lt-irrefl (s ∷ p) (inl h) = LtS-irrefl s h
Lt-irrefl (s ∷ p) (inr h) = Lt-irrefl p h.1

-- an L step is before an R step
LR : (s t : Step) → IsL s → IsR t → LtS s t
LR (sl a) (sl b) h k = absurd k
LR (sl a) (sr b) h k = tt
LR (sr a) t h k = absurd h

-- what is after an R step is one, what is before an L step is one
R-up : (s t : Step) → IsR s → LtS s t → IsR t
R-up (sl a) t h k = absurd h
R-up (sr a) (sl b) h k = absurd k
R-up (sr a) (sr b) h k = tt

L-down : (s t : Step) → LtS s t → IsL t → IsL s
L-down (sl a) t k h = tt
L-down (sr a) (sl b) k h = absurd k
L-down (sr a) (sr b) k h = absurd h

pub LR-no : (s : Step) → IsL s → IsR s → ⊥
LR-no (sl a) h k = k
LR-no (sr a) h k = h

pub Lt-trans : (p q r : Key) → Lt p q → Lt q r → Lt p r
Lt-trans [] [] r h k = absurd h
Lt-trans [] (t ∷ q) [] h k = LR-no t k h
Lt-trans [] (t ∷ q) (u ∷ r) h (inl k) = R-up t u h k
Lt-trans [] (t ∷ q) (u ∷ r) h (inr k) = subst IsR k.0 h
Lt-trans (s ∷ p) [] [] h k = absurd k
Lt-trans (s ∷ p) [] (u ∷ r) h k = inl (LR s u h k)
Lt-trans (s ∷ p) (t ∷ q) [] (inl h) k = L-down s t h k
Lt-trans (s ∷ p) (t ∷ q) [] (inr h) k = subst IsL (sym h.0) k
Lt-trans (s ∷ p) (t ∷ q) (u ∷ r) (inl h) (inl k) = inl (LtS-trans s t u h k)
Lt-trans (s ∷ p) (t ∷ q) (u ∷ r) (inl h) (inr k) = inl (subst (λ x. LtS s x) k.0 h)
Lt-trans (s ∷ p) (t ∷ q) (u ∷ r) (inr h) (inl k) = inl (subst (λ x. LtS x u) (sym h.0) k)
Lt-trans (s ∷ p) (t ∷ q) (u ∷ r) (inr h) (inr k) = inr (h.0 ∙ k.0, Lt-trans p q r h.1 k.1)

pub Lt-asym : (p q : Key) → Lt p q → Lt q p → ⊥
Lt-asym p q h k = Lt-irrefl p (Lt-trans p q p h k)

tri_step : (s t : Step) → Tri (LtS s t) (s ≡ t) (LtS t s)
tri_step (sl a) (sr b) = tlt tt
tri_step (sr a) (sl b) = tgt tt
tri_step (sl a) (sl b) = elim (tri_id a b) [ tlt h ↦ tlt h | teq h ↦ teq (ap sl h) | tgt h ↦ tgt h ]
tri_step (sr a) (sr b) = elim (tri_id a b) [ tlt h ↦ tlt h | teq h ↦ teq (ap sr h) | tgt h ↦ tgt h ]

pub tri : (p q : Key) → Tri (Lt p q) (p ≡ q) (Lt q p)
tri [] [] = teq refl
tri [] (sl b ∷ t) = tgt tt
tri [] (sr b ∷ t) = tlt tt
tri (sl a ∷ s) [] = tlt tt
tri (sr a ∷ s) [] = tgt tt
tri (s ∷ p) (t ∷ q) = go (tri_step s t) (tri p q)
  where
    go : Tri (LtS s t) (s ≡ t) (LtS t s) → Tri (Lt p q) (p ≡ q) (Lt q p) → Tri (Lt (s ∷ p) (t ∷ q)) (s ∷ p ≡ t ∷ q) (Lt (t ∷ q) (s ∷ p))
    go (tlt h) r = tlt (inl h)
    go (tgt h) r = tgt (inl h)
    go (teq e) (tlt h) = tlt (inr (e, h))
    go (teq e) (teq h) = teq (ap₂ ◌∷◌ e h)
    go (teq e) (tgt h) = tgt (inr (sym e, h))

-- ---- common prefixes

pub Lt-cancel : (k p q : Key) → Lt (k ++ p) (k ++ q) → Lt p q
Lt-cancel [] p q h = h
Lt-cancel (s ∷ k) p q (inl h) = absurd (LtS-irrefl s h)
Lt-cancel (s ∷ k) p q (inr h) = Lt-cancel k p q h.1

pub Lt-prefix : (k p q : Key) → Lt p q → Lt (k ++ p) (k ++ q)
Lt-prefix [] p q h = h
Lt-prefix (s ∷ k) p q h = inr (refl, Lt-prefix k p q h)

-- what extends k by an R step is after it, by an L step before it
pub Lt-right : (k : Key) (s : Step) (p : Key) → IsR s → Lt k (k ++ s ∷ p)
Lt-right [] s p h = h
Lt-right (t ∷ k) s p h = inr (refl, Lt-right k s p h)

pub Lt-left : (k : Key) (s : Step) (p : Key) → IsL s → Lt (k ++ s ∷ p) k
Lt-left [] s p h = h
Lt-left (t ∷ k) s p h = inr (refl, Lt-left k s p h)

-- heads of keys that are in order
heads : (s t : Step) (p q : Key) → Lt (s ∷ p) (t ∷ q) → LtS t s → ⊥
heads s t p q (inl h) k = LtS-irrefl s (LtS-trans s t s h k)
heads s t p q (inr h) k = LtS-irrefl s (subst (λ x. LtS x s) (sym h.0) k)

pub tails : (s t : Step) (p q : Key) → Lt (s ∷ p) (t ∷ q) → s ≡ t → Lt p q
tails s t p q (inl h) e = absurd (LtS-irrefl s (subst (λ x. LtS s x) (sym e) h))
tails s t p q (inr h) e = h.1

-- squeezed heads are equal
pub squeeze : (s t : Step) (p q p' q' : Key) → Lt (s ∷ p) (t ∷ q) → Lt (t ∷ q') (s ∷ p') → s ≡ t
squeeze s t p q p' q' (inl h) k = absurd (heads t s q' p' k h)
squeeze s t p q p' q' (inr h) k = h.0

-- ---- no crossing

-- Lefts alone never lie between x and what hangs right below x.
between_lefts : (x : Key) (s : Step) (ls ms : Key) → AllL ms → Lt x ms → Lt ms (x ++ s ∷ ls) → ⊥
between_lefts [] s ls [] a h k = h
between_lefts [] s ls (m ∷ ms) a h k = LR-no m a.0 h
between_lefts (t ∷ x) s ls [] a h k = LR-no t h k
between_lefts (t ∷ x) s ls (m ∷ ms) a h k =
    let e : t ≡ m = squeeze t m x ms (x ++ s ∷ ls) ms h k in
    between_lefts x s ls ms a.1 (tails t m x ms h e) (tails m t ms (x ++ s ∷ ls) k (sym e))

-- F2. u hangs below x by s and lefts; v hangs below z by r and lefts. If v is between x and u then z is x or after x.
pub no_cross_left : (x z : Key) (s r : Step) (ls ms : Key) → IsR r → AllL ms
    → Lt x (z ++ r ∷ ms) → Lt (z ++ r ∷ ms) (x ++ s ∷ ls) → (x ≡ z) ⊎ Lt x z
no_cross_left [] [] s r ls ms ir a h k = inl refl
no_cross_left [] (t ∷ z) s r ls ms ir a h k = inr h
no_cross_left (t ∷ x) [] s r ls ms ir a h k =
    let e : t ≡ r = squeeze t r x ms (x ++ s ∷ ls) ms h k in
    absurd (between_lefts x s ls ms a (tails t r x ms h e) (tails r t ms (x ++ s ∷ ls) k (sym e)))
no_cross_left (t ∷ x) (b ∷ z) s r ls ms ir a h k =
    let e : t ≡ b = squeeze t b x (z ++ r ∷ ms) (x ++ s ∷ ls) (z ++ r ∷ ms) h k in
    go e (no_cross_left x z s r ls ms ir a (tails t b x (z ++ r ∷ ms) h e) (tails b t (z ++ r ∷ ms) (x ++ s ∷ ls) k (sym e)))
  where
    go : t ≡ b → (x ≡ z) ⊎ Lt x z → (t ∷ x ≡ b ∷ z) ⊎ Lt (t ∷ x) (b ∷ z)
    go e (inl h) = inl (ap₂ ◌∷◌ e h)
    go e (inr h) = inr (inr (e, h))

-- nothing is after the empty key by lefts alone
pub lefts_not_after : (ls : Key) → AllL ls → Lt [] ls → ⊥
lefts_not_after [] a h = h
lefts_not_after (s ∷ ls) a h = LR-no s a.0 h

-- F1 on what is behind the common part: y = ls, a; r = ls; u = ms, b; its parent ms. If y is before u and u before r, then r is not before u's parent.
pub cross_lefts : (ls ms : Key) (a b : Step) → AllL ls → AllL ms → IsL b
    → Lt (ls ++ a ∷ []) (ms ++ b ∷ []) → Lt (ms ++ b ∷ []) ls → Lt ls ms → ⊥
cross_lefts [] [] a b al am ib h k l = l
cross_lefts [] (m ∷ ms) a b al am ib h k l = LR-no m am.0 l
cross_lefts (e ∷ es) [] a b al am ib h (inl k) l = heads e b (es ++ a ∷ []) [] h k
cross_lefts (e ∷ es) [] a b al am ib h (inr k) l = lefts_not_after es al.1 k.1
cross_lefts (e ∷ es) (m ∷ ms) a b al am ib h k l =
    let q : m ≡ e = squeeze m e (ms ++ b ∷ []) es ms es k l in
    cross_lefts es ms a b al.1 am.1 ib (tails e m (es ++ a ∷ []) (ms ++ b ∷ []) h (sym q)) (tails m e (ms ++ b ∷ []) es k q) (tails e m es ms l (sym q))
