-- Lists with rising keys: such a list is decided by its members (L3.1) and has one unit for one id. Filters keep the order.
use mathlib.Core.Path.{◌≡◌, refl, sym, ap, ap₂, subst, ◌∙◌}
use mathlib.Core.Logic.{◌⊎◌, inl, inr}
use mathlib.Core.Bool.{Bool, true, false, cond, true≢false}
use mathlib.Core.List.Memᴰ
use mathlib.Core.List.{List, [], ◌∷◌, ◌++◌}
use Rattle.span.specs.Maybe.{OptId}
use Rattle.span.specs.declared.span.FugueSpan.{FugueSpan}
use Rattle.span.specs.Ids.{same_opt}
use Rattle.units.specs.Lists.{keep_if}
use Rattle.units.specs.Place.{has_ol}
use Rattle.fugue.specs.Tree.{ref, ol}
use Rattle.fugue.proofs.Order.{LtId}
use Rattle.fugue.proofs.Keys.{Key, Lt, Lt-irrefl, Lt-asym}
use Rattle.fugue.proofs.ScanPlace.{Mem, Sorted}
use Rattle.fugue.proofs.Tests.{Test, pass, fail, same_opt_test}

-- ---- rising keys decide the list

pub sorted_unique : (key : OptId → Key) (l m : List FugueSpan) → Sorted key l → Sorted key m
    → ((w : FugueSpan) → Mem w l → Mem w m) → ((w : FugueSpan) → Mem w m → Mem w l) → l ≡ m
sorted_unique key [] [] ha hb f g = refl
sorted_unique key [] (b ∷ m) ha hb f g = absurd (Memᴰ.not-nil (g b (Memᴰ.head refl)))
sorted_unique key (a ∷ l) [] ha hb f g = absurd (Memᴰ.not-nil (f a (Memᴰ.head refl)))
sorted_unique key (a ∷ l) (b ∷ m) ha hb f g =
    ap₂ ◌∷◌ same (sorted_unique key l m ha.1 hb.1
    (λ (w : FugueSpan) (k : Mem w l). down l m a b ha.0 same w k (Memᴰ.cases_cons (f w (Memᴰ.tail k))))
    (λ (w : FugueSpan) (k : Mem w m). down m l b a hb.0 (sym same) w k (Memᴰ.cases_cons (g w (Memᴰ.tail k)))))
  where
    heads : (a ≡ b) ⊎ Mem a m → (b ≡ a) ⊎ Mem b l → a ≡ b
    heads (inl e) h = e
    heads (inr k) (inl e) = sym e
    heads (inr k) (inr h) = absurd (Lt-asym (key (ref a)) (key (ref b)) (ha.0 b h) (hb.0 a k))

    same : a ≡ b
    same = heads (Memᴰ.cases_cons (f a (Memᴰ.head refl))) (Memᴰ.cases_cons (g b (Memᴰ.head refl)))

    down : (l m : List FugueSpan) (a b : FugueSpan) → ((w : FugueSpan) → Mem w l → Lt (key (ref a)) (key (ref w))) → a ≡ b → (w : FugueSpan) → Mem w l → (w ≡ b) ⊎ Mem w m → Mem w m
    down l m a b h e w k (inl d) = absurd (Lt-irrefl (key (ref a)) (subst (λ (z : FugueSpan). Lt (key (ref a)) (key (ref z))) (d ∙ sym e) (h w k)))
    down l m a b h e w k (inr d) = d

pub sorted_app : (key : OptId → Key) (A B : List FugueSpan) → Sorted key A → Sorted key B → ((v w : FugueSpan) → Mem v A → Mem w B → Lt (key (ref v)) (key (ref w))) → Sorted key (A ++ B)
sorted_app key [] B sa sb h = sb
sorted_app key (a ∷ A) B sa sb h = (
  λ (w : FugueSpan) (m : Mem w (A ++ B)). go w (Memᴰ.append_cases A m),
  sorted_app key A B sa.1 sb (λ (v w : FugueSpan) (m : Mem v A). h v w (Memᴰ.tail m)),
)
  where
    go : (w : FugueSpan) → Mem w A ⊎ Mem w B → Lt (key (ref a)) (key (ref w))
    go w (inl m) = sa.0 w m
    go w (inr m) = h a w (Memᴰ.head refl) m

-- ---- sorted by id

abbrev pub IdSorted : List FugueSpan → Type 0
IdSorted [] = Unit {0}
IdSorted (v ∷ l) = ((w : FugueSpan) → Mem w l → LtId v.id w.id) × IdSorted l

pub keep_if_in : (t : FugueSpan → Bool) (l : List FugueSpan) (w : FugueSpan) → Mem w (keep_if t l) → Mem w l × (t w ≡ true)
unfolding keep_if
keep_if_in t [] w m = absurd (Memᴰ.not-nil m)
keep_if_in t (v ∷ l) w m = go (t v) refl m (keep_if_in t l w)
  where
    two : t v ≡ true → (Mem w (keep_if t l) → Mem w l × (t w ≡ true)) → (w ≡ v) ⊎ Mem w (keep_if t l) → Mem w (v ∷ l) × (t w ≡ true)
    two e ih (inl d) = (Memᴰ.head d, ap t d ∙ e)
    two e ih (inr k) = (Memᴰ.tail (ih k).0, (ih k).1)

    go : (b : Bool) → t v ≡ b → Mem w (cond b (v ∷ keep_if t l) (keep_if t l)) → (Mem w (keep_if t l) → Mem w l × (t w ≡ true)) → Mem w (v ∷ l) × (t w ≡ true)
    go true e k ih = two e ih (Memᴰ.cases_cons k)
    go false e k ih = (Memᴰ.tail (ih k).0, (ih k).1)

pub keep_if_keeps : (t : FugueSpan → Bool) (l : List FugueSpan) (w : FugueSpan) → Mem w l → t w ≡ true → Mem w (keep_if t l)
unfolding keep_if
keep_if_keeps t [] w m e = absurd (Memᴰ.not-nil m)
keep_if_keeps t (v ∷ l) w m e = go (t v) refl (Memᴰ.cases_cons m) (λ (k : Mem w l). keep_if_keeps t l w k e)
  where
    go : (b : Bool) → t v ≡ b → (w ≡ v) ⊎ Mem w l → (Mem w l → Mem w (keep_if t l)) → Mem w (cond b (v ∷ keep_if t l) (keep_if t l))
    go true d (inl k) ih = Memᴰ.head k
    go true d (inr k) ih = Memᴰ.tail (ih k)
    go false d (inl k) ih = absurd (true≢false (sym e ∙ (ap t k ∙ d)))
    go false d (inr k) ih = ih k

pub keep_if_sorted : (t : FugueSpan → Bool) (l : List FugueSpan) → IdSorted l → IdSorted (keep_if t l)
unfolding keep_if
keep_if_sorted t [] s = tt
keep_if_sorted t (v ∷ l) s = go (t v) (keep_if_sorted t l s.1)
  where
    go : (b : Bool) → IdSorted (keep_if t l) → IdSorted (cond b (v ∷ keep_if t l) (keep_if t l))
    go true ih = (λ (w : FugueSpan) (m : Mem w (keep_if t l)). s.0 w (keep_if_in t l w m).0, ih)
    go false ih = ih

-- ---- one unit for one id

abbrev Uniq : List FugueSpan → Type 0
Uniq l = (u w : FugueSpan) → Mem u l → Mem w l → ref u ≡ ref w → u ≡ w

pub sorted_uniq : (key : OptId → Key) (l : List FugueSpan) → Sorted key l → (u w : FugueSpan) → Mem u l → Mem w l → ref u ≡ ref w → u ≡ w
sorted_uniq key [] s u w mu mw e = absurd (Memᴰ.not-nil mu)
sorted_uniq key (v ∷ l) s u w mu mw e = go (Memᴰ.cases_cons mu) (Memᴰ.cases_cons mw) (λ (a : Mem u l) (b : Mem w l). sorted_uniq key l s.1 u w a b e)
  where
    no : (z : FugueSpan) → Mem z l → ref v ≡ ref z → ⊥
    no z m d = Lt-irrefl (key (ref v)) (subst (λ (r : OptId). Lt (key (ref v)) (key r)) (sym d) (s.0 z m))

    go : (u ≡ v) ⊎ Mem u l → (w ≡ v) ⊎ Mem w l → (Mem u l → Mem w l → u ≡ w) → u ≡ w
    go (inl a) (inl b) ih = a ∙ sym b
    go (inl a) (inr b) ih = absurd (no w b (ap ref (sym a) ∙ e))
    go (inr a) (inl b) ih = absurd (no u a (ap ref (sym b) ∙ sym e))
    go (inr a) (inr b) ih = ih a b

abbrev pub Has : List FugueSpan → OptId → OptId → Type 0
Has l r x = (w : FugueSpan) × Mem w l × (ref w ≡ r) × (ol w ≡ x)

pub has_ol_uniq : (l : List FugueSpan) (r x : OptId) → ((u w : FugueSpan) → Mem u l → Mem w l → ref u ≡ ref w → u ≡ w) → Test (has_ol l r x) (Has l r x)
unfolding has_ol
has_ol_uniq [] r x un = fail refl (λ (t : Has [] r x). Memᴰ.not-nil t.1)
has_ol_uniq (v ∷ l) r x un = go (same_opt_test r (ref v)) (same_opt_test (ol v) x) (has_ol_uniq l r x (λ (u w : FugueSpan) (a : Mem u l) (b : Mem w l). un u w (Memᴰ.tail a) (Memᴰ.tail b)))
  where
    go : Test (same_opt r (ref v)) (r ≡ ref v) → Test (same_opt (ol v) x) (ol v ≡ x) → Test (has_ol l r x) (Has l r x)
        → Test (cond (same_opt r (ref v)) (same_opt (ol v) x) (has_ol l r x)) (Has (v ∷ l) r x)
    go (pass e h) (pass e' d) t = pass (ap (λ (b : Bool). cond b (same_opt (ol v) x) (has_ol l r x)) e ∙ e') (v, Memᴰ.head refl, sym h, d)
    go (pass e h) (fail e' n) t = fail (ap (λ (b : Bool). cond b (same_opt (ol v) x) (has_ol l r x)) e ∙ e')
        (λ (g : Has (v ∷ l) r x). n (ap (λ (u : FugueSpan). ol u) (sym (un g.0 v g.1 (Memᴰ.head refl) (g.2 ∙ h))) ∙ g.3))
    go (fail e h) o (pass e' t) = pass (ap (λ (b : Bool). cond b (same_opt (ol v) x) (has_ol l r x)) e ∙ e') (t.0, Memᴰ.tail t.1, t.2, t.3)
    go (fail e h) o (fail e' n) = fail (ap (λ (b : Bool). cond b (same_opt (ol v) x) (has_ol l r x)) e ∙ e') (λ (g : Has (v ∷ l) r x). split g (Memᴰ.cases_cons g.1))
      where
        split : (g : Has (v ∷ l) r x) → (g.0 ≡ v) ⊎ Mem g.0 l → ⊥
        split g (inl d) = h (sym g.2 ∙ ap ref d)
        split g (inr m) = n (g.0, m, g.2, g.3)
