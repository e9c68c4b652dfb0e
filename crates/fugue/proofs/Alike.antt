-- Deletes and checkouts move nothing: `Good` speaks of ids and origins alone, so a list that has the same ids and origins, unit by unit, is good
-- with it, whatever its statuses and contents. So too with other keys that are the same on the list.
use Prim.Native.Nat.{suc}
use mathlib.Core.Path.{◌≡◌, refl, sym, ap, subst, subst₂, ◌∙◌}
use mathlib.Core.Logic.{◌⊎◌, inl, inr}
use mathlib.Core.Bool.{Bool, cond}
use mathlib.Core.List.Memᴰ
use mathlib.Core.List.{List, [], ◌∷◌, ◌++◌, map}
use lib.ListN.{length}
use Rattle.std.specs.Prelude.{None, Some}
use Rattle.span.specs.declared.ids.Id.{Id}
use Rattle.span.specs.Maybe.{OptId}
use Rattle.span.specs.declared.span.FugueSpan.{FugueSpan}
use Rattle.span.specs.Ids.{same_opt}
use Rattle.units.specs.Place.{has_ol, parent_right}
use Rattle.fugue.specs.Tree.{ref, ol, or, pr_of}
use Rattle.fugue.proofs.Keys.{Key, sl, sr, Lt}
use Rattle.fugue.proofs.Hang.{Hung, hung_r, hung_l}
use Rattle.fugue.proofs.ScanPlace.{Mem, Sorted}
use Rattle.fugue.proofs.Insert.{In, Good, pr_in_lem}

-- the same id and origins
pub record Same (u v : FugueSpan) : Type 0 where
  pub id : u.id ≡ v.id
  pub left : ol u ≡ ol v
  pub right : or u ≡ or v

pub same_sym : {u v : FugueSpan} → Same u v → Same v u
same_sym s = record { id = sym s.id; left = sym s.left; right = sym s.right }

pub same_trans : {u v w : FugueSpan} → Same u v → Same v w → Same u w
same_trans s t = record { id = s.id ∙ t.id; left = s.left ∙ t.left; right = s.right ∙ t.right }

-- unit by unit
abbrev pub Alike : List FugueSpan → List FugueSpan → Type 0
Alike [] [] = Unit {0}
Alike [] (v ∷ m) = ⊥
Alike (u ∷ l) [] = ⊥
Alike (u ∷ l) (v ∷ m) = Same u v × Alike l m

pub alike_map : (f : FugueSpan → FugueSpan) → ((u : FugueSpan) → Same u (f u)) → (l : List FugueSpan) → Alike l (map f l)
alike_map f s [] = tt
alike_map f s (u ∷ l) = (s u, alike_map f s l)

pub alike_sym : (l m : List FugueSpan) → Alike l m → Alike m l
alike_sym [] [] a = tt
alike_sym [] (v ∷ m) a = absurd a
alike_sym (u ∷ l) [] a = absurd a
alike_sym (u ∷ l) (v ∷ m) a = (same_sym a.0, alike_sym l m a.1)

pub alike_length : (l m : List FugueSpan) → Alike l m → length l ≡ length m
alike_length [] [] a = refl
alike_length [] (v ∷ m) a = absurd a
alike_length (u ∷ l) [] a = absurd a
alike_length (u ∷ l) (v ∷ m) a = ap suc (alike_length l m a.1)

-- the unit that a unit was
pub alike_mem : (l m : List FugueSpan) → Alike l m → (w : FugueSpan) → Mem w m → (u : FugueSpan) × Mem u l × Same u w
alike_mem [] [] a w k = absurd (Memᴰ.not-nil k)
alike_mem [] (v ∷ m) a w k = absurd a
alike_mem (u ∷ l) [] a w k = absurd a
alike_mem (u ∷ l) (v ∷ m) a w k = go (Memᴰ.cases_cons k) (alike_mem l m a.1 w)
  where
    go : (w ≡ v) ⊎ Mem w m → (Mem w m → (x : FugueSpan) × Mem x l × Same x w) → (x : FugueSpan) × Mem x (u ∷ l) × Same x w
    go (inl e) ih = (u, Memᴰ.head refl, subst (Same u) (sym e) a.0)
    go (inr h) ih = let t : (x : FugueSpan) × Mem x l × Same x w = ih h in (t.0, Memᴰ.tail t.1, t.2)

has_ol_alike : (l m : List FugueSpan) → Alike l m → (r x : OptId) → has_ol l r x ≡ has_ol m r x
unfolding has_ol
has_ol_alike [] [] a r x = refl
has_ol_alike [] (v ∷ m) a r x = absurd a
has_ol_alike (u ∷ l) [] a r x = absurd a
has_ol_alike (u ∷ l) (v ∷ m) a r x = λ i. cond (same_opt r (Some (a.0.id i))) (same_opt (a.0.left i) x) (has_ol_alike l m a.1 r x i)

pub pr_alike : (l m : List FugueSpan) → Alike l m → (x o : OptId) → parent_right l x o ≡ parent_right m x o
unfolding parent_right
pr_alike l m a x o = ap (λ (b : Bool). cond b o None) (has_ol_alike l m a o x)

pub In-alike : (l m : List FugueSpan) → Alike l m → (r : OptId) → In r l → In r m
In-alike l m a r (inl e) = inl e
In-alike l m a r (inr t) =
    let s : (u : FugueSpan) × Mem u m × Same u t.0 = alike_mem m l (alike_sym l m a) t.0 t.1 in
    inr (s.0, s.1, ap Some s.2.id ∙ t.2)

pub sorted_alike : (key : OptId → Key) (l m : List FugueSpan) → Alike l m → Sorted key l → Sorted key m
sorted_alike key [] [] a s = tt
sorted_alike key [] (v ∷ m) a s = absurd a
sorted_alike key (u ∷ l) [] a s = absurd a
sorted_alike key (u ∷ l) (v ∷ m) a s = (λ (w : FugueSpan) (k : Mem w m). go w (alike_mem l m a.1 w k), sorted_alike key l m a.1 s.1)
  where
    go : (w : FugueSpan) → (x : FugueSpan) × Mem x l × Same x w → Lt (key (ref v)) (key (ref w))
    go w t = subst₂ (λ (i j : Id). Lt (key (Some i)) (key (Some j))) a.0.id t.2.id (s.0 t.0 t.1)

pub good_alike : (key : OptId → Key) (l m : List FugueSpan) → Alike l m → Good key l → Good key m
unfolding pr_of
good_alike key l m a g = record {
  none_key = g.none_key;
  sorted = sorted_alike key l m a g.sorted;
  wf = λ (w : FugueSpan) (k : Mem w m). wf' w (alike_mem l m a w k);
  ol_in = λ (w : FugueSpan) (k : Mem w m). ol' w (alike_mem l m a w k);
  or_in = λ (w : FugueSpan) (k : Mem w m). or' w (alike_mem l m a w k);
  rooted = λ (w : FugueSpan) (k : Mem w m). ro' w (alike_mem l m a w k);
}
  where
    Was : FugueSpan → Type 0
    Was w = (u : FugueSpan) × Mem u l × Same u w

    wf' : (w : FugueSpan) → Was w → Hung key (ol w) w.id (parent_right m (ol w) (or w))
    wf' w t = subst (λ (z : OptId). Hung key (ol w) w.id z) (pr_alike l m a (ol w) (or w))
        (subst (λ (z : OptId). Hung key (ol w) w.id (parent_right l (ol w) z)) t.2.right
        (subst₂ (λ (y : OptId) (i : Id). Hung key y i (parent_right l y (or t.0))) t.2.left t.2.id (g.wf t.0 t.1)))

    ol' : (w : FugueSpan) → Was w → In (ol w) m
    ol' w t = subst (λ (z : OptId). In z m) t.2.left (In-alike l m a (ol t.0) (g.ol_in t.0 t.1))

    or' : (w : FugueSpan) → Was w → In (or w) m
    or' w t = subst (λ (z : OptId). In z m) t.2.right (In-alike l m a (or t.0) (g.or_in t.0 t.1))

    ro' : (w : FugueSpan) → Was w → Lt (key (ref w)) [] → ⊥
    ro' w t h = g.rooted t.0 t.1 (subst (λ (z : Id). Lt (key (Some z)) []) (sym t.2.id) h)

-- ---- other keys

hung_key : (key key' : OptId → Key) {x : OptId} {p : Id} {r : OptId} → Hung key x p r → key' x ≡ key x → key' (Some p) ≡ key (Some p) → key' r ≡ key r → Hung key' x p r
hung_key key key' {x} {p} (hung_r e) ex em er = hung_r (em ∙ (e ∙ ap (λ (z : Key). z ++ sr p ∷ []) (sym ex)))
hung_key key key' {x} {p} (hung_l s ms ir al er ek) ex em err =
    hung_l s ms ir al (err ∙ (er ∙ ap (λ (z : Key). z ++ s ∷ ms) (sym ex))) (em ∙ (ek ∙ ap (λ (z : Key). z ++ sl p ∷ []) (sym err)))

pub sorted_key : (key key' : OptId → Key) (l : List FugueSpan) → ((w : FugueSpan) → Mem w l → key' (ref w) ≡ key (ref w)) → Sorted key l → Sorted key' l
sorted_key key key' [] f s = tt
sorted_key key key' (v ∷ l) f s = (
  λ (w : FugueSpan) (m : Mem w l). subst₂ Lt (sym (f v (Memᴰ.head refl))) (sym (f w (Memᴰ.tail m))) (s.0 w m),
  sorted_key key key' l (λ (w : FugueSpan) (m : Mem w l). f w (Memᴰ.tail m)) s.1,
)

pub good_key : (key key' : OptId → Key) (l : List FugueSpan) → ((r : OptId) → In r l → key' r ≡ key r) → Good key l → Good key' l
unfolding pr_of
good_key key key' l f g = record {
  none_key = f None (inl refl) ∙ g.none_key;
  sorted = sorted_key key key' l fu g.sorted;
  wf = λ (v : FugueSpan) (m : Mem v l). hung_key key key' (g.wf v m) (f (ol v) (g.ol_in v m)) (fu v m) (f (parent_right l (ol v) (or v)) (pr_in_lem key l g.sorted (ol v) (or v)));
  ol_in = g.ol_in;
  or_in = g.or_in;
  rooted = λ (v : FugueSpan) (m : Mem v l) (h : Lt (key' (ref v)) []). g.rooted v m (subst (λ (k : Key). Lt k []) (fu v m) h);
}
  where
    fu : (w : FugueSpan) → Mem w l → key' (ref w) ≡ key (ref w)
    fu w m = f (ref w) (inr (w, m, refl))
