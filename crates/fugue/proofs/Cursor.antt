-- The list around a cursor (L4.1, L4.2, L4.6): the front and what is behind, the last unit of the front, the first that is not future, and a list cut by a key.
use Prim.Native.Nat.{ℕ, zero, suc}
use mathlib.Core.Path.{◌≡◌, refl, sym, ap, subst, ◌∙◌}
use mathlib.Core.Logic.{◌⊎◌, inl, inr}
use mathlib.Core.Bool.{Bool, true, false, cond}
use mathlib.Core.List.Memᴰ
use mathlib.Core.List.{List, [], ◌∷◌, ◌++◌}
use lib.ListN.{length}
use Rattle.std.specs.Prelude.{None}
use Rattle.span.specs.Maybe.{OptId}
use Rattle.span.specs.declared.span.FugueSpan.{FugueSpan}
use Rattle.span.specs.Ids.{same_opt}
use Rattle.span.specs.Status.{activated}
use Rattle.units.specs.Place.{up_to, first_past, front, behind, last_id, put_at}
use Rattle.fugue.specs.Tree.{ref, ol, or, pr_of}
use Rattle.fugue.proofs.Order.{Tri, tlt, teq, tgt}
use Rattle.fugue.proofs.Keys.{Key, Lt, Lt-trans, tri}
use Rattle.fugue.proofs.ScanPlace.{Mem, Sorted}
use Rattle.fugue.proofs.Tests.{Test, pass, fail, same_opt_test}
use Rattle.fugue.proofs.Insert.{In, pr_in_lem}

pub front-behind : (l : List FugueSpan) (n : ℕ) → front l n ++ behind l n ≡ l
unfolding front behind
front-behind [] n = refl
front-behind (v ∷ l) zero = refl
front-behind (v ∷ l) (suc n) = ap (λ (z : List FugueSpan). v ∷ z) (front-behind l (cond (activated v.status) n (suc n)))

pub data Ends (r : OptId) (F : List FugueSpan) (x : OptId) : Type 0 where
  e_nil : F ≡ [] → x ≡ r → Ends r F x
  e_last : (G : List FugueSpan) (u : FugueSpan) → F ≡ G ++ u ∷ [] → x ≡ ref u → Ends r F x

pub ends : (r : OptId) (F : List FugueSpan) → Ends r F (last_id r F)
unfolding last_id
ends r [] = e_nil refl refl
ends r (v ∷ F) = go (ends (ref v) F)
  where
    go : Ends (ref v) F (last_id (ref v) F) → Ends r (v ∷ F) (last_id (ref v) F)
    go (e_nil e d) = e_last [] v (ap (λ (z : List FugueSpan). v ∷ z) e) d
    go (e_last G u e d) = e_last (v ∷ G) u (ap (λ (z : List FugueSpan). v ∷ z) e) d

pub data Past (R : List FugueSpan) (o : OptId) : Type 0 where
  p_none : o ≡ None → Past R o
  p_some : (M : List FugueSpan) (u : FugueSpan) (P : List FugueSpan) → R ≡ M ++ u ∷ P → ((w : FugueSpan) → Mem w M → w.status.future ≡ true) → u.status.future ≡ false → o ≡ ref u → Past R o

pub past : (R : List FugueSpan) → Past R (first_past R)
unfolding first_past
past [] = p_none refl
past (v ∷ R) = go v.status.future refl (past R)
  where
    go : (b : Bool) → v.status.future ≡ b → Past R (first_past R) → Past (v ∷ R) (cond b (first_past R) (ref v))
    go false e h = p_some [] v R refl (λ (w : FugueSpan) (m : Mem w []). absurd (Memᴰ.not-nil m)) e refl
    go true e (p_none d) = p_none d
    go true e (p_some M u P d f uf k) = p_some (v ∷ M) u P (ap (λ (z : List FugueSpan). v ∷ z) d) (λ (w : FugueSpan) (m : Mem w (v ∷ M)). go2 w (Memᴰ.cases_cons m)) uf k
      where
        go2 : (w : FugueSpan) → (w ≡ v) ⊎ Mem w M → w.status.future ≡ true
        go2 w (inl q) = ap (λ (z : FugueSpan). z.status.future) q ∙ e
        go2 w (inr m) = f w m

pub up_to_none : (R : List FugueSpan) → up_to None R ≡ R
unfolding up_to same_opt
up_to_none [] = refl
up_to_none (v ∷ R) = ap (λ (z : List FugueSpan). v ∷ z) (up_to_none R)

pub up_to_some : (M : List FugueSpan) (u : FugueSpan) (P : List FugueSpan) → ((w : FugueSpan) → Mem w M → ref u ≡ ref w → ⊥) → up_to (ref u) (M ++ u ∷ P) ≡ M
unfolding up_to
up_to_some [] u P n = go (same_opt_test (ref u) (ref u))
  where
    go : Test (same_opt (ref u) (ref u)) (ref u ≡ ref u) → cond (same_opt (ref u) (ref u)) [] (u ∷ up_to (ref u) P) ≡ []
    go (pass e h) = ap (λ (b : Bool). cond b [] (u ∷ up_to (ref u) P)) e
    go (fail e h) = absurd (h refl)
up_to_some (v ∷ M) u P n = go (same_opt_test (ref u) (ref v)) (up_to_some M u P (λ (w : FugueSpan) (m : Mem w M). n w (Memᴰ.tail m)))
  where
    go : Test (same_opt (ref u) (ref v)) (ref u ≡ ref v) → up_to (ref u) (M ++ u ∷ P) ≡ M → cond (same_opt (ref u) (ref v)) [] (v ∷ up_to (ref u) (M ++ u ∷ P)) ≡ v ∷ M
    go (pass e h) ih = absurd (n v (Memᴰ.head refl) h)
    go (fail e h) ih = ap (λ (b : Bool). cond b [] (v ∷ up_to (ref u) (M ++ u ∷ P))) e ∙ ap (λ (z : List FugueSpan). v ∷ z) ih

pub put_at_seam : (S new T : List FugueSpan) → put_at (length S) new (S ++ T) ≡ S ++ (new ++ T)
unfolding put_at
put_at_seam [] new T = refl
put_at_seam (v ∷ S) new T = ap (λ (z : List FugueSpan). v ∷ z) (put_at_seam S new T)

pub sorted_tail : (key : OptId → Key) (A B : List FugueSpan) → Sorted key (A ++ B) → Sorted key B
sorted_tail key [] B s = s
sorted_tail key (v ∷ A) B s = sorted_tail key A B s.1

pub sorted_head : (key : OptId → Key) (A B : List FugueSpan) → Sorted key (A ++ B) → Sorted key A
sorted_head key [] B s = tt
sorted_head key (v ∷ A) B s = (λ (w : FugueSpan) (m : Mem w A). s.0 w (Memᴰ.append_left B m), sorted_head key A B s.1)

-- what is before a key, and what is after it, in a sorted list
pub record Split (key : OptId → Key) (k : Key) (M : List FugueSpan) : Type 0 where
  pub S1 : List FugueSpan
  pub S2 : List FugueSpan
  pub eq : M ≡ S1 ++ S2
  pub lo : (w : FugueSpan) → Mem w S1 → Lt (key (ref w)) k
  pub hi : (w : FugueSpan) → Mem w S2 → Lt k (key (ref w))

pub split : (key : OptId → Key) (k : Key) (M : List FugueSpan) → Sorted key M → ((w : FugueSpan) → Mem w M → key (ref w) ≡ k → ⊥) → Split key k M
split key k [] s n = record { S1 = []; S2 = []; eq = refl; lo = λ (w : FugueSpan) (m : Mem w []). absurd (Memᴰ.not-nil m); hi = λ (w : FugueSpan) (m : Mem w []). absurd (Memᴰ.not-nil m) }
split key k (v ∷ M) s n = go (tri (key (ref v)) k) (split key k M s.1 (λ (w : FugueSpan) (m : Mem w M). n w (Memᴰ.tail m)))
  where
    up : Lt k (key (ref v)) → (w : FugueSpan) → (w ≡ v) ⊎ Mem w M → Lt k (key (ref w))
    up h w (inl e) = subst (λ (z : FugueSpan). Lt k (key (ref z))) (sym e) h
    up h w (inr m) = Lt-trans k (key (ref v)) (key (ref w)) h (s.0 w m)

    down : Lt (key (ref v)) k → (S : List FugueSpan) → ((w : FugueSpan) → Mem w S → Lt (key (ref w)) k) → (w : FugueSpan) → (w ≡ v) ⊎ Mem w S → Lt (key (ref w)) k
    down h S f w (inl e) = subst (λ (z : FugueSpan). Lt (key (ref z)) k) (sym e) h
    down h S f w (inr m) = f w m

    go : Tri (Lt (key (ref v)) k) (key (ref v) ≡ k) (Lt k (key (ref v))) → Split key k M → Split key k (v ∷ M)
    go (tlt h) r = record {
      S1 = v ∷ r.S1;
      S2 = r.S2;
      eq = ap (λ (z : List FugueSpan). v ∷ z) r.eq;
      lo = λ (w : FugueSpan) (m : Mem w (v ∷ r.S1)). down h r.S1 r.lo w (Memᴰ.cases_cons m);
      hi = r.hi;
    }
    go (teq e) r = absurd (n v (Memᴰ.head refl) e)
    go (tgt h) r = record {
      S1 = [];
      S2 = v ∷ M;
      eq = refl;
      lo = λ (w : FugueSpan) (m : Mem w []). absurd (Memᴰ.not-nil m);
      hi = λ (w : FugueSpan) (m : Mem w (v ∷ M)). up h w (Memᴰ.cases_cons m);
    }

pub pr_of_lem : (key : OptId → Key) (l : List FugueSpan) → Sorted key l → (v : FugueSpan) → In (pr_of l v) l
unfolding pr_of
pr_of_lem key l s v = pr_in_lem key l s (ol v) (or v)
