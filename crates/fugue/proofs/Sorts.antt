-- Units sorted by id: a good list is the walk of its units so sorted, and so is a good list into which new units came.
use Prim.Native.Nat.{suc, ◌<◌, ◌≤◌}
use mathlib.Core.Path.{◌≡◌, refl, sym, ap, ap₂, subst, ◌∙◌}
use mathlib.Core.Logic.{◌⊎◌, inl, inr}
use mathlib.Core.Bool.{Bool, true, false, ◌&&◌, ◌||◌, cond}
use mathlib.Core.List.Memᴰ
use mathlib.Core.List.{List, [], ◌∷◌, ◌++◌}
use lib.ListN.{length}
use lib.Dec.{eqb, ltb}
use lib.IntN.{ℤ, pos, negsuc}
use lib.Signed.{lt_z}
use native.Mathlib.Omega.{arith}
use Rattle.std.specs.Prelude.{Some}
use Rattle.span.specs.declared.ids.Id.{Id}
use Rattle.span.specs.Maybe.{OptId}
use Rattle.span.specs.declared.span.FugueSpan.{FugueSpan}
use Rattle.fugue.specs.Tree.{ref, walk, id_before, by_id, sort_id}
use Rattle.fugue.proofs.Order.{Tri, tlt, teq, tgt, LtZ, LtId, LtId-irrefl, LtId-trans, tri_id}
use Rattle.fugue.proofs.Keys.{Key, Lt, Lt-irrefl}
use Rattle.fugue.proofs.ScanPlace.{Mem, Sorted}
use Rattle.fugue.proofs.Tests.{Test, pass, fail, eqb_test, ltb_test}
use Rattle.fugue.proofs.Insert.{Good}
use Rattle.fugue.proofs.Grow.{widen}
use Rattle.fugue.proofs.Rising.{IdSorted}
use Rattle.fugue.proofs.Walk.{good_is_walk}

lt_z_test : (a b : ℤ) → Test (lt_z a b) (LtZ a b)
lt_z_test (pos a) (pos b) = ltb_test a b
lt_z_test (pos a) (negsuc b) = fail refl (λ (h : ⊥). h)
lt_z_test (negsuc a) (pos b) = pass refl tt
lt_z_test (negsuc a) (negsuc b) = ltb_test b a

before_test : (a b : Id) → Test (id_before a b) (LtId a b)
unfolding id_before
before_test a b = go (ltb_test a.peer b.peer) (eqb_test a.peer b.peer) (lt_z_test a.counter b.counter)
  where
    go : Test (ltb a.peer b.peer) (a.peer < b.peer) → Test (eqb a.peer b.peer) (a.peer ≡ b.peer) → Test (lt_z a.counter b.counter) (LtZ a.counter b.counter)
        → Test (ltb a.peer b.peer || (eqb a.peer b.peer && lt_z a.counter b.counter)) (LtId a b)
    go (pass p h) t s = pass (ap (λ (z : Bool). z || (eqb a.peer b.peer && lt_z a.counter b.counter)) p) (inl h)
    go (fail p h) (pass q k) (pass r j) = pass (ap₂ ◌||◌ p (ap₂ ◌&&◌ q r)) (inr (k, j))
    go (fail p h) (pass q k) (fail r j) = fail (ap₂ ◌||◌ p (ap₂ ◌&&◌ q r)) (λ (x : LtId a b). no x)
      where
        no : LtId a b → ⊥
        no (inl x) = h x
        no (inr x) = j x.1
    go (fail p h) (fail q k) s = fail (ap₂ ◌||◌ p (ap (λ (z : Bool). z && lt_z a.counter b.counter) q)) (λ (x : LtId a b). no x)
      where
        no : LtId a b → ⊥
        no (inl x) = h x
        no (inr x) = k x.0

by_id_to : (u : FugueSpan) (l : List FugueSpan) (w : FugueSpan) → (w ≡ u) ⊎ Mem w l → Mem w (by_id u l)
unfolding by_id
by_id_to u [] w (inl e) = Memᴰ.head e
by_id_to u [] w (inr m) = absurd (Memᴰ.not-nil m)
by_id_to u (v ∷ l) w s = go (id_before u.id v.id) s (by_id_to u l w)
  where
    put : (w ≡ u) ⊎ Mem w (v ∷ l) → Mem w (u ∷ v ∷ l)
    put (inl e) = Memᴰ.head e
    put (inr m) = Memᴰ.tail m

    deep : (w ≡ v) ⊎ Mem w l → ((w ≡ u) ⊎ Mem w l → Mem w (by_id u l)) → Mem w (v ∷ by_id u l)
    deep (inl e) ih = Memᴰ.head e
    deep (inr m) ih = Memᴰ.tail (ih (inr m))

    go2 : (w ≡ u) ⊎ Mem w (v ∷ l) → ((w ≡ u) ⊎ Mem w l → Mem w (by_id u l)) → Mem w (v ∷ by_id u l)
    go2 (inl e) ih = Memᴰ.tail (ih (inl e))
    go2 (inr m) ih = deep (Memᴰ.cases_cons m) ih

    go : (b : Bool) → (w ≡ u) ⊎ Mem w (v ∷ l) → ((w ≡ u) ⊎ Mem w l → Mem w (by_id u l)) → Mem w (cond b (u ∷ v ∷ l) (v ∷ by_id u l))
    go true s ih = put s
    go false s ih = go2 s ih

by_id_from : (u : FugueSpan) (l : List FugueSpan) (w : FugueSpan) → Mem w (by_id u l) → (w ≡ u) ⊎ Mem w l
unfolding by_id
by_id_from u [] w m = Memᴰ.cases_cons m
by_id_from u (v ∷ l) w m = go (id_before u.id v.id) m (by_id_from u l w)
  where
    deep : ((w ≡ u) ⊎ Mem w l) → (w ≡ u) ⊎ Mem w (v ∷ l)
    deep (inl e) = inl e
    deep (inr k) = inr (Memᴰ.tail k)

    go2 : (w ≡ v) ⊎ Mem w (by_id u l) → (Mem w (by_id u l) → (w ≡ u) ⊎ Mem w l) → (w ≡ u) ⊎ Mem w (v ∷ l)
    go2 (inl e) ih = inr (Memᴰ.head e)
    go2 (inr k) ih = deep (ih k)

    go : (b : Bool) → Mem w (cond b (u ∷ v ∷ l) (v ∷ by_id u l)) → (Mem w (by_id u l) → (w ≡ u) ⊎ Mem w l) → (w ≡ u) ⊎ Mem w (v ∷ l)
    go true k ih = Memᴰ.cases_cons k
    go false k ih = go2 (Memᴰ.cases_cons k) ih

pub by_id_sorted : (u : FugueSpan) (l : List FugueSpan) → IdSorted l → ((w : FugueSpan) → Mem w l → ref w ≡ ref u → ⊥) → IdSorted (by_id u l)
unfolding by_id
by_id_sorted u [] s n = (λ (w : FugueSpan) (m : Mem w []). absurd (Memᴰ.not-nil m), tt)
by_id_sorted u (v ∷ l) s n = go (before_test u.id v.id) (by_id_sorted u l s.1 (λ (w : FugueSpan) (m : Mem w l). n w (Memᴰ.tail m)))
  where
    L : FugueSpan → FugueSpan → Type 0
    L a b = LtId a.id b.id

    up : L u v → (w : FugueSpan) → (w ≡ v) ⊎ Mem w l → L u w
    up h w (inl e) = subst (λ (z : FugueSpan). L u z) (sym e) h
    up h w (inr m) = LtId-trans u.id v.id w.id h (s.0 w m)

    vu : (L u v → ⊥) → Tri (L u v) (u.id ≡ v.id) (L v u) → L v u
    vu k (tlt h) = absurd (k h)
    vu k (teq h) = absurd (n v (Memᴰ.head refl) (ap Some (sym h)))
    vu k (tgt h) = h

    all : L v u → (w : FugueSpan) → (w ≡ u) ⊎ Mem w l → L v w
    all h w (inl e) = subst (λ (z : FugueSpan). L v z) (sym e) h
    all h w (inr m) = s.0 w m

    go : Test (id_before u.id v.id) (L u v) → IdSorted (by_id u l) → IdSorted (cond (id_before u.id v.id) (u ∷ v ∷ l) (v ∷ by_id u l))
    go (pass e h) ih = subst (λ (b : Bool). IdSorted (cond b (u ∷ v ∷ l) (v ∷ by_id u l))) (sym e) (λ (w : FugueSpan) (m : Mem w (v ∷ l)). up h w (Memᴰ.cases_cons m), s)
    go (fail e h) ih = subst (λ (b : Bool). IdSorted (cond b (u ∷ v ∷ l) (v ∷ by_id u l))) (sym e)
        (λ (w : FugueSpan) (m : Mem w (by_id u l)). all (vu h (tri_id u.id v.id)) w (by_id_from u l w m), ih)

by_id-length : (u : FugueSpan) (l : List FugueSpan) → length (by_id u l) ≡ suc (length l)
unfolding by_id
by_id-length u [] = refl
by_id-length u (v ∷ l) = go (id_before u.id v.id) (by_id-length u l)
  where
    go : (b : Bool) → length (by_id u l) ≡ suc (length l) → length (cond b (u ∷ v ∷ l) (v ∷ by_id u l)) ≡ suc (suc (length l))
    go true ih = refl
    go false ih = ap suc ih

pub sort_id_to : (l : List FugueSpan) (w : FugueSpan) → Mem w l → Mem w (sort_id l)
unfolding sort_id
sort_id_to [] w m = m
sort_id_to (v ∷ l) w m = go (Memᴰ.cases_cons m) (sort_id_to l w)
  where
    go : (w ≡ v) ⊎ Mem w l → (Mem w l → Mem w (sort_id l)) → Mem w (by_id v (sort_id l))
    go (inl e) ih = by_id_to v (sort_id l) w (inl e)
    go (inr k) ih = by_id_to v (sort_id l) w (inr (ih k))

pub sort_id_from : (l : List FugueSpan) (w : FugueSpan) → Mem w (sort_id l) → Mem w l
unfolding sort_id
sort_id_from [] w m = m
sort_id_from (v ∷ l) w m = go (by_id_from v (sort_id l) w m) (sort_id_from l w)
  where
    go : (w ≡ v) ⊎ Mem w (sort_id l) → (Mem w (sort_id l) → Mem w l) → Mem w (v ∷ l)
    go (inl e) ih = Memᴰ.head e
    go (inr k) ih = Memᴰ.tail (ih k)

pub sort_id_sorted : (key : OptId → Key) (l : List FugueSpan) → Sorted key l → IdSorted (sort_id l)
unfolding sort_id
sort_id_sorted key [] s = tt
sort_id_sorted key (v ∷ l) s = by_id_sorted v (sort_id l) (sort_id_sorted key l s.1)
    (λ (w : FugueSpan) (m : Mem w (sort_id l)) (e : ref w ≡ ref v). Lt-irrefl (key (ref v)) (subst (λ (z : OptId). Lt (key (ref v)) (key z)) e (s.0 w (sort_id_from l w m))))

-- no id twice
abbrev pub Norep : List FugueSpan → Type 0
Norep [] = Unit {0}
Norep (v ∷ l) = ((w : FugueSpan) → Mem w l → ref w ≡ ref v → ⊥) × Norep l

pub sort_id_norep : (l : List FugueSpan) → Norep l → IdSorted (sort_id l)
unfolding sort_id
sort_id_norep [] s = tt
sort_id_norep (v ∷ l) s = by_id_sorted v (sort_id l) (sort_id_norep l s.1) (λ (w : FugueSpan) (m : Mem w (sort_id l)). s.0 w (sort_id_from l w m))

pub norep_sorted : (key : OptId → Key) (l : List FugueSpan) → Sorted key l → Norep l
norep_sorted key [] s = tt
norep_sorted key (v ∷ l) s = (λ (w : FugueSpan) (m : Mem w l) (e : ref w ≡ ref v). Lt-irrefl (key (ref v)) (subst (λ (z : OptId). Lt (key (ref v)) (key z)) e (s.0 w m)), norep_sorted key l s.1)

-- a block moved to the front
norep_tail : (A B : List FugueSpan) → Norep (A ++ B) → Norep B
norep_tail [] B n = n
norep_tail (v ∷ A) B n = norep_tail A B n.1

norep_insert : (A B : List FugueSpan) (v : FugueSpan) → Norep (A ++ v ∷ B) → Norep (v ∷ (A ++ B))
norep_insert [] B v n = n
norep_insert (a ∷ A) B v n =
    let r : Norep (v ∷ (A ++ B)) = norep_insert A B v n.1 in (
      λ (w : FugueSpan) (m : Mem w (a ∷ (A ++ B))). go r w (Memᴰ.cases_cons m),
      (λ (w : FugueSpan) (m : Mem w (A ++ B)). n.0 w (widen A v B w m), r.1),
    )
  where
    go : Norep (v ∷ (A ++ B)) → (w : FugueSpan) → (w ≡ a) ⊎ Mem w (A ++ B) → ref w ≡ ref v → ⊥
    go r w (inl k) e = n.0 v (Memᴰ.append_right A (Memᴰ.head refl)) (sym e ∙ ap ref k)
    go r w (inr m) e = r.0 w m e

pub norep_front : (A N B : List FugueSpan) → Norep (A ++ (N ++ B)) → Norep (N ++ (A ++ B))
norep_front A [] B n = n
norep_front A (v ∷ N) B n =
    let r : Norep (v ∷ (A ++ (N ++ B))) = norep_insert A (N ++ B) v n in
    (λ (w : FugueSpan) (m : Mem w (N ++ (A ++ B))). r.0 w (swap w (Memᴰ.append_cases N m)), norep_front A N B r.1)
  where
    swap2 : (w : FugueSpan) → Mem w A ⊎ Mem w B → Mem w (A ++ (N ++ B))
    swap2 w (inl k) = Memᴰ.append_left (N ++ B) k
    swap2 w (inr k) = Memᴰ.append_right A (Memᴰ.append_right N k)

    swap : (w : FugueSpan) → Mem w N ⊎ Mem w (A ++ B) → Mem w (A ++ (N ++ B))
    swap w (inl k) = Memᴰ.append_right A (Memᴰ.append_left B k)
    swap w (inr k) = swap2 w (Memᴰ.append_cases A k)

sort_id-length : (l : List FugueSpan) → length (sort_id l) ≡ length l
unfolding sort_id
sort_id-length [] = refl
sort_id-length (v ∷ l) = by_id-length v (sort_id l) ∙ ap suc (sort_id-length l)

pub good_walk : (key : OptId → Key) (l : List FugueSpan) → Good key l → ((w : FugueSpan) → Mem w l → length (key (ref w)) ≤ length l) → l ≡ walk (sort_id l)
good_walk key l g deep = good_is_walk key l (sort_id l) g (sort_id_sorted key l g.sorted) (sort_id_to l) (sort_id_from l)
    (λ (w : FugueSpan) (m : Mem w (sort_id l)). omega (arith, deep w (sort_id_from l w m), sort_id-length l))

abbrev L : FugueSpan → FugueSpan → Type 0
L a b = LtId a.id b.id

-- a list sorted by id is decided by its members
id_unique : (l m : List FugueSpan) → IdSorted l → IdSorted m → ((w : FugueSpan) → Mem w l → Mem w m) → ((w : FugueSpan) → Mem w m → Mem w l) → l ≡ m
id_unique [] [] ha hb f g = refl
id_unique [] (b ∷ m) ha hb f g = absurd (Memᴰ.not-nil (g b (Memᴰ.head refl)))
id_unique (a ∷ l) [] ha hb f g = absurd (Memᴰ.not-nil (f a (Memᴰ.head refl)))
id_unique (a ∷ l) (b ∷ m) ha hb f g =
    ap₂ ◌∷◌ same (id_unique l m ha.1 hb.1
    (λ (w : FugueSpan) (k : Mem w l). down l m a b ha.0 same w k (Memᴰ.cases_cons (f w (Memᴰ.tail k))))
    (λ (w : FugueSpan) (k : Mem w m). down m l b a hb.0 (sym same) w k (Memᴰ.cases_cons (g w (Memᴰ.tail k)))))
  where
    heads : (a ≡ b) ⊎ Mem a m → (b ≡ a) ⊎ Mem b l → a ≡ b
    heads (inl e) h = e
    heads (inr k) (inl e) = sym e
    heads (inr k) (inr h) = absurd (LtId-irrefl a.id (LtId-trans a.id b.id a.id (ha.0 b h) (hb.0 a k)))

    same : a ≡ b
    same = heads (Memᴰ.cases_cons (f a (Memᴰ.head refl))) (Memᴰ.cases_cons (g b (Memᴰ.head refl)))

    down : (l m : List FugueSpan) (a b : FugueSpan) → ((w : FugueSpan) → Mem w l → L a w) → a ≡ b → (w : FugueSpan) → Mem w l → (w ≡ b) ⊎ Mem w m → Mem w m
    down l m a b h e w k (inl d) = absurd (LtId-irrefl a.id (subst (λ (z : FugueSpan). L a z) (d ∙ sym e) (h w k)))
    down l m a b h e w k (inr d) = d

-- new units come in somewhere
pub record Splice (l new l' : List FugueSpan) : Type 0 where
  pub before : List FugueSpan
  pub rest : List FugueSpan
  pub old : l ≡ before ++ rest
  pub now : l' ≡ before ++ (new ++ rest)

-- a spliced list that is good is the walk of the new units and the old ones
pub splice_walk : (key : OptId → Key) (l new l' : List FugueSpan) → Splice l new l' → Good key l' → ((w : FugueSpan) → Mem w l' → length (key (ref w)) ≤ length l') → l' ≡ walk (sort_id (new ++ l))
splice_walk key l new l' s g deep = good_walk key l' g deep ∙ ap walk (id_unique (sort_id l') (sort_id (new ++ l))
    (sort_id_norep l' nr) (sort_id_norep (new ++ l) nr2)
    (λ (w : FugueSpan) (m : Mem w (sort_id l')). sort_id_to (new ++ l) w (to w (sort_id_from l' w m)))
    (λ (w : FugueSpan) (m : Mem w (sort_id (new ++ l))). sort_id_to l' w (from w (sort_id_from (new ++ l) w m))))
  where
    A : List FugueSpan
    A = s.before

    B : List FugueSpan
    B = s.rest

    nr : Norep l'
    nr = norep_sorted key l' g.sorted

    nr2 : Norep (new ++ l)
    nr2 = subst (λ (z : List FugueSpan). Norep (new ++ z)) (sym s.old) (norep_front A new B (subst Norep s.now nr))

    to3 : (w : FugueSpan) → Mem w new ⊎ Mem w B → Mem w (new ++ (A ++ B))
    to3 w (inl k) = Memᴰ.append_left (A ++ B) k
    to3 w (inr k) = Memᴰ.append_right new (Memᴰ.append_right A k)

    to2 : (w : FugueSpan) → Mem w A ⊎ Mem w (new ++ B) → Mem w (new ++ (A ++ B))
    to2 w (inl k) = Memᴰ.append_right new (Memᴰ.append_left B k)
    to2 w (inr k) = to3 w (Memᴰ.append_cases new k)

    to : (w : FugueSpan) → Mem w l' → Mem w (new ++ l)
    to w m = subst (λ (z : List FugueSpan). Mem w (new ++ z)) (sym s.old) (to2 w (Memᴰ.append_cases A (subst (λ (z : List FugueSpan). Mem w z) s.now m)))

    from3 : (w : FugueSpan) → Mem w A ⊎ Mem w B → Mem w (A ++ (new ++ B))
    from3 w (inl k) = Memᴰ.append_left (new ++ B) k
    from3 w (inr k) = Memᴰ.append_right A (Memᴰ.append_right new k)

    from2 : (w : FugueSpan) → Mem w new ⊎ Mem w (A ++ B) → Mem w (A ++ (new ++ B))
    from2 w (inl k) = Memᴰ.append_right A (Memᴰ.append_left B k)
    from2 w (inr k) = from3 w (Memᴰ.append_cases A k)

    from : (w : FugueSpan) → Mem w (new ++ l) → Mem w l'
    from w m = subst (λ (z : List FugueSpan). Mem w z) (sym s.now) (from2 w (Memᴰ.append_cases new (subst (λ (z : List FugueSpan). Mem w (new ++ z)) s.old m)))
