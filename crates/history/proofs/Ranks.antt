-- The set's own order, by rank, puts every edit after its context: what a context covers has a lower rank.
use Prim.Native.Nat.{ℕ, ◌+◌, ◌<◌, ◌≤◌}
use mathlib.Core.Path.{◌≡◌, refl, sym, ap, subst, ◌∙◌}
use mathlib.Core.Logic.{◌⊎◌, inl, inr}
use mathlib.Core.Bool.{Bool, true, false, cond}
use mathlib.Core.List.Memᴰ
use mathlib.Core.List.{List, [], ◌∷◌}
use native.Mathlib.Omega.{arith}
use lib.Dec.{ltb}
use Rattle.fugue.proofs.Tests.{Test, pass, fail, ltb_test}
use Rattle.history.specs.Edit.{Edit}
use Rattle.history.specs.Version.{count_of, below}
use Rattle.history.specs.Tree.{rank, by_rank, sort_rank}
use Rattle.history.specs.Demand.{InSet, Once, After}

rank-le : (G : List Edit) (f e : Edit) → ((p : ℕ) → count_of f.context p ≤ count_of e.context p) → rank G f ≤ rank G e
unfolding rank
rank-le [] f e h = omega arith
rank-le (g ∷ G) f e h = omega (arith, h g.id.peer, rank-le G f e h)

pub rank-lt : (G : List Edit) (f e g : Edit) → InSet g G → ((p : ℕ) → count_of f.context p ≤ count_of e.context p) → count_of f.context g.id.peer < count_of e.context g.id.peer → rank G f < rank G e
unfolding rank
rank-lt [] f e g m h k = absurd (Memᴰ.not-nil m)
rank-lt (a ∷ G) f e g m h k = go (Memᴰ.cases_cons m) (λ (j : InSet g G). rank-lt G f e g j h k)
  where
    go : (g ≡ a) ⊎ InSet g G → (InSet g G → rank G f < rank G e) → count_of f.context a.id.peer + rank G f < count_of e.context a.id.peer + rank G e
    go (inl d) ih =
        let k2 : count_of f.context a.id.peer < count_of e.context a.id.peer = subst (λ (z : Edit). count_of f.context z.id.peer < count_of e.context z.id.peer) d k in
        omega (arith, rank-le G f e h)
    go (inr j) ih = omega (arith, h a.id.peer, ih j)

abbrev RankSorted : List Edit → List Edit → Type 0
RankSorted G [] = Unit {0}
RankSorted G (e ∷ l) = ((f : Edit) → InSet f l → rank G e ≤ rank G f) × RankSorted G l

by_rank_to : (G : List Edit) (e : Edit) (l : List Edit) (w : Edit) → (w ≡ e) ⊎ InSet w l → InSet w (by_rank G e l)
unfolding by_rank
by_rank_to G e [] w (inl d) = Memᴰ.head d
by_rank_to G e [] w (inr m) = absurd (Memᴰ.not-nil m)
by_rank_to G e (f ∷ l) w s = go (ltb (rank G f) (rank G e)) s (by_rank_to G e l w)
  where
    put : (w ≡ e) ⊎ InSet w (f ∷ l) → InSet w (e ∷ f ∷ l)
    put (inl d) = Memᴰ.head d
    put (inr m) = Memᴰ.tail m

    deep : (w ≡ f) ⊎ InSet w l → ((w ≡ e) ⊎ InSet w l → InSet w (by_rank G e l)) → InSet w (f ∷ by_rank G e l)
    deep (inl d) ih = Memᴰ.head d
    deep (inr m) ih = Memᴰ.tail (ih (inr m))

    go2 : (w ≡ e) ⊎ InSet w (f ∷ l) → ((w ≡ e) ⊎ InSet w l → InSet w (by_rank G e l)) → InSet w (f ∷ by_rank G e l)
    go2 (inl d) ih = Memᴰ.tail (ih (inl d))
    go2 (inr m) ih = deep (Memᴰ.cases_cons m) ih

    go : (b : Bool) → (w ≡ e) ⊎ InSet w (f ∷ l) → ((w ≡ e) ⊎ InSet w l → InSet w (by_rank G e l)) → InSet w (cond b (f ∷ by_rank G e l) (e ∷ f ∷ l))
    go true s ih = go2 s ih
    go false s ih = put s

by_rank_from : (G : List Edit) (e : Edit) (l : List Edit) (w : Edit) → InSet w (by_rank G e l) → (w ≡ e) ⊎ InSet w l
unfolding by_rank
by_rank_from G e [] w m = Memᴰ.cases_cons m
by_rank_from G e (f ∷ l) w m = go (ltb (rank G f) (rank G e)) m (by_rank_from G e l w)
  where
    deep : ((w ≡ e) ⊎ InSet w l) → (w ≡ e) ⊎ InSet w (f ∷ l)
    deep (inl d) = inl d
    deep (inr k) = inr (Memᴰ.tail k)

    go2 : (w ≡ f) ⊎ InSet w (by_rank G e l) → (InSet w (by_rank G e l) → (w ≡ e) ⊎ InSet w l) → (w ≡ e) ⊎ InSet w (f ∷ l)
    go2 (inl d) ih = inr (Memᴰ.head d)
    go2 (inr k) ih = deep (ih k)

    go : (b : Bool) → InSet w (cond b (f ∷ by_rank G e l) (e ∷ f ∷ l)) → (InSet w (by_rank G e l) → (w ≡ e) ⊎ InSet w l) → (w ≡ e) ⊎ InSet w (f ∷ l)
    go true k ih = go2 (Memᴰ.cases_cons k) ih
    go false k ih = Memᴰ.cases_cons k

by_rank_sorted : (G : List Edit) (e : Edit) (l : List Edit) → RankSorted G l → RankSorted G (by_rank G e l)
unfolding by_rank
by_rank_sorted G e [] s = (λ (w : Edit) (m : InSet w []). absurd (Memᴰ.not-nil m), tt)
by_rank_sorted G e (f ∷ l) s = go (ltb_test (rank G f) (rank G e)) (by_rank_sorted G e l s.1)
  where
    R : Bool → Type 0
    R b = RankSorted G (cond b (f ∷ by_rank G e l) (e ∷ f ∷ l))

    low : rank G f < rank G e → (w : Edit) → (w ≡ e) ⊎ InSet w l → rank G f ≤ rank G w
    low h w (inl d) = subst (λ (z : Edit). rank G f ≤ rank G z) (sym d) (omega arith)
    low h w (inr m) = s.0 w m

    high : (rank G f < rank G e → ⊥) → (w : Edit) → (w ≡ f) ⊎ InSet w l → rank G e ≤ rank G w
    high h w (inl d) = subst (λ (z : Edit). rank G e ≤ rank G z) (sym d) (omega arith)
    high h w (inr m) = let k : rank G f ≤ rank G w = s.0 w m in omega arith

    go : Test (ltb (rank G f) (rank G e)) (rank G f < rank G e) → RankSorted G (by_rank G e l) → R (ltb (rank G f) (rank G e))
    go (pass d h) ih = subst R (sym d) (λ (w : Edit) (m : InSet w (by_rank G e l)). low h w (by_rank_from G e l w m), ih)
    go (fail d h) ih = subst R (sym d) (λ (w : Edit) (m : InSet w (f ∷ l)). high h w (Memᴰ.cases_cons m), s)

by_rank_once : (G : List Edit) (e : Edit) (l : List Edit) → Once l → ((f : Edit) → InSet f l → f ≡ e → ⊥) → Once (by_rank G e l)
unfolding by_rank
by_rank_once G e [] s n = (λ (w : Edit) (m : InSet w []). absurd (Memᴰ.not-nil m), tt)
by_rank_once G e (f ∷ l) s n = go (ltb (rank G f) (rank G e)) (by_rank_once G e l s.1 (λ (w : Edit) (m : InSet w l). n w (Memᴰ.tail m)))
  where
    no : (w : Edit) → (w ≡ e) ⊎ InSet w l → w ≡ f → ⊥
    no w (inl d) k = n f (Memᴰ.head refl) (sym k ∙ d)
    no w (inr m) k = s.0 w m k

    go : (b : Bool) → Once (by_rank G e l) → Once (cond b (f ∷ by_rank G e l) (e ∷ f ∷ l))
    go true ih = (λ (w : Edit) (m : InSet w (by_rank G e l)). no w (by_rank_from G e l w m), ih)
    go false ih = (n, s)

pub sort_rank_to : (G l : List Edit) (w : Edit) → InSet w l → InSet w (sort_rank G l)
unfolding sort_rank
sort_rank_to G [] w m = m
sort_rank_to G (e ∷ l) w m = go (Memᴰ.cases_cons m) (sort_rank_to G l w)
  where
    go : (w ≡ e) ⊎ InSet w l → (InSet w l → InSet w (sort_rank G l)) → InSet w (by_rank G e (sort_rank G l))
    go (inl d) ih = by_rank_to G e (sort_rank G l) w (inl d)
    go (inr k) ih = by_rank_to G e (sort_rank G l) w (inr (ih k))

pub sort_rank_from : (G l : List Edit) (w : Edit) → InSet w (sort_rank G l) → InSet w l
unfolding sort_rank
sort_rank_from G [] w m = m
sort_rank_from G (e ∷ l) w m = go (by_rank_from G e (sort_rank G l) w m) (sort_rank_from G l w)
  where
    go : (w ≡ e) ⊎ InSet w (sort_rank G l) → (InSet w (sort_rank G l) → InSet w l) → InSet w (e ∷ l)
    go (inl d) ih = Memᴰ.head d
    go (inr k) ih = Memᴰ.tail (ih k)

sort_rank_sorted : (G l : List Edit) → RankSorted G (sort_rank G l)
unfolding sort_rank
sort_rank_sorted G [] = tt
sort_rank_sorted G (e ∷ l) = by_rank_sorted G e (sort_rank G l) (sort_rank_sorted G l)

pub sort_rank_once : (G l : List Edit) → Once l → Once (sort_rank G l)
unfolding sort_rank
sort_rank_once G [] n = tt
sort_rank_once G (e ∷ l) n = by_rank_once G e (sort_rank G l) (sort_rank_once G l n.1) (λ (f : Edit) (m : InSet f (sort_rank G l)). n.0 f (sort_rank_from G l f m))

module _ (S : List Edit) (lower : (e f : Edit) → InSet e S → InSet f S → below e.context f.id ≡ true → rank S f < rank S e) where
  sorted_after : (es done : List Edit) → RankSorted S es → Once es → ((f : Edit) → InSet f es → InSet f S) → ((f : Edit) → InSet f S → InSet f done ⊎ InSet f es)
      → ((f : Edit) → InSet f done → InSet f es → ⊥) → After S done es
  unfolding After
  sorted_after [] done s n sub all apart = tt
  sorted_after (e ∷ es) done s n sub all apart = (
    before,
    sorted_after es (e ∷ done) s.1 n.1 (λ (f : Edit) (m : InSet f es). sub f (Memᴰ.tail m)) (λ (f : Edit) (m : InSet f S). move f (all f m))
        (λ (f : Edit) (m : InSet f (e ∷ done)) (k : InSet f es). no f k (Memᴰ.cases_cons m)),
  )
    where
      me : InSet e S
      me = sub e (Memᴰ.head refl)

      pick2 : (f : Edit) → rank S f < rank S e → (f ≡ e) ⊎ InSet f es → InSet f done
      pick2 f h (inl d) = absurd (let z : rank S f ≡ rank S e = ap (rank S) d in let y : ⊥ = omega arith in y)
      pick2 f h (inr m) = absurd (let z : rank S e ≤ rank S f = s.0 f m in let y : ⊥ = omega arith in y)

      pick : (f : Edit) → rank S f < rank S e → InSet f done ⊎ InSet f (e ∷ es) → InSet f done
      pick f h (inl m) = m
      pick f h (inr m) = pick2 f h (Memᴰ.cases_cons m)

      before : (f : Edit) → InSet f S → below e.context f.id ≡ true → InSet f done
      before f mf k = pick f (lower e f me mf k) (all f mf)

      move2 : (f : Edit) → (f ≡ e) ⊎ InSet f es → InSet f (e ∷ done) ⊎ InSet f es
      move2 f (inl d) = inl (Memᴰ.head d)
      move2 f (inr m) = inr m

      move : (f : Edit) → InSet f done ⊎ InSet f (e ∷ es) → InSet f (e ∷ done) ⊎ InSet f es
      move f (inl m) = inl (Memᴰ.tail m)
      move f (inr m) = move2 f (Memᴰ.cases_cons m)

      no : (f : Edit) → InSet f es → (f ≡ e) ⊎ InSet f done → ⊥
      no f k (inl d) = n.0 f k d
      no f k (inr m) = apart f m (Memᴰ.tail k)

  -- the set's own order puts every edit after its context
  pub own_order : Once S → After S [] (sort_rank S S)
  own_order n = sorted_after (sort_rank S S) [] (sort_rank_sorted S S) (sort_rank_once S S n) (sort_rank_from S S) (λ (f : Edit) (m : InSet f S). inr (sort_rank_to S S f m))
      (λ (f : Edit) (m : InSet f []). absurd (Memᴰ.not-nil m))
