-- Demand 3 on units (Theorem 9): every arrival order of the set arrives throughout, and at the whole set shows what the tree built from the set alone shows.
use Prim.Native.Nat.{ℕ}
use mathlib.Core.Path.{◌≡◌, sym, ap, subst, ◌∙◌}
use mathlib.Core.Logic.{◌⊎◌, inl, inr}
use mathlib.Core.Bool.{true}
use mathlib.Core.List.Memᴰ
use mathlib.Core.List.{List, [], ◌∷◌, ◌++◌, map}
use Rattle.span.specs.Maybe.{OptId}
use Rattle.fugue.specs.Tree.{walk, sort_id}
use Rattle.fugue.proofs.Keys.{Key}
use Rattle.fugue.proofs.Clocks.{cnt, done_of, done_in, todo_in, in_todo, Order}
use Rattle.history.specs.Edit.{Version, Edit, History}
use Rattle.history.specs.Checkout.{units_at}
use Rattle.history.specs.Arrive.{start, replay}
use Rattle.history.specs.Tree.{sort_rank, tree_of}
use Rattle.history.specs.Codes as Codes
use Rattle.history.specs.Demand.{InSet, WellFormedSet, Inside, ArrivalOrder, no_real}
use Rattle.history.proofs.Plain.{view_at}
use Rattle.history.proofs.Context.{count, clock, base, before_known}
use Rattle.history.proofs.Stable.{inside-sees}
use Rattle.history.proofs.Run.{MemE, Run}
use Rattle.history.proofs.Start.{run_start}
use Rattle.history.proofs.Converge.{Arrives, run_all, accept, arrives_of, whole_same, at_is_walk, scan_is_walk}
use Rattle.history.proofs.Ranks.{sort_rank_to, sort_rank_from, sort_rank_once}
use Rattle.history.proofs.Sets.{sound, in_order, not_own, ranked}

module _ (n : ℕ) (S : List Edit) (wf : WellFormedSet S) (inside : Inside (start n) (sort_rank S S)) (fs : List Edit) (ord : ArrivalOrder S fs) where
  abbrev own : List Edit
  own = sort_rank S S

  r0 : (key : OptId → Key) × Run n (base n) (start n) key
  r0 = run_start n

  own_in_order : Order (clock n) (base n ++ S) (base n) (sort_rank S S)
  own_in_order = in_order n S wf (sort_rank S S) (ranked n S wf (λ (e : Edit) (m : InSet e S). not_own n S wf fs ord.after ord.only ord.no_twice e m (ord.all e m)))
      (sort_rank_from S S) (sort_rank_once S S wf.no_twice) r0.1.causal

  -- the set's own order arrives
  own_arrives : Arrives n (base n) (start n) (sort_rank S S)
  own_arrives = arrives_of n (base n ++ S) (sort_rank S S) (base n) (start n) r0.0 r0.1 own_in_order (λ (e : Edit) (m : MemE e (sort_rank S S)). sound n S wf e (sort_rank_from S S e m)) inside

  own_run : (key : OptId → Key) × Run n (done_of (clock n) (base n) (sort_rank S S)) (replay (start n) (sort_rank S S)) key
  own_run = run_all n (sort_rank S S) (base n) (start n) r0.0 r0.1 own_arrives

  pub tree_is : tree_of n S ≡ replay (start n) (sort_rank S S)
  unfolding tree_of
  tree_is = scan_is_walk n (sort_rank S S) (base n) (start n) r0.0 r0.1 own_arrives

  -- every arrival order arrives
  in_done : (e : Edit) → MemE e (base n ++ S) → MemE e (done_of (clock n) (base n) (sort_rank S S))
  in_done e m = go (Memᴰ.append_cases (base n) m)
    where
      go : MemE e (base n) ⊎ MemE e S → MemE e (done_of (clock n) (base n) (sort_rank S S))
      go (inl k) = done_in (clock n) (sort_rank S S) (base n) e k
      go (inr k) = todo_in (clock n) (sort_rank S S) (base n) e (sort_rank_to S S e k)

  order_done : (es done : List Edit) → Order (clock n) (base n ++ S) done es → Order (clock n) (done_of (clock n) (base n) (sort_rank S S)) done es
  unfolding Order
  order_done [] done o = tt
  order_done (f ∷ es) done o = (o.0, o.1, in_done f o.2, order_done es (f ∷ done) o.3)

  pub arrives : Arrives n (base n) (start n) fs
  arrives = accept n (done_of (clock n) (base n) (sort_rank S S)) (replay (start n) (sort_rank S S)) own_run.0 own_run.1 fs (base n) (start n) r0.0 r0.1
      (λ (e : Edit) (m : MemE e (base n)). done_in (clock n) (sort_rank S S) (base n) e m) (λ (e : Edit) (m : MemE e fs). sound n S wf e (ord.only e m))
      (order_done fs (base n) (in_order n S wf fs ord.after ord.only ord.no_twice r0.1.causal))

  pub run : (key : OptId → Key) × Run n (done_of (clock n) (base n) fs) (replay (start n) fs) key
  run = run_all n fs (base n) (start n) r0.0 r0.1 arrives

  move : (xs bs : List Edit) → ((e : Edit) → MemE e xs → MemE e bs) → (e : Edit) → MemE e (done_of (clock n) (base n) xs) → MemE e (done_of (clock n) (base n) bs)
  move xs bs f e m = go (in_todo (clock n) xs (base n) e m)
    where
      go : MemE e (base n) ⊎ MemE e xs → MemE e (done_of (clock n) (base n) bs)
      go (inl k) = done_in (clock n) bs (base n) e k
      go (inr k) = todo_in (clock n) bs (base n) e (f e k)

  -- the same units in the same order
  pub units_same : (v : Version) → ((p : ℕ) → count n v p ≡ cnt (clock n) (done_of (clock n) (base n) fs) p) → map no_real (units_at v (replay (start n) fs)) ≡ map no_real (units_at v (tree_of n S))
  unfolding units_at
  units_same v whole =
      sym (view_at v (replay (start n) fs).held (replay (start n) fs).list)
      ∙ (whole_same n (done_of (clock n) (base n) fs) (done_of (clock n) (base n) (sort_rank S S)) (replay (start n) fs) (replay (start n) (sort_rank S S)) run.0 own_run.0 run.1 own_run.1
      (move fs (sort_rank S S) (λ (e : Edit) (m : MemE e fs). sort_rank_to S S e (ord.only e m))) (move (sort_rank S S) fs (λ (e : Edit) (m : MemE e (sort_rank S S)). ord.all e (sort_rank_from S S e m))) v whole
      ∙ (view_at v (replay (start n) (sort_rank S S)).held (replay (start n) (sort_rank S S)).list
      ∙ ap (λ (h : History). map no_real (units_at v h)) (sym tree_is)))

  pub tree_walk : (v : Version) → units_at v (tree_of n S) ≡ walk (sort_id (units_at v (tree_of n S)))
  tree_walk v = subst (λ (h : History). units_at v h ≡ walk (sort_id (units_at v h))) (sym tree_is) (at_is_walk n (done_of (clock n) (base n) (sort_rank S S)) (replay (start n) (sort_rank S S)) own_run.0 own_run.1 v)

  -- the premise on positions, read off the finished tree: each is inside the list visible at its context
  pub inside-at-context : (e : Edit) → InSet e S → Codes.inside e.act e.at (units_at e.context (tree_of n S)) ≡ true
  inside-at-context e m =
      ap (λ (h : History). Codes.inside e.act e.at (units_at e.context h)) tree_is ∙
      (inside-sees e.context (replay (start n) (sort_rank S S)) e.act e.at ∙
      (ap (Codes.inside e.act e.at) (sym (before_known e (replay (start n) (sort_rank S S)) (sound n S wf e m).0)) ∙
      own_run.1.fit e (in_done e (Memᴰ.append_right (base n) m))))
