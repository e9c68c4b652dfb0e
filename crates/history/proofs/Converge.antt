-- Arrival orders of one set of edits are accepted alike and converge, and the list is the walk (Theorems 8c, 8d), on units.
use Prim.Native.Nat.{ℕ, ◌+◌, ◌<◌, ◌≤◌}
use mathlib.Core.Path.{◌≡◌, refl, sym, ap, subst, ◌∙◌}
use mathlib.Core.Logic.{◌⊎◌, inl, inr}
use mathlib.Core.Bool.{Bool, false, not, cond}
use mathlib.Core.List.Memᴰ
use mathlib.Core.List.{List, [], ◌∷◌, map}
use lib.ListN.{length, length-map}
use native.Mathlib.Omega.{arith}
use Rattle.span.specs.Maybe.{OptId}
use Rattle.span.specs.declared.span.FugueSpan.{FugueSpan}
use Rattle.span.specs.Span.{new_span}
use Rattle.units.specs.Lists.{keep_if}
use Rattle.units.specs.Place.{insert_units}
use Rattle.units.specs.Change.{with_state}
use Rattle.fugue.specs.Tree.{ref, walk, sort_id}
use Rattle.fugue.proofs.Keys.{Key}
use Rattle.fugue.proofs.ScanPlace.{Mem}
use Rattle.fugue.proofs.Insert.{Good}
use Rattle.fugue.proofs.Past.{past_of}
use Rattle.fugue.proofs.Alike.{alike_map, good_alike}
use Rattle.fugue.proofs.Sorts.{good_walk, splice_walk}
use Rattle.fugue.proofs.Splices.{insert_splice}
use Rattle.fugue.proofs.Clocks.{cnt, in_range_lem, done_of, Order, Covers, cover}
use Rattle.history.specs.Edit.{Version, Act, Insert, Delete, Edit, size_of, History}
use Rattle.history.specs.Checkout.{units_at}
use Rattle.history.specs.Checkout as Co
use Rattle.history.specs.Arrive.{act_list, hold, arrive, replay}
use Rattle.history.specs.Tree.{hung, tree_list, tree_arrive, tree_replay}
use Rattle.history.specs.Codes.{inside}
use Rattle.history.specs.Demand.{Inside}
use Rattle.history.proofs.Plain.{view, at_same, sees}
use Rattle.history.proofs.Context.{count, clock, Known, Natural, past_of_lem, before_known, holds_known}
use Rattle.history.proofs.Run.{MemE, first, Run, bound, unit_natural}
use Rattle.history.proofs.Stable.{inside-sees}
use Rattle.history.proofs.Arrive.{Arriving, run_arrive}
use Rattle.history.proofs.Compare.{versions_same}
use Rattle.fugue.proofs.Tests.{Test, fail, ltb_test, pass}
use lib.Dec.{ltb}

-- edits that arrive one after another
unfoldable pub Arrives : ℕ → List Edit → History → List Edit → Type 0
Arrives n done h [] = Unit {0}
Arrives n done h (e ∷ es) = Arriving n done h e × Arrives n (e ∷ done) (arrive h e) es

pub run_all : (n : ℕ) (es done : List Edit) (h : History) (key : OptId → Key) → Run n done h key → Arrives n done h es → (key2 : OptId → Key) × Run n (done_of (clock n) done es) (replay h es) key2
unfolding Arrives replay
run_all n [] done h key r a = (key, r)
run_all n (e ∷ es) done h key r a =
    let t : (key2 : OptId → Key) × Run n (e ∷ done) (arrive h e) key2 = run_arrive n done h key r e a.0 in
    run_all n es (e ∷ done) (arrive h e) t.0 t.1 a.1

-- ---- acceptance

-- a known edit whose counter is a number
abbrev pub Sound : Edit → Type 0
Sound e = Known e × Natural e.id

-- ACCEPTANCE. If one history has the edits E, every order of edits of E whose contexts come first is accepted throughout.
module _ (n : ℕ) (E : List Edit) (h2 : History) (key2 : OptId → Key) (r2 : Run n E h2 key2) where
  pub accept : (es done : List Edit) (h : History) (key : OptId → Key) → Run n done h key → ((e : Edit) → MemE e done → MemE e E) → ((e : Edit) → MemE e es → Sound e) → Order (clock n) E done es → Arrives n done h es
  unfolding Order Arrives
  accept [] done h key r sub sound o = tt
  accept (e ∷ es) done h key r sub sound o =
      let t : (k : OptId → Key) × Run n (e ∷ done) (arrive h e) k = run_arrive n done h key r e acc in
      (acc, accept es (e ∷ done) (arrive h e) t.0 t.1 (λ (f : Edit) (m : MemE f (e ∷ done)). sub2 f (Memᴰ.cases_cons m)) (λ (f : Edit) (m : MemE f es). sound f (Memᴰ.tail m)) o.3)
    where
      kn : Known e
      kn = (sound e (Memᴰ.head refl)).0

      same : sees e.context h ≡ sees e.context h2
      same = versions_same n done E h h2 key key2 r r2 sub e.context (λ (p : ℕ). omega (arith, o.0.held p, holds_known n e p kn))

      acc : Arriving n done h e
      acc = record {
        known = kn;
        natural = (sound e (Memᴰ.head refl)).1;
        fits = o.0;
        some = o.1;
        inside = inside-sees e.context h e.act e.at ∙ (ap (inside e.act e.at) (same ∙ sym (before_known e h2 kn)) ∙ r2.fit e o.2);
      }

      sub2 : (f : Edit) → (f ≡ e) ⊎ MemE f done → MemE f E
      sub2 f (inl k) = Memᴰ.cast k o.2
      sub2 f (inr m) = sub f m

-- ---- the whole set

past_all : (l : List FugueSpan) → ((w : FugueSpan) → Mem w l → w.status.future ≡ false) → past_of l ≡ l
unfolding keep_if
past_all [] f = refl
past_all (v ∷ l) f = ap (λ (b : Bool). cond (not b) (v ∷ past_of l) (past_of l)) (f v (Memᴰ.head refl)) ∙ ap (λ (z : List FugueSpan). v ∷ z) (past_all l (λ (w : FugueSpan) (m : Mem w l). f w (Memᴰ.tail m)))

-- nothing is future at a version that has all counts
module _ (n : ℕ) (done : List Edit) (h : History) (key : OptId → Key) (r : Run n done h key) (v : Version) (all : (p : ℕ) → cnt (clock n) done p ≤ count n v p) where
  seen : (w : FugueSpan) → Mem w (map (view v h.held) h.list) → w.status.future ≡ false
  unfolding view with_state
  seen w m = go (Memᴰ.of_map (view v h.held) h.list m)
    where
      go : (a : FugueSpan) × Mem a h.list × (view v h.held a ≡ w) → w.status.future ≡ false
      go t = ap (λ (z : FugueSpan). z.status.future) (sym t.2) ∙ past_of_lem n v h.held t.0.id (unit_natural n done h key r t.0 t.1) (omega (arith, bound n done h key r t.0 t.1, all t.0.id.peer))

  pub whole_sees : map (view v h.held) h.list ≡ sees v h
  whole_sees = sym (past_all (map (view v h.held) h.list) seen)

-- CONVERGENCE. Two histories of one set of edits, at the whole set: the same units in the same order.
module _ (n : ℕ) (done1 done2 : List Edit) (h1 h2 : History) (key1 key2 : OptId → Key) (r1 : Run n done1 h1 key1) (r2 : Run n done2 h2 key2)
    (to : (e : Edit) → MemE e done1 → MemE e done2) (from : (e : Edit) → MemE e done2 → MemE e done1) (v : Version) (whole : (p : ℕ) → count n v p ≡ cnt (clock n) done1 p) where
  -- the counts are the same
  all2 : (p : ℕ) → cnt (clock n) done2 p ≤ cnt (clock n) done1 p
  all2 p = go (ltb_test (cnt (clock n) done1 p) (cnt (clock n) done2 p))
    where
      go : Test (ltb (cnt (clock n) done1 p) (cnt (clock n) done2 p)) (cnt (clock n) done1 p < cnt (clock n) done2 p) → cnt (clock n) done2 p ≤ cnt (clock n) done1 p
      go (pass b k) =
          let c : Covers (clock n) done2 p (cnt (clock n) done1 p) = cover (clock n) done2 r2.causal p (cnt (clock n) done1 p) k in
          let d : first c.e + size_of c.e.act ≤ cnt (clock n) done1 c.e.id.peer = (in_range_lem (clock n) done1 r1.causal c.e (from c.e c.is_in)).0 in
          let q : cnt (clock n) done1 c.e.id.peer ≡ cnt (clock n) done1 p = ap (cnt (clock n) done1) c.peer in
          absurd (let z : ⊥ = omega (arith, c.high) in z)
      go (fail b k) = omega arith

  pub whole_same : map (view v h1.held) h1.list ≡ map (view v h2.held) h2.list
  whole_same = whole_sees n done1 h1 key1 r1 v (λ (p : ℕ). omega (arith, whole p))
      ∙ (versions_same n done1 done2 h1 h2 key1 key2 r1 r2 to v (λ (p : ℕ). omega (arith, whole p)) ∙ sym (whole_sees n done2 h2 key2 r2 v (λ (p : ℕ). omega (arith, whole p, all2 p))))

-- ---- the walk

-- THE LIST IS THE WALK, checked out anywhere.
pub at_is_walk : (n : ℕ) (done : List Edit) (h : History) (key : OptId → Key) → Run n done h key → (v : Version) → units_at v h ≡ walk (sort_id (units_at v h))
unfolding units_at Co.unit_at with_state
at_is_walk n done h key r v = good_walk key (map co h.list) (good_alike key h.list (map co h.list) (alike_map co (at_same v h.held) h.list) r.good)
    (λ (w : FugueSpan) (m : Mem w (map co h.list)). go w (Memᴰ.of_map co h.list m))
  where
    co : FugueSpan → FugueSpan
    co = Co.unit_at v h.held

    go : (w : FugueSpan) → (u : FugueSpan) × Mem u h.list × (co u ≡ w) → length (key (ref w)) ≤ length (map co h.list)
    go w t = subst (λ (z : FugueSpan). length (key (ref z)) ≤ length (map co h.list)) t.2 (omega (arith, r.deep t.0 t.1, length-map h.list co))

pub list_is_walk : (n : ℕ) (done : List Edit) (h : History) (key : OptId → Key) → Run n done h key → h.list ≡ walk (sort_id h.list)
list_is_walk n done h key r = good_walk key h.list r.good r.deep

-- THE SCAN IS THE WALK, edit by edit: what the scan leaves is what hanging the units on the tree and walking it leaves.
tree_one : (t : Act) (e : Edit) (l : List FugueSpan) (key : OptId → Key) → Good key (act_list t e l)
    → ((w : FugueSpan) → Mem w (act_list t e l) → length (key (ref w)) ≤ length (act_list t e l)) → tree_list t e l ≡ act_list t e l
unfolding tree_list act_list hung
tree_one (Insert lam c) e l key g deep = sym (splice_walk key l (hung e.at (new_span e.id lam c) l) (insert_units e.at (new_span e.id lam c) l) (insert_splice e.at (new_span e.id lam c) l) g deep)
tree_one (Delete len reversed target) e l key g deep = refl

pub tree_arrive_lem : (n : ℕ) (done : List Edit) (h : History) (e : Edit) (key : OptId → Key) → Run n (e ∷ done) (arrive h e) key → tree_arrive h e ≡ arrive h e
unfolding tree_arrive arrive
tree_arrive_lem n done h e key r = ap (λ (z : List FugueSpan). record { placeholder = h.placeholder; list = z; held = hold h e }) (tree_one e.act e (units_at e.context h) key r.good r.deep)

pub scan_is_walk : (n : ℕ) (es done : List Edit) (h : History) (key : OptId → Key) → Run n done h key → Arrives n done h es → tree_replay h es ≡ replay h es
unfolding Arrives replay tree_replay
scan_is_walk n [] done h key r a = refl
scan_is_walk n (e ∷ es) done h key r a =
    let t : (k : OptId → Key) × Run n (e ∷ done) (arrive h e) k = run_arrive n done h key r e a.0 in
    ap (λ (z : History). tree_replay z es) (tree_arrive_lem n done h e t.0 t.1) ∙ scan_is_walk n es (e ∷ done) (arrive h e) t.0 t.1 a.1

pub arrives_of : (n : ℕ) (E es done : List Edit) (h : History) (key : OptId → Key) → Run n done h key → Order (clock n) E done es → ((e : Edit) → MemE e es → Sound e) → Inside h es → Arrives n done h es
unfolding Order Inside Arrives
arrives_of n E [] done h key r o sound i = tt
arrives_of n E (e ∷ es) done h key r o sound i =
    let acc : Arriving n done h e = record { known = (sound e (Memᴰ.head refl)).0; natural = (sound e (Memᴰ.head refl)).1; fits = o.0; some = o.1; inside = i.0 } in
    let t : (k : OptId → Key) × Run n (e ∷ done) (arrive h e) k = run_arrive n done h key r e acc in
    (acc, arrives_of n E es (e ∷ done) (arrive h e) t.0 t.1 o.3 (λ (f : Edit) (m : MemE f es). sound f (Memᴰ.tail m)) (subst (λ (z : History). Inside z es) (tree_arrive_lem n done h e t.0 t.1) i.1))
