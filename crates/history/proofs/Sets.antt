-- From the demand's conditions on a set to the clocks': with the placeholder as one more edit the set is well formed, an arrival order that puts an edit after
-- its context fits edit by edit, and the set's own order is one.
use Prim.Native.Nat.{ℕ, zero, suc, ◌+◌, ◌<◌, ◌≤◌}
use mathlib.Core.Path.{◌≡◌, refl, sym, ap, subst, ◌∙◌}
use mathlib.Core.Logic.{◌⊎◌, inl, inr}
use mathlib.Core.Bool.{Bool, true, not, ◌&&◌, ◌||◌, cond, and-eq-true_iff}
use mathlib.Core.List.Memᴰ
use mathlib.Core.List.{List, [], ◌∷◌, ◌++◌}
use native.Mathlib.Omega.{arith}
use lib.Dec.{leb, eqb}
use lib.IntN.{ℤ, pos}
use borrow.Author.Tests.{leb-true, eqb-false, not-true}
use Rattle.std.specs.Prelude.{Some}
use Rattle.span.specs.declared.ids.Id.{Id}
use Rattle.span.specs.Chunk.{UNKNOWN, chunk}
use Rattle.span.specs.Ids.{UNKNOWN_PEER, room_of, room_opt}
use Rattle.span.proofs.IdsLaws.{Room, roomy}
use Rattle.span.proofs.Views.{len_pos}
use Rattle.units.specs.Lists.{every}
use Rattle.fugue.proofs.Tests.{Test, pass, fail, eqb_test}
use Rattle.fugue.proofs.Clocks.{Causal, Covers, WellFormed, Order, order_of, own_le}
use Rattle.fugue.proofs.Clocks as Clk
use Rattle.history.specs.Edit.{Count, Version, Act, Insert, Delete, Edit, size_of, size}
use Rattle.history.specs.Version.{number, count_of, below, within, whole_act, closed_for}
use Rattle.history.specs.Tree.{rank, sort_rank}
use Rattle.history.specs.Valid.{act_formed, act_ids}
use Rattle.history.specs.Demand.{InSet, first_of, IdOf, Once, WellFormedSet, After}
use Rattle.history.proofs.Context.{count, holds, clock, holds_known, count_known, count_unknown, Natural, below-lt, lt-below, holder, base, holder_size}
use Rattle.history.proofs.Run.{MemE}
use Rattle.history.proofs.Converge.{Sound}
use Rattle.history.proofs.Ranks.{rank-lt, own_order}

-- ---- single edits

pub room_known : (i : Id) (n : ℕ) → room_opt (Some i) n ≡ true → ¬ (i.peer ≡ UNKNOWN_PEER) × Natural i
unfolding room_opt
room_known i n e =
    let t = (and-eq-true_iff (not (eqb i.peer UNKNOWN_PEER)) (room_of i n)).0 e in
    let r : Room i.counter n = roomy i.counter n t.1 in
    (eqb-false i.peer UNKNOWN_PEER (not-true (eqb i.peer UNKNOWN_PEER) t.0), r.is ∙ ap (λ (z : ℤ). pos (number z)) (sym r.is))

pub formed_some : (a : Act) → act_formed a ≡ true → 1 ≤ size_of a
unfolding size_of
formed_some (Insert lam c) e = len_pos c e
formed_some (Delete n reversed target) e = let k : n ≡ 0 → ⊥ = eqb-false n 0 (not-true (eqb n 0) e) in omega (arith, k)

-- a version that covers another
pub count_of-le : (c v : Version) → within c v ≡ true → (p : ℕ) → count_of c p ≤ count_of v p
unfolding within every count_of
count_of-le [] v e p = omega arith
count_of-le (k ∷ c) v e p =
    let t = (and-eq-true_iff (leb (number k.many) (count_of v k.peer)) (every (λ (k : Count). leb (number k.many) (count_of v k.peer)) c)).0 e in
    go (eqb_test k.peer p) (leb-true (number k.many) (count_of v k.peer) t.0) (count_of-le c v t.1 p)
  where
    go : Test (eqb k.peer p) (k.peer ≡ p) → number k.many ≤ count_of v k.peer → count_of c p ≤ count_of v p → cond (eqb k.peer p) (number k.many) (count_of c p) ≤ count_of v p
    go (pass b d) h ih = subst (λ (z : Bool). cond z (number k.many) (count_of c p) ≤ count_of v p) (sym b) (subst (λ (q : ℕ). number k.many ≤ count_of v q) d h)
    go (fail b d) h ih = subst (λ (z : Bool). cond z (number k.many) (count_of c p) ≤ count_of v p) (sym b) ih

-- what closed says of a covered edit
pub closed_within : (v : Version) (f : Edit) → closed_for v f ≡ true → below v f.id ≡ true → within f.context v ≡ true
unfolding closed_for
closed_within v f e b = ((and-eq-true_iff (within f.context v) (whole_act f.act v f.id)).0
    (ap (λ (z : Bool). not z || (within f.context v && whole_act f.act v f.id)) (sym b) ∙ e)).0

pub base_is : (n : ℕ) (e : Edit) → MemE e (base n) → (e ≡ holder n) × (1 ≤ n)
base_is zero e m = absurd (Memᴰ.not-nil m)
base_is (suc n) e m = (Memᴰ.eq_of_singleton m, omega arith)

pub holder_in : (n : ℕ) → 1 ≤ n → MemE (holder n) (base n)
holder_in zero h = absurd (let z : ⊥ = omega arith in z)
holder_in (suc n) h = Memᴰ.head refl

module _ (n : ℕ) (S : List Edit) (wf : WellFormedSet S) where
  -- with the placeholder
  abbrev pub all : List Edit
  all = base n ++ S

  pub sound : (e : Edit) → InSet e S → Sound e
  sound e m = room_known e.id (size e) ((and-eq-true_iff (room_opt (Some e.id) (size e)) (act_ids e.act)).0 (wf.ids e m)).0

  holds-holder : (e : Edit) → e ≡ holder n → (p : ℕ) → holds n e p ≡ 0
  holds-holder e d p = ap (λ (z : Edit). holds n z p) d ∙ zero_of
    where
      zero_of : holds n (holder n) p ≡ 0
      zero_of = unfold holds in refl

  holds_is : (e : Edit) → InSet e S → (p : ℕ) → ¬ (p ≡ UNKNOWN_PEER) → holds n e p ≡ count_of e.context p
  holds_is e m p k = holds_known n e p (sound e m).0 ∙ count_known n e.context p k

  size-holder : (e : Edit) → e ≡ holder n → size e ≡ n
  size-holder e d = ap (λ (z : Edit). size_of z.act) d ∙ len
    where
      len : size_of (Insert 0 (chunk UNKNOWN n)) ≡ n
      len = unfold size_of in holder_size n

  first_holder : (e : Edit) → e ≡ holder n → first_of e ≡ 0
  first_holder e d = ap first_of d

  peer-holder : (e : Edit) → e ≡ holder n → e.id.peer ≡ UNKNOWN_PEER
  peer-holder e d = ap (λ (z : Edit). z.id.peer) d

  apart : (e f : Edit) → InSet e S → f ≡ holder n → e.id.peer ≡ f.id.peer → ⊥
  apart e f m d q = (sound e m).0 (q ∙ peer-holder f d)

  abbrev In : Edit → Type 0
  In e = ((e ≡ holder n) × (1 ≤ n)) ⊎ InSet e S

  cases : (e : Edit) → MemE e (base n ++ S) → ((e ≡ holder n) × (1 ≤ n)) ⊎ InSet e S
  cases e m = go (Memᴰ.append_cases (base n) m)
    where
      go : MemE e (base n) ⊎ MemE e S → ((e ≡ holder n) × (1 ≤ n)) ⊎ InSet e S
      go (inl k) = inl (base_is n e k)
      go (inr k) = inr k

  pub some_of : (e : Edit) → InSet e S → 1 ≤ size e
  some_of e m = formed_some e.act (wf.formed e m)

  pub well_formed : WellFormed (clock n) (base n ++ S)
  well_formed = record {
    some = λ (e : Edit) (m : MemE e (base n ++ S)). some1 e (cases e m);
    once = λ (e f : Edit) (me : MemE e (base n ++ S)) (mf : MemE f (base n ++ S)) (q : e.id.peer ≡ f.id.peer) (i : ℕ) (a : first_of e ≤ i) (b : i < first_of e + size e) (c : first_of f ≤ i) (d : i < first_of f + size f).
        once1 e f (cases e me) (cases f mf) q i a b c d;
    own = λ (e : Edit) (m : MemE e (base n ++ S)). own1 e (cases e m);
    within = λ (e : Edit) (m : MemE e (base n ++ S)) (p i : ℕ) (h : i < holds n e p). within1 e (cases e m) p i h (eqb_test p UNKNOWN_PEER);
    closed = λ (e f : Edit) (me : MemE e (base n ++ S)) (mf : MemE f (base n ++ S)) (h : first_of f < holds n e f.id.peer) (p : ℕ). closed1 e f (cases e me) (cases f mf) h p;
  }
    where
      some1 : (e : Edit) → ((e ≡ holder n) × (1 ≤ n)) ⊎ InSet e S → 1 ≤ size e
      some1 e (inl d) = omega (arith, size-holder e d.0, d.1)
      some1 e (inr m) = some_of e m

      once1 : (e f : Edit) → ((e ≡ holder n) × (1 ≤ n)) ⊎ InSet e S → ((f ≡ holder n) × (1 ≤ n)) ⊎ InSet f S → e.id.peer ≡ f.id.peer → (i : ℕ) → first_of e ≤ i → i < first_of e + size e → first_of f ≤ i → i < first_of f + size f → e ≡ f
      once1 e f (inl x) (inl y) q i a b c d = x.0 ∙ sym y.0
      once1 e f (inl x) (inr y) q i a b c d = absurd (apart f e y x.0 (sym q))
      once1 e f (inr x) (inl y) q i a b c d = absurd (apart e f x y.0 q)
      once1 e f (inr x) (inr y) q i a b c d = wf.once e f x y f.id.peer i (record { peer = q; from = a; to = b }) (record { peer = refl; from = c; to = d })

      own1 : (e : Edit) → ((e ≡ holder n) × (1 ≤ n)) ⊎ InSet e S → first_of e ≤ holds n e e.id.peer
      own1 e (inl x) = omega (arith, first_holder e x.0)
      own1 e (inr m) = omega (arith, wf.earlier e m, holds_is e m e.id.peer (sound e m).0)

      covers : (p i : ℕ) → IdOf S p i → Covers (clock n) (base n ++ S) p i
      covers p i t = record { e = t.edit; is_in = Memᴰ.append_right (base n) t.is_in; peer = t.uses.peer; low = t.uses.from; high = t.uses.to }

      within1 : (e : Edit) → ((e ≡ holder n) × (1 ≤ n)) ⊎ InSet e S → (p i : ℕ) → i < holds n e p → Test (eqb p UNKNOWN_PEER) (p ≡ UNKNOWN_PEER) → Covers (clock n) (base n ++ S) p i
      within1 e (inl x) p i h t = absurd (let z : ⊥ = omega (arith, holds-holder e x.0 p) in z)
      within1 e (inr m) p i h (fail b d) = covers p i (wf.within e m p i (subst (λ (z : ℕ). i < z) (holds_is e m p d) h))
      within1 e (inr m) p i h (pass b d) =
          let k : i < n = subst (λ (z : ℕ). i < z) (holds_known n e p (sound e m).0 ∙ (ap (count n e.context) d ∙ count_unknown n e.context)) h in
          record { e = holder n; is_in = Memᴰ.append_left S (holder_in n (omega arith)); peer = sym d; low = omega arith; high = omega (arith, size-holder (holder n) refl) }

      closed1 : (e f : Edit) → ((e ≡ holder n) × (1 ≤ n)) ⊎ InSet e S → ((f ≡ holder n) × (1 ≤ n)) ⊎ InSet f S → first_of f < holds n e f.id.peer → (p : ℕ) → holds n f p ≤ holds n e p
      closed1 e f (inl x) y h p = absurd (let z : ⊥ = omega (arith, holds-holder e x.0 f.id.peer) in z)
      closed1 e f (inr m) (inl y) h p = omega (arith, holds-holder f y.0 p)
      closed1 e f (inr m) (inr k) h p = pick (eqb_test p UNKNOWN_PEER)
        where
          b : below e.context f.id ≡ true
          b = lt-below e.context f.id (sound f k).1 (subst (λ (z : ℕ). first_of f < z) (holds_is e m f.id.peer (sound f k).0) h)

          le : count_of f.context p ≤ count_of e.context p
          le = count_of-le f.context e.context (closed_within e.context f (wf.closed e f m k) b) p

          pick : Test (eqb p UNKNOWN_PEER) (p ≡ UNKNOWN_PEER) → holds n f p ≤ holds n e p
          pick (pass t d) = omega (arith, holds_known n f p (sound f k).0, holds_known n e p (sound e m).0, ap (count n f.context) d ∙ count_unknown n f.context, ap (count n e.context) d ∙ count_unknown n e.context)
          pick (fail t d) = omega (arith, le, holds_is f k p d, holds_is e m p d)

  -- an arrival order, with the placeholder before all
  pub after_all : (es done : List Edit) → After S done es → ((e : Edit) → InSet e es → InSet e S) → Once es → ((e : Edit) → InSet e done → InSet e es → ⊥) → Clk.After (clock n) (base n ++ S) (done ++ base n) es
  unfolding After Clk.After
  after_all [] done a sub once old = tt
  after_all (e ∷ es) done a sub once old = (
    Memᴰ.append_right (base n) me,
    (λ (m : MemE e (done ++ base n)). new (Memᴰ.append_cases done m)),
    (λ (f : Edit) (m : MemE f (base n ++ S)) (h : first_of f < holds n e f.id.peer). before f h (Memᴰ.append_cases (base n) m)),
    after_all es (e ∷ done) a.1 (λ (f : Edit) (m : InSet f es). sub f (Memᴰ.tail m)) once.1 (λ (f : Edit) (m : InSet f (e ∷ done)) (k : InSet f es). two f k (Memᴰ.cases_cons m)),
  )
    where
      me : InSet e S
      me = sub e (Memᴰ.head refl)

      new : MemE e done ⊎ MemE e (base n) → ⊥
      new (inl m) = old e m (Memᴰ.head refl)
      new (inr m) = apart e e me (base_is n e m).0 refl

      before : (f : Edit) → first_of f < holds n e f.id.peer → MemE f (base n) ⊎ MemE f S → MemE f (done ++ base n)
      before f h (inl m) = Memᴰ.append_right done m
      before f h (inr m) = Memᴰ.append_left (base n) (a.0 f m (lt-below e.context f.id (sound f m).1 (subst (λ (z : ℕ). first_of f < z) (holds_is e me f.id.peer (sound f m).0) h)))

      two : (f : Edit) → InSet f es → (f ≡ e) ⊎ InSet f done → ⊥
      two f k (inl d) = once.0 f k d
      two f k (inr m) = old f m (Memᴰ.tail k)

  module _ (es : List Edit) (after : After S [] es) (sub : (e : Edit) → InSet e es → InSet e S) (once : Once es) where
    pub in_order : Causal (clock n) (base n) → Order (clock n) (base n ++ S) (base n) es
    in_order c = order_of (clock n) (base n ++ S) well_formed es (base n) c (λ (f : Edit) (m : MemE f (base n)). Memᴰ.append_left S m)
        (after_all es [] after sub once (λ (e : Edit) (m : InSet e []). absurd (Memᴰ.not-nil m)))

    -- no edit is in its own context
    pub not_own : (e : Edit) → InSet e S → InSet e es → count_of e.context e.id.peer ≤ first_of e
    not_own e m k = omega (arith, own_le (clock n) (base n ++ S) es (base n) (after_all es [] after sub once (λ (e : Edit) (m : InSet e []). absurd (Memᴰ.not-nil m))) e k, holds_is e m e.id.peer (sound e m).0)

  -- the set's own order is an arrival order, where there is one at all
  pub ranked : ((e : Edit) → InSet e S → count_of e.context e.id.peer ≤ first_of e) → After S [] (sort_rank S S)
  ranked own = own_order S lower wf.no_twice
    where
      lower : (e f : Edit) → InSet e S → InSet f S → below e.context f.id ≡ true → rank S f < rank S e
      lower e f me mf b = rank-lt S f e f mf (count_of-le f.context e.context (closed_within e.context f (wf.closed e f me mf) b))
          (omega (arith, own f mf, below-lt e.context f.id (sound f mf).1 b))
