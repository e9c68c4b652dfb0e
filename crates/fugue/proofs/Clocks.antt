-- Edits as clocks: an office, the counters it uses, and what its context holds of each office. Nothing is known of lists here. Edits that follow one
-- another have ids that run on, none twice (L8.4); from the demand's conditions on a set every arrival order that puts an edit after its context
-- fits, edit by edit.
use Prim.Native.Nat.{ℕ, zero, suc, ◌+◌, ◌<◌, ◌≤◌}
use mathlib.Core.Path.{◌≡◌, refl, sym, ap, subst, ◌∙◌}
use mathlib.Core.Logic.{◌⊎◌, inl, inr}
use mathlib.Core.Bool.{Bool, cond}
use mathlib.Core.List.Memᴰ
use mathlib.Core.List.{List, [], ◌∷◌, Memᴰ}
use native.Mathlib.Omega.{arith}
use native.Mathlib.Decide.{dec_lt}
use lib.Dec.{eqb}
use Rattle.fugue.proofs.Tests.{Test, pass, fail, eqb_test}

pub record Clock (E : Type 0) : Type 0 where
  pub peer : E → ℕ
  pub first : E → ℕ
  pub size : E → ℕ
  pub holds : E → ℕ → ℕ

module _ {E : Type 0} (clk : Clock E) where
  abbrev MemE : E → List E → Type 0
  MemE e l = Memᴰ e l

  abbrev peer : E → ℕ
  peer e = clk.peer e

  abbrev first : E → ℕ
  first e = clk.first e

  abbrev size : E → ℕ
  size e = clk.size e

  abbrev holds : E → ℕ → ℕ
  holds e p = clk.holds e p

  -- the count held for a peer; the last arrival first
  unfoldable pub cnt : List E → ℕ → ℕ
  cnt [] p = 0
  cnt (e ∷ done) p = cond (eqb (peer e) p) (first e + size e) (cnt done p)

  -- What an arriving edit must meet: its counter is the count held; its context is held, and closed.
  pub record Fits (done : List E) (e : E) : Type 0 where
    pub own : cnt done (peer e) ≡ first e
    pub held : (p : ℕ) → holds e p ≤ cnt done p
    pub closed : (f : E) → MemE f done → first f < holds e (peer f) → (p : ℕ) → holds f p ≤ holds e p

  pub cnt_grow : (done : List E) (e : E) → cnt done (peer e) ≡ first e → (p : ℕ) → cnt done p ≤ cnt (e ∷ done) p
  unfolding cnt
  cnt_grow done e own p = go (eqb_test (peer e) p)
    where
      go : Test (eqb (peer e) p) (peer e ≡ p) → cnt done p ≤ cond (eqb (peer e) p) (first e + size e) (cnt done p)
      go (pass t d) = let k : cnt done p ≡ first e = subst (λ (z : ℕ). cnt done z ≡ first e) d own in
          subst (λ (b : Bool). cnt done p ≤ cond b (first e + size e) (cnt done p)) (sym t) (omega arith)
      go (fail t d) = subst (λ (b : Bool). cnt done p ≤ cond b (first e + size e) (cnt done p)) (sym t) (omega arith)

  pub cnt_own : (done : List E) (e : E) → cnt (e ∷ done) (peer e) ≡ first e + size e
  unfolding cnt
  cnt_own done e = go (eqb_test (peer e) (peer e))
    where
      go : Test (eqb (peer e) (peer e)) (peer e ≡ peer e) → cond (eqb (peer e) (peer e)) (first e + size e) (cnt done (peer e)) ≡ first e + size e
      go (pass t d) = ap (λ (b : Bool). cond b (first e + size e) (cnt done (peer e))) t
      go (fail t d) = absurd (d refl)

  -- each edit fits those before it, and has a unit; the last first
  unfoldable pub Causal : List E → Type 0
  Causal [] = Unit {0}
  Causal (e ∷ done) = Fits done e × (1 ≤ size e) × Causal done

  pub in_range_lem : (done : List E) → Causal done → (e : E) → MemE e done → (first e + size e ≤ cnt done (peer e)) × (1 ≤ size e)
  unfolding Causal
  in_range_lem [] c e m = absurd (Memᴰ.not-nil m)
  in_range_lem (f ∷ d) c e m = go (Memᴰ.cases_cons m) (in_range_lem d c.2 e)
    where
      go : (e ≡ f) ⊎ MemE e d → (MemE e d → (first e + size e ≤ cnt d (peer e)) × (1 ≤ size e)) → (first e + size e ≤ cnt (f ∷ d) (peer e)) × (1 ≤ size e)
      go (inl k) ih = subst (λ (z : E). (first z + size z ≤ cnt (f ∷ d) (peer z)) × (1 ≤ size z)) (sym k) (omega (arith, cnt_own d f), c.1)
      go (inr k) ih = (omega (arith, (ih k).0, cnt_grow d f c.0.own (peer e)), (ih k).1)

  pub disjoint : (done : List E) → Causal done → (e f : E) → MemE e done → MemE f done → peer e ≡ peer f
      → (i : ℕ) → first e ≤ i → i < first e + size e → first f ≤ i → i < first f + size f → e ≡ f
  unfolding Causal
  disjoint [] c e f me mf p i a1 a2 b1 b2 = absurd (Memᴰ.not-nil me)
  disjoint (g ∷ d) c e f me mf p i a1 a2 b1 b2 = go (Memᴰ.cases_cons me) (Memᴰ.cases_cons mf) (λ (x : MemE e d) (y : MemE f d). disjoint d c.2 e f x y p i a1 a2 b1 b2)
    where
      no : (u v : E) → u ≡ g → MemE v d → peer v ≡ peer u → first u ≤ i → i < first v + size v → ⊥
      no u v k m q x y =
          let h : first v + size v ≤ cnt d (peer v) = (in_range_lem d c.2 v m).0 in
          let h2 : cnt d (peer v) ≡ first g = ap (cnt d) (q ∙ ap (λ (z : E). peer z) k) ∙ c.0.own in
          let h3 : first u ≡ first g = ap (λ (z : E). first z) k in
          omega arith

      go : (e ≡ g) ⊎ MemE e d → (f ≡ g) ⊎ MemE f d → (MemE e d → MemE f d → e ≡ f) → e ≡ f
      go (inl k) (inl j) ih = k ∙ sym j
      go (inl k) (inr j) ih = absurd (no e f k j (sym p) a1 b2)
      go (inr k) (inl j) ih = absurd (no f e j k p b1 a2)
      go (inr k) (inr j) ih = ih k j

  pub record Covers (d : List E) (p c : ℕ) : Type 0 where
    pub e : E
    pub is_in : MemE e d
    pub peer : peer e ≡ p
    pub low : first e ≤ c
    pub high : c < first e + size e

  pub cover : (d : List E) → Causal d → (p c : ℕ) → c < cnt d p → Covers d p c
  unfolding Causal cnt
  cover [] ca p c h = absurd (let z : ⊥ = omega arith in z)
  cover (e ∷ d) ca p c h = go (eqb_test (peer e) p) (dec_lt c (first e)) (cover d ca.2 p c) h
    where
      up : Covers d p c → Covers (e ∷ d) p c
      up s = record { e = s.e; is_in = Memᴰ.tail s.is_in; peer = s.peer; low = s.low; high = s.high }

      go : Test (eqb (peer e) p) (peer e ≡ p) → Dec (c < first e) → (c < cnt d p → Covers d p c) → c < cond (eqb (peer e) p) (first e + size e) (cnt d p) → Covers (e ∷ d) p c
      go (pass t k) (yes y) ih h = up (ih (let o : cnt d p ≡ first e = subst (λ (z : ℕ). cnt d z ≡ first e) k ca.0.own in omega arith))
      go (pass t k) (no n) ih h = record {
        e = e;
        is_in = Memᴰ.head refl;
        peer = k;
        low = omega arith;
        high = subst (λ (b : Bool). c < cond b (first e + size e) (cnt d p)) t h;
      }
      go (fail t k) dn ih h = up (ih (subst (λ (b : Bool). c < cond b (first e + size e) (cnt d p)) t h))

  -- those done, the last first
  abbrev pub done_of : List E → List E → List E
  done_of done [] = done
  done_of done (e ∷ es) = done_of (e ∷ done) es

  pub done_in : (es done : List E) (e : E) → MemE e done → MemE e (done_of done es)
  done_in [] done e m = m
  done_in (f ∷ es) done e m = done_in es (f ∷ done) e (Memᴰ.tail m)

  pub todo_in : (es done : List E) (e : E) → MemE e es → MemE e (done_of done es)
  todo_in [] done e m = absurd (Memᴰ.not-nil m)
  todo_in (f ∷ es) done e m = go (Memᴰ.cases_cons m) (todo_in es (f ∷ done) e)
    where
      go : (e ≡ f) ⊎ MemE e es → (MemE e es → MemE e (done_of (f ∷ done) es)) → MemE e (done_of (f ∷ done) es)
      go (inl k) ih = done_in es (f ∷ done) e (Memᴰ.head k)
      go (inr k) ih = ih k

  pub in_todo : (es done : List E) (e : E) → MemE e (done_of done es) → MemE e done ⊎ MemE e es
  in_todo [] done e m = inl m
  in_todo (f ∷ es) done e m = go (in_todo es (f ∷ done) e m)
    where
      go2 : (e ≡ f) ⊎ MemE e done → MemE e done ⊎ MemE e (f ∷ es)
      go2 (inl k) = inr (Memᴰ.head k)
      go2 (inr k) = inl k

      go : MemE e (f ∷ done) ⊎ MemE e es → MemE e done ⊎ MemE e (f ∷ es)
      go (inl k) = go2 (Memᴰ.cases_cons k)
      go (inr k) = inr (Memᴰ.tail k)

  -- an order in which every edit's counter and context fit the edits before it, and every edit is of the set S: nothing about any list
  unfoldable pub Order : List E → List E → List E → Type 0
  Order S done [] = Unit {0}
  Order S done (e ∷ es) = Fits done e × (1 ≤ size e) × MemE e S × Order S (e ∷ done) es

  -- A set of edits: ids of an office are none twice; each context lies within the set, is closed, and holds all that office's earlier ids.
  pub record WellFormed (S : List E) : Type 0 where
    pub some : (e : E) → MemE e S → 1 ≤ size e
    pub once : (e f : E) → MemE e S → MemE f S → peer e ≡ peer f → (i : ℕ) → first e ≤ i → i < first e + size e → first f ≤ i → i < first f + size f → e ≡ f
    pub own : (e : E) → MemE e S → first e ≤ holds e (peer e)
    pub within : (e : E) → MemE e S → (p i : ℕ) → i < holds e p → Covers S p i
    pub closed : (e f : E) → MemE e S → MemE f S → first f < holds e (peer f) → (p : ℕ) → holds f p ≤ holds e p

  -- An arrival order of edits of S: none twice, each after every edit that its context covers, even in part. (done: those before, the last first.)
  unfoldable pub After : List E → List E → List E → Type 0
  After S done [] = Unit {0}
  After S done (e ∷ es) = MemE e S × (MemE e done → ⊥) × ((f : E) → MemE f S → first f < holds e (peer f) → MemE f done) × After S (e ∷ done) es

  module _ (S : List E) (wf : WellFormed S) where
    fits_of : (done : List E) → Causal done → ((f : E) → MemE f done → MemE f S) → (e : E) → MemE e S → (MemE e done → ⊥)
        → ((f : E) → MemE f S → first f < holds e (peer f) → MemE f done) → Fits done e
    fits_of done ca sub e me new before = record {
      own = own' (dec_lt (first e) (cnt done (peer e)));
      held = held';
      closed = λ (f : E) (m : MemE f done). wf.closed e f me (sub f m);
    }
      where
        below : (p i : ℕ) → i < holds e p → i < cnt done p
        below p i h =
            let k : Covers S p i = wf.within e me p i h in
            let kp : peer k.e ≡ p = k.peer in
            let kl : first k.e ≤ i = k.low in
            let kh : i < first k.e + size k.e = k.high in
            let c : first k.e < holds e (peer k.e) = subst (λ (z : ℕ). first k.e < holds e z) (sym kp) (omega arith) in
            let r : first k.e + size k.e ≤ cnt done (peer k.e) = (in_range_lem done ca k.e (before k.e k.is_in c)).0 in
            subst (λ (z : ℕ). i < cnt done z) kp (omega arith)

        held2 : (p n : ℕ) → holds e p ≡ n → n ≤ cnt done p
        held2 p zero d = omega arith
        held2 p (suc n) d = below p n (omega arith)

        held' : (p : ℕ) → holds e p ≤ cnt done p
        held' p = held2 p (holds e p) refl

        own' : Dec (first e < cnt done (peer e)) → cnt done (peer e) ≡ first e
        own' (no n) = omega (arith, held' (peer e), wf.own e me)
        own' (yes y) =
            let k : Covers done (peer e) (first e) = cover done ca (peer e) (first e) y in
            let q : k.e ≡ e = wf.once k.e e (sub k.e k.is_in) me k.peer (first e) k.low k.high (omega arith) (omega (arith, wf.some e me)) in
            absurd (new (Memᴰ.cast (sym q) k.is_in))

    pub order_of : (es done : List E) → Causal done → ((f : E) → MemE f done → MemE f S) → After S done es → Order S done es
    unfolding After Order
    order_of [] done ca sub a = tt
    order_of (e ∷ es) done ca sub a =
        let ft : Fits done e = fits_of done ca sub e a.0 a.1 a.2 in
        (ft, wf.some e a.0, a.0, order_of es (e ∷ done) (unfold Causal in (ft, wf.some e a.0, ca)) (λ (f : E) (m : MemE f (e ∷ done)). sub2 f (Memᴰ.cases_cons m)) a.3)
      where
        sub2 : (f : E) → (f ≡ e) ⊎ MemE f done → MemE f S
        sub2 f (inl k) = Memᴰ.cast k a.0
        sub2 f (inr m) = sub f m

  -- an edit that arrives after its context is not in its own context
  pub own_le : (S fs done : List E) → After S done fs → (e : E) → MemE e fs → holds e (peer e) ≤ first e
  unfolding After
  own_le S [] done a e m = absurd (Memᴰ.not-nil m)
  own_le S (f ∷ fs) done a e m = go (Memᴰ.cases_cons m) (own_le S fs (f ∷ done) a.3 e)
    where
      here : Dec (first f < holds f (peer f)) → holds f (peer f) ≤ first f
      here (yes y) = absurd (a.1 (a.2 f a.0 y))
      here (no n) = omega arith

      go : (e ≡ f) ⊎ MemE e fs → (MemE e fs → holds e (peer e) ≤ first e) → holds e (peer e) ≤ first e
      go (inl d) ih = subst (λ (z : E). holds z (peer z) ≤ first z) (sym d) (here (dec_lt (first f) (holds f (peer f))))
      go (inr k) ih = ih k
