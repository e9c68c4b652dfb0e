-- The key lemma (Theorem 5): the scan with holding ends exactly at the new unit's place in the order of path keys. It speaks of the rule as 01
-- states it (`Says`); that the rule as computed says the same is in Insert.
use Prim.Native.Nat.{ℕ, suc, ◌+◌, ◌<◌, ◌≤◌}
use mathlib.Core.Path.{◌≡◌, refl, sym, ap, subst, ◌∙◌}
use mathlib.Core.Logic.{◌⊎◌, inl, inr}
use mathlib.Core.Bool.{Bool, true, false, cond}
use mathlib.Core.List.Memᴰ
use mathlib.Core.List.{List, [], ◌∷◌, ◌++◌, append_assoc, append-nil, Memᴰ}
use lib.ListN.{length}
use native.Mathlib.Omega.{arith}
use native.Mathlib.Nat.{add-zero}
use Rattle.std.specs.Prelude.{None, Some}
use Rattle.span.specs.declared.ids.Id.{Id}
use Rattle.span.specs.Maybe.{OptId}
use Rattle.span.specs.declared.span.FugueSpan.{FugueSpan}
use Rattle.units.specs.declared.place.Verdict.{Verdict}
use Rattle.units.specs.declared.place.Verdict.TheVariants.{Stop, Hold, Clear, Keep}
use Rattle.units.specs.Place.{is_stop, after, run}
use Rattle.fugue.specs.Tree.{ref, ol}
use Rattle.fugue.proofs.Order.{Tri, tlt, teq, tgt, LtId, Older, older_no, LtZ-irrefl, LtZ-trans}
use Rattle.fugue.proofs.Keys.{Key, Lt, Lt-irrefl, Lt-trans, Lt-asym, tri}
use Rattle.fugue.proofs.Hang.{Hung, PLt, F1, F2, F3, after_ol, before_pr, same_ol, last_of_lem, last_of}

abbrev pub Mem : FugueSpan → List FugueSpan → Type 0
Mem v l = Memᴰ v l

-- strictly rising keys
abbrev pub Sorted : (OptId → Key) → List FugueSpan → Type 0
Sorted key [] = Unit {0}
Sorted key (v ∷ l) = ((w : FugueSpan) → Mem w l → Lt (key (ref v)) (key (ref w))) × Sorted key l

pub sorted_front : (key : OptId → Key) (s : List FugueSpan) (v : FugueSpan) (t : List FugueSpan) → Sorted key (s ++ v ∷ t) → (w : FugueSpan) → Mem w s → Lt (key (ref w)) (key (ref v))
sorted_front key [] v t h w m = absurd (Memᴰ.not-nil m)
sorted_front key (u ∷ s) v t h w m = go (sorted_front key s v t h.1 w) (Memᴰ.cases_cons m)
  where
    go : (Mem w s → Lt (key (ref w)) (key (ref v))) → (w ≡ u) ⊎ Mem w s → Lt (key (ref w)) (key (ref v))
    go ih (inl e) = subst (λ (z : FugueSpan). Lt (key (ref z)) (key (ref v))) (sym e) (h.0 v (Memᴰ.append_right s (Memᴰ.head refl)))
    go ih (inr m') = ih m'

pub sorted_back : (key : OptId → Key) (s : List FugueSpan) (v : FugueSpan) (t : List FugueSpan) → Sorted key (s ++ v ∷ t) → (w : FugueSpan) → Mem w t → Lt (key (ref v)) (key (ref w))
sorted_back key [] v t h w m = h.0 w m
sorted_back key (u ∷ s) v t h w m = sorted_back key s v t h.1 w m

module _ (key : OptId → Key) (prf : FugueSpan → OptId) (me : Id) (x pr : OptId) where
  -- what 01's rule says of the unit v, when the units s are scanned
  pub data Says (s : List FugueSpan) (v : FugueSpan) : Verdict → Type 0 where
    s_hold : ol v ≡ x → PLt key (prf v) pr → Says s v Hold
    s_stopeq : ol v ≡ x → prf v ≡ pr → me.peer < v.id.peer → Says s v Stop
    s_cleareq : ol v ≡ x → prf v ≡ pr → v.id.peer ≤ me.peer → Says s v Clear
    s_cleargt : ol v ≡ x → PLt key pr (prf v) → Says s v Clear
    s_keep : (w : FugueSpan) → ¬ (ol v ≡ x) → Mem w s → ref w ≡ ol v → Says s v Keep
    s_stop : ¬ (ol v ≡ x) → ((w : FugueSpan) → Mem w s → ref w ≡ ol v → ⊥) → Says s v Stop

  -- The new unit me with origin left x and parent right pr; the list; the units between x and origin right that are before it, and after it.
  pub record Scene (all S1 S2 : List FugueSpan) : Type 0 where
    pub hung : Hung key x me pr
    pub wf : (v : FugueSpan) → Mem v all → Hung key (ol v) v.id (prf v)
    pub ol_in : (v : FugueSpan) → Mem v all → (ol v ≡ None) ⊎ ((w : FugueSpan) × Mem w all × (ref w ≡ ol v))
    pub pr_in : (v : FugueSpan) (a : Id) → Mem v all → prf v ≡ Some a → (w : FugueSpan) × Mem w all × (ref w ≡ Some a)
    pub none_key : key None ≡ []
    pub rooted : Lt (key x) [] → ⊥
    pub x_id : last_of None (key x) ≡ x
    pub low_in : (v : FugueSpan) → Mem v S1 → Mem v all
    pub high_in : (v : FugueSpan) → Mem v S2 → Mem v all
    pub lo : (v : FugueSpan) → Mem v S1 → Lt (key (ref v)) (key (Some me))
    pub hi : (v : FugueSpan) → Mem v S2 → Lt (key (Some me)) (key (ref v))
    pub xlo : (v : FugueSpan) → Mem v S1 → Lt (key x) (key (ref v))
    pub full : (w : FugueSpan) → Mem w all → Lt (key x) (key (ref w)) → Lt (key (ref w)) (key (Some me)) → Mem w S1
    pub sorted : Sorted key S1
    pub newest : (w : FugueSpan) → Mem w all → Older w.id me
    pub inside : (a : Id) → pr ≡ Some a → (w : FugueSpan) → Mem w S2 → Lt (key (ref w)) (key (Some a))

  -- while holding: some unit before us with a parent right r that is before our parent right, and r has not been scanned
  record Held (all Q : List FugueSpan) : Type 0 where
    y : Id
    a : Id
    hy : Hung key x y (Some a)
    low : Lt (key (Some y)) (key (Some me))
    early : PLt key (Some a) pr
    r : FugueSpan
    rin : Mem r all
    rref : ref r ≡ Some a
    notyet : (w : FugueSpan) → Mem w Q → ref w ≡ Some a → ⊥

  abbrev Inv : List FugueSpan → Bool → ℕ → ℕ → List FugueSpan → Type 0
  Inv all false p i Q = p ≡ i
  Inv all true p i Q = Held all Q

  module _ (all S1 S2 : List FugueSpan) (sc : Scene all S1 S2) (f : List FugueSpan → FugueSpan → Verdict)
      (says : (s : List FugueSpan) (v : FugueSpan) → Mem v all → Says s v (f s v)) where
    -- one unit with this verdict, then the rest
    abbrev step_with : List FugueSpan → Bool → ℕ → ℕ → FugueSpan → List FugueSpan → Verdict → ℕ
    step_with Q h p i v vs k = cond (is_stop k) p (run f (Q ++ v ∷ []) (after k h) (cond (after k h) p (suc i)) (suc i) vs)

    -- a unit of the list with our origin left
    at_x : (v : FugueSpan) → Mem v all → ol v ≡ x → Hung key x v.id (prf v)
    at_x v m e = subst (λ (z : OptId). Hung key z v.id (prf v)) e (sc.wf v m)

    -- after us with our parent right: a larger peer
    high_eq : (v : FugueSpan) → Mem v S2 → ol v ≡ x → prf v ≡ pr → v.id.peer ≤ me.peer → ⊥
    high_eq v m e l g = go (F3 key sc.hung (at_x v (sc.high_in v m) e) (sym l) (sc.hi v m))
      where
        go : LtId me v.id → ⊥
        go (inl k) = omega arith
        go (inr k) = LtZ-irrefl me.counter (LtZ-trans me.counter v.id.counter me.counter k.1 (sc.newest v (sc.high_in v m) (sym k.0)))

    -- after us its parent right is not after ours
    high_gt : (v : FugueSpan) → Mem v S2 → ol v ≡ x → PLt key pr (prf v) → ⊥
    high_gt v m e l = go pr refl l
      where
        go : (r : OptId) → pr ≡ r → PLt key r (prf v) → ⊥
        go None d k = k
        go (Some a) d k = F1 key (subst (λ (z : OptId). Hung key x me z) d sc.hung) (at_x v (sc.high_in v m) e) (sc.hi v m) (sc.inside a d v m) k

    -- after us its origin left is not before us in the scan
    high_keep : (v : FugueSpan) → Mem v S2 → (w : FugueSpan) → Mem w S1 → ref w ≡ ol v → ⊥
    high_keep v m w mw e =
        go (F2 key (sc.wf v (sc.high_in v m)) sc.hung (subst (λ (z : OptId). Lt (key z) (key (Some me))) e (sc.lo w mw)) (sc.hi v m))
      where
        k : Lt (key x) (key (ol v))
        k = subst (λ (z : OptId). Lt (key x) (key z)) e (sc.xlo w mw)

        go : (key (ol v) ≡ key x) ⊎ Lt (key (ol v)) (key x) → ⊥
        go (inl h) = Lt-irrefl (key x) (subst (λ (z : Key). Lt (key x) z) h k)
        go (inr h) = Lt-asym (key x) (key (ol v)) k h

    -- units after us: the place does not move any more
    high_step : (Q : List FugueSpan) (h : Bool) (p i : ℕ) (v : FugueSpan) (vs : List FugueSpan) → Mem v S2
        → ((w : FugueSpan) → Mem w Q → Mem w S1 ⊎ (h ≡ true))
        → (run f (Q ++ v ∷ []) true p (suc i) vs ≡ p)
        → (k : Verdict) → Says Q v k → step_with Q h p i v vs k ≡ p
    unfolding is_stop after
    high_step Q h p i v vs m scn ih Hold (s_hold e l) = ih
    high_step Q h p i v vs m scn ih Stop (s_stopeq e l g) = refl
    high_step Q h p i v vs m scn ih Stop (s_stop e l) = refl
    high_step Q h p i v vs m scn ih Clear (s_cleareq e l g) = absurd (high_eq v m e l g)
    high_step Q h p i v vs m scn ih Clear (s_cleargt e l) = absurd (high_gt v m e l)
    high_step Q h p i v vs m scn ih Keep (s_keep w n mw e) = go (scn w mw)
      where
        go : Mem w S1 ⊎ (h ≡ true) → run f (Q ++ v ∷ []) h (cond h p (suc i)) (suc i) vs ≡ p
        go (inl m1) = absurd (high_keep v m w m1 e)
        go (inr t) = subst (λ (z : Bool). run f (Q ++ v ∷ []) z (cond z p (suc i)) (suc i) vs ≡ p) (sym t) ih

    run_high : (S Q : List FugueSpan) (h : Bool) (p i : ℕ) → ((w : FugueSpan) → Mem w S → Mem w S2)
        → ((w : FugueSpan) → Mem w Q → Mem w S1 ⊎ (h ≡ true)) → run f Q h p i S ≡ p
    unfolding run
    run_high [] Q h p i sub scn = refl
    run_high (v ∷ S) Q h p i sub scn =
        high_step Q h p i v S (sub v (Memᴰ.head refl)) scn
        (run_high S (Q ++ v ∷ []) true p (suc i) (λ (w : FugueSpan) (m : Mem w S). sub w (Memᴰ.tail m)) (λ (w : FugueSpan) (m : Mem w (Q ++ v ∷ [])). inr refl))
        (f Q v) (says Q v (sc.high_in v (sub v (Memᴰ.head refl))))

    -- an origin left is told by its key
    ol_id : (v : FugueSpan) → Mem v all → last_of None (key (ol v)) ≡ ol v
    ol_id v m = go (sc.ol_in v m)
      where
        go : (ol v ≡ None) ⊎ ((w : FugueSpan) × Mem w all × (ref w ≡ ol v)) → last_of None (key (ol v)) ≡ ol v
        go (inl e) = ap (λ (z : OptId). last_of None (key z)) e ∙ (ap (last_of None) sc.none_key ∙ sym e)
        go (inr t) = subst (λ (z : OptId). last_of None (key z) ≡ z) t.2 (last_of_lem key (sc.wf t.0 t.1))

    x_of_key : (v : FugueSpan) → Mem v all → key x ≡ key (ol v) → ol v ≡ x
    x_of_key v m e = sym (ol_id v m) ∙ (ap (last_of None) (sym e) ∙ sc.x_id)

    -- before us: its origin left has been scanned
    low_stop : (Q S : List FugueSpan) (v : FugueSpan) → Q ++ v ∷ S ≡ S1 → Mem v S1 → ¬ (ol v ≡ x) → ((w : FugueSpan) → Mem w Q → ref w ≡ ol v → ⊥) → ⊥
    low_stop Q S v e m n l = go (F2 key sc.hung (sc.wf v mv) (sc.xlo v m) (sc.lo v m))
      where
        mv : Mem v all
        mv = sc.low_in v m

        srt : Sorted key (Q ++ v ∷ S)
        srt = subst (λ (z : List FugueSpan). Sorted key z) (sym e) sc.sorted

        inside3 : (w : FugueSpan) → Lt (key (ref w)) (key (ref v)) → ref w ≡ ol v → (w ≡ v) ⊎ Mem w S → ⊥
        inside3 w k r (inl d) = Lt-irrefl (key (ref v)) (subst (λ (z : FugueSpan). Lt (key (ref z)) (key (ref v))) d k)
        inside3 w k r (inr d) = Lt-asym (key (ref w)) (key (ref v)) k (sorted_back key Q v S srt w d)

        inside2 : (w : FugueSpan) → Lt (key (ref w)) (key (ref v)) → ref w ≡ ol v → Mem w Q ⊎ Mem w (v ∷ S) → ⊥
        inside2 w k r (inl d) = l w d r
        inside2 w k r (inr d) = inside3 w k r (Memᴰ.cases_cons d)

        at_ol : Lt (key x) (key (ol v)) → (ol v ≡ None) ⊎ ((w : FugueSpan) × Mem w all × (ref w ≡ ol v)) → ⊥
        at_ol k (inl d) = sc.rooted (subst (λ (z : Key). Lt (key x) z) (ap key d ∙ sc.none_key) k)
        at_ol k (inr t) =
            let w : FugueSpan = t.0 in
            let k1 : Lt (key x) (key (ref w)) = subst (λ (z : OptId). Lt (key x) (key z)) (sym t.2) k in
            let k2 : Lt (key (ref w)) (key (ref v)) = subst (λ (z : OptId). Lt (key z) (key (ref v))) (sym t.2) (after_ol key (sc.wf v mv)) in
            let k3 : Lt (key (ref w)) (key (Some me)) = Lt-trans (key (ref w)) (key (ref v)) (key (Some me)) k2 (sc.lo v m) in
            inside2 w k2 t.2 (Memᴰ.append_cases Q (subst (λ (z : List FugueSpan). Mem w z) (sym e) (sc.full w t.1 k1 k3)))

        go : (key x ≡ key (ol v)) ⊎ Lt (key x) (key (ol v)) → ⊥
        go (inl d) = n (x_of_key v mv d)
        go (inr k) = at_ol k (sc.ol_in v mv)

    -- holding starts At v
    hold_new : (Q S : List FugueSpan) (v : FugueSpan) → Q ++ v ∷ S ≡ S1 → Mem v S1 → ol v ≡ x → PLt key (prf v) pr → Held all (Q ++ v ∷ [])
    hold_new Q S v e m d l = go (prf v) refl l
      where
        mv : Mem v all
        mv = sc.low_in v m

        srt : Sorted key (Q ++ v ∷ S)
        srt = subst (λ (z : List FugueSpan). Sorted key z) (sym e) sc.sorted

        apart : (a : Id) → Lt (key (ref v)) (key (Some a)) → (w : FugueSpan) → ref w ≡ Some a → Mem w Q ⊎ Mem w (v ∷ []) → ⊥
        apart a k w g (inl mw) =
            Lt-irrefl (key (Some a)) (subst (λ (z : OptId). Lt (key z) (key (Some a))) g
            (Lt-trans (key (ref w)) (key (ref v)) (key (Some a)) (sorted_front key Q v S srt w mw) k))
        apart a k w g (inr mw) =
            Lt-irrefl (key (Some a)) (subst (λ (z : OptId). Lt (key z) (key (Some a))) (ap ref (sym (Memᴰ.eq_of_singleton mw)) ∙ g) k)

        go : (r : OptId) → prf v ≡ r → PLt key r pr → Held all (Q ++ v ∷ [])
        go None g k = absurd k
        go (Some a) g k =
            let hy : Hung key x v.id (Some a) = subst (λ (z : OptId). Hung key x v.id z) g (at_x v mv d) in
            let t : (w : FugueSpan) × Mem w all × (ref w ≡ Some a) = sc.pr_in v a mv g in
            record {
              y = v.id;
              a = a;
              hy = hy;
              low = sc.lo v m;
              early = k;
              r = t.0;
              rin = t.1;
              rref = t.2;
              notyet = λ (w : FugueSpan) (mw : Mem w (Q ++ v ∷ [])) (g' : ref w ≡ Some a). apart a (before_pr key hy) w g' (Memᴰ.append_cases Q mw);
            }

    -- holding goes on over v
    hold_on : (Q : List FugueSpan) (v : FugueSpan) → Mem v all → ¬ (ol v ≡ x) → Held all Q → Held all (Q ++ v ∷ [])
    hold_on Q v mv n h =
        record {
          y = h.y;
          a = h.a;
          hy = h.hy;
          low = h.low;
          early = h.early;
          r = h.r;
          rin = h.rin;
          rref = h.rref;
          notyet = λ (w : FugueSpan) (mw : Mem w (Q ++ v ∷ [])) (g : ref w ≡ Some h.a). apart w g (Memᴰ.append_cases Q mw);
        }
      where
        same : (a : Id) → Hung key x h.y (Some a) → v.id ≡ a → key x ≡ key (ol v)
        same a hy e = same_ol key hy (subst (λ (z : Id). Hung key (ol v) z (prf v)) e (sc.wf v mv))

        isv : ref v ≡ Some h.a → ⊥
        isv g = n (x_of_key v mv (same h.a h.hy (cc)))

        apart : (w : FugueSpan) → ref w ≡ Some h.a → Mem w Q ⊎ Mem w (v ∷ []) → ⊥
        apart w g (inl mw) = h.notyet w mw g
        apart w g (inr mw) = isv (ap ref (sym (Memᴰ.eq_of_singleton mw)) ∙ g)

    -- At our place holding is over
    hold_end : Held all S1 → ⊥
    hold_end h = go (tri (key (Some h.a)) (key (Some me)))
      where
        rk : key (ref h.r) ≡ key (Some h.a)
        rk = ap key h.rref

        same : key (Some h.a) ≡ key (Some me) → ref h.r ≡ Some me
        same e = sym (last_of_lem key (sc.wf h.r h.rin)) ∙ (ap (last_of None) (rk ∙ e) ∙ last_of_lem key sc.hung)

        go : Tri (Lt (key (Some h.a)) (key (Some me))) (key (Some h.a) ≡ key (Some me)) (Lt (key (Some me)) (key (Some h.a))) → ⊥
        go (tlt k) = h.notyet h.r (sc.full h.r h.rin
            (subst (λ (z : Key). Lt (key x) z) (sym rk) (Lt-trans (key x) (key (Some h.y)) (key (Some h.a)) (after_ol key h.hy) (before_pr key h.hy)))
            (subst (λ (z : Key). Lt z (key (Some me))) (sym rk) k)) h.rref
        go (teq e) =
            let g : ref h.r ≡ Some me = same e in
            let d : h.r.id ≡ me = cc in
            older_no h.r.id me (sc.newest h.r h.rin) d
        go (tgt k) = F1 key h.hy sc.hung h.low k h.early

    low_eq : (v : FugueSpan) → Mem v S1 → ol v ≡ x → prf v ≡ pr → me.peer < v.id.peer → ⊥
    low_eq v m e l g = go (F3 key (at_x v (sc.low_in v m) e) sc.hung l (sc.lo v m))
      where
        go : LtId v.id me → ⊥
        go (inl k) = omega arith
        go (inr k) = omega arith

    low_step : (Q S : List FugueSpan) (h : Bool) (p i : ℕ) (v : FugueSpan) → Q ++ v ∷ S ≡ S1 → Mem v S1 → Inv all h p i Q
        → ((h : Bool) (p : ℕ) → Inv all h p (suc i) (Q ++ v ∷ []) → run f (Q ++ v ∷ []) h p (suc i) (S ++ S2) ≡ suc i + length S)
        → (k : Verdict) → Says Q v k → step_with Q h p i v (S ++ S2) k ≡ suc i + length S
    unfolding is_stop after
    low_step Q S h p i v e m inv ih Hold (s_hold d l) = ih true p (hold_new Q S v e m d l)
    low_step Q S h p i v e m inv ih Stop (s_stopeq d l g) = absurd (low_eq v m d l g)
    low_step Q S h p i v e m inv ih Stop (s_stop n l) = absurd (low_stop Q S v e m n l)
    low_step Q S h p i v e m inv ih Clear (s_cleareq d l g) = ih false (suc i) refl
    low_step Q S h p i v e m inv ih Clear (s_cleargt d l) = ih false (suc i) refl
    low_step Q S h p i v e m inv ih Keep (s_keep w n mw d) = go h inv
      where
        go : (h : Bool) → Inv all h p i Q → run f (Q ++ v ∷ []) h (cond h p (suc i)) (suc i) (S ++ S2) ≡ suc i + length S
        go false k = ih false (suc i) refl
        go true k = ih true p (hold_on Q v (sc.low_in v m) n k)

    run_low : (S Q : List FugueSpan) (h : Bool) (p i : ℕ) → Q ++ S ≡ S1 → Inv all h p i Q → run f Q h p i (S ++ S2) ≡ i + length S
    unfolding run
    run_low [] Q h p i e inv = go h inv
      where
        q1 : Q ≡ S1
        q1 = sym (append-nil Q) ∙ e

        go : (h : Bool) → Inv all h p i Q → run f Q h p i S2 ≡ i + 0
        go false k = run_high S2 Q false p i (λ (w : FugueSpan) (m : Mem w S2). m) (λ (w : FugueSpan) (m : Mem w Q). inl (subst (λ (z : List FugueSpan). Mem w z) q1 m)) ∙ (k ∙ sym (add-zero i))
        go true k = absurd (hold_end (subst (λ (z : List FugueSpan). Held all z) q1 k))
    run_low (v ∷ S) Q h p i e inv =
        let m : Mem v S1 = subst (λ (z : List FugueSpan). Mem v z) e (Memᴰ.append_right Q (Memᴰ.head refl)) in
        low_step Q S h p i v e m inv
        (λ (h : Bool) (p : ℕ) (inv : Inv all h p (suc i) (Q ++ v ∷ [])). run_low S (Q ++ v ∷ []) h p (suc i) (append_assoc Q (v ∷ []) S ∙ e) inv)
        (f Q v) (says Q v (sc.low_in v m)) ∙ omega arith

    -- THE KEY LEMMA. The scan over the units between the cursor and origin right ends just behind those that are before the new unit.
    pub scan_place_lem : run f [] false 0 0 (S1 ++ S2) ≡ length S1
    scan_place_lem = run_low S1 [] false 0 0 refl refl ∙ omega arith
