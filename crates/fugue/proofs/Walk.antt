-- The walk of the tree of a set of units has rising keys and all the members; so a good list is the walk of its own units (§7, `good_is_walk`).
use Prim.Native.Nat.{ℕ, zero, suc, ◌+◌, ◌-◌, ◌≤◌}
use mathlib.Core.Path.{◌≡◌, refl, sym, ap, ap₂, subst, subst₂, ◌∙◌}
use mathlib.Core.Logic.{◌⊎◌, inl, inr}
use mathlib.Core.Bool.{Bool, true, false, not, ◌&&◌, cond, true≢false}
use mathlib.Core.List.Memᴰ
use mathlib.Core.List.{List, [], ◌∷◌, ◌++◌, append_assoc, append-nil}
use lib.ListN.{length, length-append}
use native.Mathlib.Omega.{arith}
use Rattle.std.specs.Prelude.{None, Some}
use Rattle.span.specs.declared.ids.Id.{Id}
use Rattle.span.specs.Maybe.{OptId}
use Rattle.span.specs.declared.span.FugueSpan.{FugueSpan}
use Rattle.span.specs.Ids.{same_opt}
use Rattle.span.proofs.Same.{same_opt-true, same_opt_refl}
use Rattle.units.specs.Lists.{keep_if}
use Rattle.units.specs.Place.{has_ol, parent_right}
use Rattle.fugue.specs.Tree.{ref, ol, or, pr_of, is_none, left_kid, right_kid, walk_each, walk_list, walk}
use Rattle.fugue.proofs.Order.{LtId}
use Rattle.fugue.proofs.Keys.{Key, Step, sl, sr, IsL, IsR, LtS, Lt, Lt-trans, Lt-left, Lt-right, Lt-prefix}
use Rattle.fugue.proofs.Hang.{Hung, hung_r, hung_l, last_of_lem, last_of, none≢at}
use Rattle.fugue.proofs.ScanPlace.{Mem, Sorted}
use Rattle.fugue.proofs.Tests.{Test, pass, fail}
use Rattle.fugue.proofs.Insert.{In, Good, pr_in_lem}
use Rattle.fugue.proofs.Rising.{sorted_unique, sorted_app, IdSorted, keep_if_in, keep_if_keeps, keep_if_sorted, sorted_uniq, Has, has_ol_uniq}

sub_back : (n k : ℕ) → k ≤ n → (n - k) + k ≡ n
sub_back n k h = omega arith

-- ---- the walk rises

-- children of a node with key k, on one side
abbrev step_of : Bool → FugueSpan → Step
step_of true u = sl u.id
step_of false u = sr u.id

record Kids (key : OptId → Key) (us : List FugueSpan) (left : Bool) (k : Key) (s : List FugueSpan) : Type 0 where
  in_us : (u : FugueSpan) → Mem u s → Mem u us
  by_key : (u : FugueSpan) → Mem u s → key (ref u) ≡ k ++ step_of left u ∷ []
  order : IdSorted s

-- below one of them
record Under (key : OptId → Key) (us s : List FugueSpan) (w : FugueSpan) : Type 0 where
  top : FugueSpan
  top_in : Mem top s
  rest : Key
  path : key (ref w) ≡ key (ref top) ++ rest
  in_u : Mem w us

and-true : (a b : Bool) → a && b ≡ true → (a ≡ true) × (b ≡ true)
and-true true b e = (refl, e)
and-true false b e = absurd (true≢false (sym e))

true-same_opt : (a b : OptId) → a ≡ b → same_opt a b ≡ true
true-same_opt a b e = ap (λ (z : OptId). same_opt z b) e ∙ same_opt_refl b

is_none-true : (r : OptId) → is_none r ≡ true → r ≡ None
unfolding is_none
is_none-true None e = refl
is_none-true (Some p) e = absurd (true≢false (sym e))

hung_l_key : (key : OptId → Key) {x : OptId} {p a : Id} → Hung key x p (Some a) → key (Some p) ≡ key (Some a) ++ sl p ∷ []
hung_l_key key (hung_l s ms ir al er ek) = ek

hung_r_key : (key : OptId → Key) {x : OptId} {p : Id} → Hung key x p None → key (Some p) ≡ key x ++ sr p ∷ []
hung_r_key key (hung_r e) = e

lt_step : (left : Bool) (u v : FugueSpan) → LtId u.id v.id → LtS (step_of left u) (step_of left v)
lt_step true u v h = h
lt_step false u v h = h

module _ (key : OptId → Key) (us : List FugueSpan) (wf : (u : FugueSpan) → Mem u us → Hung key (ol u) u.id (pr_of us u)) (id_u : IdSorted us) where
  kids_l : (u : FugueSpan) → Kids key us true (key (ref u)) (keep_if (left_kid us (ref u)) us)
  unfolding left_kid
  kids_l u = record {
    in_us = λ (v : FugueSpan) (m : Mem v (keep_if (left_kid us (ref u)) us)). (keep_if_in (left_kid us (ref u)) us v m).0;
    by_key = λ (v : FugueSpan) (m : Mem v (keep_if (left_kid us (ref u)) us)). go v (keep_if_in (left_kid us (ref u)) us v m);
    order = keep_if_sorted (left_kid us (ref u)) us id_u;
  }
    where
      go : (v : FugueSpan) → Mem v us × (not (is_none (pr_of us v)) && same_opt (pr_of us v) (ref u) ≡ true) → key (ref v) ≡ key (ref u) ++ sl v.id ∷ []
      go v t = hung_l_key key (subst (λ (z : OptId). Hung key (ol v) v.id z)
          (same_opt-true (pr_of us v) (ref u) (and-true (not (is_none (pr_of us v))) (same_opt (pr_of us v) (ref u)) t.1).1) (wf v t.0))

  kids_r : (r : OptId) → Kids key us false (key r) (keep_if (right_kid us r) us)
  unfolding right_kid
  kids_r r = record {
    in_us = λ (v : FugueSpan) (m : Mem v (keep_if (right_kid us r) us)). (keep_if_in (right_kid us r) us v m).0;
    by_key = λ (v : FugueSpan) (m : Mem v (keep_if (right_kid us r) us)). go v (keep_if_in (right_kid us r) us v m);
    order = keep_if_sorted (right_kid us r) us id_u;
  }
    where
      go : (v : FugueSpan) → Mem v us × (is_none (pr_of us v) && same_opt (ol v) r ≡ true) → key (ref v) ≡ key r ++ sr v.id ∷ []
      go v t =
          let b : (is_none (pr_of us v) ≡ true) × (same_opt (ol v) r ≡ true) = and-true (is_none (pr_of us v)) (same_opt (ol v) r) t.1 in
          subst (λ (z : OptId). key (ref v) ≡ key z ++ sr v.id ∷ []) (same_opt-true (ol v) r b.1)
          (hung_r_key key (subst (λ (z : OptId). Hung key (ol v) v.id z) (is_none-true (pr_of us v) b.0) (wf v t.0)))

  -- rising keys, and each unit is one of the siblings s or below one
  abbrev Rises : List FugueSpan → List FugueSpan → Type 0
  Rises s l = Sorted key l × ((w : FugueSpan) → Mem w l → Under key us s w)

  module _ (f : List FugueSpan → List FugueSpan) (ih : (left : Bool) (k : Key) (s : List FugueSpan) → Kids key us left k s → Rises s (f s)) where
    block : FugueSpan → List FugueSpan
    block u = f (keep_if (left_kid us (ref u)) us) ++ (u ∷ f (keep_if (right_kid us (ref u)) us))

    below_left : (u w : FugueSpan) → Mem w (f (keep_if (left_kid us (ref u)) us)) → (p : Step) × (q : Key) × IsL p × (key (ref w) ≡ key (ref u) ++ p ∷ q) × Mem w us
    below_left u w m =
        let d : Under key us (keep_if (left_kid us (ref u)) us) w = (ih true (key (ref u)) (keep_if (left_kid us (ref u)) us) (kids_l u)).1 w m in (
          sl d.top.id,
          d.rest,
          tt,
          d.path ∙ (ap (λ (z : Key). z ++ d.rest) ((kids_l u).by_key d.top d.top_in) ∙ append_assoc (key (ref u)) (sl d.top.id ∷ []) d.rest),
          d.in_u,
        )

    below_right : (u w : FugueSpan) → Mem w (f (keep_if (right_kid us (ref u)) us)) → (p : Step) × (q : Key) × IsR p × (key (ref w) ≡ key (ref u) ++ p ∷ q) × Mem w us
    below_right u w m =
        let d : Under key us (keep_if (right_kid us (ref u)) us) w = (ih false (key (ref u)) (keep_if (right_kid us (ref u)) us) (kids_r (ref u))).1 w m in (
          sr d.top.id,
          d.rest,
          tt,
          d.path ∙ (ap (λ (z : Key). z ++ d.rest) ((kids_r (ref u)).by_key d.top d.top_in) ∙ append_assoc (key (ref u)) (sr d.top.id ∷ []) d.rest),
          d.in_u,
        )

    left_lt : (u w : FugueSpan) → Mem w (f (keep_if (left_kid us (ref u)) us)) → Lt (key (ref w)) (key (ref u))
    left_lt u w m =
        let d : (p : Step) × (q : Key) × IsL p × (key (ref w) ≡ key (ref u) ++ p ∷ q) × Mem w us = below_left u w m in
        subst (λ (z : Key). Lt z (key (ref u))) (sym d.3) (Lt-left (key (ref u)) d.0 d.1 d.2)

    right_lt : (u w : FugueSpan) → Mem w (f (keep_if (right_kid us (ref u)) us)) → Lt (key (ref u)) (key (ref w))
    right_lt u w m =
        let d : (p : Step) × (q : Key) × IsR p × (key (ref w) ≡ key (ref u) ++ p ∷ q) × Mem w us = below_right u w m in
        subst (λ (z : Key). Lt (key (ref u)) z) (sym d.3) (Lt-right (key (ref u)) d.0 d.1 d.2)

    block_sorted : (u : FugueSpan) → Sorted key (f (keep_if (left_kid us (ref u)) us) ++ (u ∷ f (keep_if (right_kid us (ref u)) us)))
    block_sorted u = sorted_app key (f (keep_if (left_kid us (ref u)) us)) (u ∷ f (keep_if (right_kid us (ref u)) us))
        (ih true (key (ref u)) (keep_if (left_kid us (ref u)) us) (kids_l u)).0
        (right_lt u, (ih false (key (ref u)) (keep_if (right_kid us (ref u)) us) (kids_r (ref u))).0)
        (λ (v w : FugueSpan) (mv : Mem v (f (keep_if (left_kid us (ref u)) us))) (mw : Mem w (u ∷ f (keep_if (right_kid us (ref u)) us))). go v w mv (Memᴰ.cases_cons mw))
      where
        go : (v w : FugueSpan) → Mem v (f (keep_if (left_kid us (ref u)) us)) → (w ≡ u) ⊎ Mem w (f (keep_if (right_kid us (ref u)) us)) → Lt (key (ref v)) (key (ref w))
        go v w mv (inl e) = subst (λ (z : FugueSpan). Lt (key (ref v)) (key (ref z))) (sym e) (left_lt u v mv)
        go v w mv (inr m) = Lt-trans (key (ref v)) (key (ref u)) (key (ref w)) (left_lt u v mv) (right_lt u w m)

    block_under : (u : FugueSpan) → Mem u us → (w : FugueSpan) → Mem w (f (keep_if (left_kid us (ref u)) us) ++ (u ∷ f (keep_if (right_kid us (ref u)) us)))
        → (q : Key) × (key (ref w) ≡ key (ref u) ++ q) × Mem w us
    block_under u mu w m = go (Memᴰ.append_cases (f (keep_if (left_kid us (ref u)) us)) m)
      where
        go2 : (w ≡ u) ⊎ Mem w (f (keep_if (right_kid us (ref u)) us)) → (q : Key) × (key (ref w) ≡ key (ref u) ++ q) × Mem w us
        go2 (inl e) = ([], ap (λ (z : FugueSpan). key (ref z)) e ∙ sym (append-nil (key (ref u))), Memᴰ.cast e mu)
        go2 (inr k) = let d : (p : Step) × (q : Key) × IsR p × (key (ref w) ≡ key (ref u) ++ p ∷ q) × Mem w us = below_right u w k in (d.0 ∷ d.1, d.3, d.4)

        go : Mem w (f (keep_if (left_kid us (ref u)) us)) ⊎ Mem w (u ∷ f (keep_if (right_kid us (ref u)) us)) → (q : Key) × (key (ref w) ≡ key (ref u) ++ q) × Mem w us
        go (inl k) = let d : (p : Step) × (q : Key) × IsL p × (key (ref w) ≡ key (ref u) ++ p ∷ q) × Mem w us = below_left u w k in (d.0 ∷ d.1, d.3, d.4)
        go (inr k) = go2 (Memᴰ.cases_cons k)

    each_step : (left : Bool) (k : Key) (u : FugueSpan) (s : List FugueSpan) → Kids key us left k (u ∷ s)
        → (Kids key us left k s → Rises s (walk_each f us s))
        → Rises (u ∷ s) (walk_each f us (u ∷ s))
    unfolding walk_each
    each_step left k u s ks before = (sorted_app key bl (walk_each f us s) (block_sorted u) rec.0 apart, λ (w : FugueSpan) (m : Mem w (bl ++ walk_each f us s)). go w (Memᴰ.append_cases bl m))
      where
        bl : List FugueSpan
        bl = f (keep_if (left_kid us (ref u)) us) ++ (u ∷ f (keep_if (right_kid us (ref u)) us))

        mu : Mem u us
        mu = ks.in_us u (Memᴰ.head refl)

        kt : Kids key us left k s
        kt = record { in_us = λ (v : FugueSpan) (m : Mem v s). ks.in_us v (Memᴰ.tail m); by_key = λ (v : FugueSpan) (m : Mem v s). ks.by_key v (Memᴰ.tail m); order = ks.order.1 }

        rec : Rises s (walk_each f us s)
        rec = before kt

        apart : (v w : FugueSpan) → Mem v bl → Mem w (walk_each f us s) → Lt (key (ref v)) (key (ref w))
        apart v w mv mw =
            let a : (q : Key) × (key (ref v) ≡ key (ref u) ++ q) × Mem v us = block_under u mu v mv in
            let b : Under key us s w = rec.1 w mw in
            subst₂ Lt
            (sym (a.1 ∙ (ap (λ (z : Key). z ++ a.0) (ks.by_key u (Memᴰ.head refl)) ∙ append_assoc k (step_of left u ∷ []) a.0)))
            (sym (b.path ∙ (ap (λ (z : Key). z ++ b.rest) (kt.by_key b.top b.top_in) ∙ append_assoc k (step_of left b.top ∷ []) b.rest)))
            (Lt-prefix k (step_of left u ∷ a.0) (step_of left b.top ∷ b.rest) (inl (lt_step left u b.top (ks.order.0 b.top b.top_in))))

        go : (w : FugueSpan) → Mem w bl ⊎ Mem w (walk_each f us s) → Under key us (u ∷ s) w
        go w (inl m) = let a : (q : Key) × (key (ref w) ≡ key (ref u) ++ q) × Mem w us = block_under u mu w m in
            record { top = u; top_in = Memᴰ.head refl; rest = a.0; path = a.1; in_u = a.2 }
        go w (inr m) = let b : Under key us s w = rec.1 w m in
            record { top = b.top; top_in = Memᴰ.tail b.top_in; rest = b.rest; path = b.path; in_u = b.in_u }

    each : (left : Bool) (k : Key) (s : List FugueSpan) → Kids key us left k s → Rises s (walk_each f us s)
    unfolding walk_each
    each left k [] ks = (tt, λ (w : FugueSpan) (m : Mem w []). absurd (Memᴰ.not-nil m))
    each left k (u ∷ s) ks = each_step left k u s ks (each left k s)

  rises : (d : ℕ) (left : Bool) (k : Key) (s : List FugueSpan) → Kids key us left k s → Rises s (walk_list d us s)
  unfolding walk_list
  rises zero left k s ks = (tt, λ (w : FugueSpan) (m : Mem w []). absurd (Memᴰ.not-nil m))
  rises (suc d) left k s ks = each (walk_list d us) (rises d) left k s ks

  -- reached within d levels from the siblings s
  data Reach : ℕ → List FugueSpan → FugueSpan → Type 0 where
    here : {d : ℕ} {s : List FugueSpan} {w : FugueSpan} → Mem w s → Reach (suc d) s w
    go_l : {d : ℕ} {s : List FugueSpan} {w : FugueSpan} (v : FugueSpan) → Mem v s → Reach d (keep_if (left_kid us (ref v)) us) w → Reach (suc d) s w
    go_r : {d : ℕ} {s : List FugueSpan} {w : FugueSpan} (v : FugueSpan) → Mem v s → Reach d (keep_if (right_kid us (ref v)) us) w → Reach (suc d) s w

  in_block : (f : List FugueSpan → List FugueSpan) (s : List FugueSpan) (v w : FugueSpan) → Mem v s
      → Mem w (f (keep_if (left_kid us (ref v)) us) ++ (v ∷ f (keep_if (right_kid us (ref v)) us))) → Mem w (walk_each f us s)
  unfolding walk_each
  in_block f [] v w m k = absurd (Memᴰ.not-nil m)
  in_block f (u ∷ s) v w m k = go (Memᴰ.cases_cons m) (λ (h : Mem v s). in_block f s v w h k)
    where
      bl : FugueSpan → List FugueSpan
      bl z = f (keep_if (left_kid us (ref z)) us) ++ (z ∷ f (keep_if (right_kid us (ref z)) us))

      go : (v ≡ u) ⊎ Mem v s → (Mem v s → Mem w (walk_each f us s)) → Mem w (bl u ++ walk_each f us s)
      go (inl e) ih = Memᴰ.append_left (walk_each f us s) (subst (λ (z : FugueSpan). Mem w (bl z)) e k)
      go (inr h) ih = Memᴰ.append_right (bl u) (ih h)

  reach_in : {d : ℕ} {s : List FugueSpan} {w : FugueSpan} → Reach d s w → Mem w (walk_list d us s)
  unfolding walk_list
  reach_in {w = w} (here {d = d} {s = s} m) = in_block (walk_list d us) s w w m (Memᴰ.append_right (walk_list d us (keep_if (left_kid us (ref w)) us)) (Memᴰ.head refl))
  reach_in {w = w} (go_l {d = d} {s = s} v m r) = in_block (walk_list d us) s v w m (Memᴰ.append_left (v ∷ walk_list d us (keep_if (right_kid us (ref v)) us)) (reach_in r))
  reach_in {w = w} (go_r {d = d} {s = s} v m r) = in_block (walk_list d us) s v w m (Memᴰ.append_right (walk_list d us (keep_if (left_kid us (ref v)) us)) (Memᴰ.tail (reach_in r)))

  reach_left : {d : ℕ} {s : List FugueSpan} {v : FugueSpan} → Reach d s v → (w : FugueSpan) → Mem w (keep_if (left_kid us (ref v)) us) → Reach (suc d) s w
  reach_left {v = v} (here m) w k = go_l v m (here k)
  reach_left (go_l u m r) w k = go_l u m (reach_left r w k)
  reach_left (go_r u m r) w k = go_r u m (reach_left r w k)

  reach_right : {d : ℕ} {s : List FugueSpan} {v : FugueSpan} → Reach d s v → (w : FugueSpan) → Mem w (keep_if (right_kid us (ref v)) us) → Reach (suc d) s w
  reach_right {v = v} (here m) w k = go_r v m (here k)
  reach_right (go_l u m r) w k = go_l u m (reach_right r w k)
  reach_right (go_r u m r) w k = go_r u m (reach_right r w k)

  reach_more : {d : ℕ} {s : List FugueSpan} {w : FugueSpan} → Reach d s w → Reach (suc d) s w
  reach_more (here m) = here m
  reach_more (go_l u m r) = go_l u m (reach_more r)
  reach_more (go_r u m r) = go_r u m (reach_more r)

  module _ (none_key : key None ≡ []) (ol_in : (u : FugueSpan) → Mem u us → In (ol u) us) (pr_in : (u : FugueSpan) → Mem u us → In (pr_of us u) us) where
    roots : List FugueSpan
    roots = keep_if (right_kid us None) us

    right_kid_lem : (u : FugueSpan) (r : OptId) → Mem u us → pr_of us u ≡ None → ol u ≡ r → Mem u (keep_if (right_kid us r) us)
    unfolding right_kid is_none
    right_kid_lem u r m e d = keep_if_keeps (right_kid us r) us u m (ap₂ (λ (a : OptId) (b : Bool). is_none a && b) e (true-same_opt (ol u) r d))

    left_kid_lem : (u v : FugueSpan) → Mem u us → pr_of us u ≡ ref v → Mem u (keep_if (left_kid us (ref v)) us)
    unfolding left_kid is_none
    left_kid_lem u v m e = keep_if_keeps (left_kid us (ref v)) us u m (ap₂ (λ (a : OptId) (b : Bool). not (is_none a) && b) e (true-same_opt (pr_of us u) (ref v) e))

    reach_step : (n : ℕ) (u : FugueSpan) → Mem u us → length (key (ref u)) ≡ suc n
        → ((w : FugueSpan) → Mem w us → length (key (ref w)) ≡ n → Reach n (keep_if (right_kid us None) us) w) → Reach (suc n) (keep_if (right_kid us None) us) u
    reach_step n u m e ih = go (pr_of us u) refl (pr_in u m) (wf u m)
      where
        at_ol : pr_of us u ≡ None → length (key (ol u)) ≡ n → In (ol u) us → Reach (suc n) (keep_if (right_kid us None) us) u
        at_ol d h (inl f) = here (right_kid_lem u None m d f)
        at_ol d h (inr t) = reach_right (ih t.0 t.1 (ap (λ (z : OptId). length (key z)) t.2 ∙ h)) u (right_kid_lem u (ref t.0) m d (sym t.2))

        at_pr : (a : Id) → pr_of us u ≡ Some a → length (key (Some a)) ≡ n → In (pr_of us u) us → Reach (suc n) (keep_if (right_kid us None) us) u
        at_pr a d h (inl f) = absurd (none≢at (sym f ∙ d))
        at_pr a d h (inr t) = reach_left (ih t.0 t.1 (ap (λ (z : OptId). length (key z)) (t.2 ∙ d) ∙ h)) u (left_kid_lem u t.0 m (sym t.2))

        go : (r : OptId) → pr_of us u ≡ r → In (pr_of us u) us → Hung key (ol u) u.id r → Reach (suc n) (keep_if (right_kid us None) us) u
        go None d i (hung_r k) = at_ol d (let h : length (key (ol u) ++ sr u.id ∷ []) ≡ suc n = ap length (sym k) ∙ e in omega (arith, length-append (key (ol u)) (sr u.id ∷ []))) (ol_in u m)
        go (Some a) d i (hung_l s ms ir al er ek) = at_pr a d (let h : length (key (Some a) ++ sl u.id ∷ []) ≡ suc n = ap length (sym ek) ∙ e in omega (arith, length-append (key (Some a)) (sl u.id ∷ []))) i

    reach : (n : ℕ) (u : FugueSpan) → Mem u us → length (key (ref u)) ≡ n → Reach n (keep_if (right_kid us None) us) u
    reach zero u m e = absurd (no (key (ref u)) refl e)
      where
        no : (k : Key) → key (ref u) ≡ k → length k ≡ 0 → ⊥
        no [] d h = none≢at (ap (last_of None) (sym d) ∙ last_of_lem key (wf u m))
        no (s ∷ k) d h = omega arith
    reach (suc n) u m e = reach_step n u m e (λ (w : FugueSpan) (k : Mem w us) (d : length (key (ref w)) ≡ n). reach n w k d)

    reach_upto : (k d : ℕ) {s : List FugueSpan} {w : FugueSpan} → Reach d s w → Reach (k + d) s w
    reach_upto zero d {s} {w} r = subst (λ (n : ℕ). Reach n s w) (omega arith) r
    reach_upto (suc k) d {s} {w} r = subst (λ (n : ℕ). Reach n s w) (omega arith) (reach_more (reach_upto k d r))

    module _ (deep : (u : FugueSpan) → Mem u us → length (key (ref u)) ≤ length us) where
      pub walk_sorted : Sorted key (walk us)
      unfolding walk
      walk_sorted = (rises (length us) false (key None) (keep_if (right_kid us None) us) (kids_r None)).0

      pub walk_in : (w : FugueSpan) → Mem w (walk us) → Mem w us
      unfolding walk
      walk_in w m = ((rises (length us) false (key None) (keep_if (right_kid us None) us) (kids_r None)).1 w m).in_u

      pub in_walk : (w : FugueSpan) → Mem w us → Mem w (walk us)
      unfolding walk
      in_walk w m = reach_in (subst (λ (n : ℕ). Reach n (keep_if (right_kid us None) us) w) (sub_back (length us) (length (key (ref w))) (deep w m))
          (reach_upto (length us - length (key (ref w))) (length (key (ref w))) (reach (length (key (ref w))) w m refl)))

-- ---- a good list is the walk of its units

module _ (key : OptId → Key) (l us : List FugueSpan) (g : Good key l) (id_u : IdSorted us) (to : (w : FugueSpan) → Mem w l → Mem w us) (from : (w : FugueSpan) → Mem w us → Mem w l) where
  same_has : (r x : OptId) → has_ol l r x ≡ has_ol us r x
  same_has r x = go (has_ol_uniq l r x un) (has_ol_uniq us r x (λ (u w : FugueSpan) (a : Mem u us) (b : Mem w us). un u w (from u a) (from w b)))
    where
      un : (u w : FugueSpan) → Mem u l → Mem w l → ref u ≡ ref w → u ≡ w
      un = sorted_uniq key l g.sorted

      go : Test (has_ol l r x) (Has l r x) → Test (has_ol us r x) (Has us r x) → has_ol l r x ≡ has_ol us r x
      go (pass e t) (pass d s) = e ∙ sym d
      go (pass e t) (fail d n) = absurd (n (t.0, to t.0 t.1, t.2, t.3))
      go (fail e n) (pass d s) = absurd (n (s.0, from s.0 s.1, s.2, s.3))
      go (fail e n) (fail d m) = e ∙ sym d

  same_pr : (v : FugueSpan) → pr_of l v ≡ pr_of us v
  unfolding pr_of parent_right
  same_pr v = ap (λ (b : Bool). cond b (or v) None) (same_has (or v) (ol v))

  In-to : (r : OptId) → In r l → In r us
  In-to r (inl e) = inl e
  In-to r (inr t) = inr (t.0, to t.0 t.1, t.2)

  pr_in_l : (v : FugueSpan) → In (pr_of l v) l
  unfolding pr_of
  pr_in_l v = pr_in_lem key l g.sorted (ol v) (or v)

  -- THE LIST IS THE WALK: a good list is the walk of the tree of its units, from the units alone (us, sorted by id).
  pub good_is_walk : ((u : FugueSpan) → Mem u us → length (key (ref u)) ≤ length us) → l ≡ walk us
  good_is_walk deep = sorted_unique key l (walk us) g.sorted (walk_sorted key us wf_u id_u g.none_key ol_u pr_u deep)
      (λ (w : FugueSpan) (m : Mem w l). in_walk key us wf_u id_u g.none_key ol_u pr_u deep w (to w m))
      (λ (w : FugueSpan) (m : Mem w (walk us)). from w (walk_in key us wf_u id_u g.none_key ol_u pr_u deep w m))
    where
      wf_u : (u : FugueSpan) → Mem u us → Hung key (ol u) u.id (pr_of us u)
      wf_u u m = subst (λ (z : OptId). Hung key (ol u) u.id z) (same_pr u) (g.wf u (from u m))

      ol_u : (u : FugueSpan) → Mem u us → In (ol u) us
      ol_u u m = In-to (ol u) (g.ol_in u (from u m))

      pr_u : (u : FugueSpan) → Mem u us → In (pr_of us u) us
      pr_u u m = subst (λ (z : OptId). In z us) (same_pr u) (In-to (pr_of l u) (pr_in_l u))
