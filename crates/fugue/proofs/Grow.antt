-- A good list with one more unit, at a place where the keys rise, is good (L3.2).
use mathlib.Core.Path.{◌≡◌, refl, sym, ap, subst, ◌∙◌}
use mathlib.Core.Logic.{◌⊎◌, inl, inr}
use mathlib.Core.Bool.{Bool, cond}
use mathlib.Core.List.Memᴰ
use mathlib.Core.List.{List, [], ◌∷◌, ◌++◌, append_assoc}
use Rattle.std.specs.Prelude.{None}
use Rattle.span.specs.Maybe.{OptId}
use Rattle.span.specs.declared.span.FugueSpan.{FugueSpan}
use Rattle.span.specs.Ids.{same_opt}
use Rattle.units.specs.Place.{has_ol, parent_right}
use Rattle.fugue.specs.Tree.{ref, ol, or, pr_of}
use Rattle.fugue.proofs.Order.{Tri, tlt, teq, tgt}
use Rattle.fugue.proofs.Keys.{Key, Step, IsR, Lt, Lt-irrefl, Lt-trans, Lt-asym, tri, LR-no}
use Rattle.fugue.proofs.Hang.{Hung, Below, below, F2, after_ol, last_of_lem, last_of, none≢at}
use Rattle.fugue.proofs.ScanPlace.{Mem, Sorted, sorted_front, sorted_back}
use Rattle.fugue.proofs.Tests.{Test, pass, fail, same_opt_test}
use Rattle.fugue.proofs.Insert.{In, Good}

-- membership in A ++ m ∷ B
pub data Mid (w : FugueSpan) (A : List FugueSpan) (m : FugueSpan) (B : List FugueSpan) : Type 0 where
  in_a : Mem w A → Mid w A m B
  is_m : w ≡ m → Mid w A m B
  in_b : Mem w B → Mid w A m B

pub mid : (A : List FugueSpan) {m : FugueSpan} {B : List FugueSpan} {w : FugueSpan} → Mem w (A ++ m ∷ B) → Mid w A m B
mid A {m} {B} {w} h = go (Memᴰ.append_cases A h)
  where
    go2 : (w ≡ m) ⊎ Mem w B → Mid w A m B
    go2 (inl e) = is_m e
    go2 (inr k) = in_b k

    go : Mem w A ⊎ Mem w (m ∷ B) → Mid w A m B
    go (inl k) = in_a k
    go (inr k) = go2 (Memᴰ.cases_cons k)

pub widen : (A : List FugueSpan) (m : FugueSpan) (B : List FugueSpan) (w : FugueSpan) → Mem w (A ++ B) → Mem w (A ++ m ∷ B)
widen A m B w h = go (Memᴰ.append_cases A h)
  where
    go : Mem w A ⊎ Mem w B → Mem w (A ++ m ∷ B)
    go (inl k) = Memᴰ.append_left (m ∷ B) k
    go (inr k) = Memᴰ.append_right A (Memᴰ.tail k)

pub In-widen : (A : List FugueSpan) (m : FugueSpan) (B : List FugueSpan) (r : OptId) → In r (A ++ B) → In r (A ++ m ∷ B)
In-widen A m B r (inl e) = inl e
In-widen A m B r (inr t) = inr (t.0, widen A m B t.0 t.1, t.2)

pub sorted_put : (key : OptId → Key) (A : List FugueSpan) (m : FugueSpan) (B : List FugueSpan) → Sorted key (A ++ B)
    → ((w : FugueSpan) → Mem w A → Lt (key (ref w)) (key (ref m))) → ((w : FugueSpan) → Mem w B → Lt (key (ref m)) (key (ref w))) → Sorted key (A ++ m ∷ B)
sorted_put key [] m B s lo hi = (hi, s)
sorted_put key (v ∷ A) m B s lo hi = (
  λ (w : FugueSpan) (h : Mem w (A ++ m ∷ B)). go w (mid A h),
  sorted_put key A m B s.1 (λ (w : FugueSpan) (h : Mem w A). lo w (Memᴰ.tail h)) hi,
)
  where
    go : (w : FugueSpan) → Mid w A m B → Lt (key (ref v)) (key (ref w))
    go w (in_a k) = s.0 w (Memᴰ.append_left B k)
    go w (is_m e) = subst (λ (z : FugueSpan). Lt (key (ref v)) (key (ref z))) (sym e) (lo v (Memᴰ.head refl))
    go w (in_b k) = s.0 w (Memᴰ.append_right A k)

pub has_ol_put : (A B : List FugueSpan) (m : FugueSpan) (r x : OptId) → ¬ (r ≡ ref m) → has_ol (A ++ m ∷ B) r x ≡ has_ol (A ++ B) r x
unfolding has_ol
has_ol_put [] B m r x n = go (same_opt_test r (ref m))
  where
    go : Test (same_opt r (ref m)) (r ≡ ref m) → cond (same_opt r (ref m)) (same_opt (ol m) x) (has_ol B r x) ≡ has_ol B r x
    go (pass e h) = absurd (n h)
    go (fail e h) = ap (λ (b : Bool). cond b (same_opt (ol m) x) (has_ol B r x)) e
has_ol_put (v ∷ A) B m r x n = ap (λ (b : Bool). cond (same_opt r (ref v)) (same_opt (ol v) x) b) (has_ol_put A B m r x n)

rooted_app : (k : Key) (s : Step) (ls : Key) → IsR s → (Lt k [] → ⊥) → Lt (k ++ s ∷ ls) [] → ⊥
rooted_app [] s ls ir n h = LR-no s h ir
rooted_app (t ∷ k) s ls ir n h = n h

module _ (key : OptId → Key) where
  -- Nothing or in the list: not before the root
  pub In-rooted : (l : List FugueSpan) → Good key l → (x : OptId) → In x l → Lt (key x) [] → ⊥
  In-rooted l g x (inl e) h = subst (λ (k : Key). Lt k []) (ap key e ∙ g.none_key) h
  In-rooted l g x (inr t) h = g.rooted t.0 t.1 (subst (λ (z : OptId). Lt (key z) []) (sym t.2) h)

  pub In-id : (l : List FugueSpan) → Good key l → (x : OptId) → In x l → last_of None (key x) ≡ x
  In-id l g x (inl e) = ap (λ (z : OptId). last_of None (key z)) e ∙ (ap (last_of None) g.none_key ∙ sym e)
  In-id l g x (inr t) = subst (λ (z : OptId). last_of None (key z) ≡ z) t.2 (last_of_lem key (g.wf t.0 t.1))

  module _ (A B : List FugueSpan) (g : Good key (A ++ B)) (m : FugueSpan)
      (hung : Hung key (ol m) m.id (pr_of (A ++ B) m)) (iol : In (ol m) (A ++ B)) (ior : In (or m) (A ++ B))
      (fresh : (w : FugueSpan) → Mem w (A ++ B) → ref w ≡ ref m → ⊥)
      (lo : (w : FugueSpan) → Mem w A → Lt (key (ref w)) (key (ref m))) (hi : (w : FugueSpan) → Mem w B → Lt (key (ref m)) (key (ref w))) where
    not_new : (r : OptId) → In r (A ++ B) → ¬ (r ≡ ref m)
    not_new r (inl e) d = none≢at (sym e ∙ d)
    not_new r (inr t) d = fresh t.0 t.1 (t.2 ∙ d)

    same_pr : (v : FugueSpan) → In (or v) (A ++ B) → pr_of (A ++ B) v ≡ pr_of (A ++ m ∷ B) v
    unfolding pr_of parent_right
    same_pr v i = ap (λ (b : Bool). cond b (or v) None) (sym (has_ol_put A B m (or v) (ol v) (not_new (or v) i)))

    old : (v : FugueSpan) → Mid v A m B → Mem v (A ++ B) ⊎ (v ≡ m)
    old v (in_a k) = inl (Memᴰ.append_left B k)
    old v (is_m e) = inr e
    old v (in_b k) = inl (Memᴰ.append_right A k)

    old_or : (v : FugueSpan) → Mem v (A ++ m ∷ B) → Mem v (A ++ B) ⊎ (v ≡ m)
    old_or v k = old v (mid A k)

    wf' : (v : FugueSpan) → Mem v (A ++ B) ⊎ (v ≡ m) → Hung key (ol v) v.id (pr_of (A ++ m ∷ B) v)
    wf' v (inl k) = subst (λ (z : OptId). Hung key (ol v) v.id z) (same_pr v (g.or_in v k)) (g.wf v k)
    wf' v (inr e) = subst (λ (u : FugueSpan). Hung key (ol u) u.id (pr_of (A ++ m ∷ B) u)) (sym e)
        (subst (λ (z : OptId). Hung key (ol m) m.id z) (same_pr m ior) hung)

    ol' : (v : FugueSpan) → Mem v (A ++ B) ⊎ (v ≡ m) → In (ol v) (A ++ m ∷ B)
    ol' v (inl k) = In-widen A m B (ol v) (g.ol_in v k)
    ol' v (inr e) = subst (λ (u : FugueSpan). In (ol u) (A ++ m ∷ B)) (sym e) (In-widen A m B (ol m) iol)

    or' : (v : FugueSpan) → Mem v (A ++ B) ⊎ (v ≡ m) → In (or v) (A ++ m ∷ B)
    or' v (inl k) = In-widen A m B (or v) (g.or_in v k)
    or' v (inr e) = subst (λ (u : FugueSpan). In (or u) (A ++ m ∷ B)) (sym e) (In-widen A m B (or m) ior)

    rooted_m : Lt (key (ref m)) [] → ⊥
    rooted_m h =
        let b : Below key (ol m) m.id = below key hung in
        rooted_app (key (ol m)) b.s b.ls b.right (In-rooted (A ++ B) g (ol m) iol) (subst (λ (k : Key). Lt k []) b.shape h)

    rooted' : (v : FugueSpan) → Mem v (A ++ B) ⊎ (v ≡ m) → Lt (key (ref v)) [] → ⊥
    rooted' v (inl k) h = g.rooted v k h
    rooted' v (inr e) h = rooted_m (subst (λ (u : FugueSpan). Lt (key (ref u)) []) e h)

    pub add_good : Good key (A ++ m ∷ B)
    add_good = record {
      none_key = g.none_key;
      sorted = sorted_put key A m B g.sorted lo hi;
      wf = λ (v : FugueSpan) (k : Mem v (A ++ m ∷ B)). wf' v (old_or v k);
      ol_in = λ (v : FugueSpan) (k : Mem v (A ++ m ∷ B)). ol' v (old_or v k);
      or_in = λ (v : FugueSpan) (k : Mem v (A ++ m ∷ B)). or' v (old_or v k);
      rooted = λ (v : FugueSpan) (k : Mem v (A ++ m ∷ B)). rooted' v (old_or v k);
    }

-- A unit that comes next in a span: right behind the unit before it, to which no unit's origin left points yet.
module _ (key : OptId → Key) (A B : List FugueSpan) (u : FugueSpan) (g : Good key (A ++ u ∷ B)) (m : FugueSpan) (hung : Hung key (ref u) m.id None)
    (last : (w : FugueSpan) → Mem w (A ++ u ∷ B) → ol w ≡ ref u → ⊥)
    (fresh : (w : FugueSpan) → Mem w (A ++ u ∷ B) → ref w ≡ ref m → ⊥) where
  in_u : Mem u (A ++ u ∷ B)
  in_u = Memᴰ.append_right A (Memᴰ.head refl)

  -- the first unit behind u is after m
  next_first : (w : FugueSpan) (C : List FugueSpan) → B ≡ w ∷ C → Lt (key (ref m)) (key (ref w))
  next_first w C e = go (tri (key (ref m)) (key (ref w)))
    where
      in_bw : (v : FugueSpan) → Mem v (w ∷ C) → Mem v (A ++ u ∷ B)
      in_bw v k = Memᴰ.append_right A (Memᴰ.tail (subst (λ (z : List FugueSpan). Mem v z) (sym e) k))

      in_w : Mem w (A ++ u ∷ B)
      in_w = in_bw w (Memᴰ.head refl)

      uw : Lt (key (ref u)) (key (ref w))
      uw = sorted_back key A u B g.sorted w (subst (λ (z : List FugueSpan). Mem w z) (sym e) (Memᴰ.head refl))

      srt : Sorted key ((A ++ u ∷ []) ++ w ∷ C)
      srt = subst (λ (z : List FugueSpan). Sorted key z) (ap (λ (z : List FugueSpan). A ++ u ∷ z) e ∙ sym (append_assoc A (u ∷ []) (w ∷ C))) g.sorted

      behind3 : (v : FugueSpan) → Lt (key (ref v)) (key (ref w)) → (v ≡ w) ⊎ Mem v C → ⊥
      behind3 v k (inl d) = Lt-irrefl (key (ref w)) (subst (λ (z : FugueSpan). Lt (key (ref z)) (key (ref w))) d k)
      behind3 v k (inr d) = Lt-asym (key (ref v)) (key (ref w)) k (sorted_back key (A ++ u ∷ []) w C srt v d)

      behind2 : (v : FugueSpan) → Lt (key (ref u)) (key (ref v)) → Lt (key (ref v)) (key (ref w)) → Mid v A u B → ⊥
      behind2 v h k (in_a d) = Lt-asym (key (ref u)) (key (ref v)) h (sorted_front key A u B g.sorted v d)
      behind2 v h k (is_m d) = Lt-irrefl (key (ref u)) (subst (λ (z : FugueSpan). Lt (key (ref u)) (key (ref z))) d h)
      behind2 v h k (in_b d) = behind3 v k (Memᴰ.cases_cons (subst (λ (z : List FugueSpan). Mem v z) e d))

      at_ol : Lt (key (ref u)) (key (ol w)) → In (ol w) (A ++ u ∷ B) → ⊥
      at_ol k (inl d) = g.rooted u in_u (subst (λ (z : Key). Lt (key (ref u)) z) (ap key d ∙ g.none_key) k)
      at_ol k (inr t) = behind2 t.0 (subst (λ (z : OptId). Lt (key (ref u)) (key z)) (sym t.2) k)
          (subst (λ (z : OptId). Lt (key z) (key (ref w))) (sym t.2) (after_ol key (g.wf w in_w))) (mid A t.1)

      go2 : (key (ref u) ≡ key (ol w)) ⊎ Lt (key (ref u)) (key (ol w)) → ⊥
      go2 (inl d) = last w in_w (sym (In-id key (A ++ u ∷ B) g (ol w) (g.ol_in w in_w)) ∙ (ap (last_of None) (sym d) ∙ last_of_lem key (g.wf u in_u)))
      go2 (inr k) = at_ol k (g.ol_in w in_w)

      go : Tri (Lt (key (ref m)) (key (ref w))) (key (ref m) ≡ key (ref w)) (Lt (key (ref w)) (key (ref m))) → Lt (key (ref m)) (key (ref w))
      go (tlt k) = k
      go (teq d) = absurd (fresh w in_w (sym (last_of_lem key (g.wf w in_w)) ∙ (ap (last_of None) (sym d) ∙ last_of_lem key hung)))
      go (tgt k) = absurd (go2 (F2 key hung (g.wf w in_w) uw k))

  pub next_hi : (w : FugueSpan) → Mem w B → Lt (key (ref m)) (key (ref w))
  next_hi w k = go B refl k
    where
      go : (C : List FugueSpan) → B ≡ C → Mem w C → Lt (key (ref m)) (key (ref w))
      go [] e h = absurd (Memᴰ.not-nil h)
      go (v ∷ C) e h = go2 (Memᴰ.cases_cons h)
        where
          first : Lt (key (ref m)) (key (ref v))
          first = next_first v C e

          srt : Sorted key ((A ++ u ∷ []) ++ v ∷ C)
          srt = subst (λ (z : List FugueSpan). Sorted key z) (ap (λ (z : List FugueSpan). A ++ u ∷ z) e ∙ sym (append_assoc A (u ∷ []) (v ∷ C))) g.sorted

          go2 : (w ≡ v) ⊎ Mem w C → Lt (key (ref m)) (key (ref w))
          go2 (inl d) = subst (λ (z : FugueSpan). Lt (key (ref m)) (key (ref z))) (sym d) first
          go2 (inr d) = Lt-trans (key (ref m)) (key (ref v)) (key (ref w)) first (sorted_back key (A ++ u ∷ []) v C srt w d)
