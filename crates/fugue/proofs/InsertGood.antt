-- The insert theorem (Theorem 5'): the rope's insert of a span of units takes a good list to a good list. The first unit goes where the scan
-- says, each later one right behind the one before it.
use Prim.Native.Nat.{ℕ, zero, suc, ◌+◌, ◌-◌, ◌<◌, ◌≤◌}
use mathlib.Core.Path.{◌≡◌, refl, sym, ap, ap₂, subst, ◌∙◌}
use mathlib.Core.Logic.{◌⊎◌, inl, inr}
use mathlib.Core.Bool.{Bool, false, cond}
use mathlib.Core.List.Memᴰ
use mathlib.Core.List.{List, [], ◌∷◌, ◌++◌, append_assoc}
use native.Mathlib.Omega.{arith}
use Rattle.std.specs.Prelude.{None, Some}
use Rattle.span.specs.declared.ids.Id.{Id}
use Rattle.span.specs.Maybe.{OptId}
use Rattle.span.specs.declared.span.FugueSpan.{FugueSpan}
use Rattle.span.specs.Ids.{inc_id}
use Rattle.span.proofs.IdsLaws.{inc_zero}
use Rattle.span.specs.Span.{len_span, shift, left_of}
use Rattle.span.specs.Units.{tab, unit_at, units_of}
use Rattle.units.specs.Place.{has_ol, parent_right, first_past, front, behind, last_id, put_at, scan_place, with_origins, origin_left, origin_right, insert_units}
use Rattle.fugue.specs.Tree.{ref, ol, or, pr_of}
use Rattle.fugue.proofs.Order.{Older, older_no, inc_older, older_inc}
use Rattle.fugue.proofs.Keys.{Key, Lt, Lt-trans}
use Rattle.fugue.proofs.Hang.{Hung, after_ol, none≢at}
use Rattle.fugue.proofs.ScanPlace.{Mem, Sorted, sorted_front}
use Rattle.fugue.proofs.Tests.{Test, pass, fail, has_ol_test}
use Rattle.fugue.proofs.Insert.{In, Good}
use Rattle.fugue.proofs.Grow.{Mid, in_a, is_m, in_b, mid, In-widen, add_good, next_hi}
use Rattle.fugue.proofs.Cursor.{front-behind, Ends, ends, Past, past, put_at_seam}
use Rattle.fugue.proofs.Range.{Placed, placed, x_in}

-- no unit has m's origin left: so m has no parent right
no_ol_no_pr : (key : OptId → Key) (l : List FugueSpan) → Sorted key l → (m : FugueSpan) → ((w : FugueSpan) → Mem w l → ol w ≡ ol m → ⊥) → pr_of l m ≡ None
unfolding pr_of parent_right
no_ol_no_pr key l s m n = go (has_ol_test key l (or m) (ol m) s)
  where
    go : Test (has_ol l (or m) (ol m)) ((w : FugueSpan) × Mem w l × (ref w ≡ or m) × (ol w ≡ ol m)) → cond (has_ol l (or m) (ol m)) (or m) None ≡ None
    go (pass e t) = absurd (n t.0 t.1 t.3)
    go (fail e t) = ap (λ (b : Bool). cond b (or m) None) e

old : {A B : List FugueSpan} {m w : FugueSpan} → Mid w A m B → Mem w (A ++ B) ⊎ (w ≡ m)
old {A} {B} (in_a k) = inl (Memᴰ.append_left B k)
old {A} {B} (is_m d) = inr d
old {A} {B} (in_b k) = inl (Memᴰ.append_right A k)

-- y is the span with its origins
module _ (key : OptId → Key) (y : FugueSpan) where
  -- the units k + 1 .. k + n of a span behind its unit k
  chain : (n k : ℕ) (A B : List FugueSpan) → Good key (A ++ unit_at y k ∷ B) → In (or y) (A ++ unit_at y k ∷ B)
      → ((w : FugueSpan) → Mem w (A ++ unit_at y k ∷ B) → ol w ≡ ref (unit_at y k) → ⊥)
      → ((w : FugueSpan) → Mem w (A ++ unit_at y k ∷ B) → Older w.id (inc_id y.id (suc k)))
      → ((j : ℕ) → k ≤ j → j < k + n → Hung key (Some (inc_id y.id j)) (inc_id y.id (suc j)) None)
      → Good key (A ++ unit_at y k ∷ (tab (unit_at y) (suc k) n ++ B))
  unfolding tab shift left_of
  chain zero k A B g io last newest hungs = g
  chain (suc n) k A B g io last newest hungs =
      subst (λ (z : List FugueSpan). Good key z) (append_assoc A (u ∷ []) (m ∷ (tab (unit_at y) (suc (suc k)) n ++ B)))
      (chain n (suc k) (A ++ u ∷ []) B g2 (In-widen (A ++ u ∷ []) m B (or y) io1) last2 newest2 (λ (j : ℕ) (h : suc k ≤ j) (i : j < suc k + n). hungs j (omega arith) (omega arith)))
    where
      u : FugueSpan
      u = unit_at y k

      m : FugueSpan
      m = unit_at y (suc k)

      e : A ++ u ∷ B ≡ (A ++ u ∷ []) ++ B
      e = sym (append_assoc A (u ∷ []) B)

      g1 : Good key ((A ++ u ∷ []) ++ B)
      g1 = subst (λ (z : List FugueSpan). Good key z) e g

      in_old : (w : FugueSpan) → Mem w ((A ++ u ∷ []) ++ B) → Mem w (A ++ u ∷ B)
      in_old w h = subst (λ (z : List FugueSpan). Mem w z) (sym e) h

      io1 : In (or y) ((A ++ u ∷ []) ++ B)
      io1 = subst (λ (z : List FugueSpan). In (or y) z) e io

      hung : Hung key (ref u) m.id None
      hung = hungs k (omega arith) (omega arith)

      no_pr : pr_of ((A ++ u ∷ []) ++ B) m ≡ None
      no_pr = no_ol_no_pr key ((A ++ u ∷ []) ++ B) g1.sorted m (λ (w : FugueSpan) (h : Mem w ((A ++ u ∷ []) ++ B)) (d : ol w ≡ ref u). last w (in_old w h) d)

      fresh : (w : FugueSpan) → Mem w (A ++ u ∷ B) → ref w ≡ ref m → ⊥
      fresh w h d = older_no w.id m.id (newest w h) (let f : w.id ≡ m.id = cc in f)

      um : Lt (key (ref u)) (key (ref m))
      um = after_ol key hung

      lo : (w : FugueSpan) → Mem w A ⊎ Mem w (u ∷ []) → Lt (key (ref w)) (key (ref m))
      lo w (inl h) = Lt-trans (key (ref w)) (key (ref u)) (key (ref m)) (sorted_front key A u B g.sorted w h) um
      lo w (inr h) = subst (λ (z : FugueSpan). Lt (key (ref z)) (key (ref m))) (sym (Memᴰ.eq_of_singleton h)) um

      iu : In (ref u) ((A ++ u ∷ []) ++ B)
      iu = subst (λ (z : List FugueSpan). In (ref u) z) e (inr (u, Memᴰ.append_right A (Memᴰ.head refl), refl))

      g2 : Good key ((A ++ u ∷ []) ++ m ∷ B)
      g2 = add_good key (A ++ u ∷ []) B g1 m (subst (λ (z : OptId). Hung key (ref u) m.id z) (sym no_pr) hung) iu io1
          (λ (w : FugueSpan) (h : Mem w ((A ++ u ∷ []) ++ B)). fresh w (in_old w h))
          (λ (w : FugueSpan) (h : Mem w (A ++ u ∷ [])). lo w (Memᴰ.append_cases A h))
          (next_hi key A B u g m hung last fresh)

      ol_not : (r : OptId) → r ≡ ref m → In r (A ++ u ∷ B) → ⊥
      ol_not r d (inl f) = none≢at (sym f ∙ d)
      ol_not r d (inr t) = fresh t.0 t.1 (t.2 ∙ d)

      last3 : (w : FugueSpan) → ol w ≡ ref m → Mem w ((A ++ u ∷ []) ++ B) ⊎ (w ≡ m) → ⊥
      last3 w d (inl h) = ol_not (ol w) d (g.ol_in w (in_old w h))
      last3 w d (inr h) =
          let f : Some (inc_id y.id k) ≡ Some (inc_id y.id (suc k)) = ap ol (sym h) ∙ d in
          older_no (inc_id y.id k) (inc_id y.id (suc k)) (inc_older y.id k) (let z : inc_id y.id k ≡ inc_id y.id (suc k) = cc in z)

      last2 : (w : FugueSpan) → Mem w ((A ++ u ∷ []) ++ m ∷ B) → ol w ≡ ref m → ⊥
      last2 w h d = last3 w d (old (mid (A ++ u ∷ []) h))

      newest3 : (w : FugueSpan) → Mem w ((A ++ u ∷ []) ++ B) ⊎ (w ≡ m) → Older w.id (inc_id y.id (suc (suc k)))
      newest3 w (inl h) = older_inc w.id y.id (suc k) (newest w (in_old w h))
      newest3 w (inr h) = subst (λ (z : FugueSpan). Older z.id (inc_id y.id (suc (suc k)))) (sym h) (inc_older y.id (suc k))

      newest2 : (w : FugueSpan) → Mem w ((A ++ u ∷ []) ++ m ∷ B) → Older w.id (inc_id y.id (suc (suc k)))
      newest2 w h = newest3 w (old (mid (A ++ u ∷ []) h))

-- A good list, its statuses closed under origin left; a span whose first id is past all of its peer's, with keys that hang as the computed
-- origins say. Then the rope's insert leaves a good list.
module _ (key : OptId → Key) (l : List FugueSpan) (g : Good key l) (pos : ℕ) (s : FugueSpan)
    (past-closed : (v : FugueSpan) → Mem v l → v.status.future ≡ false → (ol v ≡ None) ⊎ ((w : FugueSpan) × Mem w l × (ref w ≡ ol v) × (w.status.future ≡ false)))
    (newest : (w : FugueSpan) → Mem w l → Older w.id s.id)
    (hung : Hung key (origin_left pos l) s.id (parent_right l (origin_left pos l) (origin_right pos l)))
    (hungs : (j : ℕ) → suc j < len_span s → Hung key (Some (inc_id s.id j)) (inc_id s.id (suc j)) None) where
  -- over the two parts of the list
  parts : (n : ℕ) → len_span s ≡ suc n → (F R : List FugueSpan) → F ++ R ≡ l → (x o : OptId) → Ends None F x → Past R o → Hung key x (inc_id s.id 0) (parent_right l x o)
      → Good key (F ++ put_at (scan_place l R x o s.id.peer) (units_of (with_origins s x o)) R)
  unfolding tab units_of with_origins shift left_of inc_id pr_of
  parts n len F R e x o ex pa hu = subst (λ (z : List FugueSpan). Good key z) (sym shape) spanned
    where
      y : FugueSpan
      y = with_origins s x o

      m : FugueSpan
      m = unit_at y 0

      g_f : Good key (F ++ R)
      g_f = subst (λ (z : List FugueSpan). Good key z) (sym e) g

      pc : (v : FugueSpan) → Mem v (F ++ R) → v.status.future ≡ false → (ol v ≡ None) ⊎ ((w : FugueSpan) × Mem w (F ++ R) × (ref w ≡ ol v) × (w.status.future ≡ false))
      pc = subst (λ (z : List FugueSpan). (v : FugueSpan) → Mem v z → v.status.future ≡ false → (ol v ≡ None) ⊎ ((w : FugueSpan) × Mem w z × (ref w ≡ ol v) × (w.status.future ≡ false))) (sym e) past-closed

      nw : (w : FugueSpan) → Mem w (F ++ R) → Older w.id m.id
      nw w k = subst (λ (z : Id). Older w.id z) (sym (inc_zero s.id)) (newest w (subst (λ (z : List FugueSpan). Mem w z) e k))

      h_f : Hung key x m.id (parent_right (F ++ R) x o)
      h_f = subst (λ (z : List FugueSpan). Hung key x m.id (parent_right z x o)) (sym e) hu

      pl : Placed key F R g_f x ex m.id pc nw o h_f
      pl = placed key F R g_f x ex m.id pc nw o h_f pa

      A : List FugueSpan
      A = F ++ pl.before

      B : List FugueSpan
      B = pl.behind

      split : F ++ R ≡ A ++ B
      split = ap (λ (z : List FugueSpan). F ++ z) pl.cut ∙ sym (append_assoc F pl.before B)

      g_a : Good key (A ++ B)
      g_a = subst (λ (z : List FugueSpan). Good key z) split g_f

      in_a' : (w : FugueSpan) → Mem w (A ++ B) → Mem w (F ++ R)
      in_a' w k = subst (λ (z : List FugueSpan). Mem w z) (sym split) k

      fresh : (w : FugueSpan) → Mem w (A ++ B) → ref w ≡ ref m → ⊥
      fresh w k d = older_no w.id m.id (nw w (in_a' w k)) (let f : w.id ≡ m.id = cc in f)

      h_m : Hung key x m.id (pr_of (A ++ B) m)
      h_m = subst (λ (z : List FugueSpan). Hung key x m.id (parent_right z x o)) split h_f

      ix : In x (A ++ B)
      ix = subst (λ (z : List FugueSpan). In x z) split (x_in key F R g_f x ex m.id pc nw)

      io : In o (A ++ B)
      io = subst (λ (z : List FugueSpan). In o z) split pl.or_in

      one : Good key (A ++ m ∷ B)
      one = add_good key A B g_a m h_m ix io fresh pl.lo pl.hi

      ol_not : (r : OptId) → r ≡ ref m → In r (A ++ B) → ⊥
      ol_not r d (inl f) = none≢at (sym f ∙ d)
      ol_not r d (inr t) = fresh t.0 t.1 (t.2 ∙ d)

      last : (w : FugueSpan) → ol w ≡ ref m → Mem w (A ++ B) ⊎ (w ≡ m) → ⊥
      last w d (inl k) = ol_not (ol w) d (g_a.ol_in w k)
      last w d (inr k) = ol_not x (ap ol (sym k) ∙ d) ix

      newer : (w : FugueSpan) → Mem w (A ++ B) ⊎ (w ≡ m) → Older w.id (inc_id s.id 1)
      newer w (inl k) = older_inc w.id s.id 0 (nw w (in_a' w k))
      newer w (inr k) = subst (λ (z : FugueSpan). Older z.id (inc_id s.id 1)) (sym k) (inc_older s.id 0)

      spanned : Good key (A ++ m ∷ (tab (unit_at y) 1 n ++ B))
      spanned = chain key y n 0 A B one (In-widen A m B o io)
          (λ (w : FugueSpan) (k : Mem w (A ++ m ∷ B)) (d : ol w ≡ ref m). last w d (old (mid A k)))
          (λ (w : FugueSpan) (k : Mem w (A ++ m ∷ B)). newer w (old (mid A k)))
          (λ (j : ℕ) (h : 0 ≤ j) (k : j < 0 + n). hungs j (omega arith))

      units : tab (unit_at y) 0 (len_span s) ≡ m ∷ tab (unit_at y) 1 n
      units = ap (tab (unit_at y) 0) len

      new : List FugueSpan
      new = tab (unit_at y) 0 (len_span s)

      shape : F ++ put_at (scan_place l R x o s.id.peer) new R ≡ A ++ m ∷ (tab (unit_at y) 1 n ++ B)
      shape = ap (λ (z : List FugueSpan). F ++ z)
          (ap (λ (z : List FugueSpan). put_at (scan_place z R x o s.id.peer) new R) (sym e) ∙ (ap₂ (λ (i : ℕ) (z : List FugueSpan). put_at i new z) pl.at_cut pl.cut ∙ put_at_seam pl.before new B))
          ∙ (sym (append_assoc F pl.before (new ++ B)) ∙ ap (λ (z : List FugueSpan). A ++ (z ++ B)) units)

  pub insert_good : 0 < len_span s → Good key (insert_units pos s l)
  unfolding insert_units origin_left origin_right
  insert_good some = parts (len_span s - 1) (omega arith) (front l pos) (behind l pos) (front-behind l pos) (last_id None (front l pos)) (first_past (behind l pos))
      (ends None (front l pos)) (past (behind l pos)) (subst (λ (z : Id). Hung key (origin_left pos l) z (parent_right l (origin_left pos l) (origin_right pos l))) (sym (inc_zero s.id)) hung)
