-- Two histories, the first's edits among the second's: whatever version the first holds, they show the same units in it (Theorem 8b). The induction is along
-- the first history's own order.
use Prim.Native.Nat.{ℕ, zero, suc, ◌+◌, ◌<◌, ◌≤◌}
use mathlib.Core.Path.{◌≡◌, refl, sym, ap, ap₂, subst, subst₂, ◌∙◌}
use mathlib.Core.Logic.{◌⊎◌, inl, inr}
use mathlib.Core.Bool.{Bool, true, false, ◌&&◌, cond, and-eq-true_iff}
use mathlib.Core.List.Memᴰ
use mathlib.Core.List.{List, [], ◌∷◌, map}
use native.Mathlib.Omega.{arith}
use native.Mathlib.Decide.{dec_lt}
use Rattle.std.specs.Prelude.{None, Some}
use Rattle.span.specs.declared.ids.Id.{Id}
use Rattle.span.specs.Maybe.{OptId}
use Rattle.span.specs.declared.span.FugueSpan.{FugueSpan}
use Rattle.span.specs.Ids.{UNKNOWN_PEER, inc_id}
use Rattle.span.specs.Units as Units
use Rattle.units.specs.Place.{has_ol, parent_right, origin_left, origin_right}
use Rattle.fugue.specs.Tree.{ref, ol, or, pr_of}
use Rattle.fugue.proofs.Keys.{Key}
use Rattle.fugue.proofs.Hang.{Hung, none≢at}
use Rattle.fugue.proofs.ScanPlace.{Mem}
use Rattle.fugue.proofs.Tests.{Test, pass, fail, has_ol_test}
use Rattle.fugue.proofs.Insert.{In}
use Rattle.fugue.proofs.Past.{not_future, origin_left_in}
use Rattle.fugue.proofs.Alike.{Same, sorted_key}
use Rattle.fugue.proofs.Rising.{keep_if_keeps, sorted_unique, sorted_uniq}
use Rattle.fugue.proofs.Counting.{count_same}
use Rattle.fugue.proofs.Clocks.{cnt, Fits, Causal, in_range_lem, disjoint, Covers, cover}
use Rattle.history.specs.Edit.{Version, Insert, Edit, size_of, Held, History}
use Rattle.history.specs.Version.{number, below}
use Rattle.history.specs.Checkout.{in_ranges, deletes_in}
use Rattle.history.specs.Arrive.{act_took}
use Rattle.history.proofs.Plain.{plain, plain_same, view, view_same, view-plain, sees}
use Rattle.history.proofs.Context.{count, clock, Known, before, known_or, holds_known, count_known, before_known, before_unknown, Natural, natural_inc, below-lt}
use Rattle.history.proofs.Run.{MemE, MemH, num, first, span_of, Made, made_id, made_first, made_later, made_right, made_peer, made_num, made_small, Run, inside-at, seen_from}
use Rattle.history.proofs.Seen.{sorted_sees, origin_right_in, at_id, hung_same, deletes_count, cnt_other, made_by, took_by}

module _ (n : ℕ) (done1 done2 : List Edit) (h1 h2 : History) (key1 key2 : OptId → Key) (r1 : Run n done1 h1 key1) (r2 : Run n done2 h2 key2)
    (among : (e : Edit) → MemE e done1 → MemE e done2) where
  -- the unit of the other that is plainly the same and has the same key
  abbrev pub Twin : FugueSpan → Type 0
  Twin u = (v : FugueSpan) × Mem v h2.list × (plain u ≡ plain v) × (key1 (ref u) ≡ key2 (ref u))

  abbrev pub Back : FugueSpan → Type 0
  Back v = (u : FugueSpan) × Mem u h1.list × (plain u ≡ plain v) × (key1 (ref u) ≡ key2 (ref u))

  -- the two agree on the edits d
  pub record Agree (d : List Edit) : Type 0 where
    pub units : (u : FugueSpan) → Mem u h1.list → num u < cnt (clock n) d u.id.peer → Twin u
    pub tooks : (x : Held) → MemH x h1.held → MemE x.edit d → MemH x h2.held

  uniq2 : (u w : FugueSpan) → Mem u h2.list → Mem w h2.list → ref u ≡ ref w → u ≡ w
  uniq2 = sorted_uniq key2 h2.list r2.good.sorted

  module _ (d : List Edit) (cd : Causal (clock n) d) (sub : (e : Edit) → MemE e d → MemE e done1) (ag : Agree d) where
    units_back : (v : FugueSpan) → Mem v h2.list → num v < cnt (clock n) d v.id.peer → Back v
    units_back v m b = (t.0, t.1, w.2 ∙ ap plain wv, w.3)
      where
        k : Covers (clock n) d v.id.peer (num v)
        k = cover (clock n) d cd v.id.peer (num v) b

        f1 : MemE k.e done1
        f1 = sub k.e k.is_in

        s : Made h2 k.e v
        s = made_by n done2 h2 key2 r2 v m k.e (among k.e f1) k.peer k.low k.high

        t : (w : FugueSpan) × Mem w h1.list × (w.id ≡ inc_id k.e.id s.k)
        t = r1.has k.e s.lam s.c f1 s.act s.k s.small

        i : t.0.id ≡ v.id
        i = t.2 ∙ sym (made_id s)

        b1 : num t.0 < cnt (clock n) d t.0.id.peer
        b1 = subst (λ (z : Id). number z.counter < cnt (clock n) d z.peer) (sym i) b

        w : Twin t.0
        w = ag.units t.0 t.1 b1

        wv : w.0 ≡ v
        wv = uniq2 w.0 v w.1 m (ap Some (sym (plain_same t.0 w.0 w.2).id ∙ i))

    tooks_back : (x : Held) → MemH x h2.held → MemE x.edit d → MemH x h1.held
    tooks_back x m b =
        let t : (y : Held) × MemH y h1.held × (y.edit ≡ x.edit) = r1.has_t x.edit (sub x.edit b) (r2.tooks x m).1 in
        let y2 : MemH t.0 h2.held = ag.tooks t.0 t.1 (Memᴰ.cast t.2 b) in
        Memᴰ.cast (sym (took_by n done2 h2 key2 r2 t.0 x y2 m t.2)) t.1

    -- an edit whose first id is below the counts of d is of d
    edit_of : (done : List Edit) → Causal (clock n) done → ((e : Edit) → MemE e d → MemE e done) → (e : Edit) → MemE e done → first e < cnt (clock n) d e.id.peer → MemE e d
    edit_of done ca to e me b =
        let k : Covers (clock n) d e.id.peer (first e) = cover (clock n) d cd e.id.peer (first e) b in
        let sz : 1 ≤ size_of e.act = (in_range_lem (clock n) done ca e me).1 in
        Memᴰ.cast (sym (disjoint (clock n) done ca k.e e (to k.e k.is_in) me k.peer (first e) k.low k.high (omega arith) (omega arith))) k.is_in

    -- what a version held by d shows is the same in both
    pub ctx_same : (v : Version) → ((p : ℕ) → count n v p ≤ cnt (clock n) d p) → sees v h1 ≡ sees v h2
    ctx_same v held = sorted_unique key1 (sees v h1) (sees v h2) (sorted_sees key1 v h1 r1.good.sorted)
        (sorted_key key2 key1 (sees v h2) keys2 (sorted_sees key2 v h2 r2.good.sorted)) to from
      where
        counted : (done : List Edit) → Causal (clock n) done → ((e : Edit) → MemE e d → MemE e done) → (x : Held) → MemE x.edit done → Known x.edit → Natural x.edit.id → (b : Bool) → below v x.edit.id && b ≡ true → MemE x.edit d
        counted done ca to x me kn nat b e =
            edit_of done ca to x.edit me (omega (arith, below-lt v x.edit.id nat ((and-eq-true_iff (below v x.edit.id) b).0 e).0, count_known n v x.edit.id.peer kn, held x.edit.id.peer))

        deletes : (i : Id) → deletes_in v h1.held i ≡ deletes_in v h2.held i
        deletes i = deletes_count v h1.held i ∙ (count_same (λ (x : Held). below v x.edit.id && in_ranges i x.took) h1.held h2.held r1.no_twice r2.no_twice
            (λ (x : Held) (m : MemH x h1.held) (e : below v x.edit.id && in_ranges i x.took ≡ true). ag.tooks x m
            (counted done1 r1.causal sub x (r1.tooks x m).0 (r1.tooks x m).1 (r1.natural x.edit (r1.tooks x m).0) (in_ranges i x.took) e))
            (λ (x : Held) (m : MemH x h2.held) (e : below v x.edit.id && in_ranges i x.took ≡ true). tooks_back x m
            (counted done2 r2.causal (λ (f : Edit) (k : MemE f d). among f (sub f k)) x (r2.tooks x m).0 (r2.tooks x m).1 (r2.natural x.edit (r2.tooks x m).0) (in_ranges i x.took) e))
            ∙ sym (deletes_count v h2.held i))

        same : (u w : FugueSpan) → plain u ≡ plain w → view v h1.held u ≡ view v h2.held w
        same u w e = view-plain v h1.held h2.held u w e (deletes u.id ∙ ap (deletes_in v h2.held) (plain_same u w e).id)

        Seen : History → FugueSpan → Type 0
        Seen h w = (a : FugueSpan) × Mem a h.list × (view v h.held a ≡ w) × (num a < count n v a.id.peer) × (not_future w ≡ true)

        to : (w : FugueSpan) → Mem w (sees v h1) → Mem w (sees v h2)
        to w m =
            let t : (a : FugueSpan) × Mem a h1.list × (view v h1.held a ≡ w) × (num a < count n v a.id.peer) × (not_future w ≡ true) = seen_from n done1 h1 key1 r1 v w m in
            let b : num t.0 < count n v t.0.id.peer = t.3 in
            let x : Twin t.0 = ag.units t.0 t.1 (omega (arith, held t.0.id.peer)) in
            keep_if_keeps not_future (map (view v h2.held) h2.list) w (Memᴰ.cast (sym t.2 ∙ same t.0 x.0 x.2) (Memᴰ.map (view v h2.held) x.1)) t.4

        back : (w : FugueSpan) → Mem w (sees v h2) → (u : FugueSpan) × Mem u h1.list × (view v h1.held u ≡ w) × (key1 (ref u) ≡ key2 (ref u)) × (not_future w ≡ true)
        back w m =
            let t : (a : FugueSpan) × Mem a h2.list × (view v h2.held a ≡ w) × (num a < count n v a.id.peer) × (not_future w ≡ true) = seen_from n done2 h2 key2 r2 v w m in
            let b : num t.0 < count n v t.0.id.peer = t.3 in
            let u : Back t.0 = units_back t.0 t.1 (omega (arith, held t.0.id.peer)) in
            (u.0, u.1, same u.0 t.0 u.2 ∙ t.2, u.3, t.4)

        from : (w : FugueSpan) → Mem w (sees v h2) → Mem w (sees v h1)
        from w m =
            let t : (u : FugueSpan) × Mem u h1.list × (view v h1.held u ≡ w) × (key1 (ref u) ≡ key2 (ref u)) × (not_future w ≡ true) = back w m in
            keep_if_keeps not_future (map (view v h1.held) h1.list) w (Memᴰ.cast (sym t.2) (Memᴰ.map (view v h1.held) t.1)) t.4

        keys2 : (w : FugueSpan) → Mem w (sees v h2) → key1 (ref w) ≡ key2 (ref w)
        keys2 w m =
            let t : (u : FugueSpan) × Mem u h1.list × (view v h1.held u ≡ w) × (key1 (ref u) ≡ key2 (ref u)) × (not_future w ≡ true) = back w m in
            subst (λ (z : Id). key1 (Some z) ≡ key2 (Some z)) ((view_same v h1.held t.0).id ∙ ap (λ (z : FugueSpan). z.id) t.2) t.3

    -- what an edit that fits d sees is of d
    seen_of_d : (e : Edit) → Fits (clock n) d e → (w : FugueSpan) → Mem w (before e h1) → (v : FugueSpan) → ref v ≡ ref w → num v < cnt (clock n) d v.id.peer
    seen_of_d e fits w m v q = go (known_or e)
      where
        go : Known e ⊎ (e.id.peer ≡ UNKNOWN_PEER) → num v < cnt (clock n) d v.id.peer
        go (inr u) = absurd (Memᴰ.not-nil (subst (λ (z : List FugueSpan). Mem w z) (before_unknown e h1 u) m))
        go (inl k) =
            let t : (a : FugueSpan) × Mem a h1.list × (view e.context h1.held a ≡ w) × (num a < count n e.context a.id.peer) × (not_future w ≡ true)
            = seen_from n done1 h1 key1 r1 e.context w (subst (λ (z : List FugueSpan). Mem w z) (before_known e h1 k) m) in
            let b : num t.0 < count n e.context t.0.id.peer = t.3 in
            let i : t.0.id ≡ v.id = (view_same e.context h1.held t.0).id ∙ (ap (λ (z : FugueSpan). z.id) t.2 ∙ sym (at_id q)) in
            subst (λ (z : Id). number z.counter < cnt (clock n) d z.peer) i (omega (arith, fits.held t.0.id.peer, holds_known n e t.0.id.peer k))

    module _ (e : Edit) (fits : Fits (clock n) d e) (me : MemE e done1) where
      cs : before e h1 ≡ before e h2
      cs = go (known_or e)
        where
          go : Known e ⊎ (e.id.peer ≡ UNKNOWN_PEER) → before e h1 ≡ before e h2
          go (inr u) = before_unknown e h1 u ∙ sym (before_unknown e h2 u)
          go (inl k) = before_known e h1 k ∙ (ctx_same e.context (λ (p : ℕ). omega (arith, fits.held p, holds_known n e p k)) ∙ sym (before_known e h2 k))

      -- the origins of e's units are units of d
      or_of_d : (u : FugueSpan) → Made h1 e u → (v : FugueSpan) → ref v ≡ or u → num v < cnt (clock n) d v.id.peer
      or_of_d u m v q = go (origin_right_in (before e h1) e.at)
        where
          go : (origin_right e.at (before e h1) ≡ None) ⊎ ((w : FugueSpan) × Mem w (before e h1) × (ref w ≡ origin_right e.at (before e h1))) → num v < cnt (clock n) d v.id.peer
          go (inl x) = absurd (none≢at (sym (q ∙ (made_right m ∙ x))))
          go (inr t) = seen_of_d e fits t.0 t.1 v (q ∙ (made_right m ∙ sym t.2))

      ol_of_d : (u : FugueSpan) (m : Made h1 e u) → m.k ≡ 0 → (v : FugueSpan) → ref v ≡ ol u → num v < cnt (clock n) d v.id.peer
      ol_of_d u m z v q = go (origin_left_in (before e h1) e.at (inside-at e.act e.at (before e h1) (r1.fit e me)))
        where
          go : (origin_left e.at (before e h1) ≡ None) ⊎ ((w : FugueSpan) × Mem w (before e h1) × (ref w ≡ origin_left e.at (before e h1)) × (w.status.future ≡ false)) → num v < cnt (clock n) d v.id.peer
          go (inl x) = absurd (none≢at (sym (q ∙ (made_first m z ∙ x))))
          go (inr t) = seen_of_d e fits t.0 t.1 v (q ∙ (made_first m z ∙ sym t.2))

      -- the parent right is the same in both
      has_same : (u v : FugueSpan) → Same u v → Made h1 e u → has_ol h1.list (or u) (ol u) ≡ has_ol h2.list (or v) (ol v)
      has_same u v s m = go (has_ol_test key1 h1.list (or u) (ol u) r1.good.sorted) (has_ol_test key2 h2.list (or v) (ol v) r2.good.sorted)
        where
          go : Test (has_ol h1.list (or u) (ol u)) ((w : FugueSpan) × Mem w h1.list × (ref w ≡ or u) × (ol w ≡ ol u))
              → Test (has_ol h2.list (or v) (ol v)) ((w : FugueSpan) × Mem w h2.list × (ref w ≡ or v) × (ol w ≡ ol v)) → has_ol h1.list (or u) (ol u) ≡ has_ol h2.list (or v) (ol v)
          go (pass a t) (pass b t2) = a ∙ sym b
          go (fail a nt) (fail b nt2) = a ∙ sym b
          go (pass a t) (fail b nt) =
              let w : Twin t.0 = ag.units t.0 t.1 (or_of_d u m t.0 t.2) in
              let q : Same t.0 w.0 = plain_same t.0 w.0 w.2 in
              absurd (nt (w.0, w.1, ap Some (sym q.id) ∙ (t.2 ∙ s.right), sym q.left ∙ (t.3 ∙ s.left)))
          go (fail a nt) (pass b t) =
              let w : Back t.0 = units_back t.0 t.1 (or_of_d u m t.0 (t.2 ∙ sym s.right)) in
              let q : Same w.0 t.0 = plain_same w.0 t.0 w.2 in
              absurd (nt (w.0, w.1, ap Some q.id ∙ (t.2 ∙ sym s.right), q.left ∙ (t.3 ∙ sym s.left)))

      pr_same : (u v : FugueSpan) → Same u v → Made h1 e u → pr_of h1.list u ≡ pr_of h2.list v
      unfolding pr_of parent_right
      pr_same u v s m = ap₂ (λ (b : Bool) (z : OptId). cond b z None) (has_same u v s m) s.right

      pr_is : (u : FugueSpan) → (pr_of h1.list u ≡ None) ⊎ (pr_of h1.list u ≡ or u)
      unfolding pr_of parent_right
      pr_is u = go (has_ol h1.list (or u) (ol u))
        where
          go : (b : Bool) → (cond b (or u) None ≡ None) ⊎ (cond b (or u) None ≡ or u)
          go true = inr refl
          go false = inl refl

      none_key : key1 None ≡ key2 None
      none_key = r1.good.none_key ∙ sym r2.good.none_key

      pr_key : (u : FugueSpan) → Mem u h1.list → Made h1 e u → key1 (pr_of h1.list u) ≡ key2 (pr_of h1.list u)
      pr_key u k m = go (pr_is u) (r1.good.or_in u k)
        where
          go : (pr_of h1.list u ≡ None) ⊎ (pr_of h1.list u ≡ or u) → In (or u) h1.list → key1 (pr_of h1.list u) ≡ key2 (pr_of h1.list u)
          go (inl q) i = subst (λ (z : OptId). key1 z ≡ key2 z) (sym q) none_key
          go (inr q) (inl x) = subst (λ (z : OptId). key1 z ≡ key2 z) (sym (q ∙ x)) none_key
          go (inr q) (inr t) = subst (λ (z : OptId). key1 z ≡ key2 z) (t.2 ∙ sym q) (ag.units t.0 t.1 (or_of_d u m t.0 t.2)).3

      nat_e : Natural e.id
      nat_e = r1.natural e me

      -- a unit of e, when its origin left has the same key in both
      unit_step : (u : FugueSpan) → Mem u h1.list → Made h1 e u → key1 (ol u) ≡ key2 (ol u) → Twin u
      unit_step u k m ol_key = (v, mv, plains, keys)
        where
          t : (w : FugueSpan) × Mem w h2.list × (w.id ≡ inc_id e.id m.k)
          t = r2.has e m.lam m.c (among e me) m.act m.k m.small

          v : FugueSpan
          v = t.0

          mv : Mem v h2.list
          mv = t.1

          ids : v.id ≡ u.id
          ids = t.2 ∙ sym (made_id m)

          nu : num u ≡ first e + m.k
          nu = made_num m nat_e

          nv : num v ≡ num u
          nv = ap (λ (z : Id). number z.counter) ids

          m2 : Made h2 e v
          m2 = made_by n done2 h2 key2 r2 v mv e (among e me) (sym (ap (λ (z : Id). z.peer) ids ∙ made_peer m)) (omega (arith, nu, nv)) (omega (arith, nu, nv, made_small m))

          same_act : Insert m.lam m.c ≡ Insert m2.lam m2.c
          same_act = sym m.act ∙ m2.act

          el : m.lam ≡ m2.lam
          el = let d : Insert m.lam m.c ≡ Insert m2.lam m2.c = same_act in let z : m.lam ≡ m2.lam = cc in z

          ec : m.c ≡ m2.c
          ec = let d : Insert m.lam m.c ≡ Insert m2.lam m2.c = same_act in let z : m.c ≡ m2.c = cc in z

          ek : m.k ≡ m2.k
          ek = let b : num v ≡ first e + m2.k = made_num m2 nat_e in let z : m.k ≡ m2.k = omega (arith, nu, nv) in z

          plains : plain u ≡ plain v
          plains = m.is ∙ ((λ i. plain (Units.unit_at (span_of e (el i) (ec i) (cs i)) (ek i))) ∙ sym m2.is)

          same : Same u v
          same = plain_same u v plains

          hung_v : Hung key2 (ol u) u.id (pr_of h2.list v)
          hung_v = subst₂ (λ (y : OptId) (i : Id). Hung key2 y i (pr_of h2.list v)) (sym same.left) (sym same.id) (r2.good.wf v mv)

          keys : key1 (ref u) ≡ key2 (ref u)
          keys = hung_same key1 key2 (r1.good.wf u k) hung_v (pr_same u v same m) ol_key (pr_key u k m)

      unit_of_e : (i : ℕ) (u : FugueSpan) → Mem u h1.list → (m : Made h1 e u) → m.k ≡ i → Twin u
      unit_of_e zero u k m z = unit_step u k m (go (r1.good.ol_in u k))
        where
          go : In (ol u) h1.list → key1 (ol u) ≡ key2 (ol u)
          go (inl x) = subst (λ (y : OptId). key1 y ≡ key2 y) (sym x) none_key
          go (inr t) = subst (λ (y : OptId). key1 y ≡ key2 y) t.2 (ag.units t.0 t.1 (ol_of_d u m z t.0 t.2)).3
      unit_of_e (suc j) u k m z = unit_step u k m (go (r1.good.ol_in u k) (unit_of_e j))
        where
          go : In (ol u) h1.list → ((w : FugueSpan) → Mem w h1.list → (q : Made h1 e w) → q.k ≡ j → Twin w) → key1 (ol u) ≡ key2 (ol u)
          go (inl x) ih = subst (λ (y : OptId). key1 y ≡ key2 y) (sym x) none_key
          go (inr t) ih =
              let i : t.0.id ≡ inc_id e.id j = at_id (t.2 ∙ made_later m j z) in
              let b : num t.0 ≡ first e + j = ap (λ (y : Id). number y.counter) i ∙ (natural_inc e.id j nat_e).1 in
              let p : e.id.peer ≡ t.0.id.peer = sym (ap (λ (y : Id). y.peer) i ∙ pe) in
              let q : Made h1 e t.0 = made_by n done1 h1 key1 r1 t.0 t.1 e me p (omega arith) (omega (arith, made_small m, z)) in
              let qk : q.k ≡ j = omega (arith, made_num q nat_e, b) in
              subst (λ (y : OptId). key1 y ≡ key2 y) t.2 (ih t.0 t.1 q qk).3
            where
              pe : (inc_id e.id j).peer ≡ e.id.peer
              pe = unfold inc_id in refl

      took_of_e : (x : Held) → MemH x h1.held → x.edit ≡ e → MemH x h2.held
      took_of_e x m q =
          let t : (y : Held) × MemH y h2.held × (y.edit ≡ e) = r2.has_t e (among e me) (subst Known q (r1.tooks x m).1) in
          let ex : x.edit ≡ t.0.edit = q ∙ sym t.2 in
          let us : x.took ≡ t.0.took = (r1.tooks x m).2 ∙ (ap (λ (z : Edit). act_took z.act z (before z h1)) q ∙ (ap (act_took e.act e) cs
          ∙ (ap (λ (z : Edit). act_took z.act z (before z h2)) (sym t.2) ∙ sym (r2.tooks t.0 t.1).2))) in
          let p : x ≡ t.0 = λ i. record { edit = ex i; took = us i } in
          Memᴰ.cast p t.1

      pub agree_step : Agree (e ∷ d)
      agree_step = record {
        units = λ (u : FugueSpan) (m : Mem u h1.list) (b : num u < cnt (clock n) (e ∷ d) u.id.peer). go u m b (dec_lt (num u) (cnt (clock n) d u.id.peer));
        tooks = λ (x : Held) (m : MemH x h1.held) (k : MemE x.edit (e ∷ d)). go_t x m (Memᴰ.cases_cons k);
      }
        where
          go : (u : FugueSpan) → Mem u h1.list → num u < cnt (clock n) (e ∷ d) u.id.peer → Dec (num u < cnt (clock n) d u.id.peer) → Twin u
          go u m b (yes y) = ag.units u m y
          go u m b (no x) =
              let k : (u.id.peer ≡ e.id.peer) × (first e ≤ num u) × (num u < first e + size_of e.act) = cnt_other n d e u.id.peer (num u) fits.own b x in
              let q : Made h1 e u = made_by n done1 h1 key1 r1 u m e me (sym k.0) k.1 k.2 in
              unit_of_e q.k u m q refl

          go_t : (x : Held) → MemH x h1.held → (x.edit ≡ e) ⊎ MemE x.edit d → MemH x h2.held
          go_t x m (inl q) = took_of_e x m q
          go_t x m (inr k) = ag.tooks x m k

  pub agree_all : (d : List Edit) → Causal (clock n) d → ((e : Edit) → MemE e d → MemE e done1) → Agree d
  unfolding Causal cnt
  agree_all [] cd sub = record {
    units = λ (u : FugueSpan) (m : Mem u h1.list) (b : num u < 0). absurd (let z : ⊥ = omega arith in z);
    tooks = λ (x : Held) (m : MemH x h1.held) (k : MemE x.edit []). absurd (Memᴰ.not-nil k);
  }
  agree_all (e ∷ d) cd sub = agree_step d cd.2 (λ (f : Edit) (m : MemE f d). sub f (Memᴰ.tail m))
      (agree_all d cd.2 (λ (f : Edit) (m : MemE f d). sub f (Memᴰ.tail m))) e cd.0 (sub e (Memᴰ.head refl))

  -- INDEPENDENCE: whatever version the first history holds, both show the same units in it.
  pub versions_same : (v : Version) → ((p : ℕ) → count n v p ≤ cnt (clock n) done1 p) → sees v h1 ≡ sees v h2
  versions_same v held = ctx_same done1 r1.causal (λ (e : Edit) (m : MemE e done1). m) (agree_all done1 r1.causal (λ (e : Edit) (m : MemE e done1). m)) v held
