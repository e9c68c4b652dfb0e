-- The situation of an insert (§4): the front up to the cursor, the units up to origin right, which is after us (L4.4), and where the scan cuts.
use mathlib.Core.Path.{◌≡◌, refl, sym, ap, ap₂, subst, ◌∙◌}
use mathlib.Core.Logic.{◌⊎◌, inl, inr}
use mathlib.Core.Bool.{Bool, true, false, cond, true≢false}
use mathlib.Core.List.Memᴰ
use mathlib.Core.List.{List, [], ◌∷◌, ◌++◌, append_assoc, append-nil}
use lib.ListN.{length}
use Rattle.std.specs.Prelude.{None, Some}
use Rattle.span.specs.declared.ids.Id.{Id}
use Rattle.span.specs.Maybe.{OptId}
use Rattle.span.specs.declared.span.FugueSpan.{FugueSpan}
use Rattle.units.specs.declared.place.Verdict.{Verdict}
use Rattle.units.specs.Place.{has_ol, pr_pos, parent_right, verdict, run, up_to, scan_place}
use Rattle.fugue.specs.Tree.{ref, ol, pr_of}
use Rattle.fugue.proofs.Order.{Tri, tlt, teq, tgt, Older, older_no}
use Rattle.fugue.proofs.Keys.{Key, Lt, Lt-irrefl, Lt-trans, Lt-asym, tri}
use Rattle.fugue.proofs.Hang.{Hung, F2, after_ol, before_pr, last_of_lem, last_of, none≢at}
use Rattle.fugue.proofs.ScanPlace.{Mem, Sorted, sorted_front, sorted_back, Scene, scan_place_lem}
use Rattle.fugue.proofs.Tests.{Test, pass, fail, has_ol_test}
use Rattle.fugue.proofs.Insert.{In, Good, says}
use Rattle.fugue.proofs.Grow.{Mid, in_a, is_m, in_b, mid, In-rooted, In-id}
use Rattle.fugue.proofs.Cursor.{Ends, e_nil, e_last, Past, p_none, p_some, up_to_none, up_to_some, sorted_tail, sorted_head, Split, split, pr_of_lem}

-- ---- the first unit, by the scan

module _ (key : OptId → Key) (F R : List FugueSpan) (g : Good key (F ++ R)) (x : OptId) (ex : Ends None F x) (me : Id)
    (past-closed : (v : FugueSpan) → Mem v (F ++ R) → v.status.future ≡ false → (ol v ≡ None) ⊎ ((w : FugueSpan) × Mem w (F ++ R) × (ref w ≡ ol v) × (w.status.future ≡ false)))
    (newest : (w : FugueSpan) → Mem w (F ++ R) → Older w.id me) where
  pub x_in : In x (F ++ R)
  x_in = go ex
    where
      go : Ends None F x → In x (F ++ R)
      go (e_nil e d) = inl d
      go (e_last G u e d) = inr (u, Memᴰ.append_left R (subst (λ (z : List FugueSpan). Mem u z) (sym e) (Memᴰ.append_right G (Memᴰ.head refl))), sym d)

  fresh : (w : FugueSpan) → Mem w (F ++ R) → ref w ≡ Some me → ⊥
  fresh w m e = older_no w.id me (newest w m) (let d : w.id ≡ me = cc in d)

  -- the front is x and before
  front_x : (w : FugueSpan) → Mem w F → (ref w ≡ x) ⊎ Lt (key (ref w)) (key x)
  front_x w m = go ex
    where
      go : Ends None F x → (ref w ≡ x) ⊎ Lt (key (ref w)) (key x)
      go (e_nil e d) = absurd (Memᴰ.not-nil (subst (λ (z : List FugueSpan). Mem w z) e m))
      go (e_last G u e d) = go2 (Memᴰ.append_cases G (subst (λ (z : List FugueSpan). Mem w z) e m))
        where
          srt : Sorted key (G ++ u ∷ [])
          srt = subst (λ (z : List FugueSpan). Sorted key z) e (sorted_head key F R g.sorted)

          go2 : Mem w G ⊎ Mem w (u ∷ []) → (ref w ≡ x) ⊎ Lt (key (ref w)) (key x)
          go2 (inl k) = inr (subst (λ (z : OptId). Lt (key (ref w)) (key z)) (sym d) (sorted_front key G u [] srt w k))
          go2 (inr k) = inl (ap ref (Memᴰ.eq_of_singleton k) ∙ sym d)

  front_not : (w : FugueSpan) → Mem w F → Lt (key x) (key (ref w)) → ⊥
  front_not w m k = go (front_x w m)
    where
      go : (ref w ≡ x) ⊎ Lt (key (ref w)) (key x) → ⊥
      go (inl e) = Lt-irrefl (key x) (subst (λ (z : OptId). Lt (key x) (key z)) e k)
      go (inr h) = Lt-asym (key x) (key (ref w)) k h

  -- the rest is after x
  rest_x : (w : FugueSpan) → Mem w R → Lt (key x) (key (ref w))
  rest_x w m = go ex
    where
      mw : Mem w (F ++ R)
      mw = Memᴰ.append_right F m

      root : Tri (Lt [] (key (ref w))) ([] ≡ key (ref w)) (Lt (key (ref w)) []) → Lt [] (key (ref w))
      root (tlt k) = k
      root (teq e) = absurd (none≢at (ap (last_of None) e ∙ last_of_lem key (g.wf w mw)))
      root (tgt k) = absurd (g.rooted w mw k)

      go : Ends None F x → Lt (key x) (key (ref w))
      go (e_nil e d) = subst (λ (k : Key). Lt k (key (ref w))) (sym (ap key d ∙ g.none_key)) (root (tri [] (key (ref w))))
      go (e_last G u e d) = subst (λ (z : OptId). Lt (key z) (key (ref w))) (sym d)
          (sorted_back key G u R (subst (λ (z : List FugueSpan). Sorted key z) (ap (λ (z : List FugueSpan). z ++ R) e ∙ append_assoc G (u ∷ []) R) g.sorted) w m)

  module _ (o : OptId) (hung : Hung key x me (parent_right (F ++ R) x o)) where
    L : List FugueSpan
    L = F ++ R

    km : Key
    km = key (Some me)

    pr : OptId
    pr = parent_right (F ++ R) x o

    front_lo : (w : FugueSpan) → Mem w F → Lt (key (ref w)) (key (Some me))
    front_lo w m = go (front_x w m)
      where
        go : (ref w ≡ x) ⊎ Lt (key (ref w)) (key x) → Lt (key (ref w)) (key (Some me))
        go (inl e) = subst (λ (z : OptId). Lt (key z) (key (Some me))) (sym e) (after_ol key hung)
        go (inr h) = Lt-trans (key (ref w)) (key x) (key (Some me)) h (after_ol key hung)

    -- The units up to origin right, and the rest, which is after us.
    record Range : Type 0 where
      M : List FugueSpan
      P : List FugueSpan
      eq : R ≡ M ++ P
      up : up_to o R ≡ M
      hi_p : (w : FugueSpan) → Mem w P → Lt (key (Some me)) (key (ref w))
      or_in : In o (F ++ R)
      inside : (a : Id) → parent_right (F ++ R) x o ≡ Some a → (w : FugueSpan) → Mem w M → Lt (key (ref w)) (key (Some a))

    pr_of_none : o ≡ None → parent_right (F ++ R) x o ≡ None
    unfolding parent_right
    pr_of_none e = go (has_ol (F ++ R) o x)
      where
        go : (b : Bool) → cond b o None ≡ None
        go true = e
        go false = refl

    -- the first unit that is not future is after us
    or_after : (M : List FugueSpan) (u : FugueSpan) (P : List FugueSpan) → R ≡ M ++ u ∷ P → ((w : FugueSpan) → Mem w M → w.status.future ≡ true) → u.status.future ≡ false → o ≡ ref u
        → Lt (key (Some me)) (key (ref u))
    unfolding parent_right
    or_after M u P e fut uf d = top (has_ol_test key (F ++ R) o x g.sorted)
      where
        m_r : Mem u R
        m_r = subst (λ (z : List FugueSpan). Mem u z) (sym e) (Memᴰ.append_right M (Memᴰ.head refl))

        mu : Mem u (F ++ R)
        mu = Memᴰ.append_right F m_r

        srt : Sorted key (M ++ u ∷ P)
        srt = subst (λ (z : List FugueSpan). Sorted key z) e (sorted_tail key F R g.sorted)

        place : (w : FugueSpan) → w.status.future ≡ false → Lt (key x) (key (ref w)) → Lt (key (ref w)) (key (ref u)) → Mid w M u P → ⊥
        place w f h k (in_a m) = true≢false (sym (fut w m) ∙ f)
        place w f h k (is_m m) = Lt-irrefl (key (ref u)) (subst (λ (z : FugueSpan). Lt (key (ref z)) (key (ref u))) m k)
        place w f h k (in_b m) = Lt-asym (key (ref w)) (key (ref u)) k (sorted_back key M u P srt w m)

        where_is : (w : FugueSpan) → w.status.future ≡ false → Lt (key x) (key (ref w)) → Lt (key (ref w)) (key (ref u)) → Mem w F ⊎ Mem w R → ⊥
        where_is w f h k (inl m) = front_not w m h
        where_is w f h k (inr m) = place w f h k (mid M (subst (λ (z : List FugueSpan). Mem w z) e m))

        at_ol : Lt (key x) (key (ol u)) → (ol u ≡ None) ⊎ ((w : FugueSpan) × Mem w (F ++ R) × (ref w ≡ ol u) × (w.status.future ≡ false)) → ⊥
        at_ol k (inl n) = In-rooted key (F ++ R) g x x_in (subst (λ (z : Key). Lt (key x) z) (ap key n ∙ g.none_key) k)
        at_ol k (inr t) = where_is t.0 t.3 (subst (λ (z : OptId). Lt (key x) (key z)) (sym t.2) k)
            (subst (λ (z : OptId). Lt (key z) (key (ref u))) (sym t.2) (after_ol key (g.wf u mu))) (Memᴰ.append_cases F t.1)

        cross : ¬ (ol u ≡ x) → (key x ≡ key (ol u)) ⊎ Lt (key x) (key (ol u)) → ⊥
        cross n (inl k) = n (sym (In-id key (F ++ R) g (ol u) (g.ol_in u mu)) ∙ (ap (last_of None) (sym k) ∙ In-id key (F ++ R) g x x_in))
        cross n (inr k) = at_ol k (past-closed u mu uf)

        third : ¬ (ol u ≡ x) → Tri (Lt (key (Some me)) (key (ref u))) (key (Some me) ≡ key (ref u)) (Lt (key (ref u)) (key (Some me))) → Lt (key (Some me)) (key (ref u))
        third n (tlt k) = k
        third n (teq k) = absurd (fresh u mu (sym (last_of_lem key (g.wf u mu)) ∙ (ap (last_of None) (sym k) ∙ last_of_lem key hung)))
        third n (tgt k) = absurd (cross n (F2 key hung (g.wf u mu) (rest_x u m_r) k))

        top : Test (has_ol (F ++ R) o x) ((w : FugueSpan) × Mem w (F ++ R) × (ref w ≡ o) × (ol w ≡ x)) → Lt (key (Some me)) (key (ref u))
        top (pass b t) = before_pr key (subst (λ (z : OptId). Hung key x me z) (ap (λ (z : Bool). cond z o None) b ∙ d) hung)
        top (fail b n) = third (λ (k : ol u ≡ x). n (u, mu, sym d, k)) (tri (key (Some me)) (key (ref u)))

    range : Past R o → Range
    unfolding parent_right
    range (p_none e) = record {
      M = R;
      P = [];
      eq = sym (append-nil R);
      up = ap (λ (z : OptId). up_to z R) e ∙ up_to_none R;
      hi_p = λ (w : FugueSpan) (m : Mem w []). absurd (Memᴰ.not-nil m);
      or_in = inl e;
      inside = λ (a : Id) (d : parent_right (F ++ R) x o ≡ Some a). absurd (none≢at (sym (pr_of_none e) ∙ d));
    }
    range (p_some M u P e fut uf d) = record {
      M = M;
      P = u ∷ P;
      eq = e;
      up = ap₂ up_to d e ∙ up_to_some M u P (λ (w : FugueSpan) (m : Mem w M) (k : ref u ≡ ref w). Lt-irrefl (key (ref u)) (subst (λ (z : OptId). Lt (key z) (key (ref u))) (sym k) (before w m)));
      hi_p = λ (w : FugueSpan) (m : Mem w (u ∷ P)). behind_u w (Memᴰ.cases_cons m);
      or_in = inr (u, mu, sym d);
      inside = λ (a : Id) (k : parent_right (F ++ R) x o ≡ Some a) (w : FugueSpan) (m : Mem w M). subst (λ (z : OptId). Lt (key (ref w)) (key z)) (sym d ∙ is_o a (has_ol (F ++ R) o x) k) (before w m);
    }
      where
        mu : Mem u (F ++ R)
        mu = Memᴰ.append_right F (subst (λ (z : List FugueSpan). Mem u z) (sym e) (Memᴰ.append_right M (Memᴰ.head refl)))

        srt : Sorted key (M ++ u ∷ P)
        srt = subst (λ (z : List FugueSpan). Sorted key z) e (sorted_tail key F R g.sorted)

        before : (w : FugueSpan) → Mem w M → Lt (key (ref w)) (key (ref u))
        before w m = sorted_front key M u P srt w m

        first : Lt (key (Some me)) (key (ref u))
        first = or_after M u P e fut uf d

        behind_u : (w : FugueSpan) → (w ≡ u) ⊎ Mem w P → Lt (key (Some me)) (key (ref w))
        behind_u w (inl k) = subst (λ (z : FugueSpan). Lt (key (Some me)) (key (ref z))) (sym k) first
        behind_u w (inr k) = Lt-trans (key (Some me)) (key (ref u)) (key (ref w)) first (sorted_back key M u P srt w k)

        is_o : (a : Id) (t : Bool) → cond t o None ≡ Some a → o ≡ Some a
        is_o a true k = k
        is_o a false k = absurd (none≢at k)

    -- What the scan comes to: the list is cut into what is before the new unit and what is after it, where the scan says.
    pub record Placed : Type 0 where
      pub before : List FugueSpan
      pub behind : List FugueSpan
      pub cut : R ≡ before ++ behind
      pub at_cut : scan_place (F ++ R) R x o me.peer ≡ length before
      pub lo : (w : FugueSpan) → Mem w (F ++ before) → Lt (key (ref w)) (key (Some me))
      pub hi : (w : FugueSpan) → Mem w behind → Lt (key (Some me)) (key (ref w))
      pub or_in : In o (F ++ R)

    pub placed : Past R o → Placed
    unfolding scan_place
    placed pa =
        record {
          before = S1;
          behind = S2 ++ P;
          cut = rng.eq ∙ (ap (λ (z : List FugueSpan). z ++ P) sp.eq ∙ append_assoc S1 S2 P);
          at_cut = ap (run f [] false 0 0) (rng.up ∙ sp.eq) ∙ scan_place_lem key (pr_of (F ++ R)) me x (parent_right (F ++ R) x o) (F ++ R) S1 S2 scene f (says key (F ++ R) g me x o);
          lo = λ (w : FugueSpan) (m : Mem w (F ++ S1)). low w (Memᴰ.append_cases F m);
          hi = λ (w : FugueSpan) (m : Mem w (S2 ++ P)). high w (Memᴰ.append_cases S2 m);
          or_in = rng.or_in;
        }
      where
        rng : Range
        rng = range pa

        M : List FugueSpan
        M = rng.M

        P : List FugueSpan
        P = rng.P

        f : List FugueSpan → FugueSpan → Verdict
        f = verdict (F ++ R) x o (pr_pos (F ++ R) x o) me.peer

        in_m : (w : FugueSpan) → Mem w M → Mem w R
        in_m w m = subst (λ (z : List FugueSpan). Mem w z) (sym rng.eq) (Memᴰ.append_left P m)

        srt_m : Sorted key M
        srt_m = sorted_head key M P (subst (λ (z : List FugueSpan). Sorted key z) rng.eq (sorted_tail key F R g.sorted))

        sp : Split key (key (Some me)) M
        sp = split key (key (Some me)) M srt_m (λ (w : FugueSpan) (m : Mem w M) (e : key (ref w) ≡ key (Some me)).
            fresh w (Memᴰ.append_right F (in_m w m)) (sym (last_of_lem key (g.wf w (Memᴰ.append_right F (in_m w m)))) ∙ (ap (last_of None) e ∙ last_of_lem key hung)))

        S1 : List FugueSpan
        S1 = sp.S1

        S2 : List FugueSpan
        S2 = sp.S2

        in1 : (w : FugueSpan) → Mem w S1 → Mem w M
        in1 w m = subst (λ (z : List FugueSpan). Mem w z) (sym sp.eq) (Memᴰ.append_left S2 m)

        in2 : (w : FugueSpan) → Mem w S2 → Mem w M
        in2 w m = subst (λ (z : List FugueSpan). Mem w z) (sym sp.eq) (Memᴰ.append_right S1 m)

        low : (w : FugueSpan) → Mem w F ⊎ Mem w S1 → Lt (key (ref w)) (key (Some me))
        low w (inl m) = front_lo w m
        low w (inr m) = sp.lo w m

        high : (w : FugueSpan) → Mem w S2 ⊎ Mem w P → Lt (key (Some me)) (key (ref w))
        high w (inl m) = sp.hi w m
        high w (inr m) = rng.hi_p w m

        full4 : (w : FugueSpan) → Lt (key (ref w)) (key (Some me)) → Mem w S1 ⊎ Mem w S2 → Mem w S1
        full4 w k (inl m) = m
        full4 w k (inr m) = absurd (Lt-asym (key (ref w)) (key (Some me)) k (sp.hi w m))

        full3 : (w : FugueSpan) → Lt (key (ref w)) (key (Some me)) → Mem w M ⊎ Mem w P → Mem w S1
        full3 w k (inl m) = full4 w k (Memᴰ.append_cases S1 (subst (λ (z : List FugueSpan). Mem w z) sp.eq m))
        full3 w k (inr m) = absurd (Lt-asym (key (ref w)) (key (Some me)) k (rng.hi_p w m))

        full2 : (w : FugueSpan) → Lt (key x) (key (ref w)) → Lt (key (ref w)) (key (Some me)) → Mem w F ⊎ Mem w R → Mem w S1
        full2 w h k (inl m) = absurd (front_not w m h)
        full2 w h k (inr m) = full3 w k (Memᴰ.append_cases M (subst (λ (z : List FugueSpan). Mem w z) rng.eq m))

        pr_in2 : (a : Id) (r : OptId) → r ≡ Some a → In r (F ++ R) → (w : FugueSpan) × Mem w (F ++ R) × (ref w ≡ Some a)
        pr_in2 a r e (inl d) = absurd (none≢at (sym d ∙ e))
        pr_in2 a r e (inr t) = (t.0, t.1, t.2 ∙ e)

        pr_in1 : (v : FugueSpan) → In (pr_of (F ++ R) v) (F ++ R)
        pr_in1 v = pr_of_lem key (F ++ R) g.sorted v

        scene : Scene key (pr_of (F ++ R)) me x (parent_right (F ++ R) x o) (F ++ R) S1 S2
        scene = record {
          hung = hung;
          wf = g.wf;
          ol_in = g.ol_in;
          pr_in = λ (v : FugueSpan) (a : Id) (m : Mem v (F ++ R)) (e : pr_of (F ++ R) v ≡ Some a). pr_in2 a (pr_of (F ++ R) v) e (pr_in1 v);
          none_key = g.none_key;
          rooted = In-rooted key (F ++ R) g x x_in;
          x_id = In-id key (F ++ R) g x x_in;
          low_in = λ (v : FugueSpan) (m : Mem v S1). Memᴰ.append_right F (in_m v (in1 v m));
          high_in = λ (v : FugueSpan) (m : Mem v S2). Memᴰ.append_right F (in_m v (in2 v m));
          lo = sp.lo;
          hi = sp.hi;
          xlo = λ (v : FugueSpan) (m : Mem v S1). rest_x v (in_m v (in1 v m));
          full = λ (w : FugueSpan) (m : Mem w (F ++ R)) (h : Lt (key x) (key (ref w))) (k : Lt (key (ref w)) (key (Some me))). full2 w h k (Memᴰ.append_cases F m);
          sorted = sorted_head key S1 S2 (subst (λ (z : List FugueSpan). Sorted key z) sp.eq srt_m);
          newest = newest;
          inside = λ (a : Id) (e : parent_right (F ++ R) x o ≡ Some a) (w : FugueSpan) (m : Mem w S2). rng.inside a e w (in2 w m);
        }
