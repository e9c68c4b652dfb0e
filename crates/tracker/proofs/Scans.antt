-- the scan at a version, by rows that stand at another: verdicts read ids and origins alone, and a row whose first unit is future is future whole
use Prim.Native.Nat.{ℕ, zero, suc, ◌+◌, ◌-◌, ◌<◌, ◌≤◌}
use mathlib.Core.Path.{◌≡◌, refl, sym, ap, ap₂, ◌∙◌}
use mathlib.Core.Bool.{Bool, true, false, not, ◌||◌, cond, false≢true}
use mathlib.Core.List.{List, [], ◌∷◌, ◌++◌, map, map-append, append-nil}
use native.Mathlib.Omega.{arith}
use lib.Dec.{ltb, eqb}
use lib.IntN.{ℤ, pos, negsuc, ◌+ℤ◌}
use lib.Signed.{lt_z}
use borrow.Author.Tests.{ltb-true, lt-ltb, ne_eqb}
use Rattle.span.specs.declared.ids.Id.{Id}
use Rattle.span.specs.Maybe.{OptId}
use Rattle.std.specs.Prelude.{None as Nothing, Some as At}
use Rattle.span.specs.declared.span.FugueSpan.{FugueSpan}
use Rattle.span.specs.Ids.{UNKNOWN_PEER, inc_id, same_opt}
use Rattle.span.specs.Span.{len_span, span_code}
use Rattle.span.specs.Units.{tab, unit_at, units_of, expand}
use Rattle.span.proofs.IdsLaws.{inc_zero}
use Rattle.span.proofs.SpanLaws.{span_ok}
use Rattle.span.proofs.Views.{len_pos}
use Rattle.span.proofs.UnitLaws.{unit_id}
use Rattle.span.proofs.ForRope.{expand-append}
use Rattle.units.specs.declared.place.Verdict.{Verdict}
use Rattle.units.specs.declared.place.Verdict.TheVariants.{Stop, Clear, Keep}
use Rattle.units.specs.Place.{mem_id, has_ol, parent_right, pos_of, pr_pos, by_pos, sibling, verdict, is_stop, after, run, up_to, first_past, scan_place, Distinct}
use Rattle.rope.specs.Spans.{AllOk}
use Rattle.rope.proofs.Lists.{or-false, mem_append}
use Rattle.rope.proofs.Scanned.{futures, up_to_lem, span_run}
use Rattle.history.specs.Edit.{Version}
use Rattle.history.specs.Version.{count_of, below, in_version}
use Rattle.tracker.specs.Fits.{future, first_in, stays_at}

-- ---- units changed in their statuses alone

module _ (m : FugueSpan → FugueSpan) (ki : (u : FugueSpan) → (m u).id ≡ u.id) (kl : (u : FugueSpan) → (m u).origin_left ≡ u.origin_left) (kr : (u : FugueSpan) → (m u).origin_right ≡ u.origin_right) where
  pub mem_map : (o : OptId) (l : List FugueSpan) → mem_id o (map m l) ≡ mem_id o l
  unfolding mem_id
  mem_map o [] = refl
  mem_map o (v ∷ l) = ap₂ (λ (i : Id) (b : Bool). same_opt o (At i) || b) (ki v) (mem_map o l)

  ol_map : (l : List FugueSpan) (r x : OptId) → has_ol (map m l) r x ≡ has_ol l r x
  unfolding has_ol
  ol_map [] r x = refl
  ol_map (v ∷ l) r x =
      ap (λ (b : Bool). cond (same_opt r (At (m v).id)) (same_opt (m v).origin_left x) b) (ol_map l r x) ∙
      ap₂ (λ (i : Id) (a : OptId). cond (same_opt r (At i)) (same_opt a x) (has_ol l r x)) (ki v) (kl v)

  pos_map : (l : List FugueSpan) (r : OptId) → pos_of (map m l) r ≡ pos_of l r
  unfolding pos_of
  pos_map [] r = refl
  pos_map (v ∷ l) r = ap₂ (λ (i : Id) (k : ℕ). cond (same_opt r (At i)) zero (suc k)) (ki v) (pos_map l r)

  pub pr_map : (l : List FugueSpan) (x o : OptId) → pr_pos (map m l) x o ≡ pr_pos l x o
  unfolding pr_pos parent_right
  pr_map l x o = pos_map l (cond (has_ol (map m l) o x) o Nothing) ∙ ap (λ (b : Bool). pos_of l (cond b o Nothing)) (ol_map l o x)

  module _ (all : List FugueSpan) (x o : OptId) (p q : ℕ) where
    sib_map : (v : FugueSpan) → sibling (map m all) o p q (m v) ≡ sibling all o p q v
    unfolding sibling
    sib_map v =
        ap (λ (k : ℕ). cond (same_opt (m v).origin_right o) (cond (ltb q (m v).id.peer) Stop Clear) (by_pos (ltb k p) (eqb k p) (ltb q (m v).id.peer))) (pr_map all (m v).origin_left (m v).origin_right) ∙
        (ap₂ (λ (a b : OptId). cond (same_opt b o) (cond (ltb q (m v).id.peer) Stop Clear) (by_pos (ltb (pr_pos all a b) p) (eqb (pr_pos all a b) p) (ltb q (m v).id.peer))) (kl v) (kr v) ∙
        ap (λ (i : Id). cond (same_opt v.origin_right o) (cond (ltb q i.peer) Stop Clear) (by_pos (ltb (pr_pos all v.origin_left v.origin_right) p) (eqb (pr_pos all v.origin_left v.origin_right) p) (ltb q i.peer))) (ki v))

    ver_map : (S : List FugueSpan) (v : FugueSpan) → verdict (map m all) x o p q (map m S) (m v) ≡ verdict all x o p q S v
    unfolding verdict
    ver_map S v =
        ap₂ (λ (d : Verdict) (b : Bool). cond (same_opt (m v).origin_left x) d (cond b Keep Stop)) (sib_map v) (mem_map (m v).origin_left S) ∙
        ap (λ (a : OptId). cond (same_opt a x) (sibling all o p q v) (cond (mem_id a S) Keep Stop)) (kl v)

    pub run-map : (S : List FugueSpan) (h : Bool) (k i : ℕ) (l : List FugueSpan) → run (verdict (map m all) x o p q) (map m S) h k i (map m l) ≡ run (verdict all x o p q) S h k i l
    unfolding run
    run-map S h k i [] = refl
    run-map S h k i (v ∷ l) =
        let f = verdict (map m all) x o p q in
        let d = verdict all x o p q S v in
        ap (λ (c : Verdict). cond (is_stop c) k (run f (map m S ++ (m v ∷ [])) (after c h) (cond (after c h) k (suc i)) (suc i) (map m l))) (ver_map S v) ∙
        ap (λ (r : ℕ). cond (is_stop d) k r)
        (ap (λ (T : List FugueSpan). run f T (after d h) (cond (after d h) k (suc i)) (suc i) (map m l)) (sym (map-append m S (v ∷ []))) ∙
        run-map (S ++ (v ∷ [])) (after d h) (cond (after d h) k (suc i)) (suc i) l)

-- ---- what a version does not have

below_on : (c : ℤ) (j n : ℕ) → lt_z (c +ℤ pos j) (pos n) ≡ true → lt_z c (pos n) ≡ true
below_on (pos a) j n e = lt-ltb a n (let h = ltb-true (a + j) n e in omega (arith, h))
below_on (negsuc a) j n e = refl

none_or : (a b c : Bool) → (c ≡ true → b ≡ true) → not (a || b) ≡ true → not (a || c) ≡ true
none_or true b c f e = e
none_or false b true f e = absurd (false≢true (ap not (sym (f refl)) ∙ e))
none_or false b false f e = refl

later : (v : Version) (i : Id) (j : ℕ) → not (in_version v i) ≡ true → not (in_version v (inc_id i j)) ≡ true
unfolding in_version below inc_id
later v i j e = none_or (eqb i.peer UNKNOWN_PEER) (lt_z i.counter (pos (count_of v i.peer))) (lt_z (i.counter +ℤ pos j) (pos (count_of v i.peer))) (below_on i.counter j (count_of v i.peer)) e

unfoldable heads : Version → List FugueSpan → List FugueSpan
heads v [] = []
heads v (u ∷ l) = cond (future v u) (u ∷ heads v l) []

module _ (v : Version) (s : FugueSpan) (rest : List FugueSpan) where
  unit_future : (j : ℕ) (t : Bool) → not (in_version v (inc_id s.id j)) ≡ t → future v (unit_at s j) ≡ t
  unit_future j t e = ap (λ (i : Id). not (in_version v i)) (unit_id s j) ∙ e

  heads-tab : (e : future v s ≡ true) (n j : ℕ) → heads v (tab (unit_at s) j n ++ rest) ≡ tab (unit_at s) j n ++ heads v rest
  unfolding heads tab
  heads-tab e zero j = refl
  heads-tab e (suc n) j =
      ap (λ (b : Bool). cond b (unit_at s j ∷ heads v (tab (unit_at s) (suc j) n ++ rest)) []) (unit_future j true (later v s.id j e)) ∙
      ap (λ (l : List FugueSpan). unit_at s j ∷ l) (heads-tab e n (suc j))

  heads_stop : (e : future v s ≡ false) (n : ℕ) → 0 < n → heads v (tab (unit_at s) 0 n ++ rest) ≡ []
  unfolding heads tab
  heads_stop e zero h = absurd (omega arith)
  heads_stop e (suc n) h = ap (λ (b : Bool). cond b (unit_at s 0 ∷ heads v (tab (unit_at s) 1 n ++ rest)) []) (unit_future 0 false (ap (λ (i : Id). not (in_version v i)) (inc_zero s.id) ∙ e))

  heads_row : span_code s ≡ 0 → (t : Bool) → future v s ≡ t → heads v (units_of s ++ rest) ≡ cond t (units_of s ++ heads v rest) []
  unfolding units_of
  heads_row ok true e = heads-tab e (len_span s) 0
  heads_row ok false e = heads_stop e (len_span s) (len_pos s.content (span_ok s ok).form)

-- ---- the scan of rows

grows : (f : List FugueSpan → FugueSpan → Verdict) (S : List FugueSpan) (h : Bool) (p i : ℕ) (l : List FugueSpan) → p ≤ i → p ≤ run f S h p i l
unfolding run
grows f S h p i [] e = omega arith
grows f S h p i (v ∷ l) e = go (is_stop (f S v)) (after (f S v) h) (λ g k z. grows f (S ++ (v ∷ [])) g k (suc i) l z)
  where
    go : (a b : Bool) → ((g : Bool) (k : ℕ) → k ≤ suc i → k ≤ run f (S ++ (v ∷ [])) g k (suc i) l) → p ≤ cond a p (run f (S ++ (v ∷ [])) b (cond b p (suc i)) (suc i) l)
    go true b rec = omega arith
    go false true rec = rec true p (omega (arith, e))
    go false false rec = omega (arith, e, rec false (suc i) (omega arith))

module _ (w : Version) (all : List FugueSpan) (x o : OptId) (p q : ℕ) where
  abbrev f : List FugueSpan → FugueSpan → Verdict
  f = verdict all x o p q

  one_more : (S : List FugueSpan) (v : FugueSpan) → expand (S ++ (v ∷ [])) ≡ expand S ++ units_of v
  unfolding expand
  one_more S v = expand-append S (v ∷ []) ∙ ap (λ (l : List FugueSpan). expand S ++ l) (append-nil (units_of v))

  -- THE LAW: the place stays at the cursor where the scan by rows says so
  scan_stays : (S L : List FugueSpan) (h : Bool) (i : ℕ) → AllOk L → mem_id x (expand L) ≡ false → eqb (run f (expand S) h 0 i (heads w (expand L))) 0 ≡ stays_at w f S h L
  unfolding run heads expand stays_at AllOk
  scan_stays S [] h i ok nt = refl
  scan_stays S (v ∷ L) h i ok nt = go (λ g k. scan_stays (S ++ (v ∷ [])) L g k ok.1 no_b.1) (future w v) refl
    where
      no_b : (mem_id x (units_of v) ≡ false) × (mem_id x (expand L) ≡ false)
      no_b = or-false (mem_id x (units_of v)) (mem_id x (expand L)) (sym (mem_append x (units_of v) (expand L)) ∙ nt)

      body : (b : Bool) → ((g : Bool) (k : ℕ) → eqb (run f (expand (S ++ (v ∷ []))) g 0 k (heads w (expand L))) 0 ≡ stays_at w f (S ++ (v ∷ [])) g L)
          → eqb (run f (expand S ++ units_of v) b (cond b 0 (i + len_span v)) (i + len_span v) (heads w (expand L))) 0 ≡ cond b (stays_at w f (S ++ (v ∷ [])) b L) false
      body true rec = ap (λ (T : List FugueSpan). eqb (run f T true 0 (i + len_span v) (heads w (expand L))) 0) (sym (one_more S v)) ∙ rec true (i + len_span v)
      body false rec =
          let a = grows f (expand S ++ units_of v) false (i + len_span v) (i + len_span v) (heads w (expand L)) (omega arith) in
          let z = len_pos v.content (span_ok v ok.0).form in
          ne_eqb (run f (expand S ++ units_of v) false (i + len_span v) (i + len_span v) (heads w (expand L))) 0 (λ e. omega (arith, a, z, e))

      pick : (d : Verdict) → ((g : Bool) (k : ℕ) → eqb (run f (expand (S ++ (v ∷ []))) g 0 k (heads w (expand L))) 0 ≡ stays_at w f (S ++ (v ∷ [])) g L)
          → (b : Bool) → eqb (cond b 0 (run f (expand S ++ units_of v) (after d h) (cond (after d h) 0 (i + len_span v)) (i + len_span v) (heads w (expand L)))) 0
          ≡ cond b true (cond (after d h) (stays_at w f (S ++ (v ∷ [])) (after d h) L) false)
      pick d rec true = refl
      pick d rec false = body (after d h) rec

      go : ((g : Bool) (k : ℕ) → eqb (run f (expand (S ++ (v ∷ []))) g 0 k (heads w (expand L))) 0 ≡ stays_at w f (S ++ (v ∷ [])) g L)
          → (t : Bool) → future w v ≡ t → eqb (run f (expand S) h 0 i (heads w (units_of v ++ expand L))) 0
          ≡ cond t (cond (is_stop (f (expand S) v)) true (cond (after (f (expand S) v) h) (stays_at w f (S ++ (v ∷ [])) (after (f (expand S) v) h) L) false)) true
      go rec false e = ap (λ (l : List FugueSpan). eqb (run f (expand S) h 0 i l) 0) (heads_row w v (expand L) ok.0 false e)
      go rec true e =
          ap (λ (l : List FugueSpan). eqb (run f (expand S) h 0 i l) 0) (heads_row w v (expand L) ok.0 true e) ∙
          (ap (λ (r : ℕ). eqb r 0) (span_run all x o p q (expand S) v h 0 i (heads w (expand L)) ok.0 no_b.0) ∙
          pick (f (expand S) v) rec (is_stop (f (expand S) v)))

-- ---- the list at a version

module _ (w : Version) (m : FugueSpan → FugueSpan) (ki : (u : FugueSpan) → (m u).id ≡ u.id) (kl : (u : FugueSpan) → (m u).origin_left ≡ u.origin_left) (kr : (u : FugueSpan) → (m u).origin_right ≡ u.origin_right) (kf : (u : FugueSpan) → (m u).status.future ≡ not (in_version w u.id)) where
  futures-map : (l : List FugueSpan) → futures (map m l) ≡ map m (heads w l)
  unfolding futures heads
  futures-map [] = refl
  futures-map (v ∷ l) = ap (λ (b : Bool). cond b (m v ∷ futures (map m l)) []) (kf v) ∙ go (future w v) (futures-map l)
    where
      go : (t : Bool) → futures (map m l) ≡ map m (heads w l) → cond t (m v ∷ futures (map m l)) [] ≡ map m (cond t (v ∷ heads w l) [])
      go true e = ap (λ (r : List FugueSpan). m v ∷ r) e
      go false e = refl

  past_step : (u : FugueSpan) (l : List FugueSpan) (t : Bool) → future w u ≡ t → first_past (map m (u ∷ l)) ≡ cond t (first_past (map m l)) (At u.id)
  unfolding first_past
  past_step u l t e = ap₂ (λ (b : Bool) (i : Id). cond b (first_past (map m l)) (At i)) (kf u ∙ e) (ki u)

  past_tab : (s : FugueSpan) (rest : List FugueSpan) → future w s ≡ true → (n j : ℕ) → first_past (map m (tab (unit_at s) j n ++ rest)) ≡ first_past (map m rest)
  unfolding tab
  past_tab s rest e zero j = refl
  past_tab s rest e (suc n) j = past_step (unit_at s j) (tab (unit_at s) (suc j) n ++ rest) true (unit_future w s rest j true (later w s.id j e)) ∙ past_tab s rest e n (suc j)

  past_row : (s : FugueSpan) (rest : List FugueSpan) → span_code s ≡ 0 → (t : Bool) → future w s ≡ t → first_past (map m (units_of s ++ rest)) ≡ cond t (first_past (map m rest)) (At s.id)
  unfolding units_of tab
  past_row s rest ok true e = past_tab s rest e (len_span s) 0
  past_row s rest ok false e =
      let h = len_pos s.content (span_ok s ok).form in
      ap (λ (n : ℕ). first_past (map m (tab (unit_at s) 0 n ++ rest))) (let z : len_span s ≡ suc (len_span s - 1) = omega (arith, h) in z) ∙
      (past_step (unit_at s 0) (tab (unit_at s) 1 (len_span s - 1) ++ rest) false (unit_future w s rest 0 false (ap (λ (i : Id). not (in_version w i)) (inc_zero s.id) ∙ e)) ∙
      ap At (unit_id s 0 ∙ inc_zero s.id))

  -- origin right
  pub past_rows : (L : List FugueSpan) → AllOk L → first_past (map m (expand L)) ≡ first_in w L
  unfolding expand first_in first_past AllOk
  past_rows [] ok = refl
  past_rows (s ∷ L) ok = past_row s (expand L) ok.0 (future w s) refl ∙ ap (λ (r : OptId). cond (future w s) r (At s.id)) (past_rows L ok.1)

  -- the place
  pub place_rows : (all L : List FugueSpan) (x o : OptId) (q : ℕ) → AllOk L → mem_id x (expand L) ≡ false → Distinct (map m (expand L)) → first_past (map m (expand L)) ≡ o
      → eqb (scan_place (map m all) (map m (expand L)) x o q) 0 ≡ stays_at w (verdict all x o (pr_pos all x o) q) [] false L
  unfolding scan_place expand
  place_rows all L x o q ok nt d e =
      ap (λ (l : List FugueSpan). eqb (run (verdict (map m all) x o (pr_pos (map m all) x o) q) [] false 0 0 l) 0)
      (ap (λ (r : OptId). up_to r (map m (expand L))) (sym e) ∙ (up_to_lem (map m (expand L)) d ∙ futures-map (expand L))) ∙
      (ap (λ (k : ℕ). eqb (run (verdict (map m all) x o k q) [] false 0 0 (map m (heads w (expand L)))) 0) (pr_map m ki kl kr all x o) ∙
      (ap (λ (k : ℕ). eqb k 0) (run-map m ki kl kr all x o (pr_pos all x o) q [] false 0 0 (heads w (expand L))) ∙
      scan_stays w all x o (pr_pos all x o) q [] L false 0 ok nt))
