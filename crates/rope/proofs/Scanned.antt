-- C2: the scan by spans is the scan by units. A later unit of a span has an origin left that was scanned and is not ours.
use Prim.Native.Nat.{ℕ, zero, suc, ◌+◌, ◌-◌, ◌<◌}
use mathlib.Core.Path.{◌≡◌, refl, sym, ap, ap₂, ◌∙◌}
use mathlib.Core.Bool.{Bool, true, false, cond, true≢false}
use mathlib.Core.List.{List, [], ◌∷◌, ◌++◌, append_assoc, append-nil}
use native.Mathlib.Omega.{arith}
use native.Mathlib.Nat.{zero-add}
use lib.ListN.{length, length-append}
use lib.Seq.{take_at}
use Rattle.span.specs.Maybe.{OptId}
use Rattle.std.specs.Prelude.{None as Nothing, Some as At}
use Rattle.span.specs.declared.span.FugueSpan.{FugueSpan}
use Rattle.span.specs.declared.status.Status.{Status}
use Rattle.span.specs.Ids.{inc_id, same_opt}
use Rattle.span.proofs.Same.{same_opt-true, same_opt_refl}
use Rattle.span.specs.Span.{len_span, span_code, shift, left_of}
use Rattle.span.proofs.SpanLaws.{span_ok}
use Rattle.span.proofs.Views.{len_pos}
use Rattle.span.specs.Units.{tab, unit_at, units_of, expand}
use Rattle.span.proofs.ListLaws.{tab-add}
use Rattle.span.proofs.ForRope.{units_length, expand-append}
use Rattle.units.specs.declared.place.Verdict.{Verdict}
use Rattle.units.specs.declared.place.Verdict.TheVariants.{Keep}
use Rattle.units.specs.Place.{mem_id, sibling, verdict, is_stop, after, run, up_to, first_past, Distinct}
use Rattle.rope.specs.Spans.{width, AllOk, run_s}
use Rattle.rope.proofs.Offsets.{unit_left, unit_status, tab_has}
use Rattle.rope.proofs.Lists.{or_right, or-false, mem_append}

-- ---- the future units at the front

unfoldable pub futures : List FugueSpan → List FugueSpan
futures [] = []
futures (v ∷ l) = cond v.status.future (v ∷ futures l) []

past_in : (o : OptId) (l : List FugueSpan) → mem_id o l ≡ false → (o ≡ Nothing → ⊥) → (first_past l ≡ o → ⊥)
unfolding mem_id first_past
past_in o [] m n e = n (sym e)
past_in o (v ∷ l) m n e = go (λ w f. past_in o l w n f) v.status.future refl e
  where
    go : (mem_id o l ≡ false → first_past l ≡ o → ⊥) → (t : Bool) → v.status.future ≡ t → cond t (first_past l) (At v.id) ≡ o → ⊥
    go rec true p f = rec (or-false (same_opt o (At v.id)) (mem_id o l) m).1 f
    go rec false p f =
        let a : same_opt o (At v.id) ≡ true = ap (λ (r : OptId). same_opt r (At v.id)) (sym f) ∙ same_opt_refl (At v.id) in
        true≢false (sym a ∙ (or-false (same_opt o (At v.id)) (mem_id o l) m).0)

-- the scan goes to origin right: the future units and nt more
pub up_to_lem : (l : List FugueSpan) → Distinct l → up_to (first_past l) l ≡ futures l
unfolding up_to first_past Distinct futures
up_to_lem [] d = refl
up_to_lem (v ∷ l) d = go (up_to_lem l d.1) v.status.future refl
  where
    not_here : same_opt (first_past l) (At v.id) ≡ false
    not_here = pick (same_opt (first_past l) (At v.id)) refl
      where
        pick : (t : Bool) → same_opt (first_past l) (At v.id) ≡ t → same_opt (first_past l) (At v.id) ≡ false
        pick false p = p
        pick true p = absurd (past_in (At v.id) l d.0 (λ e. let z : ◌≡◌ {A = ℕ} 0 1 = cc in omega arith) (same_opt-true (first_past l) (At v.id) p))

    go : up_to (first_past l) l ≡ futures l → (t : Bool) → v.status.future ≡ t → cond (same_opt (cond t (first_past l) (At v.id)) (At v.id)) [] (v ∷ up_to (cond t (first_past l) (At v.id)) l) ≡ cond t (v ∷ futures l) []
    go rec true p = rw not_here (ap (λ (m : List FugueSpan). v ∷ m) rec)
    go rec false p = rw (same_opt_refl (At v.id))

-- ---- one span

module _ (all : List FugueSpan) (x o : OptId) (m q : ℕ) where
  abbrev f : List FugueSpan → FugueSpan → Verdict
  f = verdict all x o m q

  -- the verdict reads the origins and the peer, which are those of the first unit
  pub first_unit : (S : List FugueSpan) (v : FugueSpan) → verdict all x o m q S (unit_at v 0) ≡ verdict all x o m q S v
  unfolding verdict sibling shift left_of inc_id
  first_unit S v = refl

  keep_by : (S : List FugueSpan) (v : FugueSpan) → same_opt v.origin_left x ≡ false → mem_id v.origin_left S ≡ true → verdict all x o m q S v ≡ Keep
  unfolding verdict
  keep_by S v a b = rw (a, b)

  -- a unit after the first
  later : (S : List FugueSpan) (v : FugueSpan) (k : ℕ) → span_code v ≡ 0 → suc k < len_span v → mem_id x (units_of v) ≡ false → verdict all x o m q (S ++ tab (unit_at v) 0 (suc k)) (unit_at v (suc k)) ≡ Keep
  unfolding units_of left_of
  later S v k ok h n = keep_by (S ++ tab (unit_at v) 0 (suc k)) (unit_at v (suc k)) ours seen
    where
      left : (unit_at v (suc k)).origin_left ≡ At (inc_id v.id k)
      left = unit_left v (suc k)

      ours : same_opt (unit_at v (suc k)).origin_left x ≡ false
      ours = pick (same_opt (unit_at v (suc k)).origin_left x) refl
        where
          pick : (t : Bool) → same_opt (unit_at v (suc k)).origin_left x ≡ t → same_opt (unit_at v (suc k)).origin_left x ≡ false
          pick false p = p
          pick true p =
              let e : x ≡ At (inc_id v.id (0 + k)) = sym (same_opt-true (unit_at v (suc k)).origin_left x p) ∙ left ∙ ap (λ (j : ℕ). At (inc_id v.id j)) (sym (zero-add k)) in
              let w : mem_id x (tab (unit_at v) 0 (len_span v)) ≡ true = ap (λ (r : OptId). mem_id r (tab (unit_at v) 0 (len_span v))) e ∙ tab_has v ok 0 (len_span v) k (omega arith) in
              absurd (true≢false (sym w ∙ n))

      seen : mem_id (unit_at v (suc k)).origin_left (S ++ tab (unit_at v) 0 (suc k)) ≡ true
      seen =
          ap (λ (r : OptId). mem_id r (S ++ tab (unit_at v) 0 (suc k))) (left ∙ ap (λ (j : ℕ). At (inc_id v.id j)) (sym (zero-add k))) ∙
          (mem_append (At (inc_id v.id (0 + k))) S (tab (unit_at v) 0 (suc k)) ∙
          or_right (mem_id (At (inc_id v.id (0 + k))) S) (mem_id (At (inc_id v.id (0 + k))) (tab (unit_at v) 0 (suc k))) (tab_has v ok 0 (suc k) k (omega arith)))

  run_keep : (A : List FugueSpan) (h : Bool) (p i : ℕ) (u : FugueSpan) (us : List FugueSpan) → f A u ≡ Keep → run f A h p i (u ∷ us) ≡ run f (A ++ (u ∷ [])) h (cond h p (suc i)) (suc i) us
  unfolding run is_stop after
  run_keep A h p i u us e = rw e

  cond-cond : (h : Bool) (p i j : ℕ) → cond h (cond h p i) j ≡ cond h p j
  cond-cond true p i j = refl
  cond-cond false p i j = refl

  snoc : (S : List FugueSpan) (v : FugueSpan) (k : ℕ) → (S ++ tab (unit_at v) 0 (suc k)) ++ (unit_at v (suc k) ∷ []) ≡ S ++ tab (unit_at v) 0 (suc (suc k))
  unfolding tab
  snoc S v k =
      append_assoc S (tab (unit_at v) 0 (suc k)) (unit_at v (suc k) ∷ []) ∙
      ap (λ (l : List FugueSpan). S ++ l)
      (ap (λ (j : ℕ). tab (unit_at v) 0 (suc k) ++ (unit_at v j ∷ [])) (sym (zero-add (suc k))) ∙ (sym (tab-add (unit_at v) 0 (suc k) 1) ∙ ap (tab (unit_at v) 0) (let e : suc k + 1 ≡ suc (suc k) = omega arith in e)))

  -- the units of a span after the first: the place goes along where nothing holds it
  rest-run : (n : ℕ) (S : List FugueSpan) (v : FugueSpan) (k : ℕ) (h : Bool) (p i : ℕ) (rest : List FugueSpan) → span_code v ≡ 0 → mem_id x (units_of v) ≡ false → suc k + n ≡ len_span v
      → run f (S ++ tab (unit_at v) 0 (suc k)) h (cond h p i) i (tab (unit_at v) (suc k) n ++ rest) ≡ run f (S ++ units_of v) h (cond h p (i + n)) (i + n) rest
  unfolding tab units_of
  rest-run zero S v k h p i rest ok nt e =
      let e2 : suc k ≡ len_span v = omega arith in
      let e3 : i ≡ i + zero = omega arith in
      ap₂ (λ (a b : ℕ). run f (S ++ tab (unit_at v) 0 a) h (cond h p b) b rest) e2 e3
  rest-run (suc n) S v k h p i rest ok nt e =
      let e3 : suc i + n ≡ i + suc n = omega arith in
      run_keep (S ++ tab (unit_at v) 0 (suc k)) h (cond h p i) i (unit_at v (suc k)) (tab (unit_at v) (suc (suc k)) n ++ rest) (later S v k ok (omega arith) nt) ∙
      (ap₂ (λ (A : List FugueSpan) (P : ℕ). run f A h P (suc i) (tab (unit_at v) (suc (suc k)) n ++ rest)) (snoc S v k) (cond-cond h p i (suc i)) ∙
      (rest-run n S v (suc k) h p (suc i) rest ok nt (omega arith) ∙ ap (λ (j : ℕ). run f (S ++ tab (unit_at v) 0 (len_span v)) h (cond h p j) j rest) e3))

  first_step : (S : List FugueSpan) (v : FugueSpan) (h : Bool) (p i : ℕ) (rest : List FugueSpan) (n : ℕ) → suc n ≡ len_span v
      → run f S h p i (units_of v ++ rest) ≡ cond (is_stop (f S (unit_at v 0))) p (run f (S ++ tab (unit_at v) 0 1) (after (f S (unit_at v 0)) h) (cond (after (f S (unit_at v 0)) h) p (suc i)) (suc i) (tab (unit_at v) 1 n ++ rest))
  unfolding run tab units_of
  first_step S v h p i rest n e = rw (← e)

  -- a whole span: the verdict of its first unit
  pub span_run : (S : List FugueSpan) (v : FugueSpan) (h : Bool) (p i : ℕ) (rest : List FugueSpan) → span_code v ≡ 0 → mem_id x (units_of v) ≡ false
      → run f S h p i (units_of v ++ rest) ≡ cond (is_stop (f S v)) p (run f (S ++ units_of v) (after (f S v) h) (cond (after (f S v) h) p (i + len_span v)) (i + len_span v) rest)
  span_run S v h p i rest ok nt = go (len_span v - 1) (let w = len_pos v.content (span_ok v ok).form in let e : suc (len_span v - 1) ≡ len_span v = omega arith in e)
    where
      go : (n : ℕ) → suc n ≡ len_span v → run f S h p i (units_of v ++ rest) ≡ cond (is_stop (f S v)) p (run f (S ++ units_of v) (after (f S v) h) (cond (after (f S v) h) p (i + len_span v)) (i + len_span v) rest)
      go n e = head n e ∙ (ap (λ (w : Verdict). cond (is_stop w) p (run f (S ++ tab (unit_at v) 0 1) (after w h) (cond (after w h) p (suc i)) (suc i) (tab (unit_at v) 1 n ++ rest))) (first_unit S v) ∙ pick (f S v) n e)
        where
          head : (n : ℕ) → suc n ≡ len_span v → run f S h p i (units_of v ++ rest) ≡ cond (is_stop (f S (unit_at v 0))) p (run f (S ++ tab (unit_at v) 0 1) (after (f S (unit_at v 0)) h) (cond (after (f S (unit_at v 0)) h) p (suc i)) (suc i) (tab (unit_at v) 1 n ++ rest))
          head n e = first_step S v h p i rest n e

          pick : (w : Verdict) (n : ℕ) → suc n ≡ len_span v → cond (is_stop w) p (run f (S ++ tab (unit_at v) 0 1) (after w h) (cond (after w h) p (suc i)) (suc i) (tab (unit_at v) 1 n ++ rest)) ≡ cond (is_stop w) p (run f (S ++ units_of v) (after w h) (cond (after w h) p (i + len_span v)) (i + len_span v) rest)
          pick w n e = ap (λ (r : ℕ). cond (is_stop w) p r) (rest-run n S v 0 (after w h) p (suc i) rest ok nt (let e4 : suc 0 + n ≡ len_span v = omega arith in e4) ∙ ap (λ (j : ℕ). run f (S ++ units_of v) (after w h) (cond (after w h) p j) j rest) (let e2 : suc i + n ≡ i + len_span v = omega arith in e2))

-- ---- the whole scan

futures_on : (u : FugueSpan) (l : List FugueSpan) (t : Bool) → u.status.future ≡ t → futures (u ∷ l) ≡ cond t (u ∷ futures l) []
unfolding futures
futures_on u l t e = ap (λ (b : Bool). cond b (u ∷ futures l) []) e

pub future_unit : (v : FugueSpan) (j : ℕ) (t : Bool) → v.status.future ≡ t → (unit_at v j).status.future ≡ t
future_unit v j t e = ap (λ (s : Status). s.future) (unit_status v j) ∙ e

futures_span : (v : FugueSpan) (l : List FugueSpan) → (n j : ℕ) → v.status.future ≡ true → futures (tab (unit_at v) j n ++ l) ≡ tab (unit_at v) j n ++ futures l
unfolding futures tab
futures_span v l zero j e = refl
futures_span v l (suc n) j e = futures_on (unit_at v j) (tab (unit_at v) (suc j) n ++ l) true (future_unit v j true e) ∙ (ap (λ (m : List FugueSpan). unit_at v j ∷ m) (futures_span v l n (suc j) e))

futures_stop : (v : FugueSpan) (l : List FugueSpan) → (n j : ℕ) → v.status.future ≡ false → 0 < n → futures (tab (unit_at v) j n ++ l) ≡ []
unfolding futures tab
futures_stop v l zero j e h = absurd (omega arith)
futures_stop v l (suc n) j e h = futures_on (unit_at v j) (tab (unit_at v) (suc j) n ++ l) false (future_unit v j false e)

stop_units : (v : FugueSpan) (l : List FugueSpan) → span_code v ≡ 0 → v.status.future ≡ false → futures (units_of v ++ l) ≡ []
unfolding units_of
stop_units v l ok u = futures_stop v l (len_span v) 0 u (len_pos v.content (span_ok v ok).form)

all_units : (v : FugueSpan) (l : List FugueSpan) → v.status.future ≡ true → futures (units_of v ++ l) ≡ units_of v ++ futures l
unfolding units_of
all_units v l u = futures_span v l (len_span v) 0 u

module _ (all : List FugueSpan) (x o : OptId) (m q : ℕ) where
  abbrev g : List FugueSpan → FugueSpan → Verdict
  g = verdict all x o m q

  width_at : (S B : List FugueSpan) → width (length S) (S ++ B) ≡ length (expand S)
  unfolding width
  width_at S B = ap (λ (l : List FugueSpan). length (expand l)) (take_at S B (length S) refl)

  width-cond : (h : Bool) (a b : ℕ) (R : List FugueSpan) → width (cond h a b) R ≡ cond h (width a R) (width b R)
  width-cond true a b R = refl
  width-cond false a b R = refl

  one_more : (S : List FugueSpan) (v : FugueSpan) → expand (S ++ (v ∷ [])) ≡ expand S ++ units_of v
  unfolding expand
  one_more S v = expand-append S (v ∷ []) ∙ ap (λ (l : List FugueSpan). expand S ++ l) (append-nil (units_of v))

  -- THE LAW: the scan of the units is the scan of the spans, and its place is the border of a span
  pub scan_law : (S B R : List FugueSpan) (h : Bool) (p : ℕ) → R ≡ S ++ B → AllOk B → mem_id x (expand B) ≡ false
      → run g (expand S) h (width p R) (length (expand S)) (futures (expand B)) ≡ width (run_s g S h p (length S) B) R
  unfolding run_s AllOk expand futures run
  scan_law S [] R h p e ok nt = refl
  scan_law S (v ∷ B) R h p e ok nt =
      go (λ hh pp. scan_law (S ++ (v ∷ [])) B R hh pp (e ∙ sym (append_assoc S (v ∷ []) B)) ok.1 no_b.1) v.status.future refl
    where
      no_b : (mem_id x (units_of v) ≡ false) × (mem_id x (expand B) ≡ false)
      no_b = or-false (mem_id x (units_of v)) (mem_id x (expand B)) (sym (mem_append x (units_of v) (expand B)) ∙ nt)

      go : ((hh : Bool) (pp : ℕ) → run g (expand (S ++ (v ∷ []))) hh (width pp R) (length (expand (S ++ (v ∷ [])))) (futures (expand B)) ≡ width (run_s g (S ++ (v ∷ [])) hh pp (length (S ++ (v ∷ []))) B) R)
          → (t : Bool) → v.status.future ≡ t → run g (expand S) h (width p R) (length (expand S)) (futures (units_of v ++ expand B)) ≡ width (cond t (cond (is_stop (g (expand S) v)) p (run_s g (S ++ (v ∷ [])) (after (g (expand S) v) h) (cond (after (g (expand S) v) h) p (suc (length S))) (suc (length S)) B)) p) R
      go rec false u = ap (λ (l : List FugueSpan). run g (expand S) h (width p R) (length (expand S)) l) (ended u)
        where
          ended : v.status.future ≡ false → futures (units_of v ++ expand B) ≡ []
          ended u = stop_units v (expand B) ok.0 u
      go rec true u =
          ap (λ (l : List FugueSpan). run g (expand S) h (width p R) (length (expand S)) l) (all_units v (expand B) u) ∙
          (span_run all x o m q (expand S) v h (width p R) (length (expand S)) (futures (expand B)) ok.0 no_b.0 ∙ pick rec (g (expand S) v))
        where
          long : length (expand S) + len_span v ≡ length (expand (S ++ (v ∷ [])))
          long = sym (ap length (one_more S v) ∙ (length-append (expand S) (units_of v) ∙ ap (λ (n : ℕ). length (expand S) + n) (units_length v)))

          next : width (suc (length S)) R ≡ length (expand S) + len_span v
          next =
              ap₂ (λ (n : ℕ) (l : List FugueSpan). width n l) (sym count) (e ∙ sym (append_assoc S (v ∷ []) B)) ∙
              (width_at (S ++ (v ∷ [])) B ∙ sym long)
            where
              count : length (S ++ (v ∷ [])) ≡ suc (length S)
              count = length-append S (v ∷ []) ∙ (let e1 : length S + 1 ≡ suc (length S) = omega arith in e1)

          count2 : length (S ++ (v ∷ [])) ≡ suc (length S)
          count2 = length-append S (v ∷ []) ∙ (let e1 : length S + 1 ≡ suc (length S) = omega arith in e1)

          pick : ((hh : Bool) (pp : ℕ) → run g (expand (S ++ (v ∷ []))) hh (width pp R) (length (expand (S ++ (v ∷ [])))) (futures (expand B)) ≡ width (run_s g (S ++ (v ∷ [])) hh pp (length (S ++ (v ∷ []))) B) R)
              → (w : Verdict) → cond (is_stop w) (width p R) (run g (expand S ++ units_of v) (after w h) (cond (after w h) (width p R) (length (expand S) + len_span v)) (length (expand S) + len_span v) (futures (expand B)))
              ≡ width (cond (is_stop w) p (run_s g (S ++ (v ∷ [])) (after w h) (cond (after w h) p (suc (length S))) (suc (length S)) B)) R
          pick rec w =
              ap (λ (r : ℕ). cond (is_stop w) (width p R) r) (body (after w h) rec) ∙ sym (width-cond (is_stop w) p (run_s g (S ++ (v ∷ [])) (after w h) (cond (after w h) p (suc (length S))) (suc (length S)) B) R)
            where
              body : (k : Bool) → ((hh : Bool) (pp : ℕ) → run g (expand (S ++ (v ∷ []))) hh (width pp R) (length (expand (S ++ (v ∷ [])))) (futures (expand B)) ≡ width (run_s g (S ++ (v ∷ [])) hh pp (length (S ++ (v ∷ []))) B) R)
                  → run g (expand S ++ units_of v) k (cond k (width p R) (length (expand S) + len_span v)) (length (expand S) + len_span v) (futures (expand B))
                  ≡ width (run_s g (S ++ (v ∷ [])) k (cond k p (suc (length S))) (suc (length S)) B) R
              body k rec =
                  ap (λ (n : ℕ). run g (expand S ++ units_of v) k (cond k (width p R) n) (length (expand S) + len_span v) (futures (expand B))) (sym next) ∙
                  (ap (λ (n : ℕ). run g (expand S ++ units_of v) k n (length (expand S) + len_span v) (futures (expand B))) (sym (width-cond k p (suc (length S)) R)) ∙
                  (ap₂ (λ (A : List FugueSpan) (n : ℕ). run g A k (width (cond k p (suc (length S))) R) n (futures (expand B))) (sym (one_more S v)) long ∙
                  (rec k (cond k p (suc (length S))) ∙ ap (λ (n : ℕ). width (run_s g (S ++ (v ∷ [])) k (cond k p (suc (length S))) n B) R) count2)))
