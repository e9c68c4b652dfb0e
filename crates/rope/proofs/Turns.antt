-- a turn of the placement loop, by what its tests said
use Prim.Native.Nat.{ℕ, suc, ◌+◌, ◌-◌, ◌*◌, ◌<◌, ◌≤◌}
use mathlib.Core.Path.{◌≡◌, refl, sym, ap, ap₂, ◌∙◌}
use mathlib.Core.Bool.{Bool, true, false, not, ◌||◌, cond, false≢true, true≢false}
use mathlib.Core.List.{List, [], ◌∷◌, ◌++◌, append-nil}
use native.Mathlib.Omega.{arith}
use native.Mathlib.Numerals.{add-one}
use lib.ListN.{take, drop}
use lib.Seq.{take-add}
use Rattle.span.specs.Maybe.{OptId}
use Rattle.span.specs.declared.span.FugueSpan.{FugueSpan}
use Rattle.span.specs.Ids.{same_opt}
use Rattle.span.specs.Units.{units_of, expand}
use Rattle.span.proofs.ForRope.{expand-append}
use Rattle.store.specs.Row.{rows, row_at}
use Rattle.units.specs.declared.place.Verdict.{Verdict}
use Rattle.units.specs.declared.place.Verdict.TheVariants.{Stop, Keep}
use Rattle.units.specs.Place.{mem_id, sibling, verdict, is_stop, after}
use Rattle.rope.specs.Spans.{covered, AllOk, run_s}
use Rattle.rope.proofs.Offsets.{covers_units}
use Rattle.rope.proofs.Lists.{or_left, or_right, or_both, mem_append}
use Rattle.rope.proofs.Rights.{row_drop, row_take, row_ok, row_none}

one_more : (S : List FugueSpan) (v : FugueSpan) → expand (S ++ (v ∷ [])) ≡ expand S ++ units_of v
unfolding expand
one_more S v = expand-append S (v ∷ []) ∙ ap (λ (l : List FugueSpan). expand S ++ l) (append-nil (units_of v))

-- ---- the scanned ids

module _ (k : ℕ) (s : List ℕ) (left : OptId) where
  mem_next : (j : ℕ) → j < k → AllOk (rows k s) → mem_id left (expand (take (j + 1) (rows k s))) ≡ (mem_id left (expand (take j (rows k s))) || covered (row_at s (j * 72)) left)
  mem_next j h ok =
      ap (λ (l : List FugueSpan). mem_id left (expand l)) (row_take k s j h) ∙
      (ap (mem_id left) (one_more (take j (rows k s)) (row_at s (j * 72))) ∙
      (mem_append left (expand (take j (rows k s))) (units_of (row_at s (j * 72))) ∙
      ap (λ (t : Bool). mem_id left (expand (take j (rows k s))) || t) (covers_units (row_at s (j * 72)) (row_ok k s j h ok) left)))

  pub not_yet : (j : ℕ) → j < k → AllOk (rows k s) → mem_id left (expand (take j (rows k s))) ≡ false → covered (row_at s (j * 72)) left ≡ false → mem_id left (expand (take (j + 1) (rows k s))) ≡ false
  not_yet j h ok e f = mem_next j h ok ∙ or_both (mem_id left (expand (take j (rows k s)))) (covered (row_at s (j * 72)) left) e f

  pub scanned_has : (j i : ℕ) → j < i → i ≤ k → AllOk (rows k s) → covered (row_at s (j * 72)) left ≡ true → mem_id left (expand (take i (rows k s))) ≡ true
  scanned_has j i h g ok f =
      let e : i ≡ j + 1 + (i - (j + 1)) = omega arith in
      let R = rows k s in
      ap (λ (a : ℕ). mem_id left (expand (take a R))) e ∙
      (ap (λ (l : List FugueSpan). mem_id left (expand l)) (take-add (j + 1) (i - (j + 1)) R) ∙
      (ap (mem_id left) (expand-append (take (j + 1) R) (take (i - (j + 1)) (drop (j + 1) R))) ∙
      (mem_append left (expand (take (j + 1) R)) (expand (take (i - (j + 1)) (drop (j + 1) R))) ∙
      or_left (mem_id left (expand (take (j + 1) R))) (mem_id left (expand (take (i - (j + 1)) (drop (j + 1) R))))
      (mem_next j (omega arith) ok ∙ or_right (mem_id left (expand (take j R))) (covered (row_at s (j * 72)) left) f))))

-- ---- the loop

module _ (all : List FugueSpan) (x o : OptId) (m q : ℕ) where
  abbrev f : List FugueSpan → FugueSpan → Verdict
  f = verdict all x o m q

  v_same : (S : List FugueSpan) (v : FugueSpan) → same_opt v.origin_left x ≡ true → verdict all x o m q S v ≡ sibling all o m q v
  unfolding verdict
  v_same S v e = ap (λ (t : Bool). cond t (sibling all o m q v) (cond (mem_id v.origin_left S) Keep Stop)) e

  v_other : (S : List FugueSpan) (v : FugueSpan) (t : Bool) → same_opt v.origin_left x ≡ false → mem_id v.origin_left S ≡ t → verdict all x o m q S v ≡ cond t Keep Stop
  unfolding verdict
  v_other S v t e g =
      ap (λ (b : Bool). cond b (sibling all o m q v) (cond (mem_id v.origin_left S) Keep Stop)) e ∙ ap (λ (b : Bool). cond b Keep Stop) g

  -- what is left to scan is the answer
  pub record Scan (k : ℕ) (s : List ℕ) (h : Bool) (p i : ℕ) : Type 0 where
    pub low : i ≤ k
    pub is : run_s f [] false 0 0 (rows k s) ≡ run_s f (take i (rows k s)) h p i (drop i (rows k s))

  pub begin : (k : ℕ) (s : List ℕ) → Scan k s false 0 0
  begin k s = record { low = omega arith; is = refl }

  module _ (k : ℕ) (s : List ℕ) (h : Bool) (p i : ℕ) (w : Scan k s h p i) where
    pub over : k ≤ i → p ≡ run_s f [] false 0 0 (rows k s)
    unfolding run_s
    over g = sym (w.is ∙ ap (run_s f (take i (rows k s)) h p i) (row_none k s i g))

    module _ (g : i < k) where
      abbrev row : FugueSpan
      row = row_at s (i * 72)

      abbrev Vd : Verdict
      Vd = verdict all x o m q (expand (take i (rows k s))) row

      step : (t : Bool) → row.status.future ≡ t
          → run_s f [] false 0 0 (rows k s)
          ≡ cond t (cond (is_stop Vd) p (run_s f (take i (rows k s) ++ (row ∷ [])) (after Vd h) (cond (after Vd h) p (suc i)) (suc i) (drop (i + 1) (rows k s)))) p
      unfolding run_s
      step t e =
          w.is ∙
          (ap (run_s f (take i (rows k s)) h p i) (row_drop k s i g) ∙
          ap (λ (b : Bool). cond b (cond (is_stop Vd) p (run_s f (take i (rows k s) ++ (row ∷ [])) (after Vd h) (cond (after Vd h) p (suc i)) (suc i) (drop (i + 1) (rows k s)))) p) e)

      pub not_future : row.status.future ≡ false → p ≡ run_s f [] false 0 0 (rows k s)
      not_future e = sym (step false e)

      stops : (v : Verdict) → row.status.future ≡ true → Vd ≡ v → is_stop v ≡ true → p ≡ run_s f [] false 0 0 (rows k s)
      stops v e d t =
          sym (step true e ∙ ap (λ (b : Bool). cond b p (run_s f (take i (rows k s) ++ (row ∷ [])) (after Vd h) (cond (after Vd h) p (suc i)) (suc i) (drop (i + 1) (rows k s)))) (ap is_stop d ∙ t))

      goes : (v : Verdict) → row.status.future ≡ true → Vd ≡ v → is_stop v ≡ false → Scan k s (after v h) (cond (after v h) p (i + 1)) (i + 1)
      goes v e d t =
          record {
            low = omega arith;
            is =
                step true e ∙
                (ap (λ (b : Bool). cond b p (run_s f (take i (rows k s) ++ (row ∷ [])) (after Vd h) (cond (after Vd h) p (suc i)) (suc i) (drop (i + 1) (rows k s)))) (ap is_stop d ∙ t) ∙
                (ap (λ (u : Verdict). run_s f (take i (rows k s) ++ (row ∷ [])) (after u h) (cond (after u h) p (suc i)) (suc i) (drop (i + 1) (rows k s))) d ∙
                ap₂ (λ (l : List FugueSpan) (a : ℕ). run_s f l (after v h) (cond (after v h) p a) a (drop (i + 1) (rows k s))) (sym (row_take k s i g)) (sym (add-one i))));
          }

      pub judged_stop : (v : Verdict) → row.status.future ≡ true → same_opt row.origin_left x ≡ true → v ≡ sibling all o m q row → is_stop v ≡ true → p ≡ run_s f [] false 0 0 (rows k s)
      judged_stop v e d j t = stops v e (v_same (expand (take i (rows k s))) row d ∙ sym j) t

      pub judged : (v : Verdict) → row.status.future ≡ true → same_opt row.origin_left x ≡ true → v ≡ sibling all o m q row → is_stop v ≡ false → Scan k s (after v h) (cond (after v h) p (i + 1)) (i + 1)
      judged v e d j t = goes v e (v_same (expand (take i (rows k s))) row d ∙ sym j) t

      pub unscanned : row.status.future ≡ true → same_opt row.origin_left x ≡ false → mem_id row.origin_left (expand (take i (rows k s))) ≡ false → p ≡ run_s f [] false 0 0 (rows k s)
      unfolding is_stop
      unscanned e d n = stops Stop e (v_other (expand (take i (rows k s))) row false d n) refl

      pub scanned_left : row.status.future ≡ true → same_opt row.origin_left x ≡ false → mem_id row.origin_left (expand (take i (rows k s))) ≡ true → Scan k s h (cond h p (i + 1)) (i + 1)
      unfolding is_stop after
      scanned_left e d n = goes Keep e (v_other (expand (take i (rows k s))) row true d n) refl

pub not-true : (b : Bool) → not b ≡ true → b ≡ false
not-true true e = absurd (false≢true e)
not-true false e = refl

pub not-false : (b : Bool) → not b ≡ false → b ≡ true
not-false true e = refl
not-false false e = absurd (true≢false e)
