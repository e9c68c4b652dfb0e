-- rows that moved up by one
use mathlib.Core.Path.{◌≡◌, sym, ap, ◌∙◌}
use mathlib.Core.List.{List, ◌∷◌, ◌++◌}
use Prim.Native.Nat.{ℕ, suc, ◌+◌, ◌-◌, ◌*◌, ◌≤◌, ◌<◌}
use native.Mathlib.Omega.{arith}
use lib.ListN.{length, get_or, set, take, drop, length-drop}
use lib.Seq.{ext_get_or, get_or-take, get_or-drop, length-take-le, set_split}
use Rattle.words.specs.Le.{put}
use Rattle.words.proofs.Puts.{part_before, part_inside, part_part}
use Rattle.span.specs.declared.span.FugueSpan.{FugueSpan}
use Rattle.store.specs.Row.{rows, row_at, span_of}
use Rattle.store.proofs.Laws.{rows_at, length-rows, words_moved}

module _ (s : List ℕ) (n i : ℕ) (x : FugueSpan) (room : n * 72 + 72 ≤ length s) (hi : i ≤ n) where
  moved : List ℕ
  moved = put (i * 72 + 72) (take (n * 72 - i * 72) (drop (i * 72) s)) s

  below : (j : ℕ) → j < i → row_at moved (j * 72) ≡ row_at s (j * 72)
  unfolding moved
  below j h =
      ap span_of (words_moved s moved (j * 72) (j * 72) (λ k m l. part_before s _ (i * 72 + 72) (j * 72 + k) m (omega arith) (omega arith)))

  above : (j : ℕ) → i ≤ j → j < n → row_at moved (suc j * 72) ≡ row_at s (j * 72)
  unfolding moved
  above j h h2 = ap span_of (words_moved s moved (j * 72) (suc j * 72) part)
    where
      bs : List ℕ
      bs = take (n * 72 - i * 72) (drop (i * 72) s)

      long : length bs ≡ n * 72 - i * 72
      long = length-take-le (n * 72 - i * 72) (drop (i * 72) s) (rw length-drop (omega arith))

      part : (k m : ℕ) → k + m ≤ 72 → take m (drop (suc j * 72 + k) moved) ≡ take m (drop (j * 72 + k) s)
      part k m l =
          let at1 : suc j * 72 + k ≡ i * 72 + 72 + (j * 72 - i * 72 + k) = omega arith in
          let at2 : j * 72 + k ≡ i * 72 + (j * 72 - i * 72 + k) = omega arith in
          rw (at1, at2)
          (part_inside s bs (i * 72 + 72) (j * 72 - i * 72 + k) m (omega arith) (omega (arith, long))
          ∙ part_part s (i * 72) (n * 72 - i * 72) (j * 72 - i * 72 + k) m (omega arith) (omega arith))

  same_front : take i (rows (n + 1) moved) ≡ take i (rows n s)
  same_front = ext_get_or x _ _ (long1 ∙ sym long2) each
    where
      long1 : length (take i (rows (n + 1) moved)) ≡ i
      long1 = length-take-le i (rows (n + 1) moved) (rw length-rows (omega arith))

      long2 : length (take i (rows n s)) ≡ i
      long2 = length-take-le i (rows n s) (rw length-rows (omega arith))

      each : (j : ℕ) → j < length (take i (rows (n + 1) moved)) → get_or (take i (rows (n + 1) moved)) j x ≡ get_or (take i (rows n s)) j x
      each j l =
          let h : j < i = rw long1 at l in
          get_or-take i (rows (n + 1) moved) j x h
          ∙ rows_at (n + 1) moved j x (omega arith)
          ∙ below j h
          ∙ sym (get_or-take i (rows n s) j x h ∙ rows_at n s j x (omega arith))

  same_back : drop (suc i) (rows (n + 1) moved) ≡ drop i (rows n s)
  same_back = ext_get_or x _ _ (long1 ∙ sym long2) each
    where
      long1 : length (drop (suc i) (rows (n + 1) moved)) ≡ n - i
      long1 = rw (length-drop, length-rows) (omega arith)

      long2 : length (drop i (rows n s)) ≡ n - i
      long2 = rw (length-drop, length-rows)

      each : (j : ℕ) → j < length (drop (suc i) (rows (n + 1) moved)) → get_or (drop (suc i) (rows (n + 1) moved)) j x ≡ get_or (drop i (rows n s)) j x
      each j l =
          let h : j < n - i = rw long1 at l in
          let e : suc i + j ≡ suc (i + j) = omega arith in
          get_or-drop (suc i) (rows (n + 1) moved) j x
          ∙ rows_at (n + 1) moved (suc i + j) x (omega arith)
          ∙ ap (λ (q : ℕ). row_at moved (q * 72)) e
          ∙ above (i + j) (omega arith) (omega arith)
          ∙ sym (get_or-drop i (rows n s) j x ∙ rows_at n s (i + j) x (omega arith))

  pub inserted : set (rows (n + 1) (put (i * 72 + 72) (take (n * 72 - i * 72) (drop (i * 72) s)) s)) i x ≡ take i (rows n s) ++ x ∷ drop i (rows n s)
  unfolding moved
  inserted = set_split (rows (n + 1) moved) i x (rw length-rows (omega arith)) ∙ rw (same_front, same_back)
