-- rows that moved down over rows that go
use mathlib.Core.Path.{◌≡◌, sym, ap, ap₂, ◌∙◌}
use mathlib.Core.List.{List, ◌++◌}
use Prim.Native.Nat.{ℕ, ◌+◌, ◌-◌, ◌*◌, ◌≤◌, ◌<◌}
use native.Mathlib.Omega.{arith}
use lib.ListN.{length, get_or, take, drop, length-drop, take-append-drop}
use lib.Seq.{ext_get_or, get_or-take, get_or-drop, length-take-le}
use Rattle.words.specs.Le.{put}
use Rattle.words.proofs.Puts.{part_before, part_inside, part_part}
use Rattle.span.specs.declared.span.FugueSpan.{FugueSpan}
use Rattle.store.specs.Row.{rows, row_at, span_of}
use Rattle.store.proofs.Laws.{rows_at, length-rows, words_moved}

module _ (s : List ℕ) (n i k : ℕ) (room : n * 72 ≤ length s) (hi : i + k ≤ n) where
  gone : List ℕ
  gone = put (i * 72) (take (n * 72 - (i + k) * 72) (drop ((i + k) * 72) s)) s

  below : (j : ℕ) → j < i → row_at gone (j * 72) ≡ row_at s (j * 72)
  unfolding gone
  below j h =
      ap span_of (words_moved s gone (j * 72) (j * 72) (λ o m l. part_before s _ (i * 72) (j * 72 + o) m (omega arith) (omega arith)))

  above : (j : ℕ) → i ≤ j → j + k < n → row_at gone (j * 72) ≡ row_at s ((j + k) * 72)
  unfolding gone
  above j h h2 = ap span_of (words_moved s gone ((j + k) * 72) (j * 72) part)
    where
      bs : List ℕ
      bs = take (n * 72 - (i + k) * 72) (drop ((i + k) * 72) s)

      long : length bs ≡ n * 72 - (i + k) * 72
      long = length-take-le (n * 72 - (i + k) * 72) (drop ((i + k) * 72) s) (rw length-drop (omega arith))

      part : (o m : ℕ) → o + m ≤ 72 → take m (drop (j * 72 + o) gone) ≡ take m (drop ((j + k) * 72 + o) s)
      part o m l =
          let at1 : j * 72 + o ≡ i * 72 + (j * 72 - i * 72 + o) = omega arith in
          let at2 : (j + k) * 72 + o ≡ (i + k) * 72 + (j * 72 - i * 72 + o) = omega arith in
          rw (at1, at2)
          (part_inside s bs (i * 72) (j * 72 - i * 72 + o) m (omega arith) (omega (arith, long))
          ∙ part_part s ((i + k) * 72) (n * 72 - (i + k) * 72) (j * 72 - i * 72 + o) m (omega arith) (omega arith))

  -- some row, for a list that is too short
  spare : FugueSpan
  spare = row_at s 0

  same_front : take i (rows (n - k) gone) ≡ take i (rows n s)
  same_front = ext_get_or spare _ _ (long1 ∙ sym long2) each
    where
      long1 : length (take i (rows (n - k) gone)) ≡ i
      long1 = length-take-le i (rows (n - k) gone) (rw length-rows (omega arith))

      long2 : length (take i (rows n s)) ≡ i
      long2 = length-take-le i (rows n s) (rw length-rows (omega arith))

      each : (j : ℕ) → j < length (take i (rows (n - k) gone)) → get_or (take i (rows (n - k) gone)) j spare ≡ get_or (take i (rows n s)) j spare
      each j l =
          let h : j < i = rw long1 at l in
          get_or-take i (rows (n - k) gone) j spare h
          ∙ rows_at (n - k) gone j spare (omega arith)
          ∙ below j h
          ∙ sym (get_or-take i (rows n s) j spare h ∙ rows_at n s j spare (omega arith))

  same_back : drop i (rows (n - k) gone) ≡ drop (i + k) (rows n s)
  same_back = ext_get_or spare _ _ (long1 ∙ sym long2) each
    where
      long1 : length (drop i (rows (n - k) gone)) ≡ n - k - i
      long1 = rw (length-drop, length-rows)

      long2 : length (drop (i + k) (rows n s)) ≡ n - k - i
      long2 = rw (length-drop, length-rows) (omega arith)

      each : (j : ℕ) → j < length (drop i (rows (n - k) gone)) → get_or (drop i (rows (n - k) gone)) j spare ≡ get_or (drop (i + k) (rows n s)) j spare
      each j l =
          let h : j < n - k - i = rw long1 at l in
          let e : i + j + k ≡ i + k + j = omega arith in
          get_or-drop i (rows (n - k) gone) j spare
          ∙ rows_at (n - k) gone (i + j) spare (omega arith)
          ∙ above (i + j) (omega arith) (omega arith)
          ∙ ap (λ (q : ℕ). row_at s (q * 72)) e
          ∙ sym (get_or-drop (i + k) (rows n s) j spare ∙ rows_at n s (i + k + j) spare (omega arith))

  pub removed : rows (n - k) (put (i * 72) (take (n * 72 - (i + k) * 72) (drop ((i + k) * 72) s)) s) ≡ take i (rows n s) ++ drop (i + k) (rows n s)
  unfolding gone
  removed = sym (take-append-drop i (rows (n - k) gone)) ∙ ap₂ (λ (a b : List FugueSpan). a ++ b) same_front same_back
