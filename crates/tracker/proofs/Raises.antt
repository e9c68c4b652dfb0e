-- rows that moved to the end of a longer list
use Prim.Native.Nat.{ℕ, ◌+◌, ◌-◌, ◌*◌, ◌≤◌, ◌<◌}
use mathlib.Core.Path.{◌≡◌, sym, ap, ◌∙◌}
use mathlib.Core.List.{List}
use native.Mathlib.Omega.{arith}
use lib.ListN.{length, get_or, take, drop, length-drop}
use lib.Seq.{ext_get_or, get_or-drop, length-take-le}
use Rattle.words.specs.Le.{put}
use Rattle.words.proofs.Puts.{part_inside, part_part}
use Rattle.store.specs.Row.{rows, row_at, span_of}
use Rattle.store.proofs.Laws.{rows_at, length-rows, words_moved}

module _ (s : List ℕ) (m k : ℕ) (room : k * 72 ≤ length s) (h : m < k) where
  bs : List ℕ
  bs = take (m * 72) (drop 0 s)

  long : length bs ≡ m * 72
  unfolding bs
  long = length-take-le (m * 72) (drop 0 s) (omega arith)

  moved : List ℕ
  moved = put (0 + (k - m) * 72) bs s

  above : (j : ℕ) → j < m → row_at moved ((k - m + j) * 72) ≡ row_at s (j * 72)
  unfolding moved bs
  above j l = ap span_of (words_moved s moved (j * 72) ((k - m + j) * 72) part)
    where
      part : (o n : ℕ) → o + n ≤ 72 → take n (drop ((k - m + j) * 72 + o) moved) ≡ take n (drop (j * 72 + o) s)
      part o n q =
          let at : (k - m + j) * 72 + o ≡ 0 + (k - m) * 72 + (j * 72 + o) = omega arith in
          let at2 : 0 + (j * 72 + o) ≡ j * 72 + o = omega arith in
          ap (λ (z : ℕ). take n (drop z moved)) at ∙
          (part_inside s bs (0 + (k - m) * 72) (j * 72 + o) n (omega arith) (omega (arith, long)) ∙
          (part_part s 0 (m * 72) (j * 72 + o) n (omega arith) (omega arith) ∙ ap (λ (z : ℕ). take n (drop z s)) at2))

  same : drop (k - m) (rows k moved) ≡ rows m s
  same = ext_get_or (row_at s 0) (drop (k - m) (rows k moved)) (rows m s) (long1 ∙ sym (length-rows m s)) each
    where
      long1 : length (drop (k - m) (rows k moved)) ≡ m
      long1 = length-drop (k - m) (rows k moved) ∙ (ap (λ (z : ℕ). z - (k - m)) (length-rows k moved) ∙ (let q : k - (k - m) ≡ m = omega arith in q))

      each : (j : ℕ) → j < length (drop (k - m) (rows k moved)) → get_or (drop (k - m) (rows k moved)) j (row_at s 0) ≡ get_or (rows m s) j (row_at s 0)
      each j l =
          let q : j < m = rw long1 at l in
          get_or-drop (k - m) (rows k moved) j (row_at s 0) ∙
          (rows_at k moved (k - m + j) (row_at s 0) (omega arith) ∙ (above j q ∙ sym (rows_at m s j (row_at s 0) q)))

  pub raised : (t : List ℕ) → t ≡ put (0 + (k - m) * 72) (take (m * 72) (drop 0 s)) s → drop (k - m) (rows k t) ≡ rows m s
  unfolding moved bs
  raised t e = ap (λ (z : List ℕ). drop (k - m) (rows k z)) e ∙ same

-- nothing moves where the list is as long
pub not_raised : (s : List ℕ) (m k : ℕ) → m ≤ k → k ≤ m → drop (k - m) (rows k s) ≡ rows m s
not_raised s m k h l =
    let e : k - m ≡ 0 = omega arith in
    let f : k ≡ m = omega arith in
    ap (λ (z : ℕ). drop z (rows k s)) e ∙ ap (λ (z : ℕ). rows z s) f
