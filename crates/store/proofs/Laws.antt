-- what was put in a row is read back, and no other row changes: the abstraction's laws
use mathlib.Core.Path.{◌≡◌, refl, sym, ap, ◌∙◌}
use mathlib.Core.Bool.{Bool, true, false}
use mathlib.Core.List.{List, ◌++◌, append_assoc}
use Prim.Native.Nat.{ℕ, zero, suc, ◌+◌, ◌*◌, ◌/◌, ◌%◌, ◌≤◌, ◌<◌}
use native.Mathlib.Omega.{arith}
use native.Mathlib.Nat.{add-zero}
use lib.ListN.{length, get_or, set, take, drop, length-set}
use lib.Seq.{ext_get_or, get_or-set_same, get_or-set_other, drop-drop, drop_at, length-take-le}
use mir.Syntax.{w16, w32}
use mir.Val.{SFits}
use mir.Facts.{to_z-of_z}
use mir.ValLaws.{of_z_fits}
use borrow.Author.Tests.{eq-eqb, ne_eqb}
use Rattle.words.specs.Le.{le, bytes_of, put}
use Rattle.words.proofs.Puts.{le_bytes, part_before, part_after}
use Rattle.store.specs.declared.Words.{Words}
use Rattle.span.specs.Maybe.{OptId}
use Rattle.std.specs.Prelude as M
use Rattle.span.specs.Maybe.{OptStatus}
use Rattle.span.specs.declared.span.FugueSpan.{FugueSpan}
use Rattle.store.specs.Row.{rows, words_at, word_bytes, words_of, span_of, row_at, row_bytes, Fitting, Signed, bits16, bits32, maybe_of, opt_of, bit_of, low_of, flags_of, peer_of, ctr_of, has_of, has_status, future_of, times_of}

-- ---- words and bytes

words_in : List ℕ → Words
words_in d =
    record {
      p0 = le (take 8 d);
      p1 = le (take 8 (drop 8 d));
      p2 = le (take 8 (drop 16 d));
      p3 = le (take 8 (drop 24 d));
      c0 = le (take 4 (drop 32 d));
      c1 = le (take 4 (drop 36 d));
      c2 = le (take 4 (drop 40 d));
      c3 = le (take 4 (drop 44 d));
      c4 = le (take 4 (drop 48 d));
      c5 = le (take 4 (drop 52 d));
      c6 = le (take 4 (drop 56 d));
      c7 = le (take 4 (drop 60 d));
      c8 = le (take 4 (drop 64 d));
    }

words_in_lem : (s : List ℕ) (b : ℕ) → words_in (drop b s) ≡ words_at s b
unfolding words_in words_at
words_in_lem s b = simp drop-drop

back : (w : Words) (r : List ℕ) → Fitting w → words_in (word_bytes w ++ r) ≡ w
unfolding words_in word_bytes bytes_of
back w r f =
    rw (
      le_bytes 8 w.p0 f.p0,
      le_bytes 8 w.p1 f.p1,
      le_bytes 8 w.p2 f.p2,
      le_bytes 8 w.p3 f.p3,
      le_bytes 4 w.c0 f.c0,
      le_bytes 4 w.c1 f.c1,
      le_bytes 4 w.c2 f.c2,
      le_bytes 4 w.c3 f.c3,
      le_bytes 4 w.c4 f.c4,
      le_bytes 4 w.c5 f.c5,
      le_bytes 4 w.c6 f.c6,
      le_bytes 4 w.c7 f.c7,
      le_bytes 4 w.c8 f.c8,
    )

drop_in : (s bs : List ℕ) (b : ℕ) → b ≤ length s → drop b (put b bs s) ≡ bs ++ drop (b + length bs) s
unfolding put
drop_in s bs b h = rw (append_assoc (take b s) bs) (drop_at (take b s) (bs ++ drop (b + length bs) s) b (length-take-le b s h))

pub words_back : (s : List ℕ) (b : ℕ) (w : Words) → b ≤ length s → Fitting w → words_at (put b (word_bytes w) s) b ≡ w
words_back s b w h f = sym (words_in_lem (put b (word_bytes w) s) b) ∙ rw (drop_in s (word_bytes w) b h) (back w _ f)

-- ---- spans and words

low_bit : (b : Bool) (w : ℕ) → low_of (bit_of b + 2 * w) ≡ b
low_bit true w = eq-eqb ((1 + 2 * w) % 2) 1 (omega arith)
low_bit false w = ne_eqb ((0 + 2 * w) % 2) 1 (λ e. omega arith)

low_last : (b : Bool) → low_of (bit_of b) ≡ b
low_last true = refl
low_last false = refl

rest_bits : (b : Bool) (w : ℕ) → (bit_of b + 2 * w) / 2 ≡ w
rest_bits true w = omega arith
rest_bits false w = omega arith

opt_back : (o : OptId) → SFits w32 (ctr_of o) → opt_of (has_of o) (peer_of o) (bits32 (ctr_of o)) ≡ o
opt_back M.None h = refl
opt_back (M.Some i) h = rw (to_z-of_z h)

status_back : (d : OptStatus) → SFits w16 (times_of d) → maybe_of (has_status d) (future_of d) (bits16 (times_of d)) ≡ d
status_back M.None h = refl
status_back (M.Some t) h = rw (to_z-of_z h)

module _ (a b c d e f : Bool) where
  flag0 : low_of (flags_of a b c d e f) ≡ a
  unfolding flags_of
  flag0 = low_bit a _

  flag1 : low_of (flags_of a b c d e f / 2) ≡ b
  unfolding flags_of
  flag1 = rw (rest_bits a (bit_of b + 2 * (bit_of c + 2 * (bit_of d + 2 * (bit_of e + 2 * bit_of f))))) (low_bit b _)

  flag2 : low_of (flags_of a b c d e f / 2 / 2) ≡ c
  unfolding flags_of
  flag2 = rw (rest_bits a (bit_of b + 2 * (bit_of c + 2 * (bit_of d + 2 * (bit_of e + 2 * bit_of f)))), rest_bits b (bit_of c + 2 * (bit_of d + 2 * (bit_of e + 2 * bit_of f)))) (low_bit c _)

  flag3 : low_of (flags_of a b c d e f / 2 / 2 / 2) ≡ d
  unfolding flags_of
  flag3 = rw (rest_bits a (bit_of b + 2 * (bit_of c + 2 * (bit_of d + 2 * (bit_of e + 2 * bit_of f)))), rest_bits b (bit_of c + 2 * (bit_of d + 2 * (bit_of e + 2 * bit_of f))), rest_bits c (bit_of d + 2 * (bit_of e + 2 * bit_of f))) (low_bit d _)

  flag4 : low_of (flags_of a b c d e f / 2 / 2 / 2 / 2) ≡ e
  unfolding flags_of
  flag4 = rw (rest_bits a (bit_of b + 2 * (bit_of c + 2 * (bit_of d + 2 * (bit_of e + 2 * bit_of f)))), rest_bits b (bit_of c + 2 * (bit_of d + 2 * (bit_of e + 2 * bit_of f))), rest_bits c (bit_of d + 2 * (bit_of e + 2 * bit_of f)), rest_bits d (bit_of e + 2 * bit_of f)) (low_bit e _)

  flag5 : low_of (flags_of a b c d e f / 2 / 2 / 2 / 2 / 2) ≡ f
  unfolding flags_of
  flag5 = rw (rest_bits a (bit_of b + 2 * (bit_of c + 2 * (bit_of d + 2 * (bit_of e + 2 * bit_of f)))), rest_bits b (bit_of c + 2 * (bit_of d + 2 * (bit_of e + 2 * bit_of f))), rest_bits c (bit_of d + 2 * (bit_of e + 2 * bit_of f)), rest_bits d (bit_of e + 2 * bit_of f), rest_bits e (bit_of f)) (low_last f)

module _ (x : FugueSpan) (h : Signed x) where
  low_times : (bits16 x.status.delete_times + 65536 * bits16 (times_of x.diff_status)) % 65536 ≡ bits16 x.status.delete_times
  low_times = omega (arith, of_z_fits w16 x.status.delete_times h.times)

  high_times : (bits16 x.status.delete_times + 65536 * bits16 (times_of x.diff_status)) / 65536 ≡ bits16 (times_of x.diff_status)
  high_times = omega (arith, of_z_fits w16 x.status.delete_times h.times)

  pub span_back : span_of (words_of x) ≡ x
  unfolding span_of words_of
  span_back =
      let a = x.status.future in
      let b = has_status x.diff_status in
      let c = future_of x.diff_status in
      let d = has_of x.real_id in
      let e = has_of x.origin_left in
      let f = has_of x.origin_right in
      rw (
        flag0 a b c d e f,
        flag1 a b c d e f,
        flag2 a b c d e f,
        flag3 a b c d e f,
        flag4 a b c d e f,
        flag5 a b c d e f,
        opt_back x.real_id h.real,
        opt_back x.origin_left h.left,
        opt_back x.origin_right h.right,
        low_times,
        high_times,
        to_z-of_z h.own,
        to_z-of_z h.times,
        status_back x.diff_status h.diff,
      )

-- ---- the other rows

length_words : (w : Words) → length (word_bytes w) ≡ 72
unfolding word_bytes bytes_of
length_words w = refl

-- a row whose parts are those of a row elsewhere
pub words_moved : (s t : List ℕ) (b b2 : ℕ) → ((k m : ℕ) → k + m ≤ 72 → take m (drop (b2 + k) t) ≡ take m (drop (b + k) s)) → words_at t b2 ≡ words_at s b
unfolding words_at
words_moved s t b b2 same =
    rw (
      first,
      same 8 8 (omega arith),
      same 16 8 (omega arith),
      same 24 8 (omega arith),
      same 32 4 (omega arith),
      same 36 4 (omega arith),
      same 40 4 (omega arith),
      same 44 4 (omega arith),
      same 48 4 (omega arith),
      same 52 4 (omega arith),
      same 56 4 (omega arith),
      same 60 4 (omega arith),
      same 64 4 (omega arith),
    )
  where
    first : take 8 (drop b2 t) ≡ take 8 (drop b s)
    first = simp add-zero at (same 0 8 (omega arith))

pub words_before : (s : List ℕ) (b b2 : ℕ) (w : Words) → b ≤ length s → b2 + 72 ≤ b → words_at (put b (word_bytes w) s) b2 ≡ words_at s b2
words_before s b b2 w h k =
    words_moved s (put b (word_bytes w) s) b2 b2 (λ o m l. part_before s (word_bytes w) b (b2 + o) m h (omega arith))

pub words_after : (s : List ℕ) (b b2 : ℕ) (w : Words) → b ≤ length s → b + 72 ≤ b2 → words_at (put b (word_bytes w) s) b2 ≡ words_at s b2
words_after s b b2 w h k =
    let l = length_words w in
    words_moved s (put b (word_bytes w) s) b2 b2 (λ o m q. part_after s (word_bytes w) b (b2 + o) m h (omega arith))

-- ---- the list of rows

pub length-rows : (n : ℕ) (s : List ℕ) → length (rows n s) ≡ n
unfolding rows
length-rows zero s = refl
length-rows (suc n) s = ap suc (length-rows n (drop 72 s))

words_drop : (s : List ℕ) (a b : ℕ) → words_at (drop a s) b ≡ words_at s (a + b)
words_drop s a b = sym (words_in_lem (drop a s) b) ∙ ap words_in (drop-drop b a s) ∙ words_in_lem s (a + b)

pub rows_at : (n : ℕ) (s : List ℕ) (i : ℕ) (d : FugueSpan) → i < n → get_or (rows n s) i d ≡ row_at s (i * 72)
unfolding rows
rows_at zero s i d h = absurd (omega arith)
rows_at (suc n) s zero d h = refl
rows_at (suc n) s (suc i) d h =
    rows_at n (drop 72 s) i d (omega arith) ∙ ap span_of (words_drop s 72 (i * 72) ∙ ap (words_at s) (next_row i))
  where
    next_row : (i : ℕ) → 72 + i * 72 ≡ suc i * 72
    next_row i = omega arith

data Tri (j i : ℕ) : Type 0 where
  less : j < i → Tri j i
  more : i < j → Tri j i
  same : j ≡ i → Tri j i

up : {j i : ℕ} → Tri j i → Tri (suc j) (suc i)
up (less h) = less (omega arith)
up (more h) = more (omega arith)
up (same e) = same (ap suc e)

tri : (j i : ℕ) → Tri j i
tri zero zero = same refl
tri zero (suc i) = less (omega arith)
tri (suc j) zero = more (omega arith)
tri (suc j) (suc i) = up (tri j i)

-- a row that is put is a store in the list of rows
pub rows-put : (n : ℕ) (s : List ℕ) (i : ℕ) (x : FugueSpan) → n * 72 ≤ length s → i < n → Signed x → Fitting (words_of x)
    → rows n (put (i * 72) (row_bytes x) s) ≡ set (rows n s) i x
rows-put n s i x h k sx f =
    ext_get_or x (rows n t) (set (rows n s) i x) (length-rows n t ∙ sym (length-set (rows n s) i x ∙ length-rows n s)) each
  where
    t : List ℕ
    t = put (i * 72) (row_bytes x) s

    room : i * 72 ≤ length s
    room = omega arith

    pick : (j : ℕ) → j < n → Tri j i → get_or (rows n t) j x ≡ get_or (set (rows n s) i x) j x
    pick j l (less p) =
        rows_at n t j x l ∙ ap span_of (words_before s (i * 72) (j * 72) (words_of x) room (omega arith)) ∙ sym (get_or-set_other (rows n s) i j x x (λ e. omega arith) ∙ rows_at n s j x l)
    pick j l (more p) =
        rows_at n t j x l ∙ ap span_of (words_after s (i * 72) (j * 72) (words_of x) room (omega arith)) ∙ sym (get_or-set_other (rows n s) i j x x (λ e. omega arith) ∙ rows_at n s j x l)
    pick j l (same e) =
        rows_at n t j x l
        ∙ ap (λ (q : ℕ). row_at t (q * 72)) e
        ∙ ap span_of (words_back s (i * 72) (words_of x) room f)
        ∙ span_back x sx
        ∙ sym (ap (λ (q : ℕ). get_or (set (rows n s) i x) q x) e ∙ get_or-set_same (rows n s) i x x (rw (length-rows n s) k))

    each : (j : ℕ) → j < length (rows n t) → get_or (rows n t) j x ≡ get_or (set (rows n s) i x) j x
    each j l = let m : j < n = rw (length-rows n t) at l in pick j m (tri j i)
