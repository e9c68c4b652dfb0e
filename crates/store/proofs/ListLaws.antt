-- A buffer cut into rows says the list of its rows. Assumes nothing.
use Prim.Native.Nat.{ℕ, zero, suc, ◌+◌, ◌-◌, ◌*◌, ◌/◌, ◌≤◌}
use mathlib.Core.Path.{◌≡◌, refl, ap, ap₂, ◌∙◌}
use native.Mathlib.Omega.{arith}
use Rattle.std.proofs.Common.{zero-add, List, ◌∷◌, length, take, drop}
use Rattle.std.specs.Simd.{first_chunks}
use Rattle.std.proofs.lemmas.List.{take-take, drop-take}
use Rattle.store.specs.Row.{rows, row_at, span_of}
use Rattle.store.specs.Listed.{spans}
use Rattle.store.proofs.Laws.{words_moved}

-- the first k of more chunks
pub take-first_chunks : {A : Type 0} (n k m : ℕ) (s : List A) → k ≤ m → take k (first_chunks n m s) ≡ first_chunks n k s
take-first_chunks n zero m s h = refl
take-first_chunks n (suc k) zero s h = absurd (omega arith)
take-first_chunks n (suc k) (suc m) s h = ap (λ l. take n s ∷ l) (take-first_chunks n k m (drop n s) (omega arith))

pub length-first_chunks : {A : Type 0} (n k : ℕ) (s : List A) → length (first_chunks n k s) ≡ k
length-first_chunks n zero s = refl
length-first_chunks n (suc k) s = ap suc (length-first_chunks n k (drop n s))

part : (s : List ℕ) (o m : ℕ) → o + m ≤ 72 → take m (drop o (take 72 s)) ≡ take m (drop o s)
part s o m h =
    let rest : 72 ≡ o + (72 - o) = omega arith in
    ap (λ (z : ℕ). take m (drop o (take z s))) rest ∙ (ap (take m) (drop-take o (72 - o) s) ∙ take-take m (72 - o) (drop o s) (omega arith))

-- a row by itself says what it says in the buffer
row_alone : (s : List ℕ) → row_at (take 72 s) 0 ≡ row_at s 0
row_alone s = ap span_of (words_moved s (take 72 s) 0 0 (λ o m h. simp zero-add (part s o m h)))

pub spans-first_chunks : (n : ℕ) (s : List ℕ) → spans (first_chunks 72 n s) ≡ rows n s
unfolding rows
spans-first_chunks zero s = refl
spans-first_chunks (suc n) s = ap₂ (λ (x : _) l. x ∷ l) (row_alone s) (spans-first_chunks n (drop 72 s))

-- as `rows` cuts it: the range of whole rows
pub first_rows : (k : ℕ) (s : List ℕ) → k * 72 ≤ length s → (k ≤ length s / 72) × (length (take k (first_chunks 72 (length s / 72) s)) ≡ k) × (spans (take k (first_chunks 72 (length s / 72) s)) ≡ rows k s)
first_rows k s h =
    let fits : k ≤ length s / 72 = omega arith in
    let cut = take-first_chunks 72 k (length s / 72) s fits in
    (fits, ap length cut ∙ length-first_chunks 72 k s, ap spans cut ∙ spans-first_chunks k s)
