-- the pairs of a version, as a chain over their numbers meets them
use mathlib.Core.Path.{◌≡◌, refl, sym, ap}
use mathlib.Core.Bool.{true, ◌&&◌, and-eq-true_iff}
use mathlib.Core.List.{List}
use Prim.Native.Nat.{ℕ, zero, suc, ◌+◌, ◌<◌}
use native.Mathlib.Omega.{arith}
use native.Mathlib.Numerals.{add-one, unary_clauses}
use Rattle.std.specs.List.{list_all, range_with_len}
use Rattle.script.specs.Version.{pair_count, pair_of, is_id, pairs_from, is_version}

pub pairs_all : (w : List ℕ) (i n : ℕ) → list_all (λ k. is_id (pair_of w k)) (range_with_len i n) ≡ pairs_from w i n
unfolding pairs_from
pairs_all w i zero = refl
pairs_all w i (suc n) = ap (λ q. is_id (pair_of w i) && q) (rw add-one (pairs_all w (suc i) n))

-- ---- a version's pairs

pub pairs_each : (w : List ℕ) (i n k : ℕ) → pairs_from w i n ≡ true → k < n → is_id (pair_of w (i + k)) ≡ true
unfolding pairs_from
pairs_each w i zero k e h = absurd (omega arith)
pairs_each w i (suc n) zero e h = simp unary_clauses ((and-eq-true_iff (is_id (pair_of w i)) (pairs_from w (suc i) n)).0 e).0
pairs_each w i (suc n) (suc k) e h = let f : suc i + k ≡ i + suc k = omega arith in rw (sym f) (pairs_each w (suc i) n k ((and-eq-true_iff (is_id (pair_of w i)) (pairs_from w (suc i) n)).0 e).1 (omega arith))

-- each pair of a version, read by itself, is one
pub version_pair : (w : List ℕ) (i : ℕ) → is_version w ≡ true → i < pair_count w → is_id (pair_of w i) ≡ true
unfolding is_version
version_pair w i e h = let f : 0 + i ≡ i = omega arith in rw f at (pairs_each w 0 (pair_count w) i e h)
