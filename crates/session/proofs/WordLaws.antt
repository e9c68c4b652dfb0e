-- a version's word put into columns: the peer and the count of each pair, in the order written
use Rattle.std.proofs.Common.{◌≡◌, ℕ, zero, suc, ◌+◌, ◌<◌, ◌≤◌, Bool, true, false, cond, ltb, List, [], ◌∷◌, ◌++◌, length, take, set, replicate, refl, ◌∙◌, append_assoc, append-nil, arith, length-set, take-suc-set, ltb-false}
use mathlib.Core.Bool.{and-eq-true_iff, false≢true}
use native.Mathlib.Numerals.{unary_clauses}
use lib.ListN.{length-replicate}
use Rattle.span.specs.Units.{tab}
use Rattle.store.specs.Row.{bits32}
use Rattle.std.specs.Prelude.{None, Some}
use Rattle.span.specs.Maybe.{OptId}
use Rattle.script.specs.Version.{pair_count, pair_of, is_id, pairs_from, is_version}
use Rattle.session.specs.Columns.{up_to32, peer_put, count_put, peers_put, counts_put, word_peers, word_counts}

abbrev pub peer_in : OptId → ℕ
peer_in None = 0
peer_in (Some x) = x.peer

abbrev pub count_in : OptId → ℕ
count_in None = 0
count_in (Some x) = bits32 x.counter

all_taken : (n : ℕ) → n ≤ 32 → up_to32 n ≡ n
unfolding up_to32
all_taken n h = go (ltb n 32) refl
  where
    go : (t : Bool) → ltb n 32 ≡ t → cond t n 32 ≡ n
    go true e = refl
    go false e = let g : 32 ≤ n = ltb-false n 32 e in omega arith

module _ (w : List ℕ) where
  peer_set : (i : ℕ) (s : List ℕ) → i < length s → is_id (pair_of w i) ≡ true → peer_put (pair_of w i) i s ≡ set s i (peer_in (pair_of w i))
  unfolding peer_put
  peer_set i s h e = go (pair_of w i) e
    where
      go : (x : OptId) → is_id x ≡ true → peer_put x i s ≡ set s i (peer_in x)
      go None q = absurd (false≢true q)
      go (Some x) q = refl

  peer_front : (i n : ℕ) (s : List ℕ) → i + n ≤ length s → pairs_from w i n ≡ true → take (i + n) (peers_put w i n s) ≡ take i s ++ tab (λ (k : ℕ). peer_in (pair_of w k)) i n
  unfolding peers_put pairs_from tab
  peer_front i zero s h e = simp (unary_clauses, append-nil)
  peer_front i (suc n) s h e =
      let b = (and-eq-true_iff (is_id (pair_of w i)) (pairs_from w (suc i) n)).0 e in
      let g : i + suc n ≡ suc i + n = omega arith in
      let x = peer_in (pair_of w i) in
      rw (g, peer_set i s (omega arith) b.0)
      (peer_front (suc i) n (set s i x) (rw (length-set s i x) (omega arith)) b.1
      ∙ rw (take-suc-set s i x (omega arith)) (append_assoc (take i s) (x ∷ []) (tab (λ (k : ℕ). peer_in (pair_of w k)) (suc i) n)))

  pub version_peers : is_version w ≡ true → pair_count w ≤ 32 → word_peers w ≡ tab (λ (k : ℕ). peer_in (pair_of w k)) 0 (pair_count w)
  unfolding word_peers is_version
  version_peers e h =
      let g : 0 + pair_count w ≡ pair_count w = omega arith in
      rw (all_taken (pair_count w) h) (rw g at (peer_front 0 (pair_count w) (replicate 32 0) (rw (length-replicate {A = ℕ} 32 0) (omega arith)) e))

module _ (w : List ℕ) where
  count_set : (i : ℕ) (s : List ℕ) → i < length s → is_id (pair_of w i) ≡ true → count_put (pair_of w i) i s ≡ set s i (count_in (pair_of w i))
  unfolding count_put
  count_set i s h e = go (pair_of w i) e
    where
      go : (x : OptId) → is_id x ≡ true → count_put x i s ≡ set s i (count_in x)
      go None q = absurd (false≢true q)
      go (Some x) q = refl

  count_front : (i n : ℕ) (s : List ℕ) → i + n ≤ length s → pairs_from w i n ≡ true → take (i + n) (counts_put w i n s) ≡ take i s ++ tab (λ (k : ℕ). count_in (pair_of w k)) i n
  unfolding counts_put pairs_from tab
  count_front i zero s h e = simp (unary_clauses, append-nil)
  count_front i (suc n) s h e =
      let b = (and-eq-true_iff (is_id (pair_of w i)) (pairs_from w (suc i) n)).0 e in
      let g : i + suc n ≡ suc i + n = omega arith in
      let x = count_in (pair_of w i) in
      rw (g, count_set i s (omega arith) b.0)
      (count_front (suc i) n (set s i x) (rw (length-set s i x) (omega arith)) b.1
      ∙ rw (take-suc-set s i x (omega arith)) (append_assoc (take i s) (x ∷ []) (tab (λ (k : ℕ). count_in (pair_of w k)) (suc i) n)))

  pub version_counts : is_version w ≡ true → pair_count w ≤ 32 → word_counts w ≡ tab (λ (k : ℕ). count_in (pair_of w k)) 0 (pair_count w)
  unfolding word_counts is_version
  version_counts e h =
      let g : 0 + pair_count w ≡ pair_count w = omega arith in
      rw (all_taken (pair_count w) h) (rw g at (count_front 0 (pair_count w) (replicate 32 0) (rw (length-replicate {A = ℕ} 32 0) (omega arith)) e))
