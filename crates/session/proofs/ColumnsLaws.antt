-- a version's pairs put into columns, as a loop over them meets them
use Rattle.std.proofs.Common.{◌≡◌, ℕ, Bool, true, false, cond, ltb, min, suc, ◌+◌, ◌-◌, ◌<◌, ◌≤◌, List, ap, ◌∙◌, add-one, arith, refl, ltb-true, ltb-false}
use Rattle.script.specs.Version.{pair_of}
use Rattle.session.specs.Columns.{up_to32, pairs_taken, peer_put, count_put, peers_put, counts_put, peers_in, counts_in}

pub taken : (n : ℕ) → min n 32 ≡ up_to32 n
unfolding up_to32
taken n = go (ltb n 32) refl
  where
    go : (t : Bool) → ltb n 32 ≡ t → min n 32 ≡ cond t n 32
    go true e = let h : n < 32 = ltb-true n 32 e in omega arith
    go false e = let h : 32 ≤ n = ltb-false n 32 e in omega arith

module _ (w : List ℕ) (n i : ℕ) where
  step : i < n → n - i ≡ suc (n - (i + 1))
  step h = omega arith

  pub peers_turn : (s : List ℕ) → i < n → peers_put w i (n - i) s ≡ peers_put w (i + 1) (n - (i + 1)) (peer_put (pair_of w i) i s)
  unfolding peers_put
  peers_turn s h = rw (step h, add-one)

  pub counts_turn : (s : List ℕ) → i < n → counts_put w i (n - i) s ≡ counts_put w (i + 1) (n - (i + 1)) (count_put (pair_of w i) i s)
  unfolding counts_put
  counts_turn s h = rw (step h, add-one)

  pub peers_done : (s : List ℕ) → n ≤ i → s ≡ peers_put w i (n - i) s
  unfolding peers_put
  peers_done s h = let e : n - i ≡ 0 = omega arith in rw e

  pub counts_done : (s : List ℕ) → n ≤ i → s ≡ counts_put w i (n - i) s
  unfolding counts_put
  counts_done s h = let e : n - i ≡ 0 = omega arith in rw e

-- as many pairs as are taken
module _ (w s : List ℕ) {n : ℕ} {t : List ℕ} (e : n ≡ pairs_taken w) where
  pub peers_in_lem : t ≡ peers_put w 0 n s → t ≡ peers_in w s
  peers_in_lem p = p ∙ ap (λ (m : ℕ). peers_put w 0 m s) e

  pub counts_in_lem : t ≡ counts_put w 0 n s → t ≡ counts_in w s
  counts_in_lem p = p ∙ ap (λ (m : ℕ). counts_put w 0 m s) e
