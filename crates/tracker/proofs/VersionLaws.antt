-- the pairs of a version, one after the other
use Prim.Native.Nat.{ℕ, zero, suc, ◌+◌, ◌-◌, ◌*◌, ◌<◌, ◌≤◌}
use mathlib.Core.Path.{◌≡◌, refl, ap, ap₂, ◌∙◌}
use mathlib.Core.Bool.{Bool, true, ◌&&◌, cond}
use mathlib.Core.List.{List, [], ◌∷◌}
use native.Mathlib.Omega.{arith}
use lib.Dec.{ltb, leb, eqb}
use lib.ListN.{length, drop, length-drop, drop_of_length-le}
use lib.Seq.{drop-drop}
use Rattle.units.specs.Lists.{every}
use Rattle.history.specs.Edit.{Count, Version}
use Rattle.history.specs.Version.{number, count_of, above, rising, within}
use Rattle.tracker.specs.Rows.{pair_in, pairs}
use Rattle.tracker.proofs.Logs.{length-pairs}

-- ---------------------------------------------------------------- pair i

pub pair_drop : (m : ℕ) (v : List ℕ) (i : ℕ) → i < m → drop i (pairs m v) ≡ pair_in (drop (i * 12) v) ∷ drop (i + 1) (pairs m v)
unfolding pairs
pair_drop zero v i h = absurd (omega arith)
pair_drop (suc m) v zero h = refl
pair_drop (suc m) v (suc i) h =
    let a : 12 + i * 12 ≡ suc i * 12 = omega arith in
    let b : suc (i + 1) ≡ suc i + 1 = omega arith in
    pair_drop m (drop 12 v) i (omega arith)
    ∙ ap₂ (λ (k : Count) (l : Version). k ∷ l) (ap pair_in (drop-drop (i * 12) 12 v ∙ ap (λ (n : ℕ). drop n v) a)) (ap (λ (n : ℕ). drop n (pairs (suc m) v)) b)

pub pair_none : (m : ℕ) (v : List ℕ) (i : ℕ) → m ≤ i → drop i (pairs m v) ≡ []
pair_none m v i h = drop_of_length-le (pairs m v) {i = i} (rw (length-pairs m v) h)

-- ---------------------------------------------------------------- the loops over pairs

module _ (m : ℕ) (v : List ℕ) (i : ℕ) where
  abbrev at : Count
  at = pair_in (drop (i * 12) v)

  module _ (h : i < m) where
    pub count_turn : (p : ℕ) → count_of (drop i (pairs m v)) p ≡ cond (eqb at.peer p) (number at.many) (count_of (drop (i + 1) (pairs m v)) p)
    unfolding count_of
    count_turn p = ap (λ (l : Version). count_of l p) (pair_drop m v i h)

    pub every_turn : (f : Count → Bool) → every f (drop i (pairs m v)) ≡ f at && every f (drop (i + 1) (pairs m v))
    unfolding every
    every_turn f = ap (every f) (pair_drop m v i h)

    pub within_turn : (w : Version) → within (drop i (pairs m v)) w ≡ leb (number at.many) (count_of w at.peer) && within (drop (i + 1) (pairs m v)) w
    unfolding within
    within_turn w = every_turn (λ (x : Count). leb (number x.many) (count_of w x.peer))

  pub count_done : m ≤ i → (p : ℕ) → count_of (drop i (pairs m v)) p ≡ 0
  unfolding count_of
  count_done h p = ap (λ (l : Version). count_of l p) (pair_none m v i h)

  pub every_done : m ≤ i → (f : Count → Bool) → every f (drop i (pairs m v)) ≡ true
  unfolding every
  every_done h f = ap (every f) (pair_none m v i h)

  pub within_done : m ≤ i → (w : Version) → within (drop i (pairs m v)) w ≡ true
  unfolding within
  within_done h w = every_done h (λ (x : Count). leb (number x.many) (count_of w x.peer))

-- pairs i - 1 and i
pub rising_turn : (m : ℕ) (v : List ℕ) (i : ℕ) → 0 < i → i < m →
    rising (drop (i - 1) (pairs m v)) ≡ ltb (pair_in (drop ((i - 1) * 12) v)).peer (pair_in (drop (i * 12) v)).peer && rising (drop i (pairs m v))
unfolding rising above
rising_turn m v i z h =
    let n : i - 1 + 1 ≡ i = omega arith in
    let a : Count = pair_in (drop ((i - 1) * 12) v) in
    ap rising (pair_drop m v (i - 1) (omega arith) ∙ ap (λ (j : ℕ). a ∷ drop j (pairs m v)) n)
    ∙ ap (λ (l : Version). above a.peer l && rising (drop i (pairs m v))) (pair_drop m v i h)

pub rising_done : (m : ℕ) (v : List ℕ) (i : ℕ) → m ≤ i → rising (drop (i - 1) (pairs m v)) ≡ true
unfolding rising above
rising_done m v i h = go (drop (i - 1) (pairs m v)) short
  where
    short : length (drop (i - 1) (pairs m v)) ≤ 1
    short = rw (length-drop (i - 1) (pairs m v), length-pairs m v) (omega arith)

    go : (l : Version) → length l ≤ 1 → rising l ≡ true
    go [] s = refl
    go (k ∷ []) s = refl
    go (k ∷ j ∷ l) s = absurd (omega arith)

-- what each loop over the pairs cites
pub ruleset counts = (count_turn, count_done)

pub ruleset each = (every_turn, every_done)

pub ruleset covers = (within_turn, within_done)

pub ruleset rises = (rising_turn, rising_done)
