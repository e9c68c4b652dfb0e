-- A version's columns put as pairs, one pair after the other. Assumes nothing.
use Prim.Native.Nat.{ℕ, zero, suc, ◌+◌, ◌-◌, ◌*◌, ◌^◌, ◌≤◌, ◌<◌}
use mathlib.Core.Path.{◌≡◌, refl, sym, ap, ap₂, ◌∙◌}
use mathlib.Core.Bool.{Bool, true, false, cond}
use mathlib.Core.List.{List, [], ◌∷◌, ◌++◌, append_assoc, append-nil}
use native.Mathlib.Omega.{arith}
use native.Mathlib.Nat.{suc-add}
use lib.Dec.{leb, eqb}
use lib.ListN.{length, get_or, take, drop, length-drop, drop_of_length-le}
use lib.Seq.{take_all, drop-drop, drop_at, length-take-le}
use mir.Syntax.{w32}
use mir.Val.{to_z}
use borrow.Author.Tests.{le-leb, lt-leb, eq-eqb, ne_eqb}
use Rattle.words.specs.Le.{bytes_of, put}
use Rattle.words.proofs.Puts.{le_bytes, part_before}
use Rattle.store.specs.Limits.{PEERS}
use Rattle.history.specs.Edit.{Version}
use Rattle.tracker.specs.declared.row.Head.{Head}
use Rattle.tracker.specs.Rows.{to_edit, pair_in, pairs, broken, context_in, edit_in, head_bytes}
use Rattle.tracker.specs.Writes.{HeadFits}
use Rattle.tracker.specs.Entries.{zipped, version_of, short_of, version_in}
use Rattle.tracker.proofs.Logs.{pairs_cong}
use Rattle.tracker.proofs.Appends.{many_back, rest_back, length_head, edit_back}

-- ---------------------------------------------------------------- pairs, one more

pub pairs_one : (i : ℕ) (v : List ℕ) → pairs (i + 1) v ≡ pairs i v ++ (pair_in (drop (i * 12) v) ∷ [])
unfolding pairs
pairs_one zero v = refl
pairs_one (suc i) v =
    ap (λ (n : ℕ). pairs n v) (suc-add i 1)
    ∙ ap (λ (l : Version). pair_in v ∷ l)
    (pairs_one i (drop 12 v)
    ∙ ap (λ (w : List ℕ). pairs i (drop 12 v) ++ (pair_in w ∷ []))
    (drop-drop (i * 12) 12 v ∙ ap (λ (n : ℕ). drop n v) (let e : 12 + i * 12 ≡ suc i * 12 = omega arith in e)))

-- a pair of columns, in its bytes
pub pair_back : (p c : ℕ) → p < 2 ^ 64 → c < 2 ^ 32 → (r : List ℕ) → pair_in ((bytes_of 8 p ++ bytes_of 4 c) ++ r) ∷ [] ≡ zipped (p ∷ []) (c ∷ [])
unfolding pair_in zipped bytes_of
pair_back p c fp fc r = rw (le_bytes 8 p fp, le_bytes 4 c fc)

drop_in : (s bs : List ℕ) (b : ℕ) → b ≤ length s → drop b (put b bs s) ≡ bs ++ drop (b + length bs) s
unfolding put
drop_in s bs b h = rw (append_assoc (take b s) bs) (drop_at (take b s) (bs ++ drop (b + length bs) s) b (length-take-le b s h))

pub column_put : (v : List ℕ) (i p c : ℕ) → p < 2 ^ 64 → c < 2 ^ 32 → i * 12 ≤ length v
    → pairs (i + 1) (put (i * 12) (bytes_of 8 p ++ bytes_of 4 c) v) ≡ pairs i v ++ zipped (p ∷ []) (c ∷ [])
column_put v i p c fp fc h =
    let bs = bytes_of 8 p ++ bytes_of 4 c in
    pairs_one i (put (i * 12) bs v)
    ∙ ap₂ (λ (l m : Version). l ++ m) (pairs_cong i (put (i * 12) bs v) v (part_before v bs (i * 12) 0 (i * 12) h (omega arith)))
    (ap (λ (w : List ℕ). pair_in w ∷ []) (drop_in v bs (i * 12) h) ∙ pair_back p c fp fc (drop (i * 12 + length bs) v))

-- ---------------------------------------------------------------- columns

pub zipped-suc : (ps cs : List ℕ) (i : ℕ) → i < length ps → i < length cs
    → take (suc i) (zipped ps cs) ≡ take i (zipped ps cs) ++ zipped (get_or ps i 0 ∷ []) (get_or cs i 0 ∷ [])
unfolding zipped
zipped-suc [] cs i h k = absurd (omega arith)
zipped-suc (p ∷ ps) [] i h k = absurd (omega arith)
zipped-suc (p ∷ ps) (c ∷ cs) zero h k = refl
zipped-suc (p ∷ ps) (c ∷ cs) (suc i) h k = ap (λ (l : Version). record { peer = p; many = to_z w32 c } ∷ l) (zipped-suc ps cs i (omega arith) (omega arith))

pub length-zipped : (ps cs : List ℕ) → length (zipped ps cs) ≤ length ps
unfolding zipped
length-zipped [] cs = omega arith
length-zipped (p ∷ ps) [] = omega arith
length-zipped (p ∷ ps) (c ∷ cs) = let h = length-zipped ps cs in omega (arith, h)

-- ---------------------------------------------------------------- the loop: i pairs are put

pub record Columned (v₀ ps cs v : List ℕ) (i : ℕ) : Type 0 where
  pub low : i ≤ length ps
  pub long : length v ≡ length v₀
  pub is : pairs i v ≡ take i (zipped ps cs)

module _ (v₀ ps cs : List ℕ) where
  pub columned_none : Columned v₀ ps cs v₀ 0
  unfolding pairs
  columned_none = record { low = omega arith; long = refl; is = refl }

  module _ (few : length ps ≤ 16) (same : length cs ≡ length ps) (v : List ℕ) (i : ℕ) (k : Columned v₀ ps cs v i) where
    pub columned_more : (w : List ℕ) → i < length ps → length w ≡ length v
        → pairs (i + 1) w ≡ pairs i v ++ zipped (get_or ps i 0 ∷ []) (get_or cs i 0 ∷ []) → Columned v₀ ps cs w (i + 1)
    columned_more w h l e =
        record {
          low = omega arith;
          long = l ∙ k.long;
          is =
              e
              ∙ (ap (λ (r : Version). r ++ zipped (get_or ps i 0 ∷ []) (get_or cs i 0 ∷ [])) k.is
              ∙ (sym (zipped-suc ps cs i h (omega (arith, same))) ∙ ap (λ (n : ℕ). take n (zipped ps cs)) (let q : suc i ≡ i + 1 = omega arith in q)));
        }

    pub columned_all : length ps ≤ i → version_in (length ps) v ≡ short_of ps cs
    unfolding version_in short_of version_of
    columned_all h =
        let q : i ≡ length ps = omega (arith, k.low) in
        rw (le-leb (length ps) PEERS few, eq-eqb (length ps) (length cs) (sym same))
        (ap (λ (n : ℕ). pairs n v) (sym q) ∙ (k.is ∙ take_all i (zipped ps cs) (omega (arith, length-zipped ps cs))))

-- what is no version: too many pairs, or columns of unequal length
pub many_broken : (v ps cs : List ℕ) → 16 < length ps → version_in 17 v ≡ short_of ps cs
unfolding version_in short_of
many_broken v ps cs h = rw (lt-leb (length ps) PEERS h)

pub uneven_broken : (v ps cs : List ℕ) → (length cs ≡ length ps → ⊥) → version_in 17 v ≡ short_of ps cs
unfolding version_in short_of version_of
uneven_broken v ps cs h = by (leb (length ps) PEERS)
  where
    by : (b : Bool) → broken ≡ cond b (cond (eqb (length ps) (length cs)) (zipped ps cs) broken) broken
    by true = rw (ne_eqb (length ps) (length cs) (λ (q : length ps ≡ length cs). h (sym q)))
    by false = refl

-- ---------------------------------------------------------------- an edit handed in: its pairs, then its words before them

module _ (x : Head) (many : ℕ) (f : HeadFits x 0 many) (r : List ℕ) where
  pub context_in_lem : context_in (head_bytes x 0 many ++ r) ≡ version_in many r
  unfolding context_in version_in
  context_in_lem = rw (many_back x 0 many f r, rest_back x 0 many f r)

pub edit_put : (s : List ℕ) → 256 ≤ length s → (x : Head) (many : ℕ) (ps cs q t : List ℕ) → HeadFits x 0 many
    → version_in many q ≡ short_of ps cs → t ≡ put 0 (head_bytes x 0 many) (take 64 s ++ (q ++ drop (length s - 64) (drop 64 s))) → edit_in t ≡ to_edit x (short_of ps cs)
unfolding put head_bytes bytes_of
edit_put s h x many ps cs q t f e d =
    let none : drop (length s - 64) (drop 64 s) ≡ [] = drop_of_length-le (drop 64 s) {i = length s - 64} (rw length-drop (omega arith)) in
    let b : drop 64 (take 64 s ++ (q ++ drop (length s - 64) (drop 64 s))) ≡ q = drop_at (take 64 s) (q ++ drop (length s - 64) (drop 64 s)) 64 (length-take-le 64 s (omega arith)) ∙ (ap (λ (r : List ℕ). q ++ r) none ∙ append-nil q) in
    let g : t ≡ head_bytes x 0 many ++ q = d ∙ ap (λ (r : List ℕ). head_bytes x 0 many ++ r) (ap (λ (n : ℕ). drop n (take 64 s ++ (q ++ drop (length s - 64) (drop 64 s)))) (length_head x 0 many) ∙ b) in
    ap edit_in g ∙ (edit_back x 0 many f q ∙ ap (to_edit x) (context_in_lem x many f q ∙ e))
