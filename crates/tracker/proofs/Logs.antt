-- The log in its rows: it is read row by row, and depends on no byte past its rows and target ranges. Assumes nothing.
use Prim.Native.Nat.{ℕ, zero, suc, ◌+◌, ◌-◌, ◌*◌, ◌≤◌, ◌<◌}
use mathlib.Core.Path.{◌≡◌, refl, sym, ap, ap₂, ◌∙◌}
use mathlib.Core.Bool.{Bool, true, false, cond}
use mathlib.Core.List.{List, [], ◌∷◌, ◌++◌}
use native.Mathlib.Omega.{arith}
use native.Mathlib.Nat.{zero-add, suc-add, add_assoc}
use lib.Dec.{leb}
use lib.ListN.{length, get_or, take, drop}
use lib.Seq.{drop-drop, take-take, take-nil}
use borrow.Author.Tests.{leb-true}
use Rattle.store.specs.Limits.{PEERS}
use Rattle.history.specs.Edit.{Count, Version, Range, Held}
use Rattle.history.specs.Valid.{target_list}
use Rattle.tracker.specs.Rows.{pair_in, pairs, range_in, ranges, act_in, took_in, pairs_in, context_in, edit_in, held, used, broken}

-- ---------------------------------------------------------------- parts of a front

pub drop_take : {A : Type 0} (k n : ℕ) (l : List A) → drop k (take n l) ≡ take (n - k) (drop k l)
drop_take zero n l = ap (λ (m : ℕ). take m l) (let e : n ≡ n - 0 = omega arith in e)
drop_take (suc k) zero l = ap (λ (m : ℕ). take m (drop (suc k) l)) (let e : 0 ≡ 0 - suc k = omega arith in e)
drop_take {A} (suc k) (suc n) [] = sym (take-nil {A = A} (suc n - suc k))
drop_take (suc k) (suc n) (x ∷ l) = drop_take k n l ∙ ap (λ (m : ℕ). take m (drop k l)) (let e : n - k ≡ suc n - suc k = omega arith in e)

-- m bytes from place k on, of a front that has them
pub part_of_front : (l : List ℕ) (n k m : ℕ) → k + m ≤ n → take m (drop k (take n l)) ≡ take m (drop k l)
part_of_front l n k m h = ap (take m) (drop_take k n l) ∙ take-take m (n - k) (drop k l) (omega arith)

-- ---------------------------------------------------------------- versions

pub pair_front : (v : List ℕ) (n : ℕ) → 12 ≤ n → pair_in (take n v) ≡ pair_in v
unfolding pair_in
pair_front v n h = rw (take-take 8 n v (omega arith), part_of_front v n 8 4 (omega arith))

pub pairs_front : (m : ℕ) (v : List ℕ) (n : ℕ) → m * 12 ≤ n → pairs m (take n v) ≡ pairs m v
unfolding pairs
pairs_front zero v n h = refl
pairs_front (suc m) v n h =
    ap₂ (λ (k : Count) (l : Version). k ∷ l) (pair_front v n (omega arith))
    (ap (pairs m) (drop_take 12 n v) ∙ pairs_front m (drop 12 v) (n - 12) (omega arith))

-- pairs depend on their own bytes alone
pub pairs_cong : (m : ℕ) (v w : List ℕ) → take (m * 12) v ≡ take (m * 12) w → pairs m v ≡ pairs m w
pairs_cong m v w e = sym (pairs_front m v (m * 12) (omega arith)) ∙ (ap (pairs m) e ∙ pairs_front m w (m * 12) (omega arith))

pub length-pairs : (m : ℕ) (v : List ℕ) → length (pairs m v) ≡ m
unfolding pairs
length-pairs zero v = refl
length-pairs (suc m) v = ap suc (length-pairs m (drop 12 v))

pub pairs_at : (m : ℕ) (v : List ℕ) (i : ℕ) (d : Count) → i < m → get_or (pairs m v) i d ≡ pair_in (drop (i * 12) v)
unfolding pairs
pairs_at zero v i d h = absurd (omega arith)
pairs_at (suc m) v zero d h = refl
pairs_at (suc m) v (suc i) d h =
    pairs_at m (drop 12 v) i d (omega arith)
    ∙ ap pair_in (drop-drop (i * 12) 12 v ∙ ap (λ (n : ℕ). drop n v) (let e : 12 + i * 12 ≡ suc i * 12 = omega arith in e))

-- ---------------------------------------------------------------- target ranges

pub range_front : (t : List ℕ) (n : ℕ) → 16 ≤ n → range_in (take n t) ≡ range_in t
unfolding range_in
range_front t n h =
    rw (take-take 8 n t (omega arith), part_of_front t n 8 4 (omega arith), part_of_front t n 12 4 (omega arith))

pub ranges_front : (m : ℕ) (t : List ℕ) (n : ℕ) → m * 16 ≤ n → ranges m (take n t) ≡ ranges m t
unfolding ranges
ranges_front zero t n h = refl
ranges_front (suc m) t n h =
    ap₂ (λ (r : Range) (l : List Range). r ∷ l) (range_front t n (omega arith))
    (ap (ranges m) (drop_take 16 n t) ∙ ranges_front m (drop 16 t) (n - 16) (omega arith))

pub ranges_cong : (m : ℕ) (t u : List ℕ) → take (m * 16) t ≡ take (m * 16) u → ranges m t ≡ ranges m u
ranges_cong m t u e = sym (ranges_front m t (m * 16) (omega arith)) ∙ (ap (ranges m) e ∙ ranges_front m u (m * 16) (omega arith))

pub length-ranges : (m : ℕ) (t : List ℕ) → length (ranges m t) ≡ m
unfolding ranges
length-ranges zero t = refl
length-ranges (suc m) t = ap suc (length-ranges m (drop 16 t))

pub ranges_at : (m : ℕ) (t : List ℕ) (i : ℕ) (d : Range) → i < m → get_or (ranges m t) i d ≡ range_in (drop (i * 16) t)
unfolding ranges
ranges_at zero t i d h = absurd (omega arith)
ranges_at (suc m) t zero d h = refl
ranges_at (suc m) t (suc i) d h =
    ranges_at m (drop 16 t) i d (omega arith)
    ∙ ap range_in (drop-drop (i * 16) 16 t ∙ ap (λ (n : ℕ). drop n t) (let e : 16 + i * 16 ≡ suc i * 16 = omega arith in e))

pub ranges-app : (a b : ℕ) (t : List ℕ) → ranges (a + b) t ≡ ranges a t ++ ranges b (drop (a * 16) t)
unfolding ranges
ranges-app zero b t = ap (λ (n : ℕ). ranges n t) (zero-add b)
ranges-app (suc a) b t =
    ap (λ (n : ℕ). ranges n t) (suc-add a b)
    ∙ ap (λ (l : List Range). range_in t ∷ l)
    (ranges-app a b (drop 16 t)
    ∙ ap (λ (u : List ℕ). ranges a (drop 16 t) ++ ranges b u)
    (drop-drop (a * 16) 16 t ∙ ap (λ (n : ℕ). drop n t) (let e : 16 + a * 16 ≡ suc a * 16 = omega arith in e)))

-- ---------------------------------------------------------------- an edit is in its row of 256 bytes

module _ (e : List ℕ) (n : ℕ) (h : 256 ≤ n) where
  pub took_front : took_in (take n e) ≡ took_in e
  unfolding took_in
  took_front = rw (part_of_front e n 44 4 (omega arith))

  pub many_front : pairs_in (take n e) ≡ pairs_in e
  unfolding pairs_in
  many_front = rw (part_of_front e n 48 4 (omega arith))

  act_front : act_in (take n e) ≡ act_in e
  unfolding act_in
  act_front =
      rw (
        part_of_front e n 8 8 (omega arith),
        part_of_front e n 24 4 (omega arith),
        part_of_front e n 28 4 (omega arith),
        part_of_front e n 32 4 (omega arith),
        part_of_front e n 36 4 (omega arith),
        part_of_front e n 40 4 (omega arith),
      )

  context_by : (m : ℕ) (b : Bool) → leb m PEERS ≡ b → cond (leb m PEERS) (pairs m (drop 64 (take n e))) broken ≡ cond (leb m PEERS) (pairs m (drop 64 e)) broken
  context_by m true q =
      let k : m ≤ 16 = leb-true m PEERS q in
      rw q (ap (pairs m) (drop_take 64 n e) ∙ pairs_front m (drop 64 e) (n - 64) (omega arith))
  context_by m false q = rw q

  pub context_front : context_in (take n e) ≡ context_in e
  unfolding context_in
  context_front = rw many_front (context_by (pairs_in e) _ refl)

  pub edit_front : edit_in (take n e) ≡ edit_in e
  unfolding edit_in
  edit_front =
      rw (
        take-take 8 n e (omega arith),
        part_of_front e n 16 4 (omega arith),
        part_of_front e n 20 4 (omega arith),
        act_front,
        context_front,
      )

-- ---------------------------------------------------------------- the edits

pub used_front : (h : ℕ) (e : List ℕ) (n : ℕ) → h * 256 ≤ n → used h (take n e) ≡ used h e
unfolding used
used_front zero e n q = refl
used_front (suc h) e n q =
    ap₂ ◌+◌ (took_front e n (omega arith)) (ap (used h) (drop_take 256 n e) ∙ used_front h (drop 256 e) (n - 256) (omega arith))

pub used_cong : (h : ℕ) (e f : List ℕ) → take (h * 256) e ≡ take (h * 256) f → used h e ≡ used h f
used_cong h e f q = sym (used_front h e (h * 256) (omega arith)) ∙ (ap (used h) q ∙ used_front h f (h * 256) (omega arith))

pub held_front : (h : ℕ) (e t : List ℕ) (n k : ℕ) → h * 256 ≤ n → used h e * 16 ≤ k → held h (take n e) (take k t) ≡ held h e t
unfolding held used
held_front zero e t n k p q = refl
held_front (suc h) e t n k p q =
    rw (edit_front e n (omega arith), took_front e n (omega arith))
    (ap₂ (λ (r : List Range) (l : List Held). record { edit = edit_in e; took = r } ∷ l) (ranges_front (took_in e) t k (omega arith))
    (ap₂ (held h) (drop_take 256 n e) (drop_take (took_in e * 16) k t)
    ∙ held_front h (drop 256 e) (drop (took_in e * 16) t) (n - 256) (k - took_in e * 16) (omega arith) (omega arith)))

-- the log depends on its rows and its target ranges alone
pub held_cong : (h : ℕ) (e f t u : List ℕ) → take (h * 256) e ≡ take (h * 256) f → take (used h e * 16) t ≡ take (used h e * 16) u → held h e t ≡ held h f u
held_cong h e f t u p q =
    sym (held_front h e t (h * 256) (used h e * 16) (omega arith) (omega arith))
    ∙ (ap₂ (held h) p q ∙ held_front h f u (h * 256) (used h e * 16) (omega arith) (omega (arith, used_cong h e f p)))

pub length-held : (h : ℕ) (e t : List ℕ) → length (held h e t) ≡ h
unfolding held
length-held zero e t = refl
length-held (suc h) e t = ap suc (length-held h (drop 256 e) (drop (took_in e * 16) t))

pub used_app : (a b : ℕ) (e : List ℕ) → used (a + b) e ≡ used a e + used b (drop (a * 256) e)
unfolding used
used_app zero b e = ap (λ (n : ℕ). used n e) (zero-add b) ∙ sym (zero-add (used b e))
used_app (suc a) b e =
    ap (λ (n : ℕ). used n e) (suc-add a b)
    ∙ (ap (λ (n : ℕ). took_in e + n) (used_app a b (drop 256 e))
    ∙ (ap (λ (f : List ℕ). took_in e + (used a (drop 256 e) + used b f)) (drop_row a e)
    ∙ sym (add_assoc (took_in e) (used a (drop 256 e)) (used b (drop (suc a * 256) e)))))
  where
    drop_row : (a : ℕ) (e : List ℕ) → drop (a * 256) (drop 256 e) ≡ drop (suc a * 256) e
    drop_row a e = drop-drop (a * 256) 256 e ∙ ap (λ (n : ℕ). drop n e) (let q : 256 + a * 256 ≡ suc a * 256 = omega arith in q)

pub held-app : (a b : ℕ) (e t : List ℕ) → held (a + b) e t ≡ held a e t ++ held b (drop (a * 256) e) (drop (used a e * 16) t)
unfolding held used
held-app zero b e t = ap (λ (n : ℕ). held n e t) (zero-add b)
held-app (suc a) b e t =
    ap (λ (n : ℕ). held n e t) (suc-add a b)
    ∙ ap (λ (l : List Held). record { edit = edit_in e; took = ranges (took_in e) t } ∷ l)
    (held-app a b (drop 256 e) (drop (took_in e * 16) t)
    ∙ ap₂ (λ (f u : List ℕ). held a (drop 256 e) (drop (took_in e * 16) t) ++ held b f u)
    (drop-drop (a * 256) 256 e ∙ ap (λ (n : ℕ). drop n e) (let q : 256 + a * 256 ≡ suc a * 256 = omega arith in q))
    (drop-drop (used a (drop 256 e) * 16) (took_in e * 16) t ∙ ap (λ (n : ℕ). drop n t) (let q : took_in e * 16 + used a (drop 256 e) * 16 ≡ (took_in e + used a (drop 256 e)) * 16 = omega arith in q)))

-- the edit in row i
abbrev pub held_at : ℕ → List ℕ → List ℕ → Held
held_at i e t = record { edit = edit_in (drop (i * 256) e); took = ranges (took_in (drop (i * 256) e)) (drop (used i e * 16) t) }

pub held_one : (i : ℕ) (e t : List ℕ) → held (i + 1) e t ≡ held i e t ++ (held_at i e t ∷ [])
unfolding held
held_one i e t = held-app i 1 e t

pub used_one : (i : ℕ) (e : List ℕ) → used (i + 1) e ≡ used i e + took_in (drop (i * 256) e)
unfolding used
used_one i e = used_app i 1 e ∙ (let q : used i e + (took_in (drop (i * 256) e) + 0) ≡ used i e + took_in (drop (i * 256) e) = omega arith in q)

-- the edits from row i on: that in row i, and those after it
pub held_turn : (n i : ℕ) (e t : List ℕ) → i < n
    → held (n - i) (drop (i * 256) e) (drop (used i e * 16) t)
    ≡ held_at i e t ∷ held (n - (i + 1)) (drop ((i + 1) * 256) e) (drop (used (i + 1) e * 16) t)
unfolding held
held_turn n i e t h =
    ap (λ (m : ℕ). held m (drop (i * 256) e) (drop (used i e * 16) t)) (let q : n - i ≡ suc (n - (i + 1)) = omega arith in q)
    ∙ ap₂ (λ (f u : List ℕ). held_at i e t ∷ held (n - (i + 1)) f u)
    (drop-drop 256 (i * 256) e ∙ ap (λ (m : ℕ). drop m e) (let q : i * 256 + 256 ≡ (i + 1) * 256 = omega arith in q))
    (drop-drop (took_in (drop (i * 256) e) * 16) (used i e * 16) t ∙ ap (λ (m : ℕ). drop m t) (let q : used i e * 16 + took_in (drop (i * 256) e) * 16 ≡ used (i + 1) e * 16 = omega (arith, used_one i e) in q))

pub held_at_lem : (h : ℕ) (e t : List ℕ) (i : ℕ) (d : Held) → i < h → get_or (held h e t) i d ≡ held_at i e t
unfolding held used
held_at_lem zero e t i d q = absurd (omega arith)
held_at_lem (suc h) e t zero d q = refl
held_at_lem (suc h) e t (suc i) d q =
    held_at_lem h (drop 256 e) (drop (took_in e * 16) t) i d (omega arith)
    ∙ ap₂ (λ (f u : List ℕ). record { edit = edit_in f; took = ranges (took_in f) u })
    (drop-drop (i * 256) 256 e ∙ ap (λ (n : ℕ). drop n e) (let k : 256 + i * 256 ≡ suc i * 256 = omega arith in k))
    (drop-drop (used i (drop 256 e) * 16) (took_in e * 16) t ∙ ap (λ (n : ℕ). drop n t) (let k : took_in e * 16 + used i (drop 256 e) * 16 ≡ (took_in e + used i (drop 256 e)) * 16 = omega arith in k))

-- the number of ranges of more edits is no less
pub used_mono : (i h : ℕ) (e : List ℕ) → i ≤ h → used i e ≤ used h e
used_mono i h e q =
    let p : h ≡ i + (h - i) = omega arith in
    let r : used h e ≡ used i e + used (h - i) (drop (i * 256) e) = ap (λ (n : ℕ). used n e) p ∙ used_app i (h - i) e in
    omega arith

-- the target list is all the ranges in use
pub targets_held : (h : ℕ) (e t : List ℕ) → target_list (held h e t) ≡ ranges (used h e) t
unfolding target_list held used ranges
targets_held zero e t = refl
targets_held (suc h) e t =
    ap (λ (l : List Range). ranges (took_in e) t ++ l) (targets_held h (drop 256 e) (drop (took_in e * 16) t))
    ∙ sym (ranges-app (took_in e) (used h (drop 256 e)) t)
