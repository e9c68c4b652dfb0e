-- how many units of a list an update names: by rows, and never more than the range has ids
use Prim.Native.Nat.{ℕ, zero, suc, ◌+◌, ◌-◌, ◌*◌, ◌<◌, ◌≤◌}
use mathlib.Core.Path.{◌≡◌, refl, sym, ap, ap₂, ◌∙◌}
use mathlib.Core.Bool.{Bool, true, false, cond}
use mathlib.Core.List.{List, [], ◌∷◌, ◌++◌}
use native.Mathlib.Omega.{arith}
use native.Mathlib.Nat.{zero-add}
use lib.Dec.{eqb}
use lib.IntN.{pos, negsuc, ◌-ℤ◌}
use lib.ListN.{length, drop}
use borrow.Author.Tests.{le-ltb}
use Rattle.span.specs.declared.span.FugueSpan.{FugueSpan}
use Rattle.span.specs.Status.{eq_z}
use Rattle.span.specs.Span.{len_span, span_code}
use Rattle.span.specs.Units.{tab, unit_at, units_of, expand}
use Rattle.store.specs.Row.{rows, row_at}
use Rattle.rope.specs.declared.change.Update.{Update}
use Rattle.units.specs.Lists.{keep_if}
use Rattle.units.specs.Change.{in_range}
use Rattle.units.specs.Codes.{holds_all}
use Rattle.rope.specs.Pieces.{update_cut}
use Rattle.rope.proofs.Rights.{row_drop, row_none}
use Rattle.rope.proofs.Updating.{run_of, three}

-- ---- the entries that are kept

module _ (t : FugueSpan → Bool) where
  abbrev kept : List FugueSpan → ℕ
  kept l = length (keep_if t l)

  pub kept_on : (u : FugueSpan) (l : List FugueSpan) (b : Bool) → t u ≡ b → kept (u ∷ l) ≡ cond b (suc (kept l)) (kept l)
  unfolding keep_if
  kept_on u l true e = ap (λ (b : Bool). length (cond b (u ∷ keep_if t l) (keep_if t l))) e
  kept_on u l false e = ap (λ (b : Bool). length (cond b (u ∷ keep_if t l) (keep_if t l))) e

  kept-append : (a b : List FugueSpan) → kept (a ++ b) ≡ kept a + kept b
  unfolding keep_if
  kept-append [] b = sym (zero-add (kept b))
  kept-append (x ∷ a) b = go (t x) refl (kept-append a b)
    where
      go : (c : Bool) → t x ≡ c → kept (a ++ b) ≡ kept a + kept b → kept (x ∷ (a ++ b)) ≡ kept (x ∷ a) + kept b
      go true e q = let m : kept (x ∷ (a ++ b)) ≡ suc (kept (a ++ b)) = kept_on x (a ++ b) true e in let n : kept (x ∷ a) ≡ suc (kept a) = kept_on x a true e in omega (arith, m, n, q)
      go false e q = let m : kept (x ∷ (a ++ b)) ≡ kept (a ++ b) = kept_on x (a ++ b) false e in let n : kept (x ∷ a) ≡ kept a = kept_on x a false e in omega (arith, m, n, q)

  kept_all : (f : ℕ → FugueSpan) (j n : ℕ) → ((i : ℕ) → j ≤ i → i < j + n → t (f i) ≡ true) → kept (tab f j n) ≡ n
  unfolding keep_if tab
  kept_all f j zero h = refl
  kept_all f j (suc n) h = omega (arith, kept_on (f j) (tab f (suc j) n) true (h j (omega arith) (omega arith)), kept_all f (suc j) n (λ i p q. h i (omega arith) (omega arith)))

  kept_none : (f : ℕ → FugueSpan) (j n : ℕ) → ((i : ℕ) → j ≤ i → i < j + n → t (f i) ≡ false) → kept (tab f j n) ≡ 0
  unfolding keep_if tab
  kept_none f j zero h = refl
  kept_none f j (suc n) h = kept_on (f j) (tab f (suc j) n) false (h j (omega arith) (omega arith)) ∙ kept_none f (suc j) n (λ i p q. h i (omega arith) (omega arith))

-- ---- the units of a range

abbrev pub inside : Update → List FugueSpan → ℕ
inside u l = length (keep_if (in_range u.peer (pos u.from) (pos u.to)) l)

-- of a row: as many as its cut has
pub inside_row : (u : Update) (s : FugueSpan) → span_code s ≡ 0 → u.from ≤ u.to → inside u (units_of s) ≡ (update_cut u s).to - (update_cut u s).from
inside_row u s ok order =
    let r = run_of u s ok order in
    let a = (update_cut u s).from in
    let b = (update_cut u s).to in
    let t = in_range u.peer (pos u.from) (pos u.to) in
    let x = tab (unit_at s) 0 a in
    let y = tab (unit_at s) a (b - a) in
    let z = tab (unit_at s) b (len_span s - b) in
    ap (inside u) (three u s ok a b r.low r.most) ∙
    (kept-append t x (y ++ z) ∙
    (ap₂ (λ (m n : ℕ). m + n) (kept_none t (unit_at s) 0 a r.before) (kept-append t y z ∙ ap₂ (λ (m n : ℕ). m + n) (kept_all t (unit_at s) a (b - a) r.within) (kept_none t (unit_at s) b (len_span s - b) r.behind)) ∙
    (let q : 0 + (b - a + 0) ≡ b - a = omega arith in q)))

pub inside_span : (u : Update) (s : FugueSpan) (l : List FugueSpan) → inside u (expand (s ∷ l)) ≡ inside u (units_of s) + inside u (expand l)
unfolding expand
inside_span u s l = kept-append (in_range u.peer (pos u.from) (pos u.to)) (units_of s) (expand l)

-- ---- the loop over the rows

pub record Summed (n : ℕ) (u : Update) (s : List ℕ) (i sum : ℕ) : Type 0 where
  pub low : i ≤ n
  pub small : sum ≤ i * 4294967295
  pub is : inside u (expand (rows n s)) ≡ sum + inside u (expand (drop i (rows n s)))

pub sum_start : (n : ℕ) (u : Update) (s : List ℕ) → Summed n u s 0 0
sum_start n u s = record { low = omega arith; small = omega arith; is = sym (zero-add (inside u (expand (rows n s)))) }

module _ (n : ℕ) (u : Update) (s : List ℕ) (i sum : ℕ) (v : Summed n u s i sum) where
  pub sum_turn : i < n → (k : ℕ) → k ≡ inside u (units_of (row_at s (i * 72))) → k < 4294967296 → Summed n u s (i + 1) (sum + k)
  sum_turn h k e f =
      let q : inside u (expand (drop i (rows n s))) ≡ inside u (units_of (row_at s (i * 72))) + inside u (expand (drop (i + 1) (rows n s))) = ap (λ (l : List FugueSpan). inside u (expand l)) (row_drop n s i h) ∙ inside_span u (row_at s (i * 72)) (drop (i + 1) (rows n s)) in
      let w : inside u (expand (rows n s)) ≡ sum + k + inside u (expand (drop (i + 1) (rows n s))) = omega (arith, v.is, q, e) in
      let m : sum + k ≤ (i + 1) * 4294967295 = omega (arith, v.small, f) in
      record { low = omega arith; small = m; is = w }

  sum_done : n ≤ i → sum ≡ inside u (expand (rows n s))
  unfolding expand keep_if
  sum_done h = let e : inside u (expand (drop i (rows n s))) ≡ 0 = ap (λ (l : List FugueSpan). inside u (expand l)) (row_none n s i h) in omega (arith, v.is, e)

  pub sum_held : n ≤ i → u.from ≤ u.to → eqb sum (u.to - u.from) ≡ holds_all u.peer (pos u.from) (pos u.to) (expand (rows n s))
  unfolding holds_all
  sum_held h order = ap₂ (λ (m k : ℕ). eqb m k) (sum_done h) refl ∙ sym (ap (eq_z (pos (inside u (expand (rows n s))))) (range_width u.from u.to order))
    where
      range_width : (a b : ℕ) → a ≤ b → (pos b -ℤ pos a) ≡ pos (b - a)
      range_width zero b h = let q : b + 0 ≡ b - 0 = omega arith in ap pos q
      range_width (suc a) b h =
          ap (λ (t : Bool). cond t (negsuc (suc a - suc b)) (pos (b - suc a))) (le-ltb b (suc a) h)
