-- the loops of the check over units and origins
use Prim.Native.Nat.{ℕ, ◌+◌, ◌*◌, ◌<◌, ◌≤◌}
use mathlib.Core.Path.{◌≡◌, sym, ap, ◌∙◌}
use mathlib.Core.List.{List, ◌∷◌}
use native.Mathlib.Omega.{arith}
use lib.ListN.{length, drop, length-append}
use Rattle.span.specs.declared.ids.Id.{Id}
use Rattle.span.specs.Maybe.{OptId}
use Rattle.std.specs.Prelude.{Some as At}
use Rattle.span.specs.declared.span.FugueSpan.{FugueSpan}
use Rattle.span.specs.Span.{len_span}
use Rattle.span.specs.Units.{units_of, expand}
use Rattle.span.proofs.ForRope.{units_length}
use Rattle.store.specs.Row.{rows, row_at}
use Rattle.units.specs.Place.{mem_id}
use Rattle.units.specs.Store.{named}
use Rattle.rope.proofs.Rights.{row_drop, row_none}

pub length_span : (s : FugueSpan) (l : List FugueSpan) → length (expand (s ∷ l)) ≡ len_span s + length (expand l)
unfolding expand
length_span s l = length-append (units_of s) (expand l) ∙ ap (λ (k : ℕ). k + length (expand l)) (units_length s)

-- ---- units

pub record Counted (n : ℕ) (s : List ℕ) (i sum : ℕ) : Type 0 where
  pub low : i ≤ n
  pub small : sum ≤ i * 4294967295
  pub is : length (expand (rows n s)) ≡ sum + length (expand (drop i (rows n s)))

module _ (n : ℕ) (s : List ℕ) (i sum : ℕ) (v : Counted n s i sum) where
  pub count_turn : i < n → (k : ℕ) → k ≡ len_span (row_at s (i * 72)) → k < 4294967296 → Counted n s (i + 1) (sum + k)
  count_turn h k e f =
      let q : length (expand (drop i (rows n s))) ≡ len_span (row_at s (i * 72)) + length (expand (drop (i + 1) (rows n s))) = ap (λ (l : List FugueSpan). length (expand l)) (row_drop n s i h) ∙ length_span (row_at s (i * 72)) (drop (i + 1) (rows n s)) in
      let w : length (expand (rows n s)) ≡ sum + k + length (expand (drop (i + 1) (rows n s))) = omega (arith, v.is, q, e) in
      let m : sum + k ≤ (i + 1) * 4294967295 = omega (arith, v.small, f) in
      record { low = omega arith; small = m; is = w }

  pub count_done : n ≤ i → sum ≡ length (expand (rows n s))
  unfolding expand
  count_done h = let e : length (expand (drop i (rows n s))) ≡ 0 = ap (λ (l : List FugueSpan). length (expand l)) (row_none n s i h) in omega (arith, v.is, e)

-- ---- origins

pub named_at : (o : OptId) (i : Id) (us : List FugueSpan) → o ≡ At i → mem_id o us ≡ named o us
unfolding named
named_at o i us e = ap (λ (r : OptId). mem_id r us) e ∙ sym (ap (λ (r : OptId). named r us) e)
