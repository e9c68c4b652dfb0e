-- the real id at a visible position, row by row
use Prim.Native.Nat.{ℕ, ◌+◌, ◌-◌, ◌*◌, ◌<◌, ◌≤◌}
use mathlib.Core.Path.{◌≡◌, refl, sym, ap, ap₂, ◌∙◌}
use mathlib.Core.Bool.{Bool, true, false, cond}
use mathlib.Core.List.{List, [], ◌∷◌}
use native.Mathlib.Omega.{arith}
use lib.Dec.{ltb}
use lib.ListN.{length, drop, drop_of_length-le}
use borrow.Author.Tests.{lt-ltb, le-ltb}
use Rattle.span.specs.declared.ids.Id.{Id}
use Rattle.span.specs.Maybe.{OptId}
use Rattle.std.specs.Prelude as Opt
use Rattle.span.specs.declared.span.FugueSpan.{FugueSpan}
use Rattle.span.specs.Ids.{inc_id, inc_opt}
use Rattle.span.specs.Status.{activated}
use Rattle.span.specs.Span.{len_span, span_code, part_span, shift, slice_span_code, active_len, real_by, real_of}
use Rattle.span.proofs.Unique.{in_range_lem}
use Rattle.span.proofs.UnitLaws.{part_length}
use Rattle.store.specs.Row.{rows, row_at}
use Rattle.store.specs.Listed.{spans}
use Rattle.units.specs.Query.{Nothing, At, real_span_at}
use Rattle.rope.specs.Entries.{real_said}
use Rattle.rope.specs.Spans.{Stored}
use Rattle.rope.proofs.Rights.{row_drop, row_none, row_ok}
use Rattle.rope.proofs.WellFormed.{formed_of}

-- the real id of a part
pub real_part : (s : FugueSpan) (i j : ℕ) → real_of (part_span s i j) ≡ inc_id (real_of s) i
unfolding real_of shift inc_opt
real_part s i j = go s.real_id s.id
  where
    go : (o : OptId) (k : Id) → real_by (inc_opt o i) (inc_id k i) ≡ inc_id (real_by o k) i
    go Opt.None k = refl
    go (Opt.Some x) k = refl

-- a span of which some is visible is visible whole
pub active_whole : (s : FugueSpan) → 0 < active_len s → active_len s ≡ len_span s
unfolding active_len
active_whole s h = go (activated s.status) h
  where
    go : (t : Bool) → 0 < cond t (len_span s) 0 → cond t (len_span s) 0 ≡ len_span s
    go true h = refl
    go false h = absurd (omega arith)

module _ (n : ℕ) (s : List ℕ) (i left : ℕ) where
  real_turn : i < n → (t : Bool) → ltb left (active_len (row_at s (i * 72))) ≡ t
      → real_span_at (drop i (rows n s)) left ≡ cond t (At (inc_id (real_of (row_at s (i * 72))) left) (active_len (row_at s (i * 72)) - left)) (real_span_at (drop (i + 1) (rows n s)) (left - active_len (row_at s (i * 72))))
  unfolding real_span_at
  real_turn h t e =
      ap (λ (l : List FugueSpan). real_span_at l left) (row_drop n s i h) ∙
      ap (λ (b : Bool). cond b (At (inc_id (real_of (row_at s (i * 72))) left) (active_len (row_at s (i * 72)) - left)) (real_span_at (drop (i + 1) (rows n s)) (left - active_len (row_at s (i * 72))))) e

  pub real_done : n ≤ i → real_span_at (drop i (rows n s)) left ≡ Nothing
  unfolding real_span_at
  real_done h = ap (λ (l : List FugueSpan). real_span_at l left) (row_none n s i h)

  -- r is row i, as it was read, and len its visible length
  module _ (w : Stored n s) (h : i < n) (r : FugueSpan) (is : r ≡ row_at s (i * 72)) (len : ℕ) (e : len ≡ active_len r) where
    pub real_slice : left < len → slice_span_code r left len ≡ 0
    real_slice k =
        let ok : span_code r ≡ 0 = ap span_code is ∙ row_ok n s i h (formed_of (rows n s) w.formed).each in
        let a : active_len r ≡ len_span r = active_whole r (omega arith) in
        in_range_lem r left len ok k (omega arith)

    pub real_found : left < len → (p : FugueSpan) → p ≡ part_span r left len → (x : Id) (m : ℕ) → x ≡ real_of p → m ≡ len_span p → real_said (real_span_at (drop i (rows n s)) left) ≡ Opt.Some (x, m)
    real_found k p ep x m ex em =
        let id : inc_id (real_of (row_at s (i * 72))) left ≡ x = sym (ex ∙ (ap real_of ep ∙ (real_part r left len ∙ ap (λ (q : FugueSpan). inc_id (real_of q) left) is))) in
        let lens : active_len (row_at s (i * 72)) - left ≡ m = sym (em ∙ (ap len_span ep ∙ (part_length r left len (real_slice k) ∙ ap (λ (q : ℕ). q - left) (e ∙ ap active_len is)))) in
        ap real_said (real_turn h true (lt-ltb left (active_len (row_at s (i * 72))) (rw (sym (e ∙ ap active_len is)) k))) ∙ ap₂ (λ (y : Id) (q : ℕ). Opt.Some (y, q)) id lens

    pub real_next : len ≤ left → real_span_at (drop i (rows n s)) left ≡ real_span_at (drop (i + 1) (rows n s)) (left - len)
    real_next k =
        real_turn h false (le-ltb left (active_len (row_at s (i * 72))) (rw (sym (e ∙ ap active_len is)) k)) ∙
        ap (λ (q : ℕ). real_span_at (drop (i + 1) (rows n s)) (left - q)) (sym (e ∙ ap active_len is))

-- ---- the same of the first of some spans; len is its visible length

module _ (s : FugueSpan) (l : List FugueSpan) (left : ℕ) where
  real_first : (t : Bool) → ltb left (active_len s) ≡ t → real_span_at (s ∷ l) left ≡ cond t (At (inc_id (real_of s) left) (active_len s - left)) (real_span_at l (left - active_len s))
  unfolding real_span_at
  real_first t e = ap (λ (b : Bool). cond b (At (inc_id (real_of s) left) (active_len s - left)) (real_span_at l (left - active_len s))) e

  module _ (len : ℕ) (e : len ≡ active_len s) where
    pub real_past : len ≤ left → real_span_at (s ∷ l) left ≡ real_span_at l (left - len)
    real_past k = real_first false (le-ltb left (active_len s) (rw (sym e) k)) ∙ ap (λ (q : ℕ). real_span_at l (left - q)) (sym e)

    module _ (ok : span_code s ≡ 0) (k : left < len) where
      pub real_cut : slice_span_code s left len ≡ 0
      real_cut = let a : active_len s ≡ len_span s = active_whole s (omega arith) in in_range_lem s left len ok k (omega arith)

      pub real_here : (p : FugueSpan) → p ≡ part_span s left len → (x : Id) (m : ℕ) → x ≡ real_of p → m ≡ len_span p → real_said (real_span_at (s ∷ l) left) ≡ Opt.Some (x, m)
      real_here p ep x m ex em =
          let id : inc_id (real_of s) left ≡ x = sym (ex ∙ (ap real_of ep ∙ real_part s left len)) in
          let lens : active_len s - left ≡ m = sym (em ∙ (ap len_span ep ∙ (part_length s left len real_cut ∙ ap (λ (q : ℕ). q - left) e))) in
          ap real_said (real_first true (lt-ltb left (active_len s) (rw (sym e) k))) ∙ ap₂ (λ (y : Id) (q : ℕ). Opt.Some (y, q)) id lens

real_none : (left : ℕ) → real_span_at [] left ≡ Nothing
unfolding real_span_at
real_none left = refl

pub real_end : (r : List (List ℕ)) (i left : ℕ) → length r ≤ i → real_span_at (spans (drop i r)) left ≡ Nothing
real_end r i left h = ap (λ (q : List (List ℕ)). real_span_at (spans q) left) (drop_of_length-le r {i = i} h) ∙ real_none left
