-- two spans that do not meet have no unit's id in common
use Prim.Native.Nat.{ℕ, ◌+◌, ◌-◌, ◌*◌, ◌<◌, ◌≤◌}
use mathlib.Core.Path.{◌≡◌, refl, sym, ap, ap₂, ◌∙◌}
use mathlib.Core.Bool.{Bool, true, false, cond, true≢false, false≢true}
use mathlib.Core.List.{List, [], ◌∷◌, ◌++◌}
use mathlib.Core.Logic.{◌⊎◌, inl, inr}
use native.Mathlib.Omega.{arith}
use lib.ListN.{drop}
use lib.IntN.{ℤ, pos, ◌+ℤ◌}
use Rattle.span.specs.declared.ids.Id.{Id}
use Rattle.span.specs.Maybe.{OptId}
use Rattle.std.specs.Prelude.{Some as At}
use Rattle.span.specs.declared.span.FugueSpan.{FugueSpan}
use Rattle.span.specs.Ids.{inc_id, room_of}
use Rattle.span.proofs.IdsLaws.{roomy, inc_zero}
use Rattle.span.specs.Span.{len_span, span_code}
use Rattle.span.proofs.SpanLaws.{span_ok}
use Rattle.span.proofs.Views.{len_pos}
use Rattle.span.specs.Units.{units_of, expand}
use Rattle.store.specs.Row.{rows, row_at}
use Rattle.rope.specs.Maybe.{Offset}
use Rattle.std.specs.Prelude.{Some, None}
use Rattle.units.specs.Place.{mem_id}
use Rattle.rope.specs.Spans.{offset_of, is_at, covered, AllOk, Fresh, meets_span, holds_any}
use Rattle.rope.proofs.Offsets.{off_unit, unit_off, covers_units}
use Rattle.rope.proofs.Lists.{le-or, or_left, or_right, or_both, mem_append}
use Rattle.rope.proofs.Rights.{row_drop, row_none}

pub covered_unit : (s : FugueSpan) → span_code s ≡ 0 → (k : ℕ) → k < len_span s → covered s (At (inc_id s.id k)) ≡ true
unfolding covered
covered_unit s ok k h = ap is_at (off_unit s ok k h)

-- one id later, and the other way round
earlier : (a b : Id) (m n j k : ℕ) → room_of a m ≡ true → room_of b n ≡ true → inc_id b k ≡ inc_id a j → k ≤ j → b ≡ inc_id a (j - k)
unfolding inc_id
earlier a b m n j k ra rb e h =
    let x = roomy a.counter m ra in
    let y = roomy b.counter n rb in
    go x.at y.at x.is y.is
  where
    go : (c d : ℕ) → a.counter ≡ pos c → b.counter ≡ pos d → b ≡ record { peer = a.peer; counter = a.counter +ℤ pos (j - k) }
    go c d p q =
        let peers : b.peer ≡ a.peer = ap (λ (i : Id). i.peer) e in
        let f : pos (d + k) ≡ pos (c + j) = ap (λ (z : ℤ). z +ℤ pos k) (sym q) ∙ (ap (λ (i : Id). i.counter) e ∙ ap (λ (z : ℤ). z +ℤ pos j) p) in
        let g : d + k ≡ c + j = cc in
        let w : d ≡ c + (j - k) = omega arith in
        ap₂ (λ (u : ℕ) (z : ℤ). record { peer = u; counter = z }) peers (q ∙ (ap pos w ∙ ap (λ (z : ℤ). z +ℤ pos (j - k)) (sym p)))

module _ (a b : FugueSpan) (oka : span_code a ≡ 0) (okb : span_code b ≡ 0) (apart : meets_span a b ≡ false) where
  both : (covered a (At b.id) ≡ false) × (covered b (At a.id) ≡ false)
  unfolding meets_span
  both = go (covered a (At b.id)) refl apart
    where
      go : (t : Bool) → covered a (At b.id) ≡ t → cond t true (covered b (At a.id)) ≡ false → (covered a (At b.id) ≡ false) × (covered b (At a.id) ≡ false)
      go true p q = absurd (true≢false q)
      go false p q = (p, q)

  pub no_unit : Fresh b (units_of a)
  unfolding Fresh covered
  no_unit k h = covers_units a oka (At (inc_id b.id k)) ∙ pick (offset_of a (At (inc_id b.id k))) refl
    where
      clash : (j : ℕ) → j < len_span a → inc_id b.id k ≡ inc_id a.id j → ⊥
      clash j l e = side (le-or k j)
        where
          side : (k ≤ j) ⊎ (j ≤ k) → ⊥
          side (inl p) =
              let q = earlier a.id b.id (len_span a) (len_span b) j k (span_ok a oka).own (span_ok b okb).own e p in
              true≢false (sym (ap (λ (i : Id). covered a (At i)) q ∙ covered_unit a oka (j - k) (omega arith)) ∙ both.0)
          side (inr p) =
              let q = earlier b.id a.id (len_span b) (len_span a) k j (span_ok b okb).own (span_ok a oka).own (sym e) p in
              true≢false (sym (ap (λ (i : Id). covered b (At i)) q ∙ covered_unit b okb (k - j) (omega arith)) ∙ both.1)

      pick : (f : Offset) → offset_of a (At (inc_id b.id k)) ≡ f → covered a (At (inc_id b.id k)) ≡ false
      pick None e = ap is_at e
      pick (Some j) e = absurd (let w = unit_off a oka (At (inc_id b.id k)) j e in let q : inc_id b.id k ≡ inc_id a.id j = cc in clash j w.0 q)

fresh_one : (a b : FugueSpan) → span_code a ≡ 0 → span_code b ≡ 0 → meets_span a b ≡ false → (k : ℕ) → k < len_span b → mem_id (At (inc_id b.id k)) (units_of a) ≡ false
unfolding Fresh
fresh_one a b oka okb e k h = no_unit a b oka okb e k h

-- no row meets x: the ids of x are new
pub fresh_of : (l : List FugueSpan) (x : FugueSpan) → AllOk l → span_code x ≡ 0 → holds_any l x ≡ false → Fresh x (expand l)
unfolding holds_any AllOk expand Fresh mem_id
fresh_of [] x ok f e k h = refl
fresh_of (s ∷ l) x ok f e k h = go (λ q. fresh_of l x ok.1 f q k h) (meets_span s x) refl e
  where
    go : (holds_any l x ≡ false → mem_id (At (inc_id x.id k)) (expand l) ≡ false) → (t : Bool) → meets_span s x ≡ t → cond t true (holds_any l x) ≡ false → mem_id (At (inc_id x.id k)) (units_of s ++ expand l) ≡ false
    go rec true p q = absurd (true≢false q)
    go rec false p q =
        mem_append (At (inc_id x.id k)) (units_of s) (expand l) ∙
        or_both (mem_id (At (inc_id x.id k)) (units_of s)) (mem_id (At (inc_id x.id k)) (expand l)) (fresh_one s x ok.0 f p k h) (rec q)

module _ (n : ℕ) (s : List ℕ) (x : FugueSpan) (i : ℕ) where
  pub holds_turn : i < n → (t : Bool) → meets_span (row_at s (i * 72)) x ≡ t → holds_any (drop i (rows n s)) x ≡ cond t true (holds_any (drop (i + 1) (rows n s)) x)
  unfolding holds_any
  holds_turn h t e = ap (λ (l : List FugueSpan). holds_any l x) (row_drop n s i h) ∙ ap (λ (b : Bool). cond b true (holds_any (drop (i + 1) (rows n s)) x)) e

  pub holds_done : n ≤ i → holds_any (drop i (rows n s)) x ≡ false
  unfolding holds_any
  holds_done h = ap (λ (l : List FugueSpan). holds_any l x) (row_none n s i h)

-- ---- the converse: a span that meets a row has an id of it

-- an id of x is one of the units'
pub record Shared (x : FugueSpan) (us : List FugueSpan) : Type 0 where
  pub k : ℕ
  pub low : k < len_span x
  pub has : mem_id (At (inc_id x.id k)) us ≡ true

meets_one : (a b : FugueSpan) → span_code a ≡ 0 → span_code b ≡ 0 → meets_span a b ≡ true → Shared b (units_of a)
unfolding meets_span covered
meets_one a b oka okb e = go (offset_of a (At b.id)) refl e
  where
    other : (f : Offset) → offset_of b (At a.id) ≡ f → is_at (offset_of b (At a.id)) ≡ true → Shared b (units_of a)
    other None p q = absurd (true≢false (sym q ∙ ap is_at p))
    other (Some k) p q =
        let w = unit_off b okb (At a.id) k p in
        record {
          k = k;
          low = w.0;
          has = ap (λ (o : OptId). mem_id o (units_of a)) (sym w.1) ∙ (covers_units a oka (At a.id) ∙ (ap (λ (i : Id). covered a (At i)) (sym (inc_zero a.id)) ∙ covered_unit a oka 0 (len_pos a.content (span_ok a oka).form)));
        }

    go : (f : Offset) → offset_of a (At b.id) ≡ f → cond (is_at (offset_of a (At b.id))) true (is_at (offset_of b (At a.id))) ≡ true → Shared b (units_of a)
    go (Some k) p q =
        record {
          k = 0;
          low = len_pos b.content (span_ok b okb).form;
          has = ap (λ (i : Id). mem_id (At i) (units_of a)) (inc_zero b.id) ∙ (covers_units a oka (At b.id) ∙ ap is_at p);
        }
    go None p q = other (offset_of b (At a.id)) refl (rw p at q)

-- a row meets x: one of the ids of x is in the list
pub shared_of : (l : List FugueSpan) (x : FugueSpan) → AllOk l → span_code x ≡ 0 → holds_any l x ≡ true → Shared x (expand l)
unfolding holds_any AllOk expand
shared_of [] x ok f e = absurd (false≢true e)
shared_of (s ∷ l) x ok f e = go (λ q. shared_of l x ok.1 f q) (meets_span s x) refl e
  where
    go : (holds_any l x ≡ true → Shared x (expand l)) → (t : Bool) → meets_span s x ≡ t → cond t true (holds_any l x) ≡ true → Shared x (units_of s ++ expand l)
    go rec true p q =
        let w = meets_one s x ok.0 f p in
        record { k = w.k; low = w.low; has = mem_append (At (inc_id x.id w.k)) (units_of s) (expand l) ∙ or_left (mem_id (At (inc_id x.id w.k)) (units_of s)) (mem_id (At (inc_id x.id w.k)) (expand l)) w.has }
    go rec false p q =
        let w = rec q in
        record { k = w.k; low = w.low; has = mem_append (At (inc_id x.id w.k)) (units_of s) (expand l) ∙ or_right (mem_id (At (inc_id x.id w.k)) (units_of s)) (mem_id (At (inc_id x.id w.k)) (expand l)) w.has }

-- new ids: no row meets x
pub fresh_holds : (l : List FugueSpan) (x : FugueSpan) → AllOk l → span_code x ≡ 0 → Fresh x (expand l) → holds_any l x ≡ false
unfolding Fresh
fresh_holds l x ok f new = go (holds_any l x) refl
  where
    go : (t : Bool) → holds_any l x ≡ t → holds_any l x ≡ false
    go false p = p
    go true p = let w = shared_of l x ok f p in absurd (true≢false (sym w.has ∙ new w.k w.low))
