-- Two spans that agree at a unit agree as far as both reach; so a row is compared with what the edits made by runs.
use Prim.Native.Nat.{ℕ, zero, suc, ◌+◌, ◌-◌, ◌<◌, ◌≤◌}
use mathlib.Core.Path.{◌≡◌, refl, sym, ap, ap₂, subst, ◌∙◌}
use mathlib.Core.Bool.{Bool, true, false, ◌&&◌, ◌||◌, true≢false}
use mathlib.Core.List.{List, [], ◌∷◌, ◌++◌}
use native.Mathlib.Omega.{arith}
use native.Mathlib.Nat.{zero-add}
use native.Mathlib.Numerals.{add-one}
use lib.Dec.{eqb}
use borrow.Author.Tests.{eq-eqb, eqb-true}
use Rattle.span.specs.declared.chunk.RichtextChunk.{RichtextChunk}
use Rattle.span.specs.declared.ids.Id.{Id}
use Rattle.span.specs.Maybe.{OptId}
use Rattle.std.specs.Prelude.{Some as At}
use Rattle.span.specs.declared.span.FugueSpan.{FugueSpan}
use Rattle.span.specs.Chunk.{chunk, MOVE, UNKNOWN, len_of, part_chunk}
use Rattle.std.specs.Option.{option_eq}
use Rattle.span.proofs.Derived.{id_eq, chunk_eq, id_derived, opt_derived}
use Rattle.span.specs.Ids.{UNKNOWN_PEER, inc_id, inc_opt, same_id, same_opt}
use Rattle.span.specs.Span.{len_span, span_code, slice_span_code, part_span, shift}
use Rattle.span.specs.Units.{tab, unit_at, units_of}
use Rattle.span.proofs.IdsLaws.{inc_inc, inc_opt-inc_opt}
use Rattle.span.proofs.Same.{same_id-true, same_id_refl, same_opt-true, same_opt_refl}
use Rattle.span.proofs.SpanLaws.{span_ok}
use Rattle.span.proofs.Unique.{in_range_lem}
use Rattle.span.proofs.Views.{View, of_text, of_unknown, of_anchor, view, len_text, part_text, part_unknown, part_anchor}
use Rattle.rope.specs.Maybe.{Offset}
use Rattle.std.specs.Prelude.{Some, None}
use Rattle.units.specs.Lists.{some}
use Rattle.rope.specs.Spans.{offset_of}
use Rattle.rope.proofs.Lists.{and-true, or_left, or_right, or_both}
use Rattle.rope.proofs.Offsets.{off_unit, unit_off}
use Rattle.history.specs.Valid.{same_unit}
use Rattle.tracker.specs.Made.{Meets}
use Rattle.tracker.proofs.TargetsLaws.{not_both}

-- ---------------------------------------------------------------- contents

-- the chunks of two units are the same: so are those as far on
module _ (a b : RichtextChunk) (k d j : ℕ) (ka : k + j < len_of a) (db : d + j < len_of b) (e : part_chunk a k (suc k) ≡ part_chunk b d (suc d)) where
  starts : (part_chunk a k (suc k)).start ≡ (part_chunk b d (suc d)).start
  starts = ap (λ (c : RichtextChunk). c.start) e

  text_start : (c : RichtextChunk) (i : ℕ) → c.start < MOVE → (part_chunk c i (suc i)).start ≡ c.start + i
  text_start c i h = ap (λ (z : RichtextChunk). z.start) (part_text c i (suc i) h)

  unknown_start : (c : RichtextChunk) (i : ℕ) → c.start ≡ UNKNOWN → (part_chunk c i (suc i)).start ≡ UNKNOWN
  unknown_start c i h = ap (λ (z : RichtextChunk). z.start) (part_unknown c i (suc i) h) ∙ h

  anchor_start : (c : RichtextChunk) (i : ℕ) → MOVE ≤ c.start → (c.start ≡ UNKNOWN → ⊥) → (part_chunk c i (suc i)).start ≡ c.start
  anchor_start c i h n = ap (λ (z : RichtextChunk). z.start) (part_anchor c i (suc i) h n)

  -- a text's unit starts below the reserved starts
  low : (c : RichtextChunk) (i m : ℕ) → i + m < len_of c → c.start < MOVE → c.end ≤ MOVE → c.start + i < MOVE
  low c i m h s l = let q : len_of c ≡ c.end - c.start = len_text c s in omega arith

  content_on : View a → View b → part_chunk a (k + j) (suc (k + j)) ≡ part_chunk b (d + j) (suc (d + j))
  content_on (of_text p q r) (of_text x y z) =
      let w : a.start + k ≡ b.start + d = sym (text_start a k p) ∙ (starts ∙ text_start b d x) in
      part_text a (k + j) (suc (k + j)) p ∙ (ap₂ chunk (omega arith) (omega arith) ∙ sym (part_text b (d + j) (suc (d + j)) x))
  content_on (of_text p q r) (of_unknown x y) =
      let w : a.start + k ≡ UNKNOWN = sym (text_start a k p) ∙ (starts ∙ unknown_start b d x) in
      absurd (omega (arith, low a k j ka p r))
  content_on (of_text p q r) (of_anchor x y) =
      let w : a.start + k ≡ b.start = sym (text_start a k p) ∙ (starts ∙ anchor_start b d x y) in
      absurd (omega (arith, low a k j ka p r))
  content_on (of_unknown p q) (of_text x y z) =
      let w : UNKNOWN ≡ b.start + d = sym (unknown_start a k p) ∙ (starts ∙ text_start b d x) in
      absurd (omega (arith, low b d j db x z))
  content_on (of_unknown p q) (of_unknown x y) =
      part_unknown a (k + j) (suc (k + j)) p ∙ (ap₂ chunk (p ∙ sym x) (omega arith) ∙ sym (part_unknown b (d + j) (suc (d + j)) x))
  content_on (of_unknown p q) (of_anchor x y) = absurd (y (sym (sym (unknown_start a k p) ∙ (starts ∙ anchor_start b d x y))))
  content_on (of_anchor p q) (of_text x y z) =
      let w : a.start ≡ b.start + d = sym (anchor_start a k p q) ∙ (starts ∙ text_start b d x) in
      absurd (omega (arith, low b d j db x z))
  content_on (of_anchor p q) (of_unknown x y) = absurd (q (sym (anchor_start a k p q) ∙ (starts ∙ unknown_start b d x)))
  content_on (of_anchor p q) (of_anchor x y) = part_anchor a (k + j) (suc (k + j)) p q ∙ (sym (part_anchor a k (suc k) p q) ∙ (e ∙ (part_anchor b d (suc d) x y ∙ sym (part_anchor b (d + j) (suc (d + j)) x y))))

-- ---------------------------------------------------------------- units

-- same_unit, by its tests
pub unit_by : (u v : FugueSpan) (p q r s : Bool) → same_id u.id v.id ≡ p → eqb u.lamport v.lamport ≡ q → (eqb u.content.start v.content.start && eqb u.content.end v.content.end) ≡ r → (eqb u.id.peer UNKNOWN_PEER || same_opt u.real_id v.real_id) ≡ s → (p && (q && (r && s))) ≡ same_unit u v
unfolding same_unit
unit_by u v p q r s a b c d =
    sym (ap₂ ◌&&◌ a (ap₂ ◌&&◌ b (sym (and-and (eqb u.content.start v.content.start) (eqb u.content.end v.content.end) (eqb u.id.peer UNKNOWN_PEER || same_opt u.real_id v.real_id)) ∙ ap₂ ◌&&◌ c d)))
  where
    and-and : (x y z : Bool) → ((x && y) && z) ≡ (x && (y && z))
    and-and true y z = refl
    and-and false y z = refl

-- same_unit, by what `==` answers
pub unit_derived : (u v : FugueSpan) → (id_eq u.id v.id && (eqb u.lamport v.lamport && (chunk_eq u.content v.content && (eqb u.id.peer UNKNOWN_PEER || option_eq id_eq u.real_id v.real_id)))) ≡ same_unit u v
unit_derived u v = unit_by u v _ _ _ _ (sym (id_derived u.id v.id)) refl refl (ap (λ (b : Bool). eqb u.id.peer UNKNOWN_PEER || b) (sym (opt_derived u.real_id v.real_id)))

-- what same_unit tells
record Alike (u v : FugueSpan) : Type 0 where
  id : u.id ≡ v.id
  lamport : u.lamport ≡ v.lamport
  content : u.content ≡ v.content
  real : (eqb u.id.peer UNKNOWN_PEER || same_opt u.real_id v.real_id) ≡ true

alike_of : (u v : FugueSpan) → same_unit u v ≡ true → Alike u v
unfolding same_unit
alike_of u v e =
    let R : Bool = eqb u.id.peer UNKNOWN_PEER || same_opt u.real_id v.real_id in
    let a = and-true (same_id u.id v.id) (eqb u.lamport v.lamport && (eqb u.content.start v.content.start && (eqb u.content.end v.content.end && R))) e in
    let b = and-true (eqb u.lamport v.lamport) (eqb u.content.start v.content.start && (eqb u.content.end v.content.end && R)) a.1 in
    let c = and-true (eqb u.content.start v.content.start) (eqb u.content.end v.content.end && R) b.1 in
    let d = and-true (eqb u.content.end v.content.end) R c.1 in
    record {
      id = same_id-true u.id v.id a.0;
      lamport = eqb-true u.lamport v.lamport b.0;
      content = ap₂ chunk (eqb-true u.content.start v.content.start c.0) (eqb-true u.content.end v.content.end d.0);
      real = d.1;
    }

of_alike : (u v : FugueSpan) → Alike u v → same_unit u v ≡ true
unfolding same_unit
of_alike u v w =
    ap₂ ◌&&◌ (ap (same_id u.id) (sym w.id) ∙ same_id_refl u.id)
    (ap₂ ◌&&◌ (eq-eqb u.lamport v.lamport w.lamport)
    (ap₂ ◌&&◌ (eq-eqb u.content.start v.content.start (ap (λ (c : RichtextChunk). c.start) w.content))
    (ap₂ ◌&&◌ (eq-eqb u.content.end v.content.end (ap (λ (c : RichtextChunk). c.end) w.content)) w.real)))

real_on : (p : Bool) (a b : OptId) (k d j : ℕ) → (p || same_opt (inc_opt a k) (inc_opt b d)) ≡ true → (p || same_opt (inc_opt a (k + j)) (inc_opt b (d + j))) ≡ true
real_on true a b k d j e = refl
real_on false a b k d j e =
    let q : inc_opt a (k + j) ≡ inc_opt b (d + j) = sym (inc_opt-inc_opt a k j) ∙ (ap (λ (o : OptId). inc_opt o j) (same_opt-true (inc_opt a k) (inc_opt b d) e) ∙ inc_opt-inc_opt b d j) in
    ap (same_opt (inc_opt a (k + j))) (sym q) ∙ same_opt_refl (inc_opt a (k + j))

peer_inc : (i : Id) (k : ℕ) → (inc_id i k).peer ≡ i.peer
unfolding inc_id
peer_inc i k = refl

module _ (s x : FugueSpan) (ok : span_code s ≡ 0) (fine : span_code x ≡ 0) where
  alike_on : (k d j : ℕ) → k + j < len_span s → d + j < len_span x → Alike (unit_at s k) (unit_at x d) → Alike (unit_at s (k + j)) (unit_at x (d + j))
  unfolding shift
  alike_on k d j a b w =
      let l : s.lamport + k ≡ x.lamport + d = w.lamport in
      record {
        id = sym (inc_inc s.id k j) ∙ (ap (λ (i : Id). inc_id i j) w.id ∙ inc_inc x.id d j);
        lamport = omega arith;
        content = content_on s.content x.content k d j a b w.content (view s.content (span_ok s ok).form) (view x.content (span_ok x fine).form);
        real = subst (λ (p : ℕ). (eqb p UNKNOWN_PEER || same_opt (inc_opt s.real_id (k + j)) (inc_opt x.real_id (d + j))) ≡ true) (peer_inc s.id k ∙ sym (peer_inc s.id (k + j))) (real_on (eqb (inc_id s.id k).peer UNKNOWN_PEER) s.real_id x.real_id k d j w.real);
      }

  -- a unit of x that is the same has the id's place
  place : (k j : ℕ) → j < len_span x → same_unit (unit_at s k) (unit_at x j) ≡ true → offset_of x (At (unit_at s k).id) ≡ Some j
  place k j h e = ap (λ (i : Id). offset_of x (At i)) (same_id_lem e) ∙ off_unit x fine j h
    where
      same_id_lem : same_unit (unit_at s k) (unit_at x j) ≡ true → (unit_at s k).id ≡ inc_id x.id j
      same_id_lem z = (unfold shift in (alike_of (unit_at s k) (unit_at x j) z).id)

some_none : (t : FugueSpan → Bool) (f : ℕ → FugueSpan) (i n : ℕ) → ((j : ℕ) → i ≤ j → j < i + n → t (f j) ≡ false) → some t (tab f i n) ≡ false
unfolding some tab
some_none t f i zero h = refl
some_none t f i (suc n) h = or_both (t (f i)) (some t (tab f (suc i) n)) (h i (omega arith) (omega arith)) (some_none t f (suc i) n (λ j a b. h j (omega arith) (omega arith)))

some-tab : (t : FugueSpan → Bool) (f : ℕ → FugueSpan) (i n j : ℕ) → j < n → t (f (i + j)) ≡ true → some t (tab f i n) ≡ true
unfolding some tab
some-tab t f i zero j h e = absurd (omega arith)
some-tab t f i (suc n) zero h e = or_left (t (f i)) (some t (tab f (suc i) n)) (let q : i ≡ i + 0 = omega arith in ap (λ (m : ℕ). t (f m)) q ∙ e)
some-tab t f i (suc n) (suc j) h e = or_right (t (f i)) (some t (tab f (suc i) n)) (some-tab t f (suc i) n j (omega arith) (let q : suc i + j ≡ i + suc j = omega arith in ap (λ (m : ℕ). t (f m)) q ∙ e))

-- ---------------------------------------------------------------- a row against a span

at_at : (a b : ℕ) (f : Offset) → f ≡ Some a → f ≡ Some b → a ≡ b
at_at a b f p q = cc

at_none : (a : ℕ) (f : Offset) → f ≡ Some a → f ≡ None → ⊥
at_none a f p q = let z : ◌≡◌ {A = ℕ} 0 1 = cc in omega arith

module _ (s x : FugueSpan) (k : ℕ) (ok : span_code s ≡ 0) (fine : span_code x ≡ 0) (h : k < len_span s) (u : FugueSpan) (eu : u ≡ unit_at s k) (f : Offset) (ef : f ≡ offset_of x (At u.id)) where
  off : offset_of x (At (unit_at s k).id) ≡ f
  off = ap (λ (v : FugueSpan). offset_of x (At v.id)) (sym eu) ∙ sym ef

  empty : some (same_unit (unit_at s k)) (units_of x) ≡ false → Meets s k (units_of x) 0
  empty e = record { none = λ z. e; few = omega arith; all = λ j z. absurd (omega arith) }

  pub meets_none : f ≡ None → Meets s k (units_of x) 0
  meets_none e = empty (unfold units_of in some_none (same_unit (unit_at s k)) (unit_at x) 0 (len_span x) each)
    where
      each : (j : ℕ) → 0 ≤ j → j < 0 + len_span x → same_unit (unit_at s k) (unit_at x j) ≡ false
      each j a b = not_both (same_unit (unit_at s k) (unit_at x j)) (λ z. at_none j (offset_of x (At (unit_at s k).id)) (place s x ok fine k j (omega arith) z) (off ∙ e))

  module _ (d : ℕ) (e : f ≡ Some d) where
    pub meets_low : d < len_span x
    meets_low = (unit_off x fine (At (unit_at s k).id) d (off ∙ e)).0

    module _ (v : FugueSpan) (ev : v ≡ unit_at x d) (b : Bool) (eb : b ≡ same_unit u v) where
      same : same_unit (unit_at s k) (unit_at x d) ≡ b
      same = ap₂ same_unit (sym eu) (sym ev) ∙ sym eb

      pub meets_not : b ≡ false → Meets s k (units_of x) 0
      meets_not g = empty (unfold units_of in some_none (same_unit (unit_at s k)) (unit_at x) 0 (len_span x) each)
        where
          each : (j : ℕ) → 0 ≤ j → j < 0 + len_span x → same_unit (unit_at s k) (unit_at x j) ≡ false
          each j y z = not_both (same_unit (unit_at s k) (unit_at x j)) (λ w. true≢false (sym w ∙ (ap (λ (m : ℕ). same_unit (unit_at s k) (unit_at x m)) (at_at j d (offset_of x (At (unit_at s k).id)) (place s x ok fine k j (omega arith) w) (off ∙ e)) ∙ (same ∙ g))))

      pub meets_some : b ≡ true → (r : ℕ) → 0 < r → k + r ≤ len_span s → d + r ≤ len_span x → Meets s k (units_of x) r
      meets_some g r p q l = record { none = λ z. absurd (omega arith); few = q; all = each }
        where
          each : (j : ℕ) → j < r → some (same_unit (unit_at s (k + j))) (units_of x) ≡ true
          each j y =
              (unfold units_of in some-tab (same_unit (unit_at s (k + j))) (unit_at x) 0 (len_span x) (d + j) (omega arith)
              (ap (λ (m : ℕ). same_unit (unit_at s (k + j)) (unit_at x m)) (zero-add (d + j)) ∙ of_alike (unit_at s (k + j)) (unit_at x (d + j)) (alike_on s x ok fine k d j (omega arith) (omega arith) (alike_of (unit_at s k) (unit_at x d) (same ∙ g)))))

-- a unit as the code cuts it
pub unit_cut : (s : FugueSpan) (k : ℕ) → span_code s ≡ 0 → k < len_span s → slice_span_code s k (k + 1) ≡ 0
unit_cut s k ok h = in_range_lem s k (k + 1) ok (omega arith) (omega arith)

pub unit_one : (s : FugueSpan) (k : ℕ) → part_span s k (k + 1) ≡ unit_at s k
unit_one s k = ap (λ (m : ℕ). part_span s k m) (add-one k)

-- ---------------------------------------------------------------- a row against more

some-append : (t : FugueSpan → Bool) (A B : List FugueSpan) → some t (A ++ B) ≡ (some t A || some t B)
unfolding some
some-append t [] B = refl
some-append t (a ∷ A) B = go (t a) (some-append t A B)
  where
    go : (b : Bool) → some t (A ++ B) ≡ (some t A || some t B) → (b || some t (A ++ B)) ≡ ((b || some t A) || some t B)
    go true e = refl
    go false e = e

module _ (s : FugueSpan) (k : ℕ) (A B : List FugueSpan) (r : ℕ) where
  pub meets_left : Meets s k A r → (r ≡ 0 → ⊥) → Meets s k (A ++ B) r
  meets_left w n = record { none = λ z. absurd (n z); few = w.few; all = λ j z. some-append (same_unit (unit_at s (k + j))) A B ∙ or_left (some (same_unit (unit_at s (k + j))) A) (some (same_unit (unit_at s (k + j))) B) (w.all j z) }

  pub meets_right : some (same_unit (unit_at s k)) A ≡ false → Meets s k B r → Meets s k (A ++ B) r
  meets_right n w =
      record {
        none = λ z. some-append (same_unit (unit_at s k)) A B ∙ or_both (some (same_unit (unit_at s k)) A) (some (same_unit (unit_at s k)) B) n (w.none z);
        few = w.few;
        all = λ j z. some-append (same_unit (unit_at s (k + j))) A B ∙ or_right (some (same_unit (unit_at s (k + j))) A) (some (same_unit (unit_at s (k + j))) B) (w.all j z);
      }

pub none_append : (t : FugueSpan → Bool) (A B : List FugueSpan) → some t A ≡ false → some t B ≡ false → some t (A ++ B) ≡ false
none_append t A B p q = some-append t A B ∙ or_both (some t A) (some t B) p q
