-- The items of a well formed store: their numbers fit their rows, and nothing refuses them. Rows of bytes say numbers of their widths.
use Prim.Native.Nat.{ℕ, zero, suc, ◌+◌, ◌-◌, ◌/◌, ◌^◌, ◌<◌, ◌≤◌}
use mathlib.Core.Path.{◌≡◌, refl, ap, ◌∙◌}
use mathlib.Core.Bool.{Bool, true, false, ◌&&◌}
use mathlib.Core.List.{List, [], ◌∷◌, ◌++◌}
use native.Mathlib.Omega.{arith}
use native.Mathlib.Nat.{pow-suc}
use lib.Dec.{ltb}
use lib.ListN.{take, drop}
use lib.Pow.{are_bytes}
use mir.Syntax.{w32}
use mir.Val.{SFits}
use borrow.Author.Tests.{ltb-true, eq-eqb}
use Rattle.std.specs.Prelude.{None, Some}
use Rattle.words.specs.Le.{le}
use Rattle.span.specs.declared.chunk.RichtextChunk.{RichtextChunk}
use Rattle.span.specs.declared.ids.Id.{Id}
use Rattle.span.specs.Maybe.{OptId}
use Rattle.span.specs.declared.span.FugueSpan.{FugueSpan}
use Rattle.span.specs.Chunk.{part_chunk, slice_code}
use Rattle.span.specs.Ids.{inc_id, room_of, room_opt}
use Rattle.span.specs.Status.{activated}
use Rattle.span.specs.Span.{len_span, span_code, real_by, real_of, shift}
use Rattle.span.specs.Units.{tab, unit_at, units_of, expand}
use Rattle.span.proofs.IdsLaws.{roomy, room_opt_lem}
use Rattle.span.proofs.SpanLaws.{span_ok, slice_span_ok}
use Rattle.span.proofs.UnitLaws.{part_ok, part_length}
use Rattle.span.proofs.Unique.{in_range_lem}
use Rattle.span.proofs.Views.{PartView, text_part, unknown_part, anchor_part, part_view, part_text, part_unknown, part_anchor}
use Rattle.store.specs.Row.{rows, row_at, span_of, words_at, id_of, opt_of, low_of, u64_at, u32_at}
use Rattle.units.specs.Lists.{every, keep_if}
use Rattle.units.specs.Query.{visibles}
use Rattle.rope.specs.Spans.{AllOk}
use Rattle.rope.proofs.Lists.{and-true}
use Rattle.rope.proofs.Reals.{real_part}
use Rattle.apply.specs.declared.item.Item.{Item}
use Rattle.apply.specs.Apply.{item_of, items, item_formed, item_ids, item_single}
use Rattle.apply.proofs.DeltaApplies.{items-cons}

-- ---- numbers of bytes

pow_pos : (k : ℕ) → 0 < 256 ^ k
pow_pos zero = omega arith
pow_pos (suc k) = let h = pow_pos k in rw pow-suc (omega arith)

le_below : (k : ℕ) (s : List ℕ) → are_bytes s ≡ true → le (take k s) < 256 ^ k
unfolding le
le_below zero s e = omega arith
le_below (suc k) [] e = pow_pos (suc k)
le_below (suc k) (x ∷ s) e =
    let a = and-true (ltb x 256) (are_bytes s) e in
    let h : x < 256 = ltb-true x 256 a.0 in
    let r : le (take k s) < 256 ^ k = le_below k s a.1 in
    rw pow-suc (omega arith)

pub drop_bytes : (n : ℕ) (s : List ℕ) → are_bytes s ≡ true → are_bytes (drop n s) ≡ true
drop_bytes zero s e = e
drop_bytes (suc n) [] e = e
drop_bytes (suc n) (x ∷ s) e = drop_bytes n s (and-true (ltb x 256) (are_bytes s) e).1

-- ---- spans of which the numbers that an item has fit

pub record Fit (s : FugueSpan) : Type 0 where
  pub peer : (real_of s).peer < 256 ^ 8
  pub start : s.content.start < 256 ^ 4
  pub end : s.content.end < 256 ^ 4

unfoldable pub AllFit : List FugueSpan → Type 0
AllFit [] = Unit {0}
AllFit (s ∷ l) = Fit s × AllFit l

real_peer : (t : Bool) (p w q v : ℕ) → p < 256 ^ 8 → q < 256 ^ 8 → (real_by (opt_of t p w) (id_of q v)).peer < 256 ^ 8
real_peer true p w q v h k = h
real_peer false p w q v h k = k

row_fit : (s : List ℕ) (b : ℕ) → are_bytes s ≡ true → Fit (row_at s b)
unfolding span_of words_at real_of
row_fit s b e =
    record {
      peer = real_peer (low_of ((words_at s b).c8 / 2 / 2 / 2)) (u64_at s (b + 8)) (u32_at s (b + 40)) (u64_at s b) (u32_at s (b + 32)) (le_below 8 (drop (b + 8) s) (drop_bytes (b + 8) s e)) (le_below 8 (drop b s) (drop_bytes b s e));
      start = le_below 4 (drop (b + 52) s) (drop_bytes (b + 52) s e);
      end = le_below 4 (drop (b + 56) s) (drop_bytes (b + 56) s e);
    }

pub rows_fit : (n : ℕ) (s : List ℕ) → are_bytes s ≡ true → AllFit (rows n s)
unfolding rows AllFit
rows_fit zero s e = tt
rows_fit (suc n) s e = (row_fit s 0 e, rows_fit n (drop 72 s) (drop_bytes 72 s e))

-- ---- items that fit, and that nothing refuses

pub record Sound (x : Item) : Type 0 where
  pub peer : x.id.peer < 256 ^ 8
  pub counter : SFits w32 x.id.counter
  pub start : x.content.start < 256 ^ 4
  pub end : x.content.end < 256 ^ 4
  pub formed : item_formed x ≡ true
  pub ids : item_ids x ≡ true
  pub single : item_single x ≡ true

unfoldable pub AllSound : List Item → Type 0
AllSound [] = Unit {0}
AllSound (x ∷ l) = Sound x × AllSound l

module _ (l : List Item) where
  pub items_formed : AllSound l → every item_formed l ≡ true
  unfolding AllSound every
  items_formed v = go l v
    where
      go : (m : List Item) → AllSound m → every item_formed m ≡ true
      go [] w = refl
      go (x ∷ m) w = ap (λ (t : Bool). t && every item_formed m) w.0.formed ∙ go m w.1

  pub items_ids : AllSound l → every item_ids l ≡ true
  unfolding AllSound every
  items_ids v = go l v
    where
      go : (m : List Item) → AllSound m → every item_ids m ≡ true
      go [] w = refl
      go (x ∷ m) w = ap (λ (t : Bool). t && every item_ids m) w.0.ids ∙ go m w.1

  pub items_single : AllSound l → every item_single l ≡ true
  unfolding AllSound every
  items_single v = go l v
    where
      go : (m : List Item) → AllSound m → every item_single m ≡ true
      go [] w = refl
      go (x ∷ m) w = ap (λ (t : Bool). t && every item_single m) w.0.single ∙ go m w.1

-- a real id has room, whether it is the span's own or not
pub real_room : (s : FugueSpan) → span_code s ≡ 0 → room_of (real_of s) (len_span s) ≡ true
unfolding real_of
real_room s ok = go s.real_id (span_ok s ok).real
  where
    go : (o : OptId) → room_opt o (len_span s) ≡ true → room_of (real_by o s.id) (len_span s) ≡ true
    go None e = (span_ok s ok).own
    go (Some i) e = room_opt_lem i (len_span s) e

pub room_fits : (i : Id) (n : ℕ) → room_of i n ≡ true → SFits w32 i.counter
room_fits i n e =
    let r = roomy i.counter n e in
    rw r.is (record { sfits = omega (arith, r.ends) })

unit_sound : (u : FugueSpan) → span_code u ≡ 0 → len_span u ≡ 1 → Fit u → Sound (item_of u)
unfolding item_of item_formed item_ids item_single
unit_sound u ok one f =
    record {
      peer = f.peer;
      counter = room_fits (real_of u) (len_span u) (real_room u ok);
      start = f.start;
      end = f.end;
      formed = (span_ok u ok).form;
      ids = real_room u ok;
      single = eq-eqb (len_span u) 1 one;
    }

-- ---- the units of spans

part_fit : (c : RichtextChunk) (i j : ℕ) → slice_code c i j ≡ 0 → c.start < 256 ^ 4 → c.end < 256 ^ 4 → ((part_chunk c i j).start < 256 ^ 4) × ((part_chunk c i j).end < 256 ^ 4)
part_fit c i j ok h k = go (part_view c i j ok)
  where
    go : PartView c i j → ((part_chunk c i j).start < 256 ^ 4) × ((part_chunk c i j).end < 256 ^ 4)
    go (text_part l p w m) = rw (part_text c i j l) (omega arith, omega arith)
    go (unknown_part e p w) = rw (part_unknown c i j e) (h, omega arith)
    go (anchor_part e n p w) = rw (part_anchor c i j e n) (h, k)

module _ (s : FugueSpan) (ok : span_code s ≡ 0) (f : Fit s) where
  unit_fit : (k : ℕ) → k < len_span s → Fit (unit_at s k)
  unfolding shift inc_id
  unit_fit k h =
      let q = (slice_span_ok s k (suc k) (in_range_lem s k (suc k) ok (omega arith) (omega arith))).1 in
      let w = part_fit s.content k (suc k) q f.start f.end in
      record { peer = rw (real_part s k (suc k)) f.peer; start = w.0; end = w.1 }

-- units, each a sound item
unfoldable pub AllGood : List FugueSpan → Type 0
AllGood [] = Unit {0}
AllGood (u ∷ us) = Sound (item_of u) × AllGood us

good_append : (us vs : List FugueSpan) → AllGood us → AllGood vs → AllGood (us ++ vs)
unfolding AllGood
good_append [] vs a b = b
good_append (u ∷ us) vs a b = (a.0, good_append us vs a.1 b)

module _ (s : FugueSpan) (ok : span_code s ≡ 0) (f : Fit s) where
  tab_good : (i n : ℕ) → i + n ≤ len_span s → AllGood (tab (unit_at s) i n)
  unfolding AllGood tab
  tab_good i zero h = tt
  tab_good i (suc n) h =
      let e : span_code s ≡ 0 = ok in
      let q = in_range_lem s i (suc i) e (omega arith) (omega arith) in
      (unit_sound (unit_at s i) (part_ok s i (suc i) q) (part_length s i (suc i) q ∙ (let w : suc i - i ≡ 1 = omega arith in w)) (unit_fit s ok f i (omega arith)), tab_good (suc i) n (omega arith))

pub good_list : (l : List FugueSpan) → AllOk l → AllFit l → AllGood (expand l)
unfolding expand AllOk AllFit AllGood units_of
good_list [] a b = tt
good_list (s ∷ l) a b = good_append (units_of s) (expand l) (tab_good s a.0 b.0 0 (len_span s) (omega arith)) (good_list l a.1 b.1)

pub sound_units : (us : List FugueSpan) → AllGood us → AllSound (items us)
unfolding AllGood AllSound items visibles keep_if
sound_units [] a = tt
sound_units (u ∷ us) a = go (sound_units us a.1) (activated u.status) refl
  where
    go : AllSound (items us) → (t : Bool) → activated u.status ≡ t → AllSound (items (u ∷ us))
    go on true e = rw (items-cons u us true e) (a.0, on)
    go on false e = rw (items-cons u us false e) on

pub sound_items : (l : List FugueSpan) → AllOk l → AllFit l → AllSound (items (expand l))
sound_items l a b = sound_units (expand l) (good_list l a b)
