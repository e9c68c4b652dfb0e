-- a piece of a row as a version shows it: its units are the row's, seen
use Prim.Native.Nat.{ℕ, zero, suc, ◌+◌, ◌-◌, ◌<◌, ◌≤◌}
use mathlib.Core.Path.{◌≡◌, refl, sym, ap, ap₂, subst, ◌∙◌}
use mathlib.Core.Bool.{Bool, true, false}
use mathlib.Core.List.{List, ◌∷◌}
use native.Mathlib.Omega.{arith}
use lib.ListN.{take, drop}
use Rattle.span.specs.declared.ids.Id.{Id}
use Rattle.span.specs.declared.status.Status.{Status}
use Rattle.span.specs.Maybe.{OptStatus}
use Rattle.std.specs.Prelude as Opt
use Rattle.span.specs.declared.span.FugueSpan.{FugueSpan}
use Rattle.span.specs.Ids.{room_of, inc_id}
use Rattle.span.specs.Span.{len_span, span_code, slice_span_code, ids_ok, shift, left_of, part_span}
use Rattle.span.specs.Units.{tab, unit_at, units_of}
use Rattle.span.proofs.IdsLaws.{room_less}
use Rattle.span.proofs.SpanLaws.{span_ok}
use Rattle.span.proofs.UnitLaws.{part_ok, part_length, slice_units}
use Rattle.span.proofs.Unique.{in_range_lem}
use Rattle.units.specs.Change.{with_state}
use Rattle.history.specs.Edit.{Version, Held}
use Rattle.history.specs.Checkout.{status_at, unit_between}
use Rattle.history.specs.Checkout as C
use Rattle.tracker.specs.declared.look.Reach.{Reach}
use Rattle.tracker.specs.Looks.{Reaches, unit_seen, seen, Piece}

-- ---- counters for a part of a span

module _ (row : FugueSpan) (from : ℕ) (ok : span_code row ≡ 0) where
  pub from_room : from ≤ len_span row → room_of row.id from ≡ true
  from_room h = room_less row.id.counter from (len_span row) h (span_ok row ok).own

  pub part_room : (j : ℕ) → from < j → j ≤ len_span row → room_of (inc_id row.id from) (j - from) ≡ true
  unfolding shift
  part_room j h k =
      let e = in_range_lem row from j ok h k in
      subst (λ (n : ℕ). room_of (inc_id row.id from) n ≡ true) (part_length row from j e) (span_ok (part_span row from j) (part_ok row from j e)).own

-- ---- a span with other statuses

-- the real ids stay
abbrev stated : FugueSpan → Status → OptStatus → FugueSpan
stated p s d = with_state p s d p.real_id

stated_ok : (p : FugueSpan) (s : Status) (d : OptStatus) → span_code p ≡ 0 → span_code (stated p s d) ≡ 0
unfolding with_state span_code ids_ok
stated_ok p s d e = e

stated_len : (p : FugueSpan) (s : Status) (d : OptStatus) → len_span (stated p s d) ≡ len_span p
unfolding with_state
stated_len p s d = refl

stated_unit : (p : FugueSpan) (s : Status) (d : OptStatus) (k : ℕ) → stated (unit_at p k) s d ≡ unit_at (stated p s d) k
unfolding with_state shift left_of
stated_unit p s d zero = refl
stated_unit p s d (suc k) = refl

module _ (both : Bool) (a b : Version) (l : List Held) (p : FugueSpan) (s : Status) (d : OptStatus) where
  stated-tab : (j n : ℕ) → ((k : ℕ) → j ≤ k → k < j + n → stated (unit_at p k) s d ≡ unit_seen both a b l (unit_at p k)) → tab (unit_at (stated p s d)) j n ≡ seen both a b l (tab (unit_at p) j n)
  unfolding tab seen
  stated-tab j zero f = refl
  stated-tab j (suc n) f =
      ap₂ (λ (u : FugueSpan) (r : List FugueSpan). u ∷ r) (sym (stated_unit p s d j) ∙ f j (omega arith) (omega arith))
      (stated-tab (suc j) n (λ k h m. f k (omega (arith, h)) (omega (arith, m))))

  stated_units : ((k : ℕ) → k < len_span p → stated (unit_at p k) s d ≡ unit_seen both a b l (unit_at p k)) → units_of (stated p s d) ≡ seen both a b l (units_of p)
  unfolding units_of
  stated_units f = ap (tab (unit_at (stated p s d)) 0) (stated_len p s d) ∙ stated-tab 0 (len_span p) (λ k h m. f k (omega (arith, m)))

-- ---- the unit k of a part is seen as its id says

one_unit : (a b : Version) (l : List Held) (u : FugueSpan) (s : Status) → status_at a l u.id ≡ s → stated u s Opt.None ≡ unit_seen false a b l u
unfolding unit_seen C.unit_at
one_unit a b l u s e = ap (λ (z : Status). stated u z Opt.None) (sym e)

two_unit : (a b : Version) (l : List Held) (u : FugueSpan) (s z : Status) → status_at a l u.id ≡ s → status_at b l u.id ≡ z → stated u s (Opt.Some z) ≡ unit_seen true a b l u
unfolding unit_seen unit_between
two_unit a b l u s z e f = ap₂ (λ (x y : Status). stated u x (Opt.Some y)) (sym e) (sym f)

module _ (a b : Version) (l : List Held) (row : FugueSpan) (from len : ℕ) (ok : span_code row ≡ 0) (some : 0 < len) (few : from + len ≤ len_span row) where
  abbrev p : FugueSpan
  p = part_span row from (from + len)

  cut : slice_span_code row from (from + len) ≡ 0
  cut = in_range_lem row from (from + len) ok (omega arith) few

  long : len_span p ≡ len
  long = part_length row from (from + len) cut ∙ (let e : from + len - from ≡ len = omega arith in e)

  -- the id of its unit k
  part_id : (k : ℕ) → (unit_at p k).id ≡ inc_id (inc_id row.id from) k
  unfolding shift
  part_id k = refl

  piece : (both : Bool) (s : Status) (d : OptStatus) → ((k : ℕ) → k < len → stated (unit_at p k) s d ≡ unit_seen both a b l (unit_at p k)) → (x : FugueSpan) → x ≡ stated p s d → Piece both a b l row from x
  piece both s d f x e =
      let n : len_span x ≡ len = ap len_span e ∙ (stated_len p s d ∙ long) in
      record {
        fine = ap span_code e ∙ stated_ok p s d (part_ok row from (from + len) cut);
        some = omega (arith, n, some);
        few = omega (arith, n, few);
        units = ap units_of e ∙
            (stated_units both a b l p s d (λ k h. f k (omega (arith, h, long))) ∙
            ap (seen both a b l) (slice_units row from (from + len) cut ∙ ap (λ (m : ℕ). take m (drop from (units_of row))) ((let e : from + len - from ≡ len = omega arith in e) ∙ sym n)));
      }

-- ---- what the code finds: i is the id of the unit `from`, n the row's length

module _ (both : Bool) (a b : Version) (l : List Held) (row : FugueSpan) (from : ℕ) (ok : span_code row ≡ 0) (below : from < len_span row) (i : Id) (at : i ≡ inc_id row.id from) (n : ℕ) (all : n ≡ len_span row) where
  pub run_room : room_of i (n - from) ≡ true
  run_room =
      subst (λ (j : Id). room_of j (n - from) ≡ true) (sym at)
      (subst (λ (m : ℕ). room_of (inc_id row.id from) (m - from) ≡ true) (sym all) (part_room row from ok (len_span row) below (omega arith)))

  module _ (r : Reach) (g : Reaches a l i (n - from) r) where
    pub first_room : room_of i r.len ≡ true
    first_room = room_less i.counter r.len (n - from) g.few run_room

    pub first_fits : from + r.len ≤ len_span row
    first_fits = omega (arith, g.few, all, below)

    at_first : (k : ℕ) → k < r.len → status_at a l (inc_id (inc_id row.id from) k) ≡ r.status
    at_first k h = ap (λ (j : Id). status_at a l (inc_id j k)) (sym at) ∙ g.same k h

    pub piece_one : both ≡ false → (x : FugueSpan) → x ≡ stated (part_span row from (from + r.len)) r.status Opt.None → Piece both a b l row from x
    piece_one f x e =
        subst (λ (t : Bool). Piece t a b l row from x) (sym f)
        (piece a b l row from r.len ok g.some first_fits false r.status Opt.None
        (λ k h. one_unit a b l (unit_at (part_span row from (from + r.len)) k) r.status (ap (status_at a l) (part_id a b l row from r.len ok g.some first_fits k) ∙ at_first k h)) x e)

    module _ (z : Reach) (w : Reaches b l i r.len z) where
      pub second_fits : from + z.len ≤ len_span row
      second_fits = omega (arith, w.few, first_fits)

      at_second : (k : ℕ) → k < z.len → status_at b l (inc_id (inc_id row.id from) k) ≡ z.status
      at_second k h = ap (λ (j : Id). status_at b l (inc_id j k)) (sym at) ∙ w.same k h

      pub piece_two : both ≡ true → (x : FugueSpan) → x ≡ stated (part_span row from (from + z.len)) r.status (Opt.Some z.status) → Piece both a b l row from x
      piece_two f x e =
          subst (λ (t : Bool). Piece t a b l row from x) (sym f)
          (piece a b l row from z.len ok w.some second_fits true r.status (Opt.Some z.status)
          (λ k h. two_unit a b l (unit_at (part_span row from (from + z.len)) k) r.status z.status
          (ap (status_at a l) (part_id a b l row from z.len ok w.some second_fits k) ∙ at_first k (omega (arith, h, w.few)))
          (ap (status_at b l) (part_id a b l row from z.len ok w.some second_fits k) ∙ at_second k h)) x e)
