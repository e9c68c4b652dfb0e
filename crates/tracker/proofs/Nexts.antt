-- the list at a version, piece by piece: the next piece from a place on, and what is left behind it
use Prim.Native.Nat.{ℕ, zero, suc, ◌+◌, ◌-◌, ◌*◌, ◌<◌, ◌≤◌}
use mathlib.Core.Path.{◌≡◌, refl, sym, ap, ap₂, subst, ◌∙◌}
use mathlib.Core.Bool.{Bool, true, false}
use mathlib.Core.List.{List, [], ◌∷◌, ◌++◌, map-append, append_assoc}
use native.Mathlib.Omega.{arith}
use lib.ListN.{length, take, drop, take-append-drop, length-append, length-drop, drop_of_length-le}
use lib.Seq.{drop-drop, drop-nil, drop-append-le}
use Rattle.span.specs.declared.span.FugueSpan.{FugueSpan}
use Rattle.span.specs.Span.{len_span, span_code, ids_ok, active_len}
use Rattle.span.specs.Units.{units_of, expand}
use Rattle.span.proofs.SpanLaws.{span_ok}
use Rattle.span.proofs.Views.{len_pos}
use Rattle.span.proofs.Unique.{AllUnits, one_unit}
use Rattle.span.proofs.ForRope.{units_length, span_units, expand-append}
use Rattle.store.specs.Row.{rows, row_at}
use Rattle.units.specs.Change.{with_state}
use Rattle.units.specs.Place.{shown}
use Rattle.rope.specs.Spans.{Stored, AllOk}
use Rattle.rope.proofs.Rights.{row_drop, row_none}
use Rattle.rope.proofs.Whole.{ok_drop}
use Rattle.rope.proofs.Seeks.{shown_row, active_most}
use Rattle.rope.proofs.Streaming.{units_append}
use Rattle.rope.proofs.WellFormed.{Formed, formed_of}
use Rattle.history.specs.Edit.{Version, Held}
use Rattle.history.specs.Checkout.{unit_between}
use Rattle.history.specs.Checkout as C
use Rattle.tracker.specs.declared.seen.Step.{Step}
use Rattle.tracker.specs.Looks.{unit_seen, seen, Piece}
use Rattle.tracker.specs.Ahead.{ahead, Place, Next}

-- ---- units, and units seen

-- units are spans of which each is its own unit
pub units_self : (us : List FugueSpan) → AllUnits us → expand us ≡ us
unfolding AllUnits expand
units_self [] ok = refl
units_self (u ∷ us) ok = ap₂ (λ (a b : List FugueSpan). a ++ b) (one_unit u ok.0 ok.1.0) (units_self us ok.1.1)

pub units_fine : (us : List FugueSpan) → AllUnits us → AllOk us
unfolding AllUnits AllOk
units_fine [] ok = tt
units_fine (u ∷ us) ok = (ok.0, units_fine us ok.1.1)

pub units_drop : (k : ℕ) (us : List FugueSpan) → AllUnits us → AllUnits (drop k us)
unfolding AllUnits
units_drop zero us ok = ok
units_drop (suc k) [] ok = tt
units_drop (suc k) (u ∷ us) ok = units_drop k us ok.1.1

module _ (both : Bool) (a b : Version) (l : List Held) where
  pub seen-append : (us vs : List FugueSpan) → seen both a b l (us ++ vs) ≡ seen both a b l us ++ seen both a b l vs
  unfolding seen
  seen-append us vs = map-append (unit_seen both a b l) us vs

  pub seen_length : (us : List FugueSpan) → length (seen both a b l us) ≡ length us
  unfolding seen
  seen_length [] = refl
  seen_length (u ∷ us) = ap suc (seen_length us)

  seen_unit : (u : FugueSpan) → span_code u ≡ 0 → len_span u ≡ 1 → (span_code (unit_seen both a b l u) ≡ 0) × (len_span (unit_seen both a b l u) ≡ 1)
  unfolding unit_seen unit_between C.unit_at with_state span_code ids_ok
  seen_unit u e n = go both
    where
      go : (t : Bool) → (span_code (unit_seen t a b l u) ≡ 0) × (len_span (unit_seen t a b l u) ≡ 1)
      go true = (e, n)
      go false = (e, n)

  pub seen_units : (us : List FugueSpan) → AllUnits us → AllUnits (seen both a b l us)
  unfolding AllUnits seen
  seen_units [] ok = tt
  seen_units (u ∷ us) ok = let e = seen_unit u ok.0 ok.1.0 in (e.0, (e.1, seen_units us ok.1.1))

-- ---- the units from a place on

module _ (n : ℕ) (s : List ℕ) where
  pub ahead_start : ahead n s 0 0 ≡ expand (rows n s)
  unfolding ahead
  ahead_start = refl

  pub ahead_end : (i from : ℕ) → n ≤ i → ahead n s i from ≡ []
  unfolding ahead expand
  ahead_end i from h = ap (λ (r : List FugueSpan). drop from (expand r)) (row_none n s i h) ∙ drop-nil from

  module _ (w : Stored n s) where
    formed : Formed (rows n s)
    formed = formed_of (rows n s) w.formed

    ok_units : (l : List FugueSpan) → AllOk l → AllUnits (expand l)
    unfolding AllOk expand AllUnits
    ok_units [] ok = tt
    ok_units (x ∷ l) ok = units_append (units_of x) (expand l) (span_units x ok.0) (ok_units l ok.1)

    pub ahead_units : (i from : ℕ) → AllUnits (ahead n s i from)
    unfolding ahead
    ahead_units i from = units_drop from (expand (drop i (rows n s))) (ok_units (drop i (rows n s)) (ok_drop i (rows n s) formed.each))

    pub row_fine : (i : ℕ) → i < n → span_code (row_at s (i * 72)) ≡ 0
    unfolding AllOk
    row_fine i h = (subst AllOk (row_drop n s i h) (ok_drop i (rows n s) formed.each)).0

    less : (i : ℕ) → length (expand (drop i (rows n s))) ≤ length (expand (rows n s))
    less i =
        let e : length (expand (rows n s)) ≡ length (expand (take i (rows n s))) + length (expand (drop i (rows n s))) =
        ap (λ (r : List FugueSpan). length (expand r)) (sym (take-append-drop i (rows n s))) ∙
        (ap length (expand-append (take i (rows n s)) (drop i (rows n s))) ∙ length-append (expand (take i (rows n s))) (expand (drop i (rows n s))))
        in
        omega (arith, e)

    pub ahead_few : (i from : ℕ) → length (ahead n s i from) ≤ 65536
    unfolding ahead
    ahead_few i from = let e = length-drop from (expand (drop i (rows n s))) in omega (arith, e, less i, formed.units)

    pub row_few : (i : ℕ) → i < n → len_span (row_at s (i * 72)) ≤ 65536
    unfolding expand
    row_few i h =
        let e : length (expand (drop i (rows n s))) ≡ len_span (row_at s (i * 72)) + length (expand (drop (i + 1) (rows n s))) =
        ap (λ (r : List FugueSpan). length (expand r)) (row_drop n s i h) ∙
        (length-append (units_of (row_at s (i * 72))) (expand (drop (i + 1) (rows n s))) ∙
        ap (λ (k : ℕ). k + length (expand (drop (i + 1) (rows n s)))) (units_length (row_at s (i * 72))))
        in
        omega (arith, e, less i, formed.units)

    pub seen_few : (both : Bool) (a b : Version) (l : List Held) → length (seen both a b l (expand (rows n s))) ≤ 65536
    seen_few both a b l = let e = seen_length both a b l (expand (rows n s)) in omega (arith, e, formed.units)

    -- before the first unit
    pub place_start : Place n s 0 0
    place_start = record { most = omega arith; within = λ h. len_pos (row_at s (0 * 72)).content (span_ok (row_at s (0 * 72)) (row_fine 0 h)).form }

    module _ (both : Bool) (a b : Version) (l : List Held) (i from : ℕ) (p : Place n s i from) (h : i < n) where
      abbrev row : FugueSpan
      row = row_at s (i * 72)

      abbrev U : List FugueSpan
      U = units_of row

      abbrev E : List FugueSpan
      E = expand (drop (i + 1) (rows n s))

      here : (k : ℕ) → k ≤ len_span row → ahead n s i k ≡ drop k U ++ E
      unfolding ahead expand
      here k m = ap (λ (r : List FugueSpan). drop k (expand r)) (row_drop n s i h) ∙ drop-append-le k U E (let e = units_length row in omega (arith, e, m))

      module _ (x : FugueSpan) (q : Piece both a b l row from x) where
        abbrev to : ℕ
        to = from + len_span x

        cut : drop from U ≡ take (len_span x) (drop from U) ++ drop to U
        cut = sym (take-append-drop (len_span x) (drop from U)) ∙ ap (λ (r : List FugueSpan). take (len_span x) (drop from U) ++ r) (drop-drop (len_span x) from U)

        split : seen both a b l (ahead n s i from) ≡ units_of x ++ seen both a b l (drop to U ++ E)
        split =
            ap (seen both a b l)
            (here from (omega (arith, p.within h)) ∙
            (ap (λ (r : List FugueSpan). r ++ E) cut ∙ append_assoc (take (len_span x) (drop from U)) (drop to U) E)) ∙
            (seen-append both a b l (take (len_span x) (drop from U)) (drop to U ++ E) ∙
            ap (λ (r : List FugueSpan). r ++ seen both a b l (drop to U ++ E)) (sym q.units))

        pub next_in : (j : ℕ) → j ≡ to → j < len_span row → Next both a b l n s i from (record { piece = x; row = i; from = j })
        next_in j e m =
            record {
              fine = q.fine;
              some = q.some;
              place = record { most = p.most; within = λ z. m };
              units = split ∙ ap (λ (r : List FugueSpan). units_of x ++ seen both a b l r) (ap (λ (k : ℕ). drop k U ++ E) (sym e) ∙ sym (here j (omega (arith, m))));
            }

        pub next_out : (j : ℕ) → j ≡ to → len_span row ≤ j → Next both a b l n s i from (record { piece = x; row = i + 1; from = 0 })
        unfolding ahead
        next_out j e m =
            record {
              fine = q.fine;
              some = q.some;
              place = record {
                most = omega (arith, h);
                within = λ z. len_pos (row_at s ((i + 1) * 72)).content (span_ok (row_at s ((i + 1) * 72)) (row_fine (i + 1) z)).form;
              };
              units = split ∙ ap (λ (r : List FugueSpan). units_of x ++ seen both a b l (r ++ E)) (drop_of_length-le U {i = to} (let z = units_length row in omega (arith, z, m, e)));
            }

-- ---- what the next piece leaves

module _ (both : Bool) (a b : Version) (l : List Held) (n : ℕ) (s : List ℕ) (w : Stored n s) (i from : ℕ) (r : Step) (x : Next both a b l n s i from r) where
  pub next_length : length (ahead n s i from) ≡ len_span r.piece + length (ahead n s r.row r.from)
  next_length =
      sym (seen_length both a b l (ahead n s i from)) ∙
      (ap length x.units ∙
      (length-append (units_of r.piece) (seen both a b l (ahead n s r.row r.from)) ∙
      ap₂ (λ (j k : ℕ). j + k) (units_length r.piece) (seen_length both a b l (ahead n s r.row r.from))))

  pub next_less : length (ahead n s r.row r.from) < length (ahead n s i from)
  next_less = omega (arith, next_length, x.some)

  abbrev still : List FugueSpan
  still = seen both a b l (ahead n s r.row r.from)

  pub still_self : expand still ≡ still
  still_self = units_self still (seen_units both a b l (ahead n s r.row r.from) (ahead_units n s w r.row r.from))

-- ---- the visible units

pub record Sum (both : Bool) (a b : Version) (l : List Held) (n : ℕ) (s : List ℕ) (i from sum : ℕ) : Type 0 where
  pub place : Place n s i from
  pub is : sum + shown (seen both a b l (ahead n s i from)) ≡ shown (seen both a b l (expand (rows n s)))
  pub few : sum + length (ahead n s i from) ≤ 65536

module _ (both : Bool) (a b : Version) (l : List Held) (n : ℕ) (s : List ℕ) (w : Stored n s) where
  pub sum_start : Sum both a b l n s 0 0 0
  sum_start =
      record {
        place = place_start n s w;
        is = (let e : (k : ℕ) → 0 + k ≡ k = λ k. omega arith in e (shown (seen both a b l (ahead n s 0 0)))) ∙ ap (λ (r : List FugueSpan). shown (seen both a b l r)) (ahead_start n s);
        few = (let e = ap length (ahead_start n s) in omega (arith, e, (formed n s w).units));
      }

  module _ (i from sum : ℕ) (v : Sum both a b l n s i from sum) where
    module _ (r : Step) (x : Next both a b l n s i from r) where
      on : shown (seen both a b l (ahead n s i from)) ≡ active_len r.piece + shown (seen both a b l (ahead n s r.row r.from))
      on =
          let e = still_self both a b l n s w i from r x in
          let R = seen both a b l (ahead n s r.row r.from) in
          ap shown x.units ∙
          (ap (λ (u : List FugueSpan). shown (units_of r.piece ++ u)) (sym e) ∙
          (shown_row r.piece R ∙ ap (λ (u : List FugueSpan). active_len r.piece + shown u) e))

      pub sum_turn : Sum both a b l n s r.row r.from (sum + active_len r.piece)
      sum_turn =
          record {
            place = x.place;
            is = (let e : sum + active_len r.piece + shown (seen both a b l (ahead n s r.row r.from)) ≡ sum + shown (seen both a b l (ahead n s i from)) = omega (arith, on) in e) ∙ v.is;
            few = (let e = next_length both a b l n s w i from r x in omega (arith, e, v.few, active_most r.piece));
          }

    pub sum_done : n ≤ i → sum ≡ shown (seen both a b l (expand (rows n s)))
    unfolding seen shown
    sum_done h =
        let e : shown (seen both a b l (ahead n s i from)) ≡ 0 = ap (λ (r : List FugueSpan). shown (seen both a b l r)) (ahead_end n s i from h) in
        omega (arith, e, v.is)
