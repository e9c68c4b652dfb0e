-- an insert fits: what the code asks is what the number of rows after it says
use Prim.Native.Nat.{ℕ, zero, suc, ◌+◌, ◌-◌, ◌*◌, ◌<◌, ◌≤◌}
use mathlib.Core.Path.{◌≡◌, refl, sym, ap, ap₂, subst, ◌∙◌}
use mathlib.Core.Bool.{Bool, true, false, not, ◌&&◌, cond, true≢false}
use mathlib.Core.List.{List, [], ◌∷◌, ◌++◌, append_assoc, append_cancel_right}
use native.Mathlib.Omega.{arith}
use lib.Dec.{ltb, leb, eqb}
use lib.ListN.{length, take, drop, take-append-drop}
use lib.Seq.{take-append-le}
use borrow.Author.Tests.{ltb-true, ltb-false, le-leb, lt-leb, leb-true, leb-false, eqb-true, eqb-false, eq-eqb, ne_eqb}
use Rattle.span.specs.declared.ids.Id.{Id}
use Rattle.span.specs.Maybe.{OptId}
use Rattle.std.specs.Prelude.{None as Nothing, Some as At}
use Rattle.span.specs.declared.span.FugueSpan.{FugueSpan}
use Rattle.span.specs.Ids.{inc_id}
use Rattle.span.specs.Span.{len_span, span_code, joins_span}
use Rattle.span.specs.Units.{tab, unit_at, units_of, expand, join}
use Rattle.span.proofs.IdsLaws.{inc_inc}
use Rattle.span.proofs.UnitLaws.{unit_id, part_length}
use Rattle.span.proofs.Unique.{in_range_lem}
use Rattle.span.proofs.ForRope.{units_length, expand-append}
use Rattle.store.specs.Row.{rows, row_at}
use Rattle.store.proofs.Laws.{length-rows}
use Rattle.units.specs.Change.{with_state}
use Rattle.units.specs.Place.{mem_id, front, behind, last_id, first_past, verdict, pr_pos, scan_place, with_origins, origin_left, origin_right, insert_units, Distinct}
use Rattle.rope.specs.Spans.{Stored, AllOk}
use Rattle.rope.specs.Spans as Spans
use Rattle.rope.proofs.Lists.{or_left, or_right, mem_append, distinct_right}
use Rattle.rope.proofs.Offsets.{tab_has}
use Rattle.rope.proofs.Edges.{no_join_left}
use Rattle.rope.proofs.Rights.{row_drop}
use Rattle.rope.proofs.Whole.{ok_drop}
use Rattle.rope.proofs.WellFormed.{formed_of}
use Rattle.rope.proofs.Keeps.{UnitsOk, units_ok}
use Rattle.rope.proofs.Alikes.{Alike, alike_ok}
use Rattle.history.specs.Edit.{Version, Held}
use Rattle.history.specs.Version.{in_version}
use Rattle.history.specs.Checkout.{status_at}
use Rattle.history.specs.Checkout as C
use Rattle.tracker.specs.declared.fits.Left.{Left}
use Rattle.tracker.specs.Looks.{unit_seen, seen}
use Rattle.tracker.specs.Ahead.{ahead}
use Rattle.tracker.specs.Fits.{meets, meet, first_in, stays_at, placed, joins_at, list_at, left_unit, behind_of, Sought, edge, joins_left, Enters}
use Rattle.tracker.proofs.Nexts.{seen-append, seen_units, ahead_end, row_fine}
use Rattle.tracker.proofs.Adds.{front-behind, meet_last, last_snoc, at_most, apart, fine_y, new_y, one_most, two_more, none_more, some_more, start_more, joins_last}
use Rattle.tracker.proofs.Insides.{cut_last, cut_all, in_piece}
use Rattle.tracker.proofs.Scans.{mem_map, past_rows, place_rows}

-- the opposite of a test, by its two answers
pub by_not : (b x : Bool) → (b ≡ true → false ≡ x) → (b ≡ false → true ≡ x) → not b ≡ x
by_not true x f g = f refl
by_not false x f g = g refl

pub held_of : (n : ℕ) (s : List ℕ) → Stored n s → (u : ℕ) → u ≡ length (expand (rows n s)) → Spans.Held n u s
held_of n s w u e =
    let f = formed_of (rows n s) w.formed in
    record { long = w.long; each = f.each; count = e; few = omega (arith, e, f.units) }

pub few_of : (n : ℕ) (s : List ℕ) → Stored n s → n ≤ 65536
few_of n s w = let f = formed_of (rows n s) w.formed in omega (arith, f.few, length-rows n s)

less : (i j : ℕ) → i ≤ j → (i ≡ j → ⊥) → i < j
less zero zero h e = absurd (e refl)
less zero (suc j) h e = omega arith
less (suc i) zero h e = absurd (omega arith)
less (suc i) (suc j) h e = let r = less i j (omega arith) (λ z. e (ap suc z)) in omega (arith, r)

ahead_row : (n : ℕ) (s : List ℕ) (i : ℕ) → ahead n s i 0 ≡ expand (drop i (rows n s))
unfolding ahead
ahead_row n s i = refl

-- ---- the tests of the code

module _ (v : Version) (R : List FugueSpan) (at : ℕ) (u x : FugueSpan) (o : OptId) (e : o ≡ first_in v (drop at R)) where
  pub joins_yes : joins_span u (with_origins x (At u.id) o) ≡ true
      → stays_at v (verdict (expand R) (At u.id) o (pr_pos (expand R) (At u.id) o) x.id.peer) [] false (drop at R) ≡ joins_at v R at u x
  unfolding joins_at
  joins_yes j =
      ap₂ (λ (r : OptId) (b : Bool). b && stays_at v (verdict (expand R) (At u.id) r (pr_pos (expand R) (At u.id) r) x.id.peer) [] false (drop at R)) e
      (sym (ap (λ (r : OptId). joins_span u (with_origins x (At u.id) r)) (sym e) ∙ j))

  pub joins_no : joins_span u (with_origins x (At u.id) o) ≡ false → false ≡ joins_at v R at u x
  unfolding joins_at
  joins_no j =
      ap (λ (b : Bool). b && stays_at v (verdict (expand R) (At u.id) (first_in v (drop at R)) (pr_pos (expand R) (At u.id) (first_in v (drop at R))) x.id.peer) [] false (drop at R))
      (sym (ap (λ (r : OptId). joins_span u (with_origins x (At u.id) r)) (sym e) ∙ j))

module _ (n : ℕ) (f : Left) where
  pub edge_start : f.from ≡ 0 → true ≡ edge n f
  edge_start e = ap (λ (b : Bool). cond b true (leb n f.row)) (sym (eq-eqb f.from 0 e))

  pub edge_end : (f.from ≡ 0 → ⊥) → leb n f.row ≡ edge n f
  edge_end e = ap (λ (b : Bool). cond b true (leb n f.row)) (sym (ne_eqb f.from 0 e))

module _ (v : Version) (n : ℕ) (s : List ℕ) (f : Left) (x : FugueSpan) where
  pub left_yes : f.skip ≡ len_span f.piece → edge n f ≡ true → joins_at v (rows n s) f.row (left_unit f) x ≡ joins_left v n s f x
  unfolding joins_left
  left_yes a b = ap₂ (λ (p q : Bool). p && (q && joins_at v (rows n s) f.row (left_unit f) x)) (sym (eq-eqb f.skip (len_span f.piece) a)) (sym b)

  pub left_inner : f.skip ≡ len_span f.piece → edge n f ≡ false → false ≡ joins_left v n s f x
  unfolding joins_left
  left_inner a b = ap₂ (λ (p q : Bool). p && (q && joins_at v (rows n s) f.row (left_unit f) x)) (sym (eq-eqb f.skip (len_span f.piece) a)) (sym b)

  pub left_cut : (f.skip ≡ len_span f.piece → ⊥) → false ≡ joins_left v n s f x
  unfolding joins_left
  left_cut a = ap (λ (p : Bool). p && (edge n f && joins_at v (rows n s) f.row (left_unit f) x)) (sym (ne_eqb f.skip (len_span f.piece) a))

-- ---- the list at a version

module _ (v : Version) (l : List Held) where
  abbrev m : FugueSpan → FugueSpan
  m = unit_seen false v v l

  keep_id : (u : FugueSpan) → (m u).id ≡ u.id
  unfolding unit_seen C.unit_at with_state
  keep_id u = refl

  keep_left : (u : FugueSpan) → (m u).origin_left ≡ u.origin_left
  unfolding unit_seen C.unit_at with_state
  keep_left u = refl

  keep_right : (u : FugueSpan) → (m u).origin_right ≡ u.origin_right
  unfolding unit_seen C.unit_at with_state
  keep_right u = refl

  keep_future : (u : FugueSpan) → (m u).status.future ≡ not (in_version v u.id)
  unfolding unit_seen C.unit_at with_state status_at
  keep_future u = refl

  keep_length : (u : FugueSpan) → len_span (m u) ≡ len_span u
  unfolding unit_seen C.unit_at with_state
  keep_length u = refl

  seen_alike : (us : List FugueSpan) → Alike us (seen false v v l us)
  unfolding Alike seen
  seen_alike [] = tt
  seen_alike (u ∷ us) = ((sym (keep_id u), (sym (keep_left u), sym (keep_right u))), seen_alike us)

module _ (v : Version) (l : List Held) (n : ℕ) (s : List ℕ) (at : ℕ) (x : FugueSpan) (k most : ℕ) (w : Stored n s) (en : Enters v l n s at x k most) where
  abbrev R : List FugueSpan
  R = rows n s

  abbrev us : List FugueSpan
  us = list_at v l n s

  abbrev more : ℕ
  more = length (join (insert_units at x us))

  each : AllOk R
  each = (formed_of R w.formed).each

  ok : UnitsOk us
  ok = alike_ok (expand R) us (units_ok R w.formed) (seen_alike v l (expand R)) (seen_units false v v l (expand R) (units_ok R w.formed).each)

  pub fit_two : 2 ≤ most - k → true ≡ leb more most
  fit_two h = sym (le-leb more most (omega (arith, at_most at x us ok en.fine en.new, en.count, h, en.room)))

  pub fit_start : at ≡ 0 → ltb 0 (most - k) ≡ leb more most
  fit_start z = go (ltb 0 (most - k)) refl
    where
      e : more ≡ length (join us) + 1
      e = start_more at x us ok en.fine en.new z

      go : (b : Bool) → ltb 0 (most - k) ≡ b → ltb 0 (most - k) ≡ leb more most
      go true q = q ∙ sym (le-leb more most (omega (arith, e, en.count, ltb-true 0 (most - k) q)))
      go false q = q ∙ sym (lt-leb more most (omega (arith, e, en.count, ltb-false 0 (most - k) q)))

  module _ (f : Left) (so : Sought v l n s at f) where
    abbrev F : List FugueSpan
    F = front us at

    abbrev B : List FugueSpan
    B = behind us at

    abbrev o : OptId
    o = origin_right at us

    abbrev y : FugueSpan
    y = with_origins x (origin_left at us) o

    abbrev X : List FugueSpan
    X = so.first ++ tab (unit_at f.piece) 0 (f.skip - 1)

    last : F ≡ X ++ (left_unit f ∷ [])
    last =
        so.before ∙
        (ap (λ (r : List FugueSpan). so.first ++ r) (cut_last f.piece f.skip so.cut.some so.cut.most) ∙
        sym (append_assoc so.first (tab (unit_at f.piece) 0 (f.skip - 1)) (left_unit f ∷ [])))

    meet_is : meet F B ≡ meets (left_unit f) (behind_of v l n s f)
    meet_is = ap₂ meet last so.after ∙ meet_last X (left_unit f) (behind_of v l n s f)

    pub fit_in : meets (left_unit f) (behind_of v l n s f) ≡ true → most - k < 2 → false ≡ leb more most
    fit_in e h = sym (lt-leb more most (omega (arith, two_more at x us ok en.fine en.new (meet_is ∙ e) en.low, en.count, h)))

    pub fit_out : meets (left_unit f) (behind_of v l n s f) ≡ false → 0 < most - k → true ≡ leb more most
    fit_out e h = sym (le-leb more most (omega (arith, one_most at x us ok en.fine en.new (meet_is ∙ e), en.count, h)))

    tight : most - k ≤ 0 → length (join us) + 1 ≤ more → false ≡ leb more most
    tight h e = sym (lt-leb more most (omega (arith, e, en.count, h)))

    full : more ≡ length (join us) → true ≡ leb more most
    full e = sym (le-leb more most (omega (arith, e, en.count, en.room)))

    -- the cursor is at the end of its piece
    module _ (whole : len_span f.piece ≤ f.skip) where
      rest : B ≡ seen false v v l (ahead n s f.row f.from)
      rest = so.after ∙ ap (λ (r : List FugueSpan). r ++ seen false v v l (ahead n s f.row f.from)) (cut_all f.piece f.skip whole)

      -- and inside a row: the next id is there
      module _ (low : f.row < n) (some : 0 < f.from) where
        abbrev row : FugueSpan
        row = row_at s (f.row * 72)

        abbrev D : List FugueSpan
        D = expand (drop f.row R)

        within : f.from < len_span row
        within = so.cut.place.within low

        fine_row : span_code row ≡ 0
        fine_row = row_fine n s w f.row low

        d_units : D ≡ units_of row ++ expand (drop (f.row + 1) R)
        unfolding expand
        d_units = ap expand (row_drop n s f.row low)

        parts : expand R ≡ expand (take f.row R) ++ D
        parts = ap expand (sym (take-append-drop f.row R)) ∙ expand-append (take f.row R) D'
          where
            D' : List FugueSpan
            D' = drop f.row R

        abbrev u : FugueSpan
        u = unit_at row (f.from - 1)

        abbrev G : List FugueSpan
        G = expand (take f.row R) ++ tab (unit_at row) 0 (f.from - 1)

        took : take f.from D ≡ tab (unit_at row) 0 (f.from - 1) ++ (u ∷ [])
        took =
            ap (take f.from) d_units ∙
            (take-append-le f.from (units_of row) (expand (drop (f.row + 1) R)) (let z = units_length row in omega (arith, z, within)) ∙
            cut_last row f.from some (omega (arith, within)))

        all : us ≡ seen false v v l (G ++ (u ∷ [])) ++ seen false v v l (ahead n s f.row f.from)
        unfolding ahead
        all =
            ap (seen false v v l)
            (parts ∙ (ap (λ (r : List FugueSpan). expand (take f.row R) ++ r) (sym (take-append-drop f.from D) ∙ ap (λ (r : List FugueSpan). r ++ drop f.from D) took) ∙
            (sym (append_assoc (expand (take f.row R)) (tab (unit_at row) 0 (f.from - 1) ++ (u ∷ [])) (drop f.from D)) ∙
            ap (λ (r : List FugueSpan). r ++ drop f.from D) (sym (append_assoc (expand (take f.row R)) (tab (unit_at row) 0 (f.from - 1)) (u ∷ [])))))) ∙
            seen-append false v v l (G ++ (u ∷ [])) (drop f.from D)

        front_is : F ≡ seen false v v l G ++ (m v l u ∷ [])
        unfolding seen
        front_is =
            append_cancel_right F (seen false v v l (G ++ (u ∷ []))) (seen false v v l (ahead n s f.row f.from))
            (ap (λ (r : List FugueSpan). F ++ r) (sym rest) ∙ (front-behind us at ∙ all)) ∙
            seen-append false v v l G (u ∷ [])

        has : mem_id (At (inc_id row.id f.from)) us ≡ true
        unfolding seen units_of
        has =
            mem_map (m v l) (keep_id v l) (keep_left v l) (keep_right v l) (At (inc_id row.id f.from)) (expand R) ∙
            (ap (mem_id (At (inc_id row.id f.from))) (parts ∙ ap (λ (r : List FugueSpan). expand (take f.row R) ++ r) d_units) ∙
            (mem_append (At (inc_id row.id f.from)) (expand (take f.row R)) (units_of row ++ expand (drop (f.row + 1) R)) ∙
            or_right (mem_id (At (inc_id row.id f.from)) (expand (take f.row R))) (mem_id (At (inc_id row.id f.from)) (units_of row ++ expand (drop (f.row + 1) R)))
            (mem_append (At (inc_id row.id f.from)) (units_of row) (expand (drop (f.row + 1) R)) ∙
            or_left (mem_id (At (inc_id row.id f.from)) (units_of row)) (mem_id (At (inc_id row.id f.from)) (expand (drop (f.row + 1) R)))
            (ap (λ (j : ℕ). mem_id (At (inc_id row.id j)) (units_of row)) (let z : f.from ≡ 0 + f.from = omega arith in z) ∙ tab_has row fine_row 0 (len_span row) f.from within))))

        next : inc_id (m v l u).id (len_span (m v l u)) ≡ inc_id row.id f.from
        next =
            ap₂ inc_id (keep_id v l u ∙ unit_id row (f.from - 1)) (keep_length v l u ∙ (part_length row (f.from - 1) (suc (f.from - 1)) (in_range_lem row (f.from - 1) (suc (f.from - 1)) fine_row (omega arith) (omega (arith, within, some))) ∙ (let z : suc (f.from - 1) - (f.from - 1) ≡ 1 = omega arith in z))) ∙
            (inc_inc row.id (f.from - 1) 1 ∙ ap (inc_id row.id) (let z : f.from - 1 + 1 ≡ f.from = omega (arith, some) in z))

        inner : length (join us) + 1 ≤ more
        inner =
            some_more at x us ok en.fine en.new en.low
            (λ z. joins_last at x us ok en.fine en.new (seen false v v l G) (m v l u) front_is ∙
            no_join_left (m v l u) y us (fine_y at x us ok en.fine en.new) (new_y at x us ok en.fine en.new) (ap (λ (i : Id). mem_id (At i) us) next ∙ has))

      -- and before a row
      module _ (bh : B ≡ seen false v v l (expand (drop f.row R))) where
        abbrev L : List FugueSpan
        L = drop f.row R

        left_is : origin_left at us ≡ At (left_unit f).id
        unfolding origin_left
        left_is = ap (last_id Nothing) last ∙ last_snoc Nothing X (left_unit f)

        right_is : o ≡ first_in v L
        unfolding origin_right seen
        right_is = ap first_past bh ∙ past_rows v (m v l) (keep_id v l) (keep_left v l) (keep_right v l) (keep_future v l) L (ok_drop f.row R each)

        joins_is : meet F (units_of y ++ B) ≡ joins_span (left_unit f) (placed v R f.row (left_unit f) x)
        joins_is = joins_last at x us ok en.fine en.new X (left_unit f) last ∙ ap₂ (λ (a b : OptId). joins_span (left_unit f) (with_origins x a b)) left_is right_is

        abbrev scans : Bool
        scans = stays_at v (verdict (expand R) (At (left_unit f).id) (first_in v L) (pr_pos (expand R) (At (left_unit f).id) (first_in v L)) x.id.peer) [] false L

        behind_left : mem_id (At (left_unit f).id) (expand L) ≡ false
        unfolding seen
        behind_left =
            sym (mem_map (m v l) (keep_id v l) (keep_left v l) (keep_right v l) (At (left_unit f).id) (expand L)) ∙
            (ap₂ mem_id (sym left_is) (sym bh) ∙ apart at x us ok en.fine en.new)

        behind_distinct : Distinct (seen false v v l (expand L))
        behind_distinct = subst Distinct bh (distinct_right F B (subst Distinct (sym (front-behind us at)) ok.distinct))

        place_is : eqb (scan_place us B (origin_left at us) o x.id.peer) 0 ≡ scans
        unfolding seen
        place_is =
            ap (λ (r : List FugueSpan). eqb (scan_place us r (origin_left at us) o x.id.peer) 0) bh ∙
            (ap₂ (λ (a b : OptId). eqb (scan_place us (seen false v v l (expand L)) a b x.id.peer) 0) left_is right_is ∙
            place_rows v (m v l) (keep_id v l) (keep_left v l) (keep_right v l) (keep_future v l) (expand R) L (At (left_unit f).id) (first_in v L) x.id.peer (ok_drop f.row R each) behind_left behind_distinct
            (past_rows v (m v l) (keep_id v l) (keep_left v l) (keep_right v l) (keep_future v l) L (ok_drop f.row R each)))

        border : most - k ≤ 0 → joins_at v R f.row (left_unit f) x ≡ leb more most
        unfolding joins_at
        border h = go (joins_span (left_unit f) (placed v R f.row (left_unit f) x)) refl scans refl
          where
            go : (j : Bool) → joins_span (left_unit f) (placed v R f.row (left_unit f) x) ≡ j → (t : Bool) → scans ≡ t → (j && t) ≡ leb more most
            go true p true q = full (none_more at x us ok en.fine en.new (eqb-true (scan_place us B (origin_left at us) o x.id.peer) 0 (place_is ∙ q)) (joins_is ∙ p))
            go true p false q =
                tight h (some_more at x us ok en.fine en.new en.low (λ z. absurd (true≢false (sym (eq-eqb (scan_place us B (origin_left at us) o x.id.peer) 0 z) ∙ (place_is ∙ q)))))
            go false p t q = tight h (some_more at x us ok en.fine en.new en.low (λ z. joins_is ∙ p))

      -- behind all rows there is nothing
      edge_behind : edge n f ≡ true → B ≡ seen false v v l (expand (drop f.row R))
      edge_behind e = go (eqb f.from 0) refl e
        where
          go : (t : Bool) → eqb f.from 0 ≡ t → cond t true (leb n f.row) ≡ true → B ≡ seen false v v l (expand (drop f.row R))
          go true p q = rest ∙ ap (λ (j : ℕ). seen false v v l (ahead n s f.row j)) (eqb-true f.from 0 p) ∙ ap (seen false v v l) (ahead_row n s f.row)
          go false p q =
              let z : n ≤ f.row = leb-true n f.row q in
              rest ∙ ap (seen false v v l) (ahead_end n s f.row f.from z ∙ sym (ahead_end n s f.row 0 z) ∙ ahead_row n s f.row)

      inner_of : edge n f ≡ false → (f.row < n) × (0 < f.from)
      inner_of e = go (eqb f.from 0) refl e
        where
          go : (t : Bool) → eqb f.from 0 ≡ t → cond t true (leb n f.row) ≡ false → (f.row < n) × (0 < f.from)
          go true p q = absurd (true≢false q)
          go false p q = (leb-false n f.row q, pos_of f.from (eqb-false f.from 0 p))
            where
              pos_of : (i : ℕ) → (i ≡ 0 → ⊥) → 0 < i
              pos_of zero z = absurd (z refl)
              pos_of (suc i) z = omega arith

    pub fit_join : most - k ≤ 0 → joins_left v n s f x ≡ leb more most
    unfolding joins_left
    fit_join h = go (eqb f.skip (len_span f.piece)) refl (edge n f) refl
      where
        go : (a : Bool) → eqb f.skip (len_span f.piece) ≡ a → (b : Bool) → edge n f ≡ b → (a && (b && joins_at v R f.row (left_unit f) x)) ≡ leb more most
        go false p b q =
            let c : meets (left_unit f) (behind_of v l n s f) ≡ true = in_piece v l n s f so.cut (less f.skip (len_span f.piece) so.cut.most (eqb-false f.skip (len_span f.piece) p)) in
            tight h (omega (arith, two_more at x us ok en.fine en.new (meet_is ∙ c) en.low))
        go true p false q =
            let z : len_span f.piece ≤ f.skip = omega (arith, eqb-true f.skip (len_span f.piece) p) in
            let i = inner_of z q in
            tight h (inner z i.0 i.1)
        go true p true q =
            let z : len_span f.piece ≤ f.skip = omega (arith, eqb-true f.skip (len_span f.piece) p) in
            border z (edge_behind z q) h
