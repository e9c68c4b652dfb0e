-- The walk of target ranges along the rows: a step of it, and the loop.
use Prim.Native.Nat.{ℕ, zero, suc, ◌+◌, ◌-◌, ◌*◌, ◌<◌, ◌≤◌}
use mathlib.Core.Path.{◌≡◌, refl, sym, ap, ap₂, subst, ◌∙◌}
use mathlib.Core.Bool.{Bool, true, false, cond}
use mathlib.Core.List.{List, [], ◌∷◌, ◌++◌, append_assoc}
use native.Mathlib.Omega.{arith}
use native.Mathlib.Nat.{zero-add}
use native.Mathlib.Numerals.{add-one}
use lib.Dec.{eqb}
use lib.ListN.{length, drop, drop_of_length-le}
use lib.Seq.{drop-drop}
use Rattle.span.specs.declared.ids.Id.{Id}
use Rattle.std.specs.Prelude.{Some as At}
use Rattle.span.specs.declared.span.FugueSpan.{FugueSpan}
use Rattle.span.specs.Ids.{inc_id, same_id, same_opt, room_of}
use Rattle.span.specs.Span.{len_span, span_code, shift}
use Rattle.span.specs.Units.{tab, unit_at, units_of, expand}
use Rattle.span.proofs.IdsLaws.{inc_inc}
use Rattle.span.proofs.ListLaws.{tab_from, tab-add}
use Rattle.span.proofs.SpanLaws.{span_ok}
use Rattle.span.proofs.Same.{same_id_refl}
use Rattle.store.specs.Row.{rows, row_at}
use Rattle.rope.specs.Maybe.{Offset}
use Rattle.std.specs.Prelude.{Some, None}
use Rattle.rope.specs.Spans.{offset_of}
use Rattle.units.specs.Lists.{some}
use Rattle.rope.proofs.Lists.{or-false, or_both}
use Rattle.rope.proofs.Offsets.{inc_ne, tab_not, unit_off}
use Rattle.rope.proofs.Rights.{row_drop, row_none}
use Rattle.history.specs.Edit.{Range}
use Rattle.history.specs.Valid.{total}
use Rattle.tracker.specs.Rows.{range_in, ranges}
use Rattle.tracker.specs.Follow.{ids_in, ids_of, in_order, ids_past, units_past, runs_into, well_ranges, Walks}
use Rattle.tracker.proofs.TargetsLaws.{memb, memb_units, Well, well_cons}
use Rattle.tracker.proofs.Logs.{length-ranges}

-- ---------------------------------------------------------------- ids in order

order_skip : (A : List Id) (t : Id) (ts is : List Id) → memb t A ≡ false → in_order (t ∷ ts) (A ++ is) ≡ in_order (t ∷ ts) is
unfolding in_order some
order_skip [] t ts is e = refl
order_skip (a ∷ A) t ts is e =
    let w = or-false (same_id t a) (some (same_id t) A) e in
    ap (λ (b : Bool). cond b (in_order ts (A ++ is)) (in_order (t ∷ ts) (A ++ is))) w.0 ∙ order_skip A t ts is w.1

order_same : (A ts is : List Id) → in_order (A ++ ts) (A ++ is) ≡ in_order ts is
unfolding in_order
order_same [] ts is = refl
order_same (a ∷ A) ts is = ap (λ (b : Bool). cond b (in_order (A ++ ts) (A ++ is)) (in_order (a ∷ (A ++ ts)) (A ++ is))) (same_id_refl a) ∙ order_same A ts is

-- ---------------------------------------------------------------- runs of ids

-- a run, parted
tab_part : (f : ℕ → Id) (i m n : ℕ) (l : List Id) → m ≤ n → tab f i n ++ l ≡ tab f i m ++ (tab f (i + m) (n - m) ++ l)
tab_part f i m n l h =
    let e : n ≡ m + (n - m) = omega arith in
    ap (λ (z : ℕ). tab f i z ++ l) e ∙ (ap (λ (z : List Id). z ++ l) (tab-add f i m (n - m)) ∙ append_assoc (tab f i m) (tab f (i + m) (n - m)) l)

-- a run of none
tab_none : (f : ℕ → Id) (i n : ℕ) (l : List Id) → n ≡ 0 → tab f i n ++ l ≡ l
unfolding tab
tab_none f i n l e = ap (λ (z : ℕ). tab f i z ++ l) e

tab_head : (f : ℕ → Id) (i n : ℕ) (l : List Id) → 0 < n → tab f i n ++ l ≡ f i ∷ (tab f (suc i) (n - 1) ++ l)
unfolding tab
tab_head f i zero l h = absurd (omega arith)
tab_head f i (suc n) l h = let e : n ≡ suc n - 1 = omega arith in ap (λ (z : ℕ). f i ∷ (tab f (suc i) z ++ l)) e

-- the ids of a span's units
pub ids_tab : (s : FugueSpan) (k n : ℕ) → ids_of (tab (unit_at s) k n) ≡ tab (inc_id s.id) k n
unfolding ids_of tab shift
ids_tab s k zero = refl
ids_tab s k (suc n) = ap (λ (l : List Id). inc_id s.id k ∷ l) (ids_tab s (suc k) n)

ids_append : (A B : List FugueSpan) → ids_of (A ++ B) ≡ ids_of A ++ ids_of B
unfolding ids_of
ids_append [] B = refl
ids_append (u ∷ A) B = ap (λ (l : List Id). u.id ∷ l) (ids_append A B)

ids_span : (s : FugueSpan) (l : List FugueSpan) → ids_of (expand (s ∷ l)) ≡ tab (inc_id s.id) 0 (len_span s) ++ ids_of (expand l)
unfolding expand units_of
ids_span s l = ids_append (tab (unit_at s) 0 (len_span s)) (expand l) ∙ ap (λ (z : List Id). z ++ ids_of (expand l)) (ids_tab s 0 (len_span s))

less_twice : (n a b : ℕ) → n - a - b ≡ n - (a + b)
less_twice n a b = omega arith

less_room : (n a b : ℕ) → a + b ≤ n → b ≤ n - a
less_room n a b h = omega arith

less_less : (n k d : ℕ) → d < n → d - k ≤ n - k
less_less n k d h = omega arith

less_lt : (a b : ℕ) → a < b → a ≤ b
less_lt a b h = omega arith

less_back : (n k d : ℕ) → k ≤ d → n - k - (d - k) ≡ n - d
less_back n k d h = omega arith

-- an id at another place of a span is none of a run
tab_out : (i : Id) (m : ℕ) → room_of i m ≡ true → (d k n : ℕ) → ((j : ℕ) → k ≤ j → j < k + n → d ≡ j → ⊥) → memb (inc_id i d) (tab (inc_id i) k n) ≡ false
unfolding tab some same_opt
tab_out i m r d k zero f = refl
tab_out i m r d k (suc n) f = or_both (same_id (inc_id i d) (inc_id i k)) (some (same_id (inc_id i d)) (tab (inc_id i) (suc k) n)) (inc_ne i m d k r (f k (omega arith) (omega arith))) (tab_out i m r d (suc k) n (λ j a b. f j (omega arith) (omega arith)))

-- ---------------------------------------------------------------- a step

module _ (s : FugueSpan) (ok : span_code s ≡ 0) (r : Range) (k o : ℕ) (hk : k ≤ len_span s) (ho : o < r.len) where
  -- the id at o is none of the units from k on
  pass : (T I : List Id) → memb (inc_id r.id o) (tab (inc_id s.id) k (len_span s - k)) ≡ false →
      in_order (tab (inc_id r.id) o (r.len - o) ++ T) (tab (inc_id s.id) k (len_span s - k) ++ I)
      ≡ in_order (tab (inc_id r.id) o (r.len - o) ++ T) (tab (inc_id s.id) (len_span s) (len_span s - len_span s) ++ I)
  pass T I e =
      let h : tab (inc_id r.id) o (r.len - o) ++ T ≡ inc_id r.id o ∷ (tab (inc_id r.id) (suc o) (r.len - o - 1) ++ T) = tab_head (inc_id r.id) o (r.len - o) T (omega arith) in
      ap (λ (z : List Id). in_order z (tab (inc_id s.id) k (len_span s - k) ++ I)) h
      ∙ (order_skip (tab (inc_id s.id) k (len_span s - k)) (inc_id r.id o) (tab (inc_id r.id) (suc o) (r.len - o - 1) ++ T) I e
      ∙ ap₂ in_order (sym h) (sym (tab_none (inc_id s.id) (len_span s) (len_span s - len_span s) I (omega arith))))

  walks_past : memb (inc_id r.id o) (tab (inc_id s.id) k (len_span s - k)) ≡ false → Walks s k r o o (len_span s)
  walks_past e = record { few = omega arith; low = omega arith; ends = λ h. refl; same = λ T I. pass T I e }

  -- it is no unit of the row
  pub walks_none : offset_of s (At (inc_id r.id o)) ≡ None → Walks s k r o o (len_span s)
  walks_none e = walks_past (ap (memb (inc_id r.id o)) (sym (ids_tab s k (len_span s - k))) ∙ (memb_units (inc_id r.id o) (tab (unit_at s) k (len_span s - k)) ∙ tab_not s ok (At (inc_id r.id o)) k (len_span s - k) (omega arith) e))

  -- it is a unit before k
  pub walks_before : (d : ℕ) → inc_id r.id o ≡ inc_id s.id d → d < k → Walks s k r o o (len_span s)
  walks_before d e h = walks_past (ap (λ (z : Id). memb z (tab (inc_id s.id) k (len_span s - k))) e ∙ tab_out s.id (len_span s) (span_ok s ok).own d k (len_span s - k) (λ j a b q. omega arith))

  -- it is unit d, and m units from there on are found
  module _ (d : ℕ) (e : inc_id r.id o ≡ inc_id s.id d) (hd : k ≤ d) (ld : d < len_span s) (m : ℕ) (a : o + m ≤ r.len) (b : d + m ≤ len_span s) where
    run : tab (inc_id r.id) o m ≡ tab (inc_id s.id) d m
    run = tab_from (inc_id r.id) (inc_id s.id) o d m (λ j. sym (inc_inc r.id o j) ∙ (ap (λ (z : Id). inc_id z j) e ∙ inc_inc s.id d j))

    take : (T I : List Id) →
        in_order (tab (inc_id r.id) o (r.len - o) ++ T) (tab (inc_id s.id) k (len_span s - k) ++ I)
        ≡ in_order (tab (inc_id r.id) (o + m) (r.len - (o + m)) ++ T) (tab (inc_id s.id) (d + m) (len_span s - (d + m)) ++ I)
    take T I =
        let ho1 : o + 1 ≤ r.len = omega arith in
        let h : tab (inc_id r.id) o (r.len - o) ++ T ≡ inc_id r.id o ∷ (tab (inc_id r.id) (suc o) (r.len - o - 1) ++ T) = tab_head (inc_id r.id) o (r.len - o) T (less_room r.len o 1 ho1) in
        let at : k + (d - k) ≡ d = omega arith in
        let left : len_span s - k - (d - k) ≡ len_span s - d = less_back (len_span s) k d hd in
        let A : r.len - o - m ≡ r.len - (o + m) = less_twice r.len o m in
        let B : len_span s - d - m ≡ len_span s - (d + m) = less_twice (len_span s) d m in
        ap₂ in_order h (tab_part (inc_id s.id) k (d - k) (len_span s - k) I (less_less (len_span s) k d ld))
        ∙ (order_skip (tab (inc_id s.id) k (d - k)) (inc_id r.id o) (tab (inc_id r.id) (suc o) (r.len - o - 1) ++ T) (tab (inc_id s.id) (k + (d - k)) (len_span s - k - (d - k)) ++ I)
        (ap (λ (z : Id). memb z (tab (inc_id s.id) k (d - k))) e ∙ tab_out s.id (len_span s) (span_ok s ok).own d k (d - k) (λ j x y q. omega arith))
        ∙ (ap₂ in_order (sym h ∙ tab_part (inc_id r.id) o m (r.len - o) T (less_room r.len o m a)) (ap₂ (λ (x y : ℕ). tab (inc_id s.id) x y ++ I) at left ∙ (tab_part (inc_id s.id) d m (len_span s - d) I (less_room (len_span s) d m b) ∙ ap (λ (z : List Id). z ++ (tab (inc_id s.id) (d + m) (len_span s - d - m) ++ I)) (sym run)))
        ∙ (order_same (tab (inc_id r.id) o m) (tab (inc_id r.id) (o + m) (r.len - o - m) ++ T) (tab (inc_id s.id) (d + m) (len_span s - d - m) ++ I)
        ∙ ap₂ (λ (x y : ℕ). in_order (tab (inc_id r.id) (o + m) x ++ T) (tab (inc_id s.id) (d + m) y ++ I)) A B)))

  -- the range ends in the row
  pub walks_range : (d : ℕ) → inc_id r.id o ≡ inc_id s.id d → k ≤ d → d < len_span s → r.len - o ≤ len_span s - d → Walks s k r o r.len (d + (r.len - o))
  walks_range d e hd ld h =
      let q : o + (r.len - o) ≡ r.len = omega arith in
      record {
        few = omega arith;
        low = omega arith;
        ends = λ z. absurd (omega arith);
        same = λ T I. take d e hd ld (r.len - o) (omega arith) (omega arith) T I ∙ ap (λ (x : ℕ). in_order (tab (inc_id r.id) x (r.len - x) ++ T) (tab (inc_id s.id) (d + (r.len - o)) (len_span s - (d + (r.len - o))) ++ I)) q;
      }

  -- the row ends in the range
  pub walks_row : (d : ℕ) → inc_id r.id o ≡ inc_id s.id d → k ≤ d → d < len_span s → len_span s - d ≤ r.len - o → Walks s k r o (o + (len_span s - d)) (len_span s)
  walks_row d e hd ld h =
      let q : d + (len_span s - d) ≡ len_span s = omega arith in
      record {
        few = omega arith;
        low = omega arith;
        ends = λ z. refl;
        same = λ T I. take d e hd ld (len_span s - d) (omega arith) (omega arith) T I ∙ ap (λ (x : ℕ). in_order (tab (inc_id r.id) (o + (len_span s - d)) (r.len - (o + (len_span s - d))) ++ T) (tab (inc_id s.id) x (len_span s - x) ++ I)) q;
      }

-- the same, as the code has it: the id x, the row's length n, the offset f
module _ (s : FugueSpan) (ok : span_code s ≡ 0) (r : Range) (k o : ℕ) (hk : k ≤ len_span s) (ho : o < r.len) (x : Id) (n : ℕ) (f : Offset) (ex : x ≡ inc_id r.id o) (en : n ≡ len_span s) (ef : f ≡ offset_of s (At x)) where
  off : offset_of s (At (inc_id r.id o)) ≡ f
  off = ap (λ (i : Id). offset_of s (At i)) (sym ex) ∙ sym ef

  pub walked_none : f ≡ None → Walks s k r o o n
  walked_none e = subst (Walks s k r o o) (sym en) (walks_none s ok r k o hk ho (off ∙ e))

  module _ (d : ℕ) (e : f ≡ Some d) where
    here : inc_id r.id o ≡ inc_id s.id d
    here = let w = (unit_off s ok (At (inc_id r.id o)) d (off ∙ e)).1 in cc

    pub walked_low : d < n
    walked_low = subst (λ (z : ℕ). d < z) (sym en) (unit_off s ok (At (inc_id r.id o)) d (off ∙ e)).0

    pub walked_before : d < k → Walks s k r o o n
    walked_before h = subst (Walks s k r o o) (sym en) (walks_before s ok r k o hk ho d here h)

    pub walked_range : k ≤ d → r.len - o ≤ n - d → Walks s k r o r.len (d + (r.len - o))
    walked_range h l = walks_range s ok r k o hk ho d here h (unit_off s ok (At (inc_id r.id o)) d (off ∙ e)).0 (subst (λ (z : ℕ). r.len - o ≤ z - d) en l)

    pub walked_row : k ≤ d → n - d < r.len - o → Walks s k r o (o + (n - d)) n
    walked_row h l = subst (λ (z : ℕ). Walks s k r o (o + (z - d)) z) (sym en) (walks_row s ok r k o hk ho d here h (unit_off s ok (At (inc_id r.id o)) d (off ∙ e)).0 (less_lt (len_span s - d) (r.len - o) (subst (λ (z : ℕ). z - d < r.len - o) en l)))

-- ---------------------------------------------------------------- the loop

-- the ranges from j on
pub range_drop : (m : ℕ) (t : List ℕ) (j : ℕ) → j < m → drop j (ranges m t) ≡ range_in (drop (j * 16) t) ∷ drop (j + 1) (ranges m t)
unfolding ranges
range_drop zero t j h = absurd (omega arith)
range_drop (suc m) t zero h = refl
range_drop (suc m) t (suc j) h =
    range_drop m (drop 16 t) j (omega arith)
    ∙ ap₂ (λ (a : List ℕ) (l : List Range). range_in a ∷ l) (drop-drop (j * 16) 16 t ∙ ap (λ (n : ℕ). drop n t) (next j)) (rest (ranges m (drop 16 t)))
  where
    next : (j : ℕ) → 16 + j * 16 ≡ suc j * 16
    next j = omega arith

    rest : (l : List Range) → drop (j + 1) l ≡ drop (suc j + 1) (range_in t ∷ l)
    rest l = ap (λ (n : ℕ). drop n l) (add-one j) ∙ sym (ap (λ (n : ℕ). drop n (range_in t ∷ l)) (add-one (suc j)))

range_none : (m : ℕ) (t : List ℕ) (j : ℕ) → m ≤ j → drop j (ranges m t) ≡ []
range_none m t j h = drop_of_length-le (ranges m t) {i = j} (rw (length-ranges m t) h)

-- well formed ranges, one by one
well_drop : (j : ℕ) (l : List Range) → well_ranges l ≡ true → well_ranges (drop j l) ≡ true
unfolding well_ranges
well_drop zero l e = e
well_drop (suc j) [] e = e
well_drop (suc j) (r ∷ l) e = well_drop j l (well_cons r l e).rest

pub well_at : (m : ℕ) (t : List ℕ) (j : ℕ) → j < m → well_ranges (ranges m t) ≡ true → Well (range_in (drop (j * 16) t)) (drop (j + 1) (ranges m t))
well_at m t j h e = well_cons (range_in (drop (j * 16) t)) (drop (j + 1) (ranges m t)) (ap well_ranges (sym (range_drop m t j h)) ∙ well_drop j (ranges m t) e)

past_none : (l : List Range) → ids_past l 0 ≡ ids_in l
unfolding ids_past ids_in
past_none [] = refl
past_none (r ∷ l) = let e : r.len - 0 ≡ r.len = omega arith in ap (λ (n : ℕ). tab (inc_id r.id) 0 n ++ ids_in l) e

units_none : (l : List FugueSpan) → units_past l 0 ≡ ids_of (expand l)
unfolding units_past
units_none [] = (unfold ids_of expand in refl)
units_none (s ∷ l) = let e : len_span s - 0 ≡ len_span s = omega arith in ap (λ (n : ℕ). tab (inc_id s.id) 0 n ++ ids_of (expand l)) e ∙ sym (ids_span s l)

-- past the end of the first
past_range : (y : Range) (p : ℕ) → y.len ≤ p → (l : List Range) → ids_past (y ∷ l) p ≡ ids_past l 0
past_range y p e l = first ∙ sym (past_none l)
  where
    first : ids_past (y ∷ l) p ≡ ids_in l
    first = (unfold ids_past in tab_none (inc_id y.id) p (y.len - p) (ids_in l) (omega arith))

past_row : (y : FugueSpan) (p : ℕ) → p ≡ len_span y → (l : List FugueSpan) → units_past (y ∷ l) p ≡ units_past l 0
past_row y p e l = first ∙ sym (units_none l)
  where
    first : units_past (y ∷ l) p ≡ ids_of (expand l)
    first = (unfold units_past in tab_none (inc_id y.id) p (len_span y - p) (ids_of (expand l)) (omega arith))

pub record Going (n : ℕ) (s : List ℕ) (m : ℕ) (t : List ℕ) (i k j o : ℕ) : Type 0 where
  pub rows_low : i ≤ n
  pub ranges_low : j ≤ m
  pub row_in : i < n → k ≤ len_span (row_at s (i * 72))
  pub range_in_lem : j < m → o < (range_in (drop (j * 16) t)).len
  pub same : in_order (ids_in (ranges m t)) (ids_of (expand (rows n s))) ≡ in_order (ids_past (drop j (ranges m t)) o) (units_past (drop i (rows n s)) k)

module _ (n : ℕ) (s : List ℕ) (m : ℕ) (t : List ℕ) (w : well_ranges (ranges m t) ≡ true) where
  pub going_start : Going n s m t 0 0 0 0
  going_start =
      record {
        rows_low = omega arith;
        ranges_low = omega arith;
        row_in = λ h. omega arith;
        range_in_lem = λ h. (well_at m t 0 h w).some;
        same = ap₂ in_order (sym (past_none (ranges m t))) (sym (units_none (rows n s)));
      }

  module _ (i k j o : ℕ) (g : Going n s m t i k j o) where
    -- all ranges are found
    pub going_done : m ≤ j → in_order (ids_in (ranges m t)) (ids_of (expand (rows n s))) ≡ true
    unfolding ids_past in_order
    going_done h = g.same ∙ ap (λ (l : List Range). in_order (ids_past l o) (units_past (drop i (rows n s)) k)) (range_none m t j h)

    -- the rows are at their end before the ranges
    pub going_stop : j < m → n ≤ i → in_order (ids_in (ranges m t)) (ids_of (expand (rows n s))) ≡ false
    unfolding ids_past units_past in_order
    going_stop h l =
        let r : Range = range_in (drop (j * 16) t) in
        let q : o < (range_in (drop (j * 16) t)).len = g.range_in_lem h in
        g.same ∙ (ap₂ (λ (a : List Range) (b : List FugueSpan). in_order (ids_past a o) (units_past b k)) (range_drop m t j h) (row_none n s i l)
        ∙ ap (λ (a : List Id). in_order a []) (tab_head (inc_id (range_in (drop (j * 16) t)).id) o ((range_in (drop (j * 16) t)).len - o) (ids_in (drop (j + 1) (ranges m t))) (omega arith)))

    module _ (hj : j < m) (hi : i < n) (found passed : ℕ) (x : Walks (row_at s (i * 72)) k (range_in (drop (j * 16) t)) o found passed) where
      step : in_order (ids_in (ranges m t)) (ids_of (expand (rows n s))) ≡ in_order (ids_past (range_in (drop (j * 16) t) ∷ drop (j + 1) (ranges m t)) found) (units_past (row_at s (i * 72) ∷ drop (i + 1) (rows n s)) passed)
      unfolding ids_past units_past
      step = g.same ∙ (ap₂ (λ (a : List Range) (b : List FugueSpan). in_order (ids_past a o) (units_past b k)) (range_drop m t j hj) (row_drop n s i hi) ∙ x.same (ids_in (drop (j + 1) (ranges m t))) (ids_of (expand (drop (i + 1) (rows n s)))))

      -- the row is at its end
      going_row : found < (range_in (drop (j * 16) t)).len → Going n s m t (i + 1) 0 j found
      going_row h =
          record {
            rows_low = omega arith;
            ranges_low = omega arith;
            row_in = λ z. omega arith;
            range_in_lem = λ z. h;
            same = step ∙ ap₂ in_order (ap (λ (l : List Range). ids_past l found) (sym (range_drop m t j hj))) (past_row (row_at s (i * 72)) passed (x.ends h) (drop (i + 1) (rows n s)));
          }

      -- the range is
      going_range : (range_in (drop (j * 16) t)).len ≤ found → Going n s m t i passed (j + 1) 0
      going_range h =
          record {
            rows_low = omega arith;
            ranges_low = omega arith;
            row_in = λ z. x.low;
            range_in_lem = λ z. (well_at m t (j + 1) z w).some;
            same = step ∙ ap₂ in_order (past_range (range_in (drop (j * 16) t)) found h (drop (j + 1) (ranges m t))) (ap (λ (l : List FugueSpan). units_past l passed) (sym (row_drop n s i hi)));
          }

    -- the same, of the row y and the range q that the code has read
    module _ (hj : j < m) (hi : i < n) (y : FugueSpan) (ey : y ≡ row_at s (i * 72)) (q : Range) (eq : q ≡ range_in (drop (j * 16) t)) (found passed : ℕ) (x : Walks y k q o found passed) where
      moved : Walks (row_at s (i * 72)) k (range_in (drop (j * 16) t)) o found passed
      moved = subst (λ (z : FugueSpan). Walks z k (range_in (drop (j * 16) t)) o found passed) ey (subst (λ (z : Range). Walks y k z o found passed) eq x)

      pub turn_row : found < q.len → Going n s m t (i + 1) 0 j found
      turn_row h = going_row hj hi found passed moved (subst (λ (z : Range). found < z.len) eq h)

      pub turn_range : q.len ≤ found → Going n s m t i passed (j + 1) 0
      turn_range h = going_range hj hi found passed moved (subst (λ (z : Range). z.len ≤ found) eq h)

-- ---------------------------------------------------------------- the other loops over ranges

module _ (m : ℕ) (t : List ℕ) (j : ℕ) where
  pub well_turn : j < m → (q : Range) → q ≡ range_in (drop (j * 16) t) → (a b c : Bool) → eqb q.len 0 ≡ a → room_of q.id q.len ≡ b → runs_into q (drop (j + 1) (ranges m t)) ≡ c
      → well_ranges (drop j (ranges m t)) ≡ cond a false (cond b (cond c false (well_ranges (drop (j + 1) (ranges m t)))) false)
  unfolding well_ranges
  well_turn h q e a b c x y z = ap well_ranges (range_drop m t j h) ∙ (ap (λ (w : Range). well_ranges (w ∷ drop (j + 1) (ranges m t))) (sym e) ∙ rw (x, y, z))

  pub well_done : m ≤ j → well_ranges (drop j (ranges m t)) ≡ true
  unfolding well_ranges
  well_done h = ap well_ranges (range_none m t j h)

  pub next_range : j + 1 < m → (r : Range) → same_id (inc_id r.id r.len) (range_in (drop ((j + 1) * 16) t)).id ≡ runs_into r (drop (j + 1) (ranges m t))
  unfolding runs_into
  next_range h r = sym (ap (runs_into r) (range_drop m t (j + 1) h))

  pub no_range : m ≤ j + 1 → (r : Range) → false ≡ runs_into r (drop (j + 1) (ranges m t))
  unfolding runs_into
  no_range h r = sym (ap (runs_into r) (range_none m t (j + 1) h))

-- so far summed
pub record Summed (m : ℕ) (t : List ℕ) (j sum : ℕ) : Type 0 where
  pub low : j ≤ m
  pub small : sum ≤ j * 4294967295
  pub is : total (ranges m t) ≡ sum + total (drop j (ranges m t))

pub sum_start : (m : ℕ) (t : List ℕ) → Summed m t 0 0
sum_start m t = record { low = omega arith; small = omega arith; is = sym (zero-add (total (ranges m t))) }

module _ (m : ℕ) (t : List ℕ) (j sum : ℕ) (v : Summed m t j sum) where
  pub sum_turn : j < m → (k : ℕ) → k ≡ (range_in (drop (j * 16) t)).len → k < 4294967296 → Summed m t (j + 1) (sum + k)
  unfolding total
  sum_turn h k e f =
      let q : total (drop j (ranges m t)) ≡ (range_in (drop (j * 16) t)).len + total (drop (j + 1) (ranges m t)) = ap total (range_drop m t j h) in
      record { low = omega arith; small = omega (arith, v.small, f); is = omega (arith, v.is, q, e) }

  pub sum_done : m ≤ j → sum ≡ total (ranges m t)
  unfolding total
  sum_done h = let e : total (drop j (ranges m t)) ≡ 0 = ap total (range_none m t j h) in omega (arith, v.is, e)
