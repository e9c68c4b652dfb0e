-- an update, span by span, is the update on units; and it cuts at most twice
use Prim.Native.Nat.{ℕ, zero, suc, ◌+◌, ◌-◌, ◌*◌, ◌<◌, ◌≤◌, min}
use mathlib.Core.Path.{◌≡◌, refl, sym, ap, ap₂, subst, ◌∙◌}
use mathlib.Core.Bool.{Bool, true, false, not, ◌&&◌, ◌||◌, cond, true≢false, false≢true}
use mathlib.Core.List.{List, [], ◌∷◌, ◌++◌, map, map-append, append-nil}
use mathlib.Core.Logic.{◌⊎◌, inl, inr}
use native.Mathlib.Omega.{arith}
use native.Mathlib.Nat.{add-zero, zero-add}
use lib.Dec.{ltb, leb, eqb}
use lib.IntN.{ℤ, pos, ◌+ℤ◌}
use lib.Signed.{le_z, lt_z}
use lib.ListN.{length, drop, length-append, drop_of_length-le}
use Rattle.rope.proofs.Rights.{row_drop, row_none}
use borrow.Author.Tests.{lt-ltb, le-ltb, le-leb, lt-leb, eqb-true}
use Rattle.span.specs.Maybe.{OptId}
use Rattle.std.specs.Prelude.{Some as At}
use Rattle.span.specs.declared.span.FugueSpan.{FugueSpan}
use Rattle.span.specs.Ids.{id, inc_id}
use Rattle.span.proofs.IdsLaws.{Room, roomy}
use Rattle.span.specs.Status.{in_i16}
use Rattle.span.specs.Span.{len_span, span_code, shift, left_of, part_span}
use Rattle.span.proofs.SpanLaws.{span_ok}
use Rattle.span.specs.Units.{tab, unit_at, units_of, expand, join}
use Rattle.span.proofs.ListLaws.{tab-add}
use Rattle.span.proofs.ForRope.{expand-append}
use Rattle.store.specs.Listed.{spans}
use Rattle.store.specs.Row.{rows, row_at}
use Rattle.store.proofs.Laws.{length-rows}
use Rattle.units.specs.declared.change.SetFuture.{SetFuture}
use Rattle.rope.specs.declared.change.Update.{Update}
use Rattle.rope.specs.declared.change.Change.TheVariants as Ch
use Rattle.rope.specs.declared.change.Part.{Part}
use Rattle.units.specs.Place.{mem_id, Distinct}
use Rattle.rope.specs.Spans.{AllOk}
use Rattle.units.specs.Lists.{every}
use Rattle.units.specs.Change.{with_state, base_of, update_unit, in_range, update_units}
use Rattle.units.specs.Codes.{counts_fit}
use Rattle.rope.specs.Pieces.{part, part_at, part_from, update_cut, CanCut, CanChange, cut_of, after_of, change_span, part_of, changed_of, pieces_of, all_pieces}
use Rattle.rope.specs.Applies.{Fit, AllFit, Applies, Updates}
use Rattle.rope.proofs.Lists.{mem_append, or-false, and-true, distinct_right, distinct_apart}
use Rattle.rope.proofs.Offsets.{covers_units}
use Rattle.rope.proofs.Apart.{covered_unit}
use Rattle.rope.proofs.Inserts.{part_units}
use Rattle.rope.proofs.Cuts.{cut_by, update_most}
use Rattle.rope.proofs.Queue.{lt-or, changed_some, changed_none}
use Rattle.rope.proofs.Deletes.{part_expand, pieces_size, once, none}

-- ---- an updated piece, unit by unit

module _ (f : SetFuture) (k : ℤ) where
  left_same : (diff : Bool) (s : FugueSpan) (i : ℕ) → left_of (update_unit f k diff s) i ≡ left_of s i
  unfolding left_of update_unit with_state
  left_same true s zero = refl
  left_same true s (suc i) = refl
  left_same false s zero = refl
  left_same false s (suc i) = refl

  unit_updated : (diff : Bool) (s : FugueSpan) (i : ℕ) → unit_at (update_unit f k diff s) i ≡ update_unit f k diff (unit_at s i)
  unfolding update_unit with_state shift base_of
  unit_updated true s i =
      λ t. record {
        id = inc_id s.id i;
        lamport = s.lamport + i;
        real_id = (unit_at s i).real_id;
        status = s.status;
        diff_status = (update_unit f k true s).diff_status;
        origin_left = left_same true s i t;
        origin_right = s.origin_right;
        content = (unit_at s i).content;
      }
  unit_updated false s i =
      λ t. record {
        id = inc_id s.id i;
        lamport = s.lamport + i;
        real_id = (unit_at s i).real_id;
        status = (update_unit f k false s).status;
        diff_status = s.diff_status;
        origin_left = left_same false s i t;
        origin_right = s.origin_right;
        content = (unit_at s i).content;
      }

  pub len_updated : (diff : Bool) (s : FugueSpan) → len_span (update_unit f k diff s) ≡ len_span s
  unfolding update_unit with_state
  len_updated true s = refl
  len_updated false s = refl

  tab_updated : (diff : Bool) (s : FugueSpan) (j n : ℕ) → tab (unit_at (update_unit f k diff s)) j n ≡ map (update_unit f k diff) (tab (unit_at s) j n)
  unfolding tab
  tab_updated diff s j zero = refl
  tab_updated diff s j (suc n) = ap₂ (λ (u : FugueSpan) (l : List FugueSpan). u ∷ l) (unit_updated diff s j) (tab_updated diff s (suc j) n)

  updated_units : (diff : Bool) (s : FugueSpan) (a b : ℕ) → span_code s ≡ 0 → a < b → b ≤ len_span s → units_of (update_unit f k diff (part_span s a b)) ≡ map (update_unit f k diff) (tab (unit_at s) a (b - a))
  unfolding units_of
  updated_units diff s a b ok h m =
      ap (tab (unit_at (update_unit f k diff (part_span s a b))) 0) (len_updated diff (part_span s a b)) ∙
      (tab_updated diff (part_span s a b) 0 (len_span (part_span s a b)) ∙ ap (map (update_unit f k diff)) (part_units s a b ok h m))

-- ---- a run of units, each in the range or none

same_run : (F G : FugueSpan → FugueSpan) (s : FugueSpan) (j n : ℕ) → ((i : ℕ) → j ≤ i → i < j + n → F (unit_at s i) ≡ G (unit_at s i)) → map F (tab (unit_at s) j n) ≡ map G (tab (unit_at s) j n)
unfolding tab
same_run F G s j zero h = refl
same_run F G s j (suc n) h =
    ap₂ (λ (u : FugueSpan) (l : List FugueSpan). u ∷ l) (h j (omega arith) (omega arith)) (same_run F G s (suc j) n (λ i p q. h i (omega arith) (omega arith)))

map_same : (l : List FugueSpan) → map (λ (u : FugueSpan). u) l ≡ l
map_same [] = refl
map_same (u ∷ l) = ap (λ (m : List FugueSpan). u ∷ m) (map_same l)

-- the counter of a well formed span
module _ (u : Update) (s : FugueSpan) (ok : span_code s ≡ 0) where
  abbrev L : ℕ
  L = len_span s

  counter : Room s.id.counter L
  counter = roomy s.id.counter L (span_ok s ok).own

  c : ℕ
  c = counter.at

  in_by : (t : Bool) → eqb s.id.peer u.peer ≡ t → (i : ℕ) → in_range u.peer (pos u.from) (pos u.to) (unit_at s i) ≡ (t && (leb u.from (c + i) && ltb (c + i) u.to))
  unfolding in_range shift inc_id c
  in_by t e i = ap₂ (λ (b : Bool) (z : ℤ). b && (le_z (pos u.from) (z +ℤ pos i) && lt_z (z +ℤ pos i) (pos u.to))) e counter.is

  -- the cut, for the peer and for others
  cut_own : eqb s.id.peer u.peer ≡ true → update_cut u s ≡ part (min (u.from - c) L) (min (u.to - c) L)
  unfolding part_at c
  cut_own e = sym (cut_by u s true e) ∙ ap (λ (z : ℤ). part_from u z L) counter.is

  cut_other : eqb s.id.peer u.peer ≡ false → update_cut u s ≡ part 0 0
  cut_other e = sym (cut_by u s false e)

  abbrev h : FugueSpan → FugueSpan
  h = update_unit u.set u.change u.diff

  abbrev g : FugueSpan → FugueSpan
  g = λ (v : FugueSpan). cond (in_range u.peer (pos u.from) (pos u.to) v) (update_unit u.set u.change u.diff v) v

  in_run : (i : ℕ) → in_range u.peer (pos u.from) (pos u.to) (unit_at s i) ≡ true → g (unit_at s i) ≡ h (unit_at s i)
  in_run i e = ap (λ (b : Bool). cond b (h (unit_at s i)) (unit_at s i)) e

  out_run : (i : ℕ) → in_range u.peer (pos u.from) (pos u.to) (unit_at s i) ≡ false → g (unit_at s i) ≡ unit_at s i
  out_run i e = ap (λ (b : Bool). cond b (h (unit_at s i)) (unit_at s i)) e

  outs : (j n : ℕ) → ((i : ℕ) → j ≤ i → i < j + n → in_range u.peer (pos u.from) (pos u.to) (unit_at s i) ≡ false) → map g (tab (unit_at s) j n) ≡ tab (unit_at s) j n
  outs j n f = same_run g (λ (v : FugueSpan). v) s j n (λ i p q. out_run i (f i p q)) ∙ map_same (tab (unit_at s) j n)

  -- what changes, in units
  update_expand : (a b : ℕ) → b ≤ L → expand (changed_of (Ch.Update u) s a b) ≡ map h (tab (unit_at s) a (b - a))
  unfolding expand change_span tab
  update_expand a b m = go (lt-or a b)
    where
      go : (a < b) ⊎ (b ≤ a) → expand (changed_of (Ch.Update u) s a b) ≡ map h (tab (unit_at s) a (b - a))
      go (inl k) = ap expand (changed_some s a b (Ch.Update u) k) ∙ (append-nil (units_of (h (part_span s a b))) ∙ updated_units u.set u.change u.diff s a b ok k m)
      go (inr k) = ap expand (changed_none s a b (Ch.Update u) k) ∙ ap (λ (n : ℕ). map h (tab (unit_at s) a n)) (let z : 0 ≡ b - a = omega arith in z)

  cut_expand : (a b : ℕ) → a ≤ L → b ≤ L → update_cut u s ≡ part a b → expand (pieces_of (Ch.Update u) s) ≡ tab (unit_at s) 0 a ++ (map h (tab (unit_at s) a (b - a)) ++ tab (unit_at s) b (L - b))
  unfolding pieces_of cut_of
  cut_expand a b k m e =
      ap (λ (p : Part). expand (part_of s 0 p.from ++ (changed_of (Ch.Update u) s p.from p.to ++ part_of s p.to L))) e ∙
      (expand-append (part_of s 0 a) (changed_of (Ch.Update u) s a b ++ part_of s b L) ∙
      ap₂ (λ (x y : List FugueSpan). x ++ y) (part_expand s ok 0 a k ∙ ap (tab (unit_at s) 0) (let q : a - 0 ≡ a = omega arith in q))
      (expand-append (changed_of (Ch.Update u) s a b) (part_of s b L) ∙
      ap₂ (λ (x y : List FugueSpan). x ++ y) (update_expand a b m) (part_expand s ok b L (omega arith))))

  -- its units in three
  pub three : (a b : ℕ) → a ≤ b → b ≤ L → units_of s ≡ tab (unit_at s) 0 a ++ (tab (unit_at s) a (b - a) ++ tab (unit_at s) b (L - b))
  unfolding units_of
  three a b k m =
      ap (tab (unit_at s) 0) (let q : L ≡ a + (b - a + (L - b)) = omega arith in q) ∙
      (tab-add (unit_at s) 0 a (b - a + (L - b)) ∙
      ap (λ (x : List FugueSpan). tab (unit_at s) 0 a ++ x)
      (ap (λ (n : ℕ). tab (unit_at s) n (b - a + (L - b))) (zero-add a) ∙
      (tab-add (unit_at s) a (b - a) (L - b) ∙ ap (λ (n : ℕ). tab (unit_at s) a (b - a) ++ tab (unit_at s) n (L - b)) (let q : a + (b - a) ≡ b = omega arith in q))))

  range_law : (a b : ℕ) → a ≤ b → b ≤ L → update_cut u s ≡ part a b →
      ((i : ℕ) → 0 ≤ i → i < 0 + a → in_range u.peer (pos u.from) (pos u.to) (unit_at s i) ≡ false) →
      ((i : ℕ) → a ≤ i → i < a + (b - a) → in_range u.peer (pos u.from) (pos u.to) (unit_at s i) ≡ true) →
      ((i : ℕ) → b ≤ i → i < b + (L - b) → in_range u.peer (pos u.from) (pos u.to) (unit_at s i) ≡ false) →
      expand (pieces_of (Ch.Update u) s) ≡ map g (units_of s)
  range_law a b k m e before within behind =
      cut_expand a b (omega arith) m e ∙
      sym (ap (map g) (three a b k m) ∙
      (map-append g (tab (unit_at s) 0 a) (tab (unit_at s) a (b - a) ++ tab (unit_at s) b (L - b)) ∙
      ap₂ (λ (x y : List FugueSpan). x ++ y) (outs 0 a before)
      (map-append g (tab (unit_at s) a (b - a)) (tab (unit_at s) b (L - b)) ∙
      ap₂ (λ (x y : List FugueSpan). x ++ y) (same_run g h s a (b - a) (λ i p q. in_run i (within i p q))) (outs b (L - b) behind))))

  false_by : (i : ℕ) (t x y : Bool) → eqb s.id.peer u.peer ≡ t → leb u.from (c + i) ≡ x → ltb (c + i) u.to ≡ y → in_range u.peer (pos u.from) (pos u.to) (unit_at s i) ≡ (t && (x && y))
  false_by i t x y e p q = in_by t e i ∙ ap₂ (λ (v w : Bool). t && (v && w)) p q

  and-false : (x : Bool) → (x && false) ≡ false
  and-false true = refl
  and-false false = refl

  -- where the units of the range stand in a span: from a up to b
  pub record Run (a b : ℕ) : Type 0 where
    pub low : a ≤ b
    pub most : b ≤ L
    pub cut : update_cut u s ≡ part a b
    pub before : (i : ℕ) → 0 ≤ i → i < 0 + a → in_range u.peer (pos u.from) (pos u.to) (unit_at s i) ≡ false
    pub within : (i : ℕ) → a ≤ i → i < a + (b - a) → in_range u.peer (pos u.from) (pos u.to) (unit_at s i) ≡ true
    pub behind : (i : ℕ) → b ≤ i → i < b + (L - b) → in_range u.peer (pos u.from) (pos u.to) (unit_at s i) ≡ false

  run_other : eqb s.id.peer u.peer ≡ false → Run 0 0
  run_other e =
      record {
        low = omega arith;
        most = omega arith;
        cut = cut_other e;
        before = λ i p q. in_by false e i;
        within = λ i p q. absurd (omega arith);
        behind = λ i p q. in_by false e i;
      }

  run_own : u.from ≤ u.to → eqb s.id.peer u.peer ≡ true → Run (min (u.from - c) L) (min (u.to - c) L)
  run_own order e =
      record {
        low = omega arith;
        most = omega arith;
        cut = cut_own e;
        before = λ i p q. false_by i true false (ltb (c + i) u.to) e (lt-leb u.from (c + i) (omega arith)) refl;
        within = λ i p q. false_by i true true true e (le-leb u.from (c + i) (omega arith)) (lt-ltb (c + i) u.to (omega arith));
        behind = λ i p q. false_by i true (leb u.from (c + i)) false e refl (le-ltb (c + i) u.to (omega arith)) ∙ and-false (leb u.from (c + i));
      }

  pub run_of : u.from ≤ u.to → Run (update_cut u s).from (update_cut u s).to
  run_of order = go (eqb s.id.peer u.peer) refl
    where
      go : (t : Bool) → eqb s.id.peer u.peer ≡ t → Run (update_cut u s).from (update_cut u s).to
      go false e = subst (λ (p : Part). Run p.from p.to) (sym (cut_other e)) (run_other e)
      go true e = subst (λ (p : Part). Run p.from p.to) (sym (cut_own e)) (run_own order e)

  pub span_law : u.from ≤ u.to → expand (pieces_of (Ch.Update u) s) ≡ map g (units_of s)
  span_law order =
      let r = run_of order in
      range_law (update_cut u s).from (update_cut u s).to r.low r.most r.cut r.before r.within r.behind

  -- ---- the counts

  pub in_cut : (update_cut u s).from < (update_cut u s).to → in_range u.peer (pos u.from) (pos u.to) (unit_at s (update_cut u s).from) ≡ true
  in_cut k = go (eqb s.id.peer u.peer) refl
    where
      go : (t : Bool) → eqb s.id.peer u.peer ≡ t → in_range u.peer (pos u.from) (pos u.to) (unit_at s (update_cut u s).from) ≡ true
      go false e = let z = subst (λ (p : Part). p.from < p.to) (cut_other e) k in absurd (omega arith)
      go true e =
          let z = subst (λ (p : Part). p.from < p.to) (cut_own e) k in
          subst (λ (p : Part). in_range u.peer (pos u.from) (pos u.to) (unit_at s p.from) ≡ true) (sym (cut_own e))
          (false_by (min (u.from - c) L) true true true e (le-leb u.from (c + min (u.from - c) L) (omega arith)) (lt-ltb (c + min (u.from - c) L) u.to (omega arith)))

  -- no unit is in the range where the cut is empty
  pub out_cut : u.from ≤ u.to → (update_cut u s).to ≤ (update_cut u s).from → (i : ℕ) → i < L → in_range u.peer (pos u.from) (pos u.to) (unit_at s i) ≡ false
  out_cut order k i h = go (eqb s.id.peer u.peer) refl
    where
      go : (t : Bool) → eqb s.id.peer u.peer ≡ t → in_range u.peer (pos u.from) (pos u.to) (unit_at s i) ≡ false
      go false e = in_by false e i
      go true e = side (subst (λ (p : Part). p.to ≤ p.from) (cut_own e) k) (lt-or (c + i) u.from)
        where
          side : min (u.to - c) L ≤ min (u.from - c) L → (c + i < u.from) ⊎ (u.from ≤ c + i) → in_range u.peer (pos u.from) (pos u.to) (unit_at s i) ≡ false
          side z (inl m) = false_by i true false (ltb (c + i) u.to) e (lt-leb u.from (c + i) m) refl
          side z (inr m) = false_by i true (leb u.from (c + i)) false e refl (le-ltb (c + i) u.to (omega arith)) ∙ and-false (leb u.from (c + i))

  -- ---- the cuts

  -- the unit at an inner cut has the id of the cut
  inner_id : (x y : ℕ) → eqb s.id.peer u.peer ≡ true → y ≡ min (x - c) L → 0 < y → y < L → mem_id (At (id u.peer (pos x))) (units_of s) ≡ true
  unfolding inc_id c
  inner_id x y e is p q =
      subst (λ (o : OptId). mem_id o (units_of s) ≡ true) (ap At same) (covers_units s ok (At (inc_id s.id y)) ∙ covered_unit s ok y q)
    where
      sums : counter.at + y ≡ x
      sums = omega (arith, is, p, q)

      same : inc_id s.id y ≡ id u.peer (pos x)
      same = ap₂ id (eqb-true s.id.peer u.peer e) (ap (λ (z : ℤ). z +ℤ pos y) counter.is ∙ ap pos sums)

  from-id : 0 < (update_cut u s).from → (update_cut u s).from < L → mem_id (At (id u.peer (pos u.from))) (units_of s) ≡ true
  from-id p q = go (eqb s.id.peer u.peer) refl
    where
      go : (t : Bool) → eqb s.id.peer u.peer ≡ t → mem_id (At (id u.peer (pos u.from))) (units_of s) ≡ true
      go false e = let z = subst (λ (r : Part). 0 < r.from) (cut_other e) p in absurd (omega arith)
      go true e = inner_id u.from (update_cut u s).from e (ap (λ (r : Part). r.from) (cut_own e)) p q

  to-id : 0 < (update_cut u s).to → (update_cut u s).to < L → mem_id (At (id u.peer (pos u.to))) (units_of s) ≡ true
  to-id p q = go (eqb s.id.peer u.peer) refl
    where
      go : (t : Bool) → eqb s.id.peer u.peer ≡ t → mem_id (At (id u.peer (pos u.to))) (units_of s) ≡ true
      go false e = let z = subst (λ (r : Part). 0 < r.to) (cut_other e) p in absurd (omega arith)
      go true e = inner_id u.to (update_cut u s).to e (ap (λ (r : Part). r.to) (cut_own e)) p q

  cut_order : u.from ≤ u.to → (update_cut u s).from ≤ (update_cut u s).to
  cut_order order = go (eqb s.id.peer u.peer) refl
    where
      go : (t : Bool) → eqb s.id.peer u.peer ≡ t → (update_cut u s).from ≤ (update_cut u s).to
      go false e = subst (λ (r : Part). r.from ≤ r.to) (sym (cut_other e)) (omega arith)
      go true e = subst (λ (r : Part). r.from ≤ r.to) (sym (cut_own e)) (omega arith)

-- an update on a list of spans is the update on their units
pub update_law : (u : Update) (l : List FugueSpan) → AllOk l → u.from ≤ u.to → expand (all_pieces (Ch.Update u) l) ≡ update_units u.peer (pos u.from) (pos u.to) u.set u.change u.diff (expand l)
unfolding all_pieces AllOk expand after_of update_units
update_law u [] ok order = refl
update_law u (s ∷ l) ok order =
    expand-append (pieces_of (Ch.Update u) s) (all_pieces (Ch.Update u) l) ∙
    (ap₂ (λ (x y : List FugueSpan). x ++ y) (span_law u s ok.0 order) (update_law u l ok.1 order) ∙
    sym (map-append (g u s ok.0) (units_of s) (expand l)))

-- ---- an update can be made

every-append : (t : FugueSpan → Bool) (a b : List FugueSpan) → every t (a ++ b) ≡ true → (every t a ≡ true) × (every t b ≡ true)
unfolding every
every-append t [] b e = (refl, e)
every-append t (x ∷ a) b e =
    let p = and-true (t x) (every t (a ++ b)) e in
    let q = every-append t a b p.1 in
    (ap₂ (λ (y z : Bool). y && z) p.0 q.0, q.1)

every-tab : (t : FugueSpan → Bool) (f : ℕ → FugueSpan) (j n : ℕ) → every t (tab f j n) ≡ true → (i : ℕ) → i < n → t (f (j + i)) ≡ true
unfolding every tab
every-tab t f j zero e i h = absurd (omega arith)
every-tab t f j (suc n) e zero h = ap (λ (k : ℕ). t (f k)) (add-zero j) ∙ (and-true (t (f j)) (every t (tab f (suc j) n)) e).0
every-tab t f j (suc n) e (suc i) h =
    ap (λ (k : ℕ). t (f k)) (let q : j + suc i ≡ suc j + i = omega arith in q) ∙
    every-tab t f (suc j) n (and-true (t (f j)) (every t (tab f (suc j) n)) e).1 i (omega arith)

or-not : (a b : Bool) → (not a || b) ≡ true → a ≡ true → b ≡ true
or-not true b e f = e
or-not false b e f = absurd (false≢true f)

fit_update : (u : Update) (s : FugueSpan) → span_code s ≡ 0 → counts_fit u.peer (pos u.from) (pos u.to) u.change u.diff (units_of s) ≡ true → Fit (Ch.Update u) s
unfolding CanCut CanChange cut_of counts_fit units_of base_of shift
fit_update u s ok e =
    record {
      can = tt;
      fine = ok;
      able = λ h. or-not (in_range u.peer (pos u.from) (pos u.to) (unit_at s (update_cut u s).from)) _
          (ap (λ (k : ℕ). test (unit_at s k)) (sym (zero-add (update_cut u s).from)) ∙ every-tab test (unit_at s) 0 (len_span s) e (update_cut u s).from (omega (arith, h, most.1)))
          (in_cut u s ok h);
    }
  where
    test : FugueSpan → Bool
    test = λ (v : FugueSpan). not (in_range u.peer (pos u.from) (pos u.to) v) || in_i16 ((base_of u.diff v).delete_times +ℤ u.change)

    most : ((update_cut u s).from ≤ len_span s) × ((update_cut u s).to ≤ len_span s)
    most = update_most u s

pub update_fits : (u : Update) (l : List FugueSpan) → AllOk l → counts_fit u.peer (pos u.from) (pos u.to) u.change u.diff (expand l) ≡ true → AllFit (Ch.Update u) l
unfolding AllFit AllOk after_of expand counts_fit
update_fits u [] ok e = tt
update_fits u (s ∷ l) ok e =
    let p = every-append (λ (v : FugueSpan). not (in_range u.peer (pos u.from) (pos u.to) v) || in_i16 ((base_of u.diff v).delete_times +ℤ u.change)) (units_of s) (expand l) e in
    (fit_update u s ok.0 p.0, update_fits u l ok.1 p.1)

-- ---- whether the counts fit, row by row

every_both : (t : FugueSpan → Bool) (a b : List FugueSpan) → every t (a ++ b) ≡ (every t a && every t b)
unfolding every
every_both t [] b = refl
every_both t (x ∷ a) b = ap (λ (z : Bool). t x && z) (every_both t a b) ∙ and_assoc (t x) (every t a) (every t b)
  where
    and_assoc : (x y z : Bool) → (x && (y && z)) ≡ (x && y && z)
    and_assoc true y z = refl
    and_assoc false y z = refl

all_tab : (t : FugueSpan → Bool) (f : ℕ → FugueSpan) (j n : ℕ) → ((i : ℕ) → j ≤ i → i < j + n → t (f i) ≡ true) → every t (tab f j n) ≡ true
unfolding every tab
all_tab t f j zero h = refl
all_tab t f j (suc n) h = ap₂ (λ (a b : Bool). a && b) (h j (omega arith) (omega arith)) (all_tab t f (suc j) n (λ i p q. h i (omega arith) (omega arith)))

-- one that fails
one_tab : (t : FugueSpan → Bool) (f : ℕ → FugueSpan) (n k : ℕ) → k < n → t (f k) ≡ false → every t (tab f 0 n) ≡ false
one_tab t f n k h e = go (every t (tab f 0 n)) refl
  where
    go : (b : Bool) → every t (tab f 0 n) ≡ b → every t (tab f 0 n) ≡ false
    go false q = q
    go true q = absurd (true≢false (sym (ap (λ (m : ℕ). t (f m)) (sym (zero-add k)) ∙ every-tab t f 0 n q k h) ∙ e))

or-true : (a b : Bool) → b ≡ true → (a || b) ≡ true
or-true true b e = refl
or-true false b e = e

module _ (u : Update) (s : FugueSpan) (ok : span_code s ≡ 0) (order : u.from ≤ u.to) where
  abbrev fine : Bool
  fine = in_i16 ((base_of u.diff s).delete_times +ℤ u.change)

  abbrev test : FugueSpan → Bool
  test = λ (v : FugueSpan). not (in_range u.peer (pos u.from) (pos u.to) v) || in_i16 ((base_of u.diff v).delete_times +ℤ u.change)

  same_base : (i : ℕ) → in_i16 ((base_of u.diff (unit_at s i)).delete_times +ℤ u.change) ≡ fine
  unfolding base_of shift
  same_base i = refl

  pub row_empty : (update_cut u s).to ≤ (update_cut u s).from → true ≡ counts_fit u.peer (pos u.from) (pos u.to) u.change u.diff (units_of s)
  unfolding counts_fit units_of
  row_empty k = sym (all_tab test (unit_at s) 0 (len_span s) (λ i p q. ap (λ (b : Bool). not b || in_i16 ((base_of u.diff (unit_at s i)).delete_times +ℤ u.change)) (out_cut u s ok order k i (omega arith))))

  pub row_some : (update_cut u s).from < (update_cut u s).to → fine ≡ counts_fit u.peer (pos u.from) (pos u.to) u.change u.diff (units_of s)
  unfolding counts_fit units_of
  row_some k = go fine refl
    where
      go : (t : Bool) → fine ≡ t → fine ≡ every test (tab (unit_at s) 0 (len_span s))
      go true e = e ∙ sym (all_tab test (unit_at s) 0 (len_span s) (λ i p q. or-true (not (in_range u.peer (pos u.from) (pos u.to) (unit_at s i))) (in_i16 ((base_of u.diff (unit_at s i)).delete_times +ℤ u.change)) (same_base i ∙ e)))
      go false e =
          e ∙ sym (one_tab test (unit_at s) (len_span s) (update_cut u s).from (omega (arith, k, (update_most u s).1))
          (ap₂ (λ (b d : Bool). not b || d) (in_cut u s ok k) (same_base (update_cut u s).from ∙ e)))

pub fits_row : (u : Update) (s : FugueSpan) (l : List FugueSpan) → counts_fit u.peer (pos u.from) (pos u.to) u.change u.diff (expand (s ∷ l)) ≡ (counts_fit u.peer (pos u.from) (pos u.to) u.change u.diff (units_of s) && counts_fit u.peer (pos u.from) (pos u.to) u.change u.diff (expand l))
unfolding counts_fit expand
fits_row u s l = every_both (λ (v : FugueSpan). not (in_range u.peer (pos u.from) (pos u.to) v) || in_i16 ((base_of u.diff v).delete_times +ℤ u.change)) (units_of s) (expand l)

pub fits_first : (u : Update) (s : FugueSpan) (l : List FugueSpan) (t : Bool) → counts_fit u.peer (pos u.from) (pos u.to) u.change u.diff (units_of s) ≡ t → counts_fit u.peer (pos u.from) (pos u.to) u.change u.diff (expand (s ∷ l)) ≡ (t && counts_fit u.peer (pos u.from) (pos u.to) u.change u.diff (expand l))
fits_first u s l t e = fits_row u s l ∙ ap (λ (b : Bool). b && counts_fit u.peer (pos u.from) (pos u.to) u.change u.diff (expand l)) e

none_fit : (u : Update) → counts_fit u.peer (pos u.from) (pos u.to) u.change u.diff (expand []) ≡ true
unfolding counts_fit every expand
none_fit u = refl

pub fits_end : (u : Update) (r : List (List ℕ)) (i : ℕ) → length r ≤ i → counts_fit u.peer (pos u.from) (pos u.to) u.change u.diff (expand (spans (drop i r))) ≡ true
fits_end u r i h = ap (λ (q : List (List ℕ)). counts_fit u.peer (pos u.from) (pos u.to) u.change u.diff (expand (spans q))) (drop_of_length-le r {i = i} h) ∙ none_fit u

module _ (u : Update) (n : ℕ) (s : List ℕ) (i : ℕ) where
  abbrev all : List FugueSpan → Bool
  all l = counts_fit u.peer (pos u.from) (pos u.to) u.change u.diff (expand l)

  pub fits_turn : i < n → (t : Bool) → counts_fit u.peer (pos u.from) (pos u.to) u.change u.diff (units_of (row_at s (i * 72))) ≡ t → all (drop i (rows n s)) ≡ (t && all (drop (i + 1) (rows n s)))
  fits_turn h t e =
      ap all (row_drop n s i h) ∙ (fits_row u (row_at s (i * 72)) (drop (i + 1) (rows n s)) ∙ ap (λ (b : Bool). b && all (drop (i + 1) (rows n s))) e)

  pub fits_done : n ≤ i → all (drop i (rows n s)) ≡ true
  unfolding counts_fit every expand
  fits_done h = ap all (row_none n s i h)

-- ---- it cuts at most twice

-- whether a cut at y is inside n units
inner : ℕ → ℕ → ℕ
inner y n = min 1 (min y (n - y))

inner_yes : (y n : ℕ) → 0 < y → y < n → inner y n ≡ 1
unfolding inner
inner_yes y n p q = omega arith

inner_some : (y n : ℕ) → 0 < inner y n → (0 < y) × (y < n)
unfolding inner
inner_some y n h = (omega arith, omega arith)

inner_one : (y n : ℕ) → inner y n ≤ 1
unfolding inner
inner_one y n = omega arith

three_bits : (f t n : ℕ) → f ≤ t → t ≤ n → min 1 f + (min 1 (t - f) + min 1 (n - t)) ≤ 1 + (inner f n + inner t n)
three_bits f t n h k = go (lt-or 0 f) (lt-or f n) (lt-or 0 t) (lt-or t n)
  where
    add1 : (a b d p q : ℕ) → a ≤ 1 → b ≤ 1 → d ≤ 1 → p ≡ 1 → q ≡ 1 → a + (b + d) ≤ 1 + (p + q)
    add1 a b d p q e1 e2 e3 e4 e5 = omega arith

    add2 : (a b d p q : ℕ) → a ≤ 1 → b ≤ 1 → d ≡ 0 → p ≡ 1 → a + (b + d) ≤ 1 + (p + q)
    add2 a b d p q e1 e2 e3 e4 = omega arith

    add3 : (a b d p q : ℕ) → a ≤ 1 → b ≡ 0 → d ≡ 0 → a + (b + d) ≤ 1 + (p + q)
    add3 a b d p q e1 e2 e3 = omega arith

    add4 : (a b d p q : ℕ) → a ≡ 0 → b ≤ 1 → d ≤ 1 → q ≡ 1 → a + (b + d) ≤ 1 + (p + q)
    add4 a b d p q e1 e2 e3 e4 = omega arith

    add5 : (a b d p q : ℕ) → a ≡ 0 → b ≤ 1 → d ≡ 0 → a + (b + d) ≤ 1 + (p + q)
    add5 a b d p q e1 e2 e3 = omega arith

    add6 : (a b d p q : ℕ) → a ≡ 0 → b ≡ 0 → d ≤ 1 → a + (b + d) ≤ 1 + (p + q)
    add6 a b d p q e1 e2 e3 = omega arith

    go : (0 < f) ⊎ (f ≤ 0) → (f < n) ⊎ (n ≤ f) → (0 < t) ⊎ (t ≤ 0) → (t < n) ⊎ (n ≤ t) → min 1 f + (min 1 (t - f) + min 1 (n - t)) ≤ 1 + (inner f n + inner t n)
    go (inl a) (inl b) x (inl d) = add1 (min 1 f) (min 1 (t - f)) (min 1 (n - t)) (inner f n) (inner t n) (once f) (once (t - f)) (once (n - t)) (inner_yes f n a b) (inner_yes t n (omega arith) d)
    go (inl a) (inl b) x (inr d) = add2 (min 1 f) (min 1 (t - f)) (min 1 (n - t)) (inner f n) (inner t n) (once f) (once (t - f)) (none (n - t) (omega arith)) (inner_yes f n a b)
    go (inl a) (inr b) x y = add3 (min 1 f) (min 1 (t - f)) (min 1 (n - t)) (inner f n) (inner t n) (once f) (none (t - f) (omega arith)) (none (n - t) (omega arith))
    go (inr a) b (inl x) (inl d) = add4 (min 1 f) (min 1 (t - f)) (min 1 (n - t)) (inner f n) (inner t n) (none f (omega arith)) (once (t - f)) (once (n - t)) (inner_yes t n x d)
    go (inr a) b (inl x) (inr d) = add5 (min 1 f) (min 1 (t - f)) (min 1 (n - t)) (inner f n) (inner t n) (none f (omega arith)) (once (t - f)) (none (n - t) (omega arith))
    go (inr a) b (inr x) y = add6 (min 1 f) (min 1 (t - f)) (min 1 (n - t)) (inner f n) (inner t n) (none f (omega arith)) (none (t - f) (omega arith)) (once (n - t))

-- what only one span of a list with distinct ids can have
module _ (B : FugueSpan → ℕ) (o : OptId) (small : (s : FugueSpan) → B s ≤ 1) (has : (s : FugueSpan) → span_code s ≡ 0 → 0 < B s → mem_id o (units_of s) ≡ true) where
  total : List FugueSpan → ℕ
  total [] = 0
  total (s ∷ l) = B s + total l

  absent : (l : List FugueSpan) → AllOk l → mem_id o (expand l) ≡ false → total l ≡ 0
  unfolding total AllOk expand
  absent [] ok e = refl
  absent (s ∷ l) ok e =
      let w = or-false (mem_id o (units_of s)) (mem_id o (expand l)) (sym (mem_append o (units_of s) (expand l)) ∙ e) in
      let z = absent l ok.1 w.1 in
      go (λ k. true≢false (sym (has s ok.0 k) ∙ w.0)) (lt-or 0 (B s)) z
    where
      go : (0 < B s → ⊥) → (0 < B s) ⊎ (B s ≤ 0) → total l ≡ 0 → B s + total l ≡ 0
      go f (inl k) z = absurd (f k)
      go f (inr k) z = omega arith

  at_most : (l : List FugueSpan) → AllOk l → Distinct (expand l) → total l ≤ 1
  unfolding total AllOk expand
  at_most [] ok d = omega arith
  at_most (s ∷ l) ok d = go (λ e. at_most l ok.1 e) (lt-or 0 (B s))
    where
      go : (Distinct (expand l) → total l ≤ 1) → (0 < B s) ⊎ (B s ≤ 0) → B s + total l ≤ 1
      go rec (inl k) = let z = absent l ok.1 (distinct_apart o (units_of s) (expand l) d (has s ok.0 k)) in omega (arith, z, small s)
      go rec (inr k) = let z = rec (distinct_right (units_of s) (expand l) d) in omega (arith, z, k)

module _ (u : Update) (order : u.from ≤ u.to) where
  at_from : FugueSpan → ℕ
  at_from s = inner (update_cut u s).from (len_span s)

  at_to : FugueSpan → ℕ
  at_to s = inner (update_cut u s).to (len_span s)

  has_from : (s : FugueSpan) → span_code s ≡ 0 → 0 < at_from s → mem_id (At (id u.peer (pos u.from))) (units_of s) ≡ true
  unfolding at_from
  has_from s ok h = let w = inner_some (update_cut u s).from (len_span s) h in from-id u s ok w.0 w.1

  has_to : (s : FugueSpan) → span_code s ≡ 0 → 0 < at_to s → mem_id (At (id u.peer (pos u.to))) (units_of s) ≡ true
  unfolding at_to
  has_to s ok h = let w = inner_some (update_cut u s).to (len_span s) h in to-id u s ok w.0 w.1

  small_from : (s : FugueSpan) → at_from s ≤ 1
  unfolding at_from
  small_from s = inner_one (update_cut u s).from (len_span s)

  small_to : (s : FugueSpan) → at_to s ≤ 1
  unfolding at_to
  small_to s = inner_one (update_cut u s).to (len_span s)

  abbrev froms : List FugueSpan → ℕ
  froms = total at_from (At (id u.peer (pos u.from))) small_from has_from

  abbrev tos : List FugueSpan → ℕ
  tos = total at_to (At (id u.peer (pos u.to))) small_to has_to

  span_cuts : (s : FugueSpan) → span_code s ≡ 0 → length (pieces_of (Ch.Update u) s) ≤ 1 + (at_from s + at_to s)
  unfolding cut_of at_from at_to
  span_cuts s ok =
      subst (λ (k : ℕ). k ≤ 1 + (inner (update_cut u s).from (len_span s) + inner (update_cut u s).to (len_span s))) (sym (pieces_size (Ch.Update u) s))
      (three_bits (update_cut u s).from (update_cut u s).to (len_span s) (cut_order u s ok order) (update_most u s).1)

  few_cuts : (l : List FugueSpan) → AllOk l → length (all_pieces (Ch.Update u) l) ≤ length l + (froms l + tos l)
  unfolding AllOk all_pieces after_of total
  few_cuts [] ok = omega arith
  few_cuts (s ∷ l) ok =
      let a = span_cuts s ok.0 in
      let b = few_cuts l ok.1 in
      let e : length (pieces_of (Ch.Update u) s ++ all_pieces (Ch.Update u) l) ≡ length (pieces_of (Ch.Update u) s) + length (all_pieces (Ch.Update u) l) = length-append (pieces_of (Ch.Update u) s) (all_pieces (Ch.Update u) l) in
      omega (arith, a, b, e)

  pub update_cuts : (l : List FugueSpan) → AllOk l → Distinct (expand l) → length (all_pieces (Ch.Update u) l) ≤ length l + 2
  update_cuts l ok d =
      let a = at_most at_from (At (id u.peer (pos u.from))) small_from has_from l ok d in
      let b = at_most at_to (At (id u.peer (pos u.to))) small_to has_to l ok d in
      omega (arith, few_cuts l ok, a, b)

pub updates : (n : ℕ) (u : Update) (s : List ℕ) → Updates n u s → Applies (Ch.Update u) n s
updates n u s w =
    record {
      long = w.long;
      fit = update_fits u (rows n s) w.each w.counts;
      cuts = omega (arith, update_cuts u w.order (rows n s) w.each w.distinct, length-rows n s);
      room = subst (λ (l : List FugueSpan). length (join l) * 72 ≤ length s) (sym (update_law u (rows n s) w.each w.order)) w.room;
    }
