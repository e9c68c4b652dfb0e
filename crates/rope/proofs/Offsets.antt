-- where in a span an id stands: by the values that the code takes, and what it says of the span's units
use Prim.Native.Nat.{ℕ, zero, suc, ◌+◌, ◌-◌, ◌<◌, ◌≤◌}
use mathlib.Core.Path.{◌≡◌, refl, sym, ap, ap₂, ◌∙◌}
use mathlib.Core.Bool.{Bool, true, false, ◌&&◌, ◌||◌, cond}
use native.Mathlib.Omega.{arith}
use native.Mathlib.Nat.{add-zero}
use lib.Dec.{ltb, leb, eqb}
use lib.IntN.{ℤ, pos, negsuc, ◌+ℤ◌}
use borrow.Author.Tests.{eq-eqb, ne_eqb, lt-ltb, le-leb, leb-true, ltb-true, eqb-true}
use Rattle.span.specs.declared.ids.Id.{Id}
use Rattle.span.specs.Maybe.{OptId}
use Rattle.std.specs.Prelude.{None as Nothing, Some as At}
use Rattle.span.specs.declared.span.FugueSpan.{FugueSpan}
use Rattle.std.specs.Prelude.{Some, None}
use Rattle.span.specs.Status.{counter_of, eq_z}
use Rattle.span.specs.Ids.{inc_id, same_id, same_opt, room_of}
use Rattle.span.proofs.IdsLaws.{roomy}
use Rattle.span.proofs.Same.{same_opt-true, same_opt_refl}
use Rattle.span.specs.Span.{len_span, span_code, shift, left_of}
use Rattle.span.proofs.SpanLaws.{span_ok}
use Rattle.span.specs.Units.{tab, unit_at, units_of}
use Rattle.rope.specs.Maybe.{Offset}
use Rattle.units.specs.Place.{mem_id, has_ol, pos_of}
use Rattle.rope.specs.Spans.{gap, offset_of, is_at, covered}

-- ---- by the code's tests

module _ (s : FugueSpan) (o : OptId) (i : Id) (is : o ≡ At i) where
  pub off_peer : s.id.peer ≡ i.peer → gap s.id.counter i.counter (len_span s) ≡ offset_of s o
  unfolding offset_of
  off_peer e = rw (is, eq-eqb s.id.peer i.peer e)

pub gap_by : (y z : ℤ) (a b n : ℕ) → Some a ≡ counter_of y → Some b ≡ counter_of z → cond (leb a b && ltb (b - a) n) (Some (b - a)) None ≡ gap y z n
unfolding gap
gap_by (pos k) (pos l) a b n e f = let q : a ≡ k = cc in let r : b ≡ l = cc in rw (q, r)
gap_by (pos k) (negsuc l) a b n e f = let q : ◌≡◌ {A = ℕ} 0 1 = cc in absurd (omega arith)
gap_by (negsuc k) z a b n e f = let q : ◌≡◌ {A = ℕ} 0 1 = cc in absurd (omega arith)

pub gap_yes : (a b n : ℕ) → a ≤ b → b - a < n → Some (b - a) ≡ cond (leb a b && ltb (b - a) n) (Some (b - a)) None
gap_yes a b n h k = rw (le-leb a b h, lt-ltb (b - a) n k)

-- ---- what it says of the units

pub unit_id : (s : FugueSpan) (k : ℕ) → (unit_at s k).id ≡ inc_id s.id k
unfolding shift
unit_id s k = refl

pub unit_left : (s : FugueSpan) (k : ℕ) → (unit_at s k).origin_left ≡ left_of s k
unfolding shift
unit_left s k = refl

pub unit_status : (s : FugueSpan) (k : ℕ) → (unit_at s k).status ≡ s.status
unfolding shift
unit_status s k = refl

-- ids of one span at different places differ
pub inc_ne : (i : Id) (n a b : ℕ) → room_of i n ≡ true → (a ≡ b → ⊥) → same_opt (At (inc_id i a)) (At (inc_id i b)) ≡ false
unfolding same_opt same_id inc_id
inc_ne i n a b r ne = let w = roomy i.counter n r in go w.at w.is
  where
    go : (c : ℕ) → i.counter ≡ pos c → (eqb i.peer i.peer && eq_z (i.counter +ℤ pos a) (i.counter +ℤ pos b)) ≡ false
    go c e = rw (e, eq-eqb i.peer i.peer refl) (ne_eqb (c + a) (c + b) (λ f. ne (omega arith)))

-- an id that a span has no place for is none of its units'
module _ (s : FugueSpan) (o : OptId) where
  -- the id of unit k is o
  pub at_unit : (k : ℕ) → same_opt o (At (inc_id s.id k)) ≡ true → o ≡ At (inc_id s.id k)
  at_unit k e = same_opt-true o (At (inc_id s.id k)) e

module _ (s : FugueSpan) (ok : span_code s ≡ 0) where
  own : room_of s.id (len_span s) ≡ true
  own = (span_ok s ok).own

  -- the place of a unit's id
  pub off_unit : (k : ℕ) → k < len_span s → offset_of s (At (inc_id s.id k)) ≡ Some k
  unfolding offset_of inc_id gap
  off_unit k h = let w = roomy s.id.counter (len_span s) own in go w.at w.is
    where
      go : (c : ℕ) → s.id.counter ≡ pos c → cond (eqb s.id.peer s.id.peer) (gap s.id.counter (s.id.counter +ℤ pos k) (len_span s)) None ≡ Some k
      go c e =
          let q : c + k - c ≡ k = omega arith in
          rw (e, eq-eqb s.id.peer s.id.peer refl, le-leb c (c + k) (omega arith), q, lt-ltb k (len_span s) h)

  -- and the id at a place
  pub unit_off : (o : OptId) (k : ℕ) → offset_of s o ≡ Some k → (k < len_span s) × (o ≡ At (inc_id s.id k))
  unfolding offset_of inc_id gap
  unit_off Nothing k e = let q : ◌≡◌ {A = ℕ} 0 1 = cc in absurd (omega arith)
  unit_off (At i) k e = go (eqb s.id.peer i.peer) refl e
    where
      at_gap : (y z : ℤ) (n : ℕ) → gap y z n ≡ Some k → (k < n) × (z ≡ y +ℤ pos k)
      at_gap (pos a) (negsuc b) n f = let q : ◌≡◌ {A = ℕ} 0 1 = cc in absurd (omega arith)
      at_gap (negsuc a) z n f = let q : ◌≡◌ {A = ℕ} 0 1 = cc in absurd (omega arith)
      at_gap (pos a) (pos b) n f = in_gap (leb a b) (ltb (b - a) n) refl refl f
        where
          in_gap : (t u : Bool) → leb a b ≡ t → ltb (b - a) n ≡ u → cond (t && u) (Some (b - a)) None ≡ Some k → (k < n) × (pos b ≡ pos (a + k))
          in_gap true true p q g =
              let r : b - a ≡ k = cc in
              let l = leb-true a b p in
              let m = ltb-true (b - a) n q in
              (omega arith, ap pos (omega arith))
          in_gap true false p q g = let r : ◌≡◌ {A = ℕ} 0 1 = cc in absurd (omega arith)
          in_gap false u p q g = let r : ◌≡◌ {A = ℕ} 0 1 = cc in absurd (omega arith)

      go : (t : Bool) → eqb s.id.peer i.peer ≡ t → cond t (gap s.id.counter i.counter (len_span s)) None ≡ Some k → (k < len_span s) × (At i ≡ At (record { peer = s.id.peer; counter = s.id.counter +ℤ pos k }))
      go true p f =
          let g = at_gap s.id.counter i.counter (len_span s) f in
          (g.0, ap₂ (λ (x : ℕ) (y : ℤ). At (record { peer = x; counter = y })) (sym (eqb-true _ _ p)) g.1)
      go false p f = let q : ◌≡◌ {A = ℕ} 0 1 = cc in absurd (omega arith)

  -- ---- the units from j on

  pub tab_not : (o : OptId) (j n : ℕ) → j + n ≤ len_span s → offset_of s o ≡ None → mem_id o (tab (unit_at s) j n) ≡ false
  unfolding tab mem_id
  tab_not o j zero h e = refl
  tab_not o j (suc n) h e = rw (unit_id s j, differs (same_opt o (At (inc_id s.id j))) refl) (tab_not o (suc j) n (omega arith) e)
    where
      differs : (t : Bool) → same_opt o (At (inc_id s.id j)) ≡ t → same_opt o (At (inc_id s.id j)) ≡ false
      differs false p = p
      differs true p =
          let q : offset_of s o ≡ Some j = ap (offset_of s) (at_unit s o j p) ∙ off_unit j (omega arith) in
          let r : ◌≡◌ {A = ℕ} 0 1 = cc in absurd (omega arith)

  pub tab_has : (j n d : ℕ) → d < n → mem_id (At (inc_id s.id (j + d))) (tab (unit_at s) j n) ≡ true
  unfolding tab mem_id
  tab_has j zero d h = absurd (omega arith)
  tab_has j (suc n) zero h = rw (unit_id s j, add-zero j, same_opt_refl (At (inc_id s.id j)))
  tab_has j (suc n) (suc d) h =
      let q : j + suc d ≡ suc j + d = omega arith in
      or_right (same_opt (At (inc_id s.id (j + suc d))) (At (unit_at s j).id)) (mem_id (At (inc_id s.id (j + suc d))) (tab (unit_at s) (suc j) n))
      (ap (λ (m : ℕ). mem_id (At (inc_id s.id m)) (tab (unit_at s) (suc j) n)) q ∙ tab_has (suc j) n d (omega arith))
    where
      or_right : (a b : Bool) → b ≡ true → (a || b) ≡ true
      or_right true b e = refl
      or_right false b e = e

  pub tab_pos : (j n d : ℕ) → j + n ≤ len_span s → d < n → pos_of (tab (unit_at s) j n) (At (inc_id s.id (j + d))) ≡ d
  unfolding tab pos_of
  tab_pos j zero d l h = absurd (omega arith)
  tab_pos j (suc n) zero l h = rw (unit_id s j, add-zero j, same_opt_refl (At (inc_id s.id j)))
  tab_pos j (suc n) (suc d) l h =
      let q : j + suc d ≡ suc j + d = omega arith in
      rw (unit_id s j, inc_ne s.id (len_span s) (j + suc d) j own (λ e. omega arith), q) (ap suc (tab_pos (suc j) n d (omega arith) (omega arith)))

  pub tab_ol : (x : OptId) (j n d : ℕ) → j + n ≤ len_span s → d < n → has_ol (tab (unit_at s) j n) (At (inc_id s.id (j + d))) x ≡ same_opt (left_of s (j + d)) x
  unfolding tab has_ol
  tab_ol x j zero d l h = absurd (omega arith)
  tab_ol x j (suc n) zero l h = rw (unit_id s j, add-zero j, same_opt_refl (At (inc_id s.id j)), unit_left s j)
  tab_ol x j (suc n) (suc d) l h =
      let q : j + suc d ≡ suc j + d = omega arith in
      rw (unit_id s j, inc_ne s.id (len_span s) (j + suc d) j own (λ e. omega arith), q) (tab_ol x (suc j) n d (omega arith) (omega arith))

  pub covers_units : (o : OptId) → mem_id o (units_of s) ≡ covered s o
  unfolding units_of covered
  covers_units o = go (offset_of s o) refl
    where
      go : (f : Offset) → offset_of s o ≡ f → mem_id o (tab (unit_at s) 0 (len_span s)) ≡ is_at (offset_of s o)
      go None e = rw e (tab_not o 0 (len_span s) (omega arith) e)
      go (Some k) e =
          let w = unit_off o k e in
          let h : k < len_span s = w.0 in
          let q : 0 + k ≡ k = omega arith in
          rw (e, w.1) (ap (λ (m : ℕ). mem_id (At (inc_id s.id m)) (tab (unit_at s) 0 (len_span s))) (sym q) ∙ tab_has 0 (len_span s) k h)

  pub not_unit : (o : OptId) → offset_of s o ≡ None → mem_id o (units_of s) ≡ false
  unfolding units_of
  not_unit o e = tab_not o 0 (len_span s) (omega arith) e
