-- How far the tests on a unit's id stay the same: one range, the ranges of an edit, the edits, a version. Assumes nothing.
use Prim.Native.Nat.{ℕ, suc, ◌+◌, ◌-◌, ◌*◌, ◌≤◌, ◌<◌, min}
use mathlib.Core.Path.{◌≡◌, refl, sym, ap, ap₂, ◌∙◌}
use mathlib.Core.Bool.{Bool, true, false, not, ◌&&◌, ◌||◌, cond, and-false}
use mathlib.Core.List.{List, ◌∷◌}
use native.Mathlib.Omega.{arith}
use lib.Dec.{ltb, leb, eqb}
use lib.IntN.{ℤ, pos, negsuc, ◌+ℤ◌}
use lib.Signed.{le_z, lt_z}
use lib.ListN.{length, drop}
use lib.Seq.{drop-drop}
use mir.Syntax.{w16}
use mir.Val.{to_z, bool_byte as from_bool}
use mir.Facts.{to_z_pos}
use borrow.Author.Tests.{ltb-true, ltb-false, lt-ltb, le-ltb, le-leb, lt-leb, leb-true, eq-eqb, ne_eqb}
use Rattle.span.specs.declared.ids.Id.{Id}
use Rattle.span.specs.declared.status.Status.{Status}
use Rattle.span.specs.Ids.{UNKNOWN_PEER, inc_id, room, room_of}
use Rattle.std.specs.Prelude.{Option, Some, None, unsigned_abs}
use Rattle.span.specs.Status.{status, counter_of}
use Rattle.store.specs.Row.{bits32, bit_of, status_of}
use Rattle.store.specs.Limits.{EDITS}
use Rattle.units.specs.Lists.{some}
use Rattle.history.specs.Edit.{Version, Range, Held}
use Rattle.history.specs.Version.{count_of, below, in_version}
use Rattle.history.specs.Checkout.{range, in_range, in_ranges, deletes_in, status_at}
use Rattle.tracker.specs.declared.look.Found.{Found}
use Rattle.tracker.specs.declared.look.Taken.{Taken}
use Rattle.tracker.specs.Rows.{range_in, ranges, took_in, edit_in, held, used}
use Rattle.tracker.specs.Looks.{Reaches}
use Rattle.tracker.specs.Reach.{unit_id, in_counters, edit_takes, Same, Takes}
use Rattle.tracker.proofs.Logs.{held_turn, used_one, used_mono}

-- ---------------------------------------------------------------- tests that agree

-- a test in the place of another that answers alike
pub same_by : (p q : ℕ → Bool) (most : ℕ) (r : Found) → ((j : ℕ) → p j ≡ q j) → Same q most r → Same p most r
same_by p q most r e s = record { some = s.some; few = s.few; same = λ j h. e j ∙ s.same j h }

-- a test that always answers b
pub same_all : (p : ℕ → Bool) (b : Bool) (most : ℕ) → 0 < most → ((j : ℕ) → p j ≡ b) → Same p most (record { hit = b; len = most })
same_all p b most h e = record { some = h; few = omega arith; same = λ j k. e j }

ltb_iff : (a b c d : ℕ) → (a < b → c < d) → (c < d → a < b) → ltb a b ≡ ltb c d
ltb_iff a b c d f g = go (ltb a b) refl
  where
    go : (t : Bool) → ltb a b ≡ t → ltb a b ≡ ltb c d
    go true e = e ∙ sym (lt-ltb c d (f (ltb-true a b e)))
    go false e = e ∙ sym (le-ltb c d (let h : b ≤ a = ltb-false a b e in not_lt h))
      where
        not_lt : b ≤ a → d ≤ c
        not_lt h = by (ltb c d) refl
          where
            by : (t : Bool) → ltb c d ≡ t → d ≤ c
            by true q = let k : a < b = g (ltb-true c d q) in absurd (omega arith)
            by false q = ltb-false c d q

-- ---------------------------------------------------------------- numbers below n, from k on

module _ (k n most len : ℕ) (h : 0 < most) where
  pub below_hit : k < n → len ≡ min most (n - k) → Same (λ (j : ℕ). ltb (k + j) n) most (record { hit = true; len = len })
  below_hit l e = record { some = omega arith; few = omega arith; same = λ j q. lt-ltb (k + j) n (omega arith) }

  pub below_miss : n ≤ k → Same (λ (j : ℕ). ltb (k + j) n) most (record { hit = false; len = most })
  below_miss l = same_all (λ (j : ℕ). ltb (k + j) n) false most h (λ j. le-ltb (k + j) n (omega arith))

-- ---------------------------------------------------------------- counters, from c on

-- a counter that is not below zero
from_first : (z : ℤ) (s : ℕ) → counter_of z ≡ Some s → z ≡ pos s
from_first (pos n) s e = cc
from_first (negsuc n) s e = cc

module _ (c s n most : ℕ) (h : 0 < most) where
  in_pos : (z : ℤ) → counter_of z ≡ Some s → (m : ℕ) → in_counters z n m ≡ leb s m && ltb m (s + n)
  unfolding in_counters
  in_pos z l m = rw (from_first z s l)

  pub counters_before : (z : ℤ) → counter_of z ≡ Some s → c < s → (len : ℕ) → len ≡ min most (s - c)
      → Same (λ (j : ℕ). in_counters z n (c + j)) most (record { hit = false; len = len })
  counters_before z l k len e =
      record {
        some = omega arith;
        few = omega arith;
        same = λ j q. in_pos z l (c + j) ∙ ap (λ (b : Bool). b && ltb (c + j) (s + n)) (lt-leb s (c + j) (omega arith));
      }

  pub counters_after : (z : ℤ) → counter_of z ≡ Some s → s ≤ c → (r : Found) → Same (λ (j : ℕ). ltb (c - s + j) n) most r → Same (λ (j : ℕ). in_counters z n (c + j)) most r
  counters_after z l k r =
      same_by (λ (j : ℕ). in_counters z n (c + j)) (λ (j : ℕ). ltb (c - s + j) n) most r
      (λ j. in_pos z l (c + j)
      ∙ (ap (λ (b : Bool). b && ltb (c + j) (s + n)) (le-leb s (c + j) (omega arith))
      ∙ ltb_iff (c + j) (s + n) (c - s + j) n (λ q. omega arith) (λ q. omega arith)))

module _ (c n most : ℕ) where
  -- below zero: the counters from zero on are those of n less what lies below
  minus : (a m : ℕ) → le_z (negsuc a) (pos m) && lt_z (pos m) (negsuc a +ℤ pos n) ≡ ltb (m + a + 1) n
  minus a m = go (ltb n (suc a)) refl
    where
      go : (t : Bool) → ltb n (suc a) ≡ t → lt_z (pos m) (cond (ltb n (suc a)) (negsuc (suc a - suc n)) (pos (n - suc a))) ≡ ltb (m + a + 1) n
      go true e = let q : n < suc a = ltb-true n (suc a) e in rw e (sym (le-ltb (m + a + 1) n (omega arith)))
      go false e =
          let q : suc a ≤ n = ltb-false n (suc a) e in
          rw e (ltb_iff m (n - suc a) (m + a + 1) n (λ k. omega arith) (λ k. omega arith))

  pub counters_low : (z : ℤ) → counter_of z ≡ None → (u : ℕ) → u ≡ unsigned_abs z → (r : Found) → Same (λ (j : ℕ). ltb (c + u + j) n) most r
      → Same (λ (j : ℕ). in_counters z n (c + j)) most r
  unfolding in_counters
  counters_low (pos s) e u q r v = absurd (cc)
  counters_low (negsuc a) e u q r v =
      let w : u ≡ suc a = q in
      same_by (λ (j : ℕ). in_counters (negsuc a) n (c + j)) (λ (j : ℕ). ltb (c + u + j) n) most r
      (λ j. minus a (c + j) ∙ ltb_iff (c + j + a + 1) n (c + u + j) n (λ k. omega arith) (λ k. omega arith)) v

-- ---------------------------------------------------------------- one range

module _ (peer c n most : ℕ) (i : Id) where
  in_range_by : (b : Bool) → eqb peer i.peer ≡ b → (j : ℕ) → in_range (unit_id peer (c + j)) (range i n) ≡ b && in_counters i.counter n (c + j)
  unfolding in_range in_counters
  in_range_by b e j = rw e

  pub range_here : peer ≡ i.peer → (r : Found) → Same (λ (j : ℕ). in_counters i.counter n (c + j)) most r → Same (λ (j : ℕ). in_range (unit_id peer (c + j)) (range i n)) most r
  range_here e r =
      same_by (λ (j : ℕ). in_range (unit_id peer (c + j)) (range i n)) (λ (j : ℕ). in_counters i.counter n (c + j)) most r
      (in_range_by true (eq-eqb peer i.peer e))

  pub range_other : 0 < most → (peer ≡ i.peer → ⊥) → Same (λ (j : ℕ). in_range (unit_id peer (c + j)) (range i n)) most (record { hit = false; len = most })
  range_other h e = same_all (λ (j : ℕ). in_range (unit_id peer (c + j)) (range i n)) false most h (in_range_by false (ne_eqb peer i.peer e))

-- ---------------------------------------------------------------- a version

module _ (v : Version) (peer c most : ℕ) where
  pub version_all : 0 < most → peer ≡ UNKNOWN_PEER → Same (λ (j : ℕ). in_version v (unit_id peer (c + j))) most (record { hit = true; len = most })
  unfolding in_version
  version_all h e = same_all (λ (j : ℕ). in_version v (unit_id peer (c + j))) true most h (λ j. rw (eq-eqb peer UNKNOWN_PEER e))

  pub version_by : (peer ≡ UNKNOWN_PEER → ⊥) → (n : ℕ) → n ≡ count_of v peer → (r : Found) → Same (λ (j : ℕ). ltb (c + j) n) most r
      → Same (λ (j : ℕ). in_version v (unit_id peer (c + j))) most r
  unfolding in_version below
  version_by e n q r =
      same_by (λ (j : ℕ). in_version v (unit_id peer (c + j))) (λ (j : ℕ). ltb (c + j) n) most r
      (λ j. rw (ne_eqb peer UNKNOWN_PEER e) (ap (ltb (c + j)) (sym q)))

-- ---------------------------------------------------------------- the ranges of an edit: i of k are passed

pub record Ranged (t : List ℕ) (at k peer c most : ℕ) (hit : Bool) (len i : ℕ) : Type 0 where
  pub low : i ≤ k
  pub some : 0 < len
  pub few : len ≤ most
  pub same : (j : ℕ) → j < len
      → hit || in_ranges (unit_id peer (c + j)) (ranges (k - i) (drop ((at + i) * 16) t)) ≡ in_ranges (unit_id peer (c + j)) (ranges k (drop (at * 16) t))

or_assoc : (a b c : Bool) → (a || b) || c ≡ a || (b || c)
or_assoc true b c = refl
or_assoc false b c = refl

or_none : (a : Bool) → a ≡ a || false
or_none true = refl
or_none false = refl

module _ (t : List ℕ) (at k peer c most : ℕ) where
  pub ranged_start : 0 < most → Ranged t at k peer c most false most 0
  ranged_start h =
      let e : k - 0 ≡ k = omega arith in
      let z : at + 0 ≡ at = omega arith in
      record { low = omega arith; some = h; few = omega arith; same = λ j q. rw (e, z) }

  module _ (hit : Bool) (len i : ℕ) (v : Ranged t at k peer c most hit len i) where
    turn : i < k → ranges (k - i) (drop ((at + i) * 16) t) ≡ range_in (drop ((at + i) * 16) t) ∷ ranges (k - (i + 1)) (drop ((at + (i + 1)) * 16) t)
    unfolding ranges
    turn h =
        ap (λ (m : ℕ). ranges m (drop ((at + i) * 16) t)) (let e : k - i ≡ suc (k - (i + 1)) = omega arith in e)
        ∙ ap (λ (u : List ℕ). range_in (drop ((at + i) * 16) t) ∷ ranges (k - (i + 1)) u)
        (drop-drop 16 ((at + i) * 16) t ∙ ap (λ (m : ℕ). drop m t) (let e : (at + i) * 16 + 16 ≡ (at + (i + 1)) * 16 = omega arith in e))

    pub ranged_turn : i < k → (x : Range) → x ≡ range_in (drop ((at + i) * 16) t) → (r : Found) → Same (λ (j : ℕ). in_range (unit_id peer (c + j)) x) len r
        → (b : Bool) → b ≡ hit || r.hit → Ranged t at k peer c most b r.len (i + 1)
    unfolding in_ranges some
    ranged_turn h x e r s b q =
        record {
          low = omega arith;
          some = s.some;
          few = omega (arith, s.few, v.few);
          same = λ j l.
              let rest = in_ranges (unit_id peer (c + j)) (ranges (k - (i + 1)) (drop ((at + (i + 1)) * 16) t)) in
              let m : j < len = omega (arith, l, s.few) in
              ap (λ (a : Bool). a || rest) q
              ∙ (or_assoc hit r.hit rest
              ∙ (ap (λ (a : Bool). hit || (a || rest)) (sym (s.same j l))
              ∙ (ap (λ (y : Range). hit || (in_range (unit_id peer (c + j)) y || rest)) e
              ∙ (ap (λ (l : List Range). hit || in_ranges (unit_id peer (c + j)) l) (sym (turn h)) ∙ v.same j m))));
        }

    pub ranged_end : k ≤ i → Same (λ (j : ℕ). in_ranges (unit_id peer (c + j)) (ranges k (drop (at * 16) t))) most (record { hit = hit; len = len })
    unfolding ranges in_ranges some
    ranged_end h =
        record {
          some = v.some;
          few = v.few;
          same = λ j l.
              sym (v.same j l)
              ∙ (ap (λ (m : ℕ). hit || in_ranges (unit_id peer (c + j)) (ranges m (drop ((at + i) * 16) t))) (let e : k - i ≡ 0 = omega arith in e) ∙ sym (or_none hit));
        }

-- ---------------------------------------------------------------- one edit

module _ (v : Version) (e : List ℕ) (i : ℕ) (t : List ℕ) (at peer c most : ℕ) where
  pub edit_in_lem : below v (edit_in (drop (i * 256) e)).id ≡ true → (k : ℕ) → k ≡ took_in (drop (i * 256) e) → (r : Found)
      → Same (λ (j : ℕ). in_ranges (unit_id peer (c + j)) (ranges k (drop (at * 16) t))) most r
      → Same (λ (j : ℕ). edit_takes v e i t at (unit_id peer (c + j))) most r
  unfolding edit_takes
  edit_in_lem b k q r =
      same_by (λ (j : ℕ). edit_takes v e i t at (unit_id peer (c + j))) (λ (j : ℕ). in_ranges (unit_id peer (c + j)) (ranges k (drop (at * 16) t))) most r
      (λ j. rw b (ap (λ (n : ℕ). in_ranges (unit_id peer (c + j)) (ranges n (drop (at * 16) t))) (sym q)))

  -- what took none of the units took none in the version
  pub edit_none : (k : ℕ) → k ≡ took_in (drop (i * 256) e) → (r : Found) → r.hit ≡ false → Same (λ (j : ℕ). in_ranges (unit_id peer (c + j)) (ranges k (drop (at * 16) t))) most r
      → Same (λ (j : ℕ). edit_takes v e i t at (unit_id peer (c + j))) most r
  unfolding edit_takes
  edit_none k q r z s =
      record {
        some = s.some;
        few = s.few;
        same = λ j l. ap (λ (b : Bool). below v (edit_in (drop (i * 256) e)).id && b) (ap (λ (n : ℕ). in_ranges (unit_id peer (c + j)) (ranges n (drop (at * 16) t))) (sym q) ∙ s.same j l ∙ z) ∙ and-false (below v (edit_in (drop (i * 256) e)).id) ∙ sym z;
      }

  pub edit_out : 0 < most → below v (edit_in (drop (i * 256) e)).id ≡ false
      → Same (λ (j : ℕ). edit_takes v e i t at (unit_id peer (c + j))) most (record { hit = false; len = most })
  unfolding edit_takes
  edit_out h b = same_all (λ (j : ℕ). edit_takes v e i t at (unit_id peer (c + j))) false most h (λ j. rw b)

-- ---------------------------------------------------------------- the edits: i of h are passed

pub record Run (v : Version) (e t : List ℕ) (h peer c most : ℕ) (times len at i : ℕ) : Type 0 where
  pub low : i ≤ h
  pub ranges : at ≡ used i e
  pub count : times ≤ i
  pub some : 0 < len
  pub few : len ≤ most
  pub same : (j : ℕ) → j < len
      → times + deletes_in v (held (h - i) (drop (i * 256) e) (drop (used i e * 16) t)) (unit_id peer (c + j)) ≡ deletes_in v (held h e t) (unit_id peer (c + j))

-- a hit counts as one
pub bit_byte : (b : Bool) → from_bool b ≡ bit_of b
bit_byte true = refl
bit_byte false = refl

pub bit_small : (b : Bool) (k : ℕ) → k ≡ from_bool b → k < 2
bit_small true k e = omega arith
bit_small false k e = omega arith

deletes_cons : (v : Version) (x : Held) (l : List Held) (u : Id) (b : Bool) → below v x.edit.id && in_ranges u x.took ≡ b
    → deletes_in v (x ∷ l) u ≡ bit_of b + deletes_in v l u
unfolding deletes_in
deletes_cons v x l u true e = rw e (omega arith)
deletes_cons v x l u false e = rw e (omega arith)

module _ (v : Version) (e t : List ℕ) (h peer c most : ℕ) where
  pub run_start : 0 < most → Run v e t h peer c most 0 most 0 0
  unfolding used
  run_start q =
      let z : h - 0 ≡ h = omega arith in
      record {
        low = omega arith;
        ranges = refl;
        count = omega arith;
        some = q;
        few = omega arith;
        same = λ j l. ap (λ (n : ℕ). 0 + deletes_in v (held n e t) (unit_id peer (c + j))) z ∙ (let w : (k : ℕ) → 0 + k ≡ k = λ k. omega arith in w (deletes_in v (held h e t) (unit_id peer (c + j))));
      }

  module _ (times len at i : ℕ) (r : Run v e t h peer c most times len at i) where
    pub run_turn : i < h → (f : Found) → Same (λ (j : ℕ). edit_takes v e i t at (unit_id peer (c + j))) len f
        → (b : ℕ) → b ≡ bit_of f.hit → b < 2 → (k : ℕ) → k ≡ took_in (drop (i * 256) e)
        → Run v e t h peer c most (times + b) f.len (at + k) (i + 1)
    unfolding edit_takes
    run_turn q f s b eb lb k ek =
        record {
          low = omega arith;
          ranges = ap₂ ◌+◌ r.ranges ek ∙ sym (used_one i e);
          count = omega (arith, r.count);
          some = s.some;
          few = omega (arith, s.few, r.few);
          same = λ j l.
              let u = unit_id peer (c + j) in
              let rest = held (h - (i + 1)) (drop ((i + 1) * 256) e) (drop (used (i + 1) e * 16) t) in
              let x : Held = record { edit = edit_in (drop (i * 256) e); took = ranges (took_in (drop (i * 256) e)) (drop (used i e * 16) t) } in
              let m : j < len = omega (arith, l, s.few) in
              let w : below v x.edit.id && in_ranges u x.took ≡ f.hit = ap (λ (n : ℕ). below v (edit_in (drop (i * 256) e)).id && in_ranges u (ranges (took_in (drop (i * 256) e)) (drop (n * 16) t))) (sym r.ranges) ∙ s.same j l in
              let d : deletes_in v (held (h - i) (drop (i * 256) e) (drop (used i e * 16) t)) u ≡ bit_of f.hit + deletes_in v rest u = ap (λ (l : List Held). deletes_in v l u) (held_turn h i e t q) ∙ deletes_cons v x rest u f.hit w in
              let g : times + deletes_in v (held (h - i) (drop (i * 256) e) (drop (used i e * 16) t)) u ≡ deletes_in v (held h e t) u = r.same j m in
              let y : times + b + deletes_in v rest u ≡ times + deletes_in v (held (h - i) (drop (i * 256) e) (drop (used i e * 16) t)) u = omega (arith, d, eb) in
              y ∙ g;
        }

    -- the ranges of the next edit are there
    pub run_room : i < h → used h e * 16 ≤ length t → (at + took_in (drop (i * 256) e)) * 16 ≤ length t
    run_room q l = omega (arith, r.ranges, used_one i e, used_mono (i + 1) h e (let z : i + 1 ≤ h = omega arith in z))

    pub run_end : h ≤ i → Takes v (held h e t) h peer c most (record { times = times; len = len })
    unfolding held deletes_in
    run_end q =
        record {
          some = r.some;
          few = r.few;
          low = omega (arith, r.count, r.low);
          same = λ j l.
              sym (r.same j l)
              ∙ (ap (λ (n : ℕ). times + deletes_in v (held n (drop (i * 256) e) (drop (used i e * 16) t)) (unit_id peer (c + j))) (let z : h - i ≡ 0 = omega arith in z)
              ∙ (let z : times + 0 ≡ times = omega arith in z));
        }

-- ---------------------------------------------------------------- the status

-- an id with room is a peer's unit
room-pos : (z : ℤ) (n : ℕ) → room z n ≡ true → (bits32 z + n ≤ 2147483647) × (z ≡ pos (bits32 z))
unfolding room
room-pos (pos a) n h = (leb-true (a + n) 2147483647 h, refl)
room-pos (negsuc a) n h = absurd (let z : ◌≡◌ {A = ℕ} 0 1 = cc in omega arith)

module _ (i : Id) (most : ℕ) (h : room_of i most ≡ true) (c : ℕ) (ec : c ≡ bits32 i.counter) where
  pub unit_low : 0 < most → c < 2147483648
  unit_low p = omega (arith, (room-pos i.counter most h).0)

  unit_inc : (j : ℕ) → inc_id i j ≡ unit_id i.peer (c + j)
  unfolding inc_id
  unit_inc j = ap (λ (z : ℤ). record { peer = i.peer; counter = z +ℤ pos j }) ((room-pos i.counter most h).1 ∙ ap pos (sym ec))

  pub status_same : (v : Version) (l : List Held) (n : ℕ) → n ≤ EDITS → (k : Taken) → Takes v l n i.peer c most k
      → (f : Found) → Same (λ (j : ℕ). in_version v (unit_id i.peer (c + j))) k.len f
      → (s : Status) → s ≡ status_of (not f.hit) k.times → Reaches v l i most (record { status = s; len = f.len })
  unfolding status_at
  status_same v l n few k a f b s e =
      record {
        some = b.some;
        few = omega (arith, b.few, a.few);
        same = λ j q.
            let m : j < k.len = omega (arith, q, b.few) in
            let z : to_z w16 k.times ≡ pos k.times = to_z_pos w16 {n = k.times} (omega (arith, a.low, few)) in
            ap (status_at v l) (unit_inc j)
            ∙ (ap₂ (λ (y : Bool) (d : ℕ). status (not y) (pos d)) (b.same j q) (a.same j m)
            ∙ (ap (λ (w : ℤ). status (not f.hit) w) (sym z) ∙ sym e));
      }
