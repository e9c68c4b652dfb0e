-- the delta, one entry after the other
use Prim.Native.Nat.{ℕ, suc, ◌+◌, ◌*◌, ◌<◌, ◌≤◌}
use mathlib.Core.Path.{◌≡◌, refl, sym, ap, ◌∙◌}
use mathlib.Core.Bool.{Bool, true, false, ◌&&◌, cond, true≢false}
use mathlib.Core.List.{List, [], ◌∷◌}
use native.Mathlib.Omega.{arith}
use lib.Dec.{eqb}
use lib.ListN.{length, drop, drop_of_length-le}
use borrow.Author.Tests.{eqb-true}
use Rattle.span.specs.declared.span.FugueSpan.{FugueSpan}
use Rattle.span.specs.declared.span.DiffStatus.{DiffStatus}
use Rattle.span.specs.declared.span.DiffStatus.TheVariants.{NotChanged, Created, Deleted}
use Rattle.span.specs.Status.{activated}
use Rattle.span.specs.Span.{len_span, active_len, diff_of}
use Rattle.span.specs.Units.{expand}
use Rattle.store.specs.Listed.{spans}
use Rattle.store.specs.Row.{rows, row_at}
use Rattle.store.proofs.Laws.{length-rows}
use Rattle.rope.specs.Maybe.{Change}
use Rattle.std.specs.Prelude.{Option, None, Some}
use Rattle.std.specs.Prelude.{None as Same, Some as Is}
use Rattle.rope.specs.declared.diff.Step.{Step}
use Rattle.units.specs.Lists.{every}
use Rattle.units.specs.declared.diff.Entry.{Entry}
use Rattle.units.specs.declared.diff.Entry.TheVariants.{Retain, Delete}
use Rattle.units.specs.Delta.{insert_of_span, insertable, retain, entry_by, entries_from, entries}
use Rattle.rope.specs.Spans.{Stored}
use Rattle.rope.specs.Columns.{change_by, change_of, step, step_by, Ahead, NextIs, NextOf}
use Rattle.rope.proofs.Rights.{row_drop, row_none}
use Rattle.rope.proofs.Counts.{length_span}
use Rattle.rope.proofs.WellFormed.{formed_of}

abbrev is_change : Change → Bool
is_change Same = false
is_change (Is e) = true

abbrev entry_in : Change → Entry
entry_in Same = Retain 0
entry_in (Is e) = e

-- ---- one span

module _ (s : FugueSpan) (l : List FugueSpan) (gap : ℕ) where
  pub entries_same : change_of s ≡ Same → entries_from (s ∷ l) gap ≡ entries_from l (gap + active_len s)
  unfolding change_of entries_from
  entries_same p = go (diff_of s) p
    where
      go : (d : DiffStatus) → change_by d s ≡ Same → entry_by d gap s (entries_from l (gap + active_len s)) (entries_from l 0) ≡ entries_from l (gap + active_len s)
      go NotChanged q = refl
      go Created q = absurd (true≢false (ap is_change q))
      go Deleted q = absurd (true≢false (ap is_change q))

  pub entries_is : (e : Entry) → change_of s ≡ Is e → entries_from (s ∷ l) gap ≡ retain gap (e ∷ entries_from l 0)
  unfolding change_of entries_from
  entries_is e p = go (diff_of s) p
    where
      go : (d : DiffStatus) → change_by d s ≡ Is e → entry_by d gap s (entries_from l (gap + active_len s)) (entries_from l 0) ≡ retain gap (e ∷ entries_from l 0)
      go NotChanged q = absurd (true≢false (ap is_change (sym q)))
      go Created q = ap (λ (x : Entry). retain gap (x ∷ entries_from l 0)) (ap entry_in q)
      go Deleted q = ap (λ (x : Entry). retain gap (x ∷ entries_from l 0)) (ap entry_in q)

pub retain_none : (es : List Entry) → retain 0 es ≡ es
unfolding retain
retain_none es = refl

pub retain_some : (gap : ℕ) (es : List Entry) → eqb gap 0 ≡ false → retain gap es ≡ Retain gap ∷ es
unfolding retain
retain_some gap es h = ap (λ (b : Bool). cond b es (Retain gap ∷ es)) h

pub active_most : (s : FugueSpan) → active_len s ≤ len_span s
unfolding active_len
active_most s = go (activated s.status)
  where
    go : (t : Bool) → cond t (len_span s) 0 ≤ len_span s
    go true = omega arith
    go false = omega arith

-- ---- row i of a list, of which r is that row and l the rows after it

module _ (all : List FugueSpan) (i : ℕ) (r : FugueSpan) (h : i < length all) (at : drop i all ≡ r ∷ drop (i + 1) all) where
  units_on : length (expand (drop i all)) ≡ len_span r + length (expand (drop (i + 1) all))
  units_on = ap (λ (l : List FugueSpan). length (expand l)) at ∙ length_span r (drop (i + 1) all)

  pub gap_on : (gap : ℕ) → gap + active_len r + length (expand (drop (i + 1) all)) ≤ gap + length (expand (drop i all))
  gap_on gap = omega (arith, units_on, active_most r)

  pub skip : (gap : ℕ) → change_of r ≡ Same → entries_from (drop i all) gap ≡ entries_from (drop (i + 1) all) (gap + active_len r)
  skip gap p = ap (λ (l : List FugueSpan). entries_from l gap) at ∙ entries_same r (drop (i + 1) all) gap p

  stop : (gap : ℕ) (e : Entry) → change_of r ≡ Is e → entries_from (drop i all) gap ≡ retain gap (e ∷ entries_from (drop (i + 1) all) 0)
  stop gap e p = ap (λ (l : List FugueSpan). entries_from l gap) at ∙ entries_is r (drop (i + 1) all) gap e p

  pub step_is : (gap : ℕ) (e : Entry) → change_of r ≡ Is e → NextOf all i gap (Some (step_by gap i e))
  unfolding step_by
  step_is gap e p = go (eqb gap 0) refl
    where
      go : (t : Bool) → eqb gap 0 ≡ t → NextOf all i gap (Some (cond t (step e (i + 1) 0) (step (Retain gap) i 0)))
      go true q =
          let z : gap ≡ 0 = eqb-true gap 0 q in
          record {
            low = omega arith;
            few = omega (arith, units_on);
            is = ap (entries_from (drop i all)) z ∙ stop 0 e p ∙ retain_none (e ∷ entries_from (drop (i + 1) all) 0);
          }
      go false q =
          record {
            low = omega arith;
            few = omega arith;
            is =
                stop gap e p
                ∙ retain_some gap (e ∷ entries_from (drop (i + 1) all) 0) q
                ∙ ap (λ (l : List Entry). Retain gap ∷ l) (sym (stop 0 e p ∙ retain_none (e ∷ entries_from (drop (i + 1) all) 0)));
          }

-- ---- from where a step began to where it stands

pub record Walked (l : List FugueSpan) (from since i gap : ℕ) : Type 0 where
  pub low : i ≤ length l
  pub few : gap + length (expand (drop i l)) ≤ since + length (expand (drop from l))
  pub is : entries_from (drop from l) since ≡ entries_from (drop i l) gap

pub walked_next : (l : List FugueSpan) (from since i gap : ℕ) (r : FugueSpan) → i < length l → drop i l ≡ r ∷ drop (i + 1) l → Walked l from since i gap → change_of r ≡ Same → Walked l from since (i + 1) (gap + active_len r)
walked_next l from since i gap r h at w p =
    let g = gap_on l i r h at gap in
    record { low = omega arith; few = omega (arith, g, w.few); is = w.is ∙ skip l i r h at gap p }

pub walked_stop : (l : List FugueSpan) (from since i gap : ℕ) (x : Option Step) → Walked l from since i gap → NextOf l i gap x → NextOf l from since x
walked_stop l from since i gap None w p = w.is ∙ p
walked_stop l from since i gap (Some x) w p =
    record { low = p.low; few = omega (arith, p.few, w.few); is = w.is ∙ p.is }

pub walked_end : (l : List FugueSpan) (from since i gap : ℕ) → Walked l from since i gap → drop i l ≡ [] → NextOf l from since None
unfolding entries_from
walked_end l from since i gap w e = w.is ∙ ap (λ (m : List FugueSpan). entries_from m gap) e

-- the same at row i, which is r
module _ (n : ℕ) (s : List ℕ) (from since i gap : ℕ) where
  pub walk_start : Ahead n s from since → Walked (rows n s) from since from since
  walk_start v = record { low = rw (length-rows n s) v.low; few = omega arith; is = refl }

  module _ (w : Walked (rows n s) from since i gap) (h : i < n) (r : FugueSpan) (is : r ≡ row_at s (i * 72)) where
    inside : i < length (rows n s)
    inside = rw (length-rows n s) h

    at : drop i (rows n s) ≡ r ∷ drop (i + 1) (rows n s)
    at = row_drop n s i h ∙ ap (λ (x : FugueSpan). x ∷ drop (i + 1) (rows n s)) (sym is)

    pub walk_fits : Ahead n s from since → (k : ℕ) → k ≡ active_len r → gap + k ≤ 65536
    walk_fits v k e = omega (arith, gap_on (rows n s) i r inside at gap, w.few, v.few, e)

    pub walk_on : (k : ℕ) → k ≡ active_len r → Same ≡ change_of r → Walked (rows n s) from since (i + 1) (gap + k)
    walk_on k e p = rw e (walked_next (rows n s) from since i gap r inside at w (sym p))

    pub walk_stop : (e : Entry) → Is e ≡ change_of r → (x : Step) → x ≡ step_by gap i e → NextOf (rows n s) from since (Some x)
    walk_stop e p x q = rw q (walked_stop (rows n s) from since i gap (Some (step_by gap i e)) w (step_is (rows n s) i r inside at gap e (sym p)))

  pub walk_end : Walked (rows n s) from since i gap → n ≤ i → NextOf (rows n s) from since None
  walk_end w h = walked_end (rows n s) from since i gap w (row_none n s i h)

-- ---- how many entries

pub retain-length : (gap : ℕ) (es : List Entry) → length (retain gap es) ≤ suc (length es)
unfolding retain
retain-length gap es = go (eqb gap 0)
  where
    go : (t : Bool) → length (cond t es (Retain gap ∷ es)) ≤ suc (length es)
    go true = omega arith
    go false = omega arith

pub entries_few : (l : List FugueSpan) (gap : ℕ) → length (entries_from l gap) ≤ 2 * length l
unfolding entries_from
entries_few [] gap = omega arith
entries_few (s ∷ l) gap = go (diff_of s) (entries_few l (gap + active_len s)) (entries_few l 0)
  where
    go : (d : DiffStatus) → length (entries_from l (gap + active_len s)) ≤ 2 * length l → length (entries_from l 0) ≤ 2 * length l → length (entry_by d gap s (entries_from l (gap + active_len s)) (entries_from l 0)) ≤ 2 * suc (length l)
    go NotChanged a b = omega arith
    go Created a b = omega (arith, retain-length gap (insert_of_span s ∷ entries_from l 0))
    go Deleted a b = omega (arith, retain-length gap (Delete (len_span s) ∷ entries_from l 0))

pub entries_most : (l : List FugueSpan) → length (entries l) ≤ 2 * length l
unfolding entries
entries_most l = entries_few l 0

-- ---- all that comes in has a real id

module _ (n : ℕ) (s : List ℕ) (i : ℕ) where
  pub reals_turn : i < n → (r : FugueSpan) → r ≡ row_at s (i * 72) → (t : Bool) → t ≡ insertable r → every insertable (drop i (rows n s)) ≡ (t && every insertable (drop (i + 1) (rows n s)))
  unfolding every
  reals_turn h r is t e =
      ap (every insertable) (row_drop n s i h) ∙ ap (λ (b : Bool). b && every insertable (drop (i + 1) (rows n s))) (sym (e ∙ ap insertable is))

  pub reals_done : n ≤ i → every insertable (drop i (rows n s)) ≡ true
  unfolding every
  reals_done h = ap (every insertable) (row_none n s i h)

-- ---- a loop over the steps: k entries are behind

pub record Going (n : ℕ) (s : List ℕ) (i gap k : ℕ) : Type 0 where
  pub ahead : Ahead n s i gap
  pub is : k + length (entries_from (drop i (rows n s)) gap) ≡ length (entries (rows n s))

pub going_start : (n : ℕ) (s : List ℕ) → Stored n s → Going n s 0 0 0
unfolding entries
going_start n s w = record { ahead = record { stored = w; low = omega arith; few = omega (arith, (formed_of (rows n s) w.formed).units) }; is = omega arith }

module _ (n : ℕ) (s : List ℕ) (i gap k : ℕ) (v : Going n s i gap k) where
  pub going_end : entries_from (drop i (rows n s)) gap ≡ [] → k ≡ length (entries (rows n s))
  going_end q =
      let z : length (entries_from (drop i (rows n s)) gap) ≡ 0 = ap length q in
      omega (arith, v.is, z)

  module _ (e : Entry) (j g : ℕ) (next_is : NextIs (rows n s) i gap e j g) where
    pub going_less : length (entries_from (drop j (rows n s)) g) < length (entries_from (drop i (rows n s)) gap)
    going_less = let z : length (entries_from (drop i (rows n s)) gap) ≡ suc (length (entries_from (drop j (rows n s)) g)) = ap length next_is.is in omega (arith, z)

    pub going_few : k + 1 ≤ 2 * n
    going_few = omega (arith, going_less, v.is, entries_most (rows n s), length-rows n s)

    pub going_next : Going n s j g (k + 1)
    going_next =
        let z : length (entries_from (drop i (rows n s)) gap) ≡ suc (length (entries_from (drop j (rows n s)) g)) = ap length next_is.is in
        record {
          ahead = record { stored = v.ahead.stored; low = rw (sym (length-rows n s)) next_is.low; few = omega (arith, next_is.few, v.ahead.few) };
          is = omega (arith, z, v.is);
        }

-- ---- the same of the first of some spans

pub reals_first : (s : FugueSpan) (l : List FugueSpan) (t : Bool) → t ≡ insertable s → every insertable (s ∷ l) ≡ (t && every insertable l)
unfolding every
reals_first s l t e = ap (λ (b : Bool). b && every insertable l) (sym e)

none_real : every insertable [] ≡ true
unfolding every
none_real = refl

pub reals_end : (r : List (List ℕ)) (i : ℕ) → length r ≤ i → every insertable (spans (drop i r)) ≡ true
reals_end r i h = ap (λ (q : List (List ℕ)). every insertable (spans q)) (drop_of_length-le r {i = i} h) ∙ none_real
