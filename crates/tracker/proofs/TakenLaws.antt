-- The loop over edits that asks whether their targets fit the list.
use Prim.Native.Nat.{ℕ, suc, ◌+◌, ◌-◌, ◌*◌, ◌<◌, ◌≤◌}
use mathlib.Core.Path.{◌≡◌, refl, sym, ap, ap₂, subst, ◌∙◌}
use mathlib.Core.Bool.{Bool, true, false, ◌&&◌, ◌||◌, true≢false, false≢true}
use mathlib.Core.List.{List, [], ◌∷◌}
use native.Mathlib.Omega.{arith}
use native.Mathlib.Nat.{zero-add}
use lib.Dec.{eqb}
use lib.IntN.{ℤ, pos, ◌+ℤ◌}
use lib.ListN.{length, take, drop, length-drop}
use lib.Seq.{drop-drop, take_all}
use borrow.Author.Tests.{le-leb}
use Rattle.span.specs.declared.ids.Id.{Id}
use Rattle.std.specs.Prelude.{Some as At}
use Rattle.span.specs.declared.span.FugueSpan.{FugueSpan}
use Rattle.span.specs.Ids.{inc_id, room, room_of}
use Rattle.span.specs.Span.{len_span, span_code}
use Rattle.span.specs.Units.{units_of, expand}
use Rattle.span.proofs.IdsLaws.{roomy}
use Rattle.span.proofs.SpanLaws.{span_ok}
use Rattle.store.specs.Row.{rows}
use Rattle.store.proofs.Laws.{length-rows}
use Rattle.rope.specs.Maybe.{Offset}
use Rattle.std.specs.Prelude.{Some, None}
use Rattle.units.specs.Lists.{every}
use Rattle.units.specs.Place.{mem_id}
use Rattle.rope.specs.Spans.{offset_of, is_at, covered, AllOk, Stored}
use Rattle.rope.proofs.Lists.{mem_append}
use Rattle.rope.proofs.Offsets.{unit_off, covers_units}
use Rattle.rope.proofs.WellFormed.{formed_of}
use Rattle.history.specs.Edit.{Act, Range, Held}
use Rattle.history.specs.Valid.{total, act_length, targets_fit}
use Rattle.tracker.specs.Rows.{ranges, edit_in, took_in, held, used}
use Rattle.tracker.specs.Follow.{ids_in, ids_of, in_order, well_ranges, took_fits}
use Rattle.tracker.proofs.TargetsLaws.{targets_law}

-- ---------------------------------------------------------------- a part of a buffer, as it is lent

pub part_is : (s : List ℕ) (a : ℕ) → take (length s - a) (drop a s) ≡ drop a s
part_is s a = take_all (length s - a) (drop a s) (rw length-drop (omega arith))

pub part_length : (s : List ℕ) (a : ℕ) → length (take (length s - a) (drop a s)) ≡ length s - a
part_length s a = ap length (part_is s a) ∙ length-drop a s

-- ---------------------------------------------------------------- the ids of a well formed list

room_one : (z : ℤ) (d n : ℕ) → d < n → room z n ≡ true → room (z +ℤ pos d) 1 ≡ true
room_one z d n h r = let w = roomy z n r in go w.at w.is w.ends
  where
    go : (c : ℕ) → z ≡ pos c → c + n ≤ 2147483647 → room (z +ℤ pos d) 1 ≡ true
    go c e l = (unfold room in ap (λ (y : ℤ). room (y +ℤ pos d) 1) e ∙ le-leb (c + d + 1) 2147483647 (omega arith))

unit_room : (s : FugueSpan) → span_code s ≡ 0 → (i : Id) → mem_id (At i) (units_of s) ≡ true → room_of i 1 ≡ true
unfolding covered
unit_room s ok i e = go (offset_of s (At i)) refl (sym (covers_units s ok (At i)) ∙ e)
  where
    at : (d : ℕ) → d < len_span s → i ≡ inc_id s.id d → room i.counter 1 ≡ true
    at d h q = ap (λ (z : Id). room z.counter 1) q ∙ (unfold inc_id in room_one s.id.counter d (len_span s) h (span_ok s ok).own)

    go : (f : Offset) → offset_of s (At i) ≡ f → is_at (offset_of s (At i)) ≡ true → room i.counter 1 ≡ true
    go None p q = absurd (true≢false (sym q ∙ ap is_at p))
    go (Some d) p q = let w = unit_off s ok (At i) d p in let z : i ≡ inc_id s.id d = cc in at d w.0 z

list_room : (l : List FugueSpan) → AllOk l → (i : Id) → mem_id (At i) (expand l) ≡ true → room_of i 1 ≡ true
unfolding AllOk expand
list_room [] ok i e = absurd (false≢true (unfold mem_id in e))
list_room (s ∷ l) ok i e = go (list_room l ok.1 i) (mem_id (At i) (units_of s)) refl (sym (mem_append (At i) (units_of s) (expand l)) ∙ e)
  where
    go : (mem_id (At i) (expand l) ≡ true → room_of i 1 ≡ true) → (b : Bool) → mem_id (At i) (units_of s) ≡ b → (mem_id (At i) (units_of s) || mem_id (At i) (expand l)) ≡ true → room_of i 1 ≡ true
    go ih true p q = unit_room s ok.0 i p
    go ih false p q = ih (ap (λ (b : Bool). b || mem_id (At i) (expand l)) (sym p) ∙ q)

module _ (n : ℕ) (s : List ℕ) (w : Stored n s) where
  pub stored_ok : AllOk (rows n s)
  stored_ok = (formed_of (rows n s) w.formed).each

  pub stored_few : n ≤ 65536
  stored_few = subst (λ (k : ℕ). k ≤ 65536) (length-rows n s) (formed_of (rows n s) w.formed).few

  pub stored_units : length (expand (rows n s)) ≤ 65536
  stored_units = (formed_of (rows n s) w.formed).units

  pub fits_law : (x : Held) → targets_fit (expand (rows n s)) x ≡ took_fits (expand (rows n s)) x.edit.act x.took
  unfolding targets_fit took_fits
  fits_law x = ap (λ (b : Bool). eqb (total x.took) (act_length x.edit.act) && b) (targets_law (expand (rows n s)) (formed_of (rows n s) w.formed).distinct (list_room (rows n s) stored_ok) x.took)

-- took_fits, by its tests
pub took_by : (us : List FugueSpan) (a : Act) (rs : List Range) (p q r : Bool) → eqb (total rs) (act_length a) ≡ p → well_ranges rs ≡ q → in_order (ids_in rs) (ids_of us) ≡ r → (p && (q && r)) ≡ took_fits us a rs
unfolding took_fits
took_by us a rs p q r x y z = rw (x, y, z)

-- ---------------------------------------------------------------- the loop

-- i edits are asked, with `at` ranges
pub record Taking (n : ℕ) (s : List ℕ) (h : ℕ) (e t : List ℕ) (i at : ℕ) : Type 0 where
  pub low : i ≤ h
  pub ranged : used h e ≡ at + used (h - i) (drop (i * 256) e)
  pub same : every (targets_fit (expand (rows n s))) (held h e t) ≡ every (targets_fit (expand (rows n s))) (held (h - i) (drop (i * 256) e) (drop (at * 16) t))

pub taking_start : (n : ℕ) (s : List ℕ) (h : ℕ) (e t : List ℕ) → Taking n s h e t 0 0
taking_start n s h e t =
    let z : h - 0 ≡ h = omega arith in
    record {
      low = omega arith;
      ranged = ap (λ (m : ℕ). used m e) (sym z) ∙ sym (zero-add (used (h - 0) e));
      same = ap (λ (m : ℕ). every (targets_fit (expand (rows n s))) (held m e t)) (sym z);
    }

one_less : (h i : ℕ) → i < h → h - i ≡ suc (h - (i + 1))
one_less h i l = omega arith

next_row : (i : ℕ) → i * 256 + 256 ≡ (i + 1) * 256
next_row i = omega arith

next_range : (a m : ℕ) → a * 16 + m * 16 ≡ (a + m) * 16
next_range a m = omega arith

module _ (n : ℕ) (s : List ℕ) (h : ℕ) (e t : List ℕ) (w : Stored n s) (i at : ℕ) (v : Taking n s h e t i at) where
  pub taking_done : h ≤ i → every (targets_fit (expand (rows n s))) (held h e t) ≡ true
  unfolding held every
  taking_done l = let z : h - i ≡ 0 = omega arith in v.same ∙ ap (λ (m : ℕ). every (targets_fit (expand (rows n s))) (held m (drop (i * 256) e) (drop (at * 16) t))) z

  module _ (l : i < h) where
    -- the ranges of the edit in row i
    pub taking_used : used h e ≡ at + (took_in (drop (i * 256) e) + used (h - (i + 1)) (drop ((i + 1) * 256) e))
    unfolding used
    taking_used = v.ranged ∙ ap (λ (k : ℕ). at + k) (ap (λ (m : ℕ). used m (drop (i * 256) e)) (one_less h i l)
        ∙ ap (λ (d : List ℕ). took_in (drop (i * 256) e) + used (h - (i + 1)) d) (drop-drop 256 (i * 256) e ∙ ap (λ (k : ℕ). drop k e) (next_row i)))

    -- the edit in row i, and those after it
    split : every (targets_fit (expand (rows n s))) (held h e t)
        ≡ (took_fits (expand (rows n s)) (edit_in (drop (i * 256) e)).act (ranges (took_in (drop (i * 256) e)) (drop (at * 16) t))
        && every (targets_fit (expand (rows n s))) (held (h - (i + 1)) (drop ((i + 1) * 256) e) (drop ((at + took_in (drop (i * 256) e)) * 16) t)))
    unfolding held every
    split =
        v.same ∙ (ap (λ (m : ℕ). every (targets_fit (expand (rows n s))) (held m (drop (i * 256) e) (drop (at * 16) t))) (one_less h i l)
        ∙ ap₂ ◌&&◌ (fits_law n s w (record { edit = edit_in (drop (i * 256) e); took = ranges (took_in (drop (i * 256) e)) (drop (at * 16) t) }))
        (ap₂ (λ (d u : List ℕ). every (targets_fit (expand (rows n s))) (held (h - (i + 1)) d u)) (drop-drop 256 (i * 256) e ∙ ap (λ (k : ℕ). drop k e) (next_row i))
        (drop-drop (took_in (drop (i * 256) e) * 16) (at * 16) t ∙ ap (λ (k : ℕ). drop k t) (next_range at (took_in (drop (i * 256) e))))))

    module _ (m : ℕ) (a : Act) (b : Bool) (em : m ≡ took_in (drop (i * 256) e)) (ea : a ≡ (edit_in (drop (i * 256) e)).act) (eb : b ≡ took_fits (expand (rows n s)) a (ranges m (drop (at * 16) t))) where
      test : took_fits (expand (rows n s)) (edit_in (drop (i * 256) e)).act (ranges (took_in (drop (i * 256) e)) (drop (at * 16) t)) ≡ b
      test = sym (eb ∙ ap₂ (λ (x : Act) (k : ℕ). took_fits (expand (rows n s)) x (ranges k (drop (at * 16) t))) ea em)

      pub taking_stop : b ≡ false → every (targets_fit (expand (rows n s))) (held h e t) ≡ false
      taking_stop z = split ∙ ap (λ (x : Bool). x && every (targets_fit (expand (rows n s))) (held (h - (i + 1)) (drop ((i + 1) * 256) e) (drop ((at + took_in (drop (i * 256) e)) * 16) t))) (test ∙ z)

      pub taking_next : b ≡ true → Taking n s h e t (i + 1) (at + m)
      taking_next z =
          record {
            low = omega arith;
            ranged = omega (arith, taking_used, em);
            same = split ∙ (ap (λ (x : Bool). x && every (targets_fit (expand (rows n s))) (held (h - (i + 1)) (drop ((i + 1) * 256) e) (drop ((at + took_in (drop (i * 256) e)) * 16) t))) (test ∙ z)
                ∙ ap (λ (k : ℕ). every (targets_fit (expand (rows n s))) (held (h - (i + 1)) (drop ((i + 1) * 256) e) (drop ((at + k) * 16) t))) (sym em));
          }
