-- a delete and an update keep a store well formed: ids, origins and their order stay
use Prim.Native.Nat.{ℕ, zero, suc, ◌≤◌}
use mathlib.Core.Path.{◌≡◌, refl, sym, ap, subst, ◌∙◌}
use mathlib.Core.Bool.{Bool, true, false, cond}
use mathlib.Core.List.{List, [], ◌∷◌, ◌++◌}
use native.Mathlib.Omega.{arith}
use lib.Dec.{leb, eqb}
use lib.IntN.{ℤ}
use lib.ListN.{length}
use lib.Signed.{le_z}
use borrow.Author.Tests.{leb-true, eqb-true, eqb-false}
use Rattle.span.specs.declared.ids.Id.{Id}
use Rattle.std.specs.Prelude.{Some as At}
use Rattle.span.specs.declared.span.FugueSpan.{FugueSpan}
use Rattle.span.specs.Ids.{inc_id, room_opt}
use Rattle.span.specs.Status.{activated}
use Rattle.span.specs.Span.{len_span, span_code}
use Rattle.span.specs.Units.{expand, join}
use Rattle.span.proofs.Unique.{AllUnits, join-expand}
use Rattle.rope.specs.Maybe.{DeleteAnswer}
use Rattle.units.specs.Limits.{fits}
use Rattle.units.specs.Place.{front, behind}
use Rattle.units.specs.Store.{count, room, spans_of, well_formed, is_state}
use Rattle.units.specs.declared.change.SetFuture.{SetFuture}
use Rattle.units.specs.Change.{with_state, delete_unit, delete_first, delete_units, pieces, in_range, update_unit, update_units}
use Rattle.units.specs.Codes.{unless, holds_all, counts_fit, update_code}
use Rattle.rope.specs.Edits.{Edited}
use Rattle.rope.specs.Deletions.{out_rows, delete_number, delete_list, Deleted}
use Rattle.rope.specs.Updated.{update_number, update_list}
use Rattle.rope.proofs.WellFormed.{formed_of}
use Rattle.rope.proofs.States.{state_of}
use Rattle.rope.proofs.Entering.{state_formed}
use Rattle.rope.proofs.Streaming.{units_append}
use Rattle.rope.proofs.Cuts.{less_room, next_room}
use Rattle.rope.proofs.Queue.{deleted_ok, updated_ok}
use Rattle.rope.proofs.Updating.{len_updated}
use Rattle.rope.proofs.Keeps.{units_ok, join_formed, count_spans, edited_state}
use Rattle.rope.proofs.Alikes.{Alike, alike_ok}
use Rattle.rope.proofs.Deletion.{code_rest, free_of, front-behind, empty_units}
use Rattle.rope.proofs.Deletion as Deletion
use Rattle.rope.proofs.Ranges.{empty_update}
use Rattle.rope.proofs.Updated as Updated

-- ---- update

module _ (f : SetFuture) (k : ℤ) where
  unit_alike : (diff : Bool) (u : FugueSpan) → (u.id ≡ (update_unit f k diff u).id) × ((u.origin_left ≡ (update_unit f k diff u).origin_left) × (u.origin_right ≡ (update_unit f k diff u).origin_right))
  unfolding update_unit with_state
  unit_alike true u = (refl, (refl, refl))
  unit_alike false u = (refl, (refl, refl))

  module _ (diff : Bool) (p : ℕ) (a b : ℤ) where
    abbrev new : List FugueSpan → List FugueSpan
    new = update_units p a b f k diff

    update_alike : (us : List FugueSpan) → Alike us (new us)
    unfolding Alike update_units
    update_alike [] = tt
    update_alike (u ∷ us) = (go (in_range p a b u), update_alike us)
      where
        go : (t : Bool) → (u.id ≡ (cond t (update_unit f k diff u) u).id) × ((u.origin_left ≡ (cond t (update_unit f k diff u) u).origin_left) × (u.origin_right ≡ (cond t (update_unit f k diff u) u).origin_right))
        go true = unit_alike diff u
        go false = (refl, (refl, refl))

    update_units_lem : (us : List FugueSpan) → AllUnits us → AllUnits (new us)
    unfolding AllUnits update_units
    update_units_lem [] w = tt
    update_units_lem (u ∷ us) w = (ok (in_range p a b u), (one (in_range p a b u), update_units_lem us w.1.1))
      where
        ok : (t : Bool) → span_code (cond t (update_unit f k diff u) u) ≡ 0
        ok true = updated_ok f k diff u w.0
        ok false = w.0

        one : (t : Bool) → len_span (cond t (update_unit f k diff u) u) ≡ 1
        one true = len_updated f k diff u ∙ w.1.0
        one false = w.1.0

    pub update_keeps : (l : List FugueSpan) → well_formed l ≡ true → well_formed (join (new (expand l))) ≡ true
    update_keeps l e =
        let w = units_ok l e in
        join_formed (new (expand l)) (alike_ok (expand l) (new (expand l)) w (update_alike (expand l)) (update_units_lem (expand l) w.each))

    update_length : (most : ℕ) (l : List FugueSpan) → well_formed l ≡ true → length l ≤ most → update_code most l p a b f k diff ≡ 0 → length (join (new (expand l))) ≤ most
    unfolding update_code fits
    update_length most l e low z = go (le_z b a) (holds_all p a b (expand l)) (leb (length (join (new (expand l)))) most) refl refl (rw e at z)
      where
        go : (x y w : Bool) → le_z b a ≡ x → leb (length (join (new (expand l)))) most ≡ w → cond x 0 (unless y 6 (unless w 10 (unless (counts_fit p a b k diff (expand l)) 11 0))) ≡ 0 → length (join (new (expand l))) ≤ most
        go true y w h q r = let s : join (new (expand l)) ≡ l = ap join (empty_update p a b f k diff h (expand l)) ∙ join-expand l (formed_of l e).joined in omega (arith, low, ap length s)
        go false true true h q r = leb-true (length (join (new (expand l)))) most q
        go false false w h q r = absurd (omega arith)
        go false true false h q r = absurd (omega arith)

    pub update_state : (s t : List ℕ) (r : ℕ) → is_state s ≡ true → length t ≡ length s → Edited (update_number s p a b f k diff) (update_list s p a b f k diff) r s t → is_state t ≡ true
    update_state s t r st len v =
        let w = state_formed s st (count s) refl in
        edited_state (update_number s p a b f k diff) (update_list s p a b f k diff) r s t st len
        (λ e. (update_keeps (spans_of s) w, update_length (room s) (spans_of s) w (omega (arith, count_spans s, (state_of s st).fits)) (Updated.number_state s p a b f k diff st ∙ e))) v

-- ---- delete

alike_same : (us vs ws : List FugueSpan) → Alike vs ws → Alike (us ++ vs) (us ++ ws)
unfolding Alike
alike_same [] vs ws a = a
alike_same (u ∷ us) vs ws a = ((refl, (refl, refl)), alike_same us vs ws a)

alike_refl : (us : List FugueSpan) → Alike us us
unfolding Alike
alike_refl [] = tt
alike_refl (u ∷ us) = ((refl, (refl, refl)), alike_refl us)

first_alike : (us : List FugueSpan) (n : ℕ) (i : Id) → Alike us (delete_first us n i)
unfolding Alike delete_first delete_unit with_state
first_alike [] n i = tt
first_alike (u ∷ us) zero i = ((refl, (refl, refl)), alike_refl us)
first_alike (u ∷ us) (suc n) i = go (activated u.status) (first_alike us n (inc_id i 1)) (first_alike us (suc n) i)
  where
    go : (t : Bool) → Alike us (delete_first us n (inc_id i 1)) → Alike us (delete_first us (suc n) i) → Alike (u ∷ us) (cond t (delete_unit i u ∷ delete_first us n (inc_id i 1)) (u ∷ delete_first us (suc n) i))
    go true a b = ((refl, (refl, refl)), a)
    go false a b = ((refl, (refl, refl)), b)

len_deleted : (i : Id) (u : FugueSpan) → len_span (delete_unit i u) ≡ len_span u
unfolding delete_unit with_state
len_deleted i u = refl

first_units : (us : List FugueSpan) (n : ℕ) (i : Id) → room_opt (At i) n ≡ true → AllUnits us → AllUnits (delete_first us n i)
unfolding AllUnits delete_first
first_units [] n i r w = tt
first_units (u ∷ us) zero i r w = w
first_units (u ∷ us) (suc n) i r w =
    go (activated u.status) (first_units us n (inc_id i 1) (next_room i (suc n) r 1 n (omega arith)) w.1.1) (first_units us (suc n) i r w.1.1)
  where
    one : room_opt (At i) (len_span u) ≡ true
    one = less_room i (suc n) r (len_span u) (omega (arith, w.1.0))

    go : (t : Bool) → AllUnits (delete_first us n (inc_id i 1)) → AllUnits (delete_first us (suc n) i) → AllUnits (cond t (delete_unit i u ∷ delete_first us n (inc_id i 1)) (u ∷ delete_first us (suc n) i))
    go true a b = (deleted_ok i u w.0 one, (len_deleted i u ∙ w.1.0, a))
    go false a b = (w.0, (w.1.0, b))

split_units : (us vs : List FugueSpan) → AllUnits (us ++ vs) → AllUnits us × AllUnits vs
unfolding AllUnits
split_units [] vs w = (tt, w)
split_units (u ∷ us) vs w = let r = split_units us vs w.1.1 in ((w.0, (w.1.0, r.0)), r.1)

pub delete_keeps : (at len : ℕ) (start : Id) (l : List FugueSpan) → room_opt (At start) len ≡ true → well_formed l ≡ true → well_formed (join (delete_units at len start (expand l))) ≡ true
unfolding delete_units
delete_keeps at len start l r e =
    let us = expand l in
    let w = units_ok l e in
    let h = split_units (front us at) (behind us at) (subst AllUnits (sym (front-behind us at)) w.each) in
    join_formed (delete_units at len start us)
    (alike_ok us (delete_units at len start us) w
    (subst (λ (vs : List FugueSpan). Alike vs (front us at ++ delete_first (behind us at) len start)) (front-behind us at) (alike_same (front us at) (behind us at) (delete_first (behind us at) len start) (first_alike (behind us at) len start)))
    (units_append (front us at) (delete_first (behind us at) len start) h.0 (first_units (behind us at) len start r h.1)))

module _ (s o : List ℕ) (at len : ℕ) (start : Id) (reversed : Bool) (st : is_state s ≡ true) where
  formed : well_formed (spans_of s) ≡ true
  formed = state_formed s st (count s) refl

  delete_fits : delete_number s o at len start reversed ≡ 0 → (well_formed (delete_list s at len start) ≡ true) × (length (delete_list s at len start) ≤ room s)
  delete_fits z = go (eqb len 0) refl
    where
      go : (t : Bool) → eqb len 0 ≡ t → (well_formed (delete_list s at len start) ≡ true) × (length (delete_list s at len start) ≤ room s)
      go true q =
          let same : delete_list s at len start ≡ spans_of s = ap (λ (n : ℕ). join (delete_units at n start (expand (spans_of s)))) (eqb-true len 0 q) ∙ (ap join (empty_units at start (expand (spans_of s))) ∙ join-expand (spans_of s) (formed_of (spans_of s) formed).joined) in
          (ap well_formed same ∙ formed, omega (arith, ap length same, count_spans s, (state_of s st).fits))
      go false q =
          let w = free_of (room s) (length (out_rows o)) (spans_of s) (record { at = at; len = len; start = start }) reversed
          (sym (code_rest (room s) (out_rows o) (spans_of s) (record { at = at; len = len; start = start }) reversed formed (eqb-false len 0 q)) ∙ (sym (Deletion.number_state s o at len start reversed st) ∙ z))
          in
          (delete_keeps at len start (spans_of s) w.ids formed, w.fit)

  pub delete_state : (t p : List ℕ) (r : DeleteAnswer) → length t ≡ length s → Deleted (delete_number s o at len start reversed) (delete_list s at len start) (pieces (spans_of s) at len reversed) r s o t p → is_state t ≡ true
  delete_state t p r long v =
      edited_state (delete_number s o at len start reversed) (delete_list s at len start) (delete_number s o at len start reversed) s t st long delete_fits v.store.edited
