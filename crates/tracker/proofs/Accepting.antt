-- an edit that is not refused: the list at its context, what it does there, and the history afterwards
use Prim.Native.Nat.{ℕ, zero, suc, ◌+◌, ◌-◌, ◌*◌, ◌/◌, ◌<◌, ◌≤◌, min}
use mathlib.Core.Path.{◌≡◌, refl, sym, ap, ap₂, subst, ◌∙◌}
use mathlib.Core.Bool.{Bool, true, false, not, cond, ◌&&◌, ◌||◌, and-eq-true_iff}
use mathlib.Core.List.{List, [], ◌∷◌, ◌++◌, map}
use native.Mathlib.Omega.{arith}
use lib.Dec.{eqb, leb, ltb}
use lib.ListN.{length, take, drop, length-drop, length-append}
use lib.Seq.{drop-drop}
use borrow.Author.Tests.{eq-eqb, ne_eqb, leb-true, le-leb, ltb-true}
use Rattle.span.specs.declared.ids.Id.{Id}
use Rattle.std.specs.Prelude.{Some as At}
use Rattle.span.specs.declared.chunk.RichtextChunk.{RichtextChunk}
use Rattle.span.specs.declared.span.FugueSpan.{FugueSpan}
use Rattle.span.specs.Ids.{UNKNOWN_PEER, inc_id}
use Rattle.span.specs.Span.{new_span, len_span, span_code}
use Rattle.span.specs.Units.{expand, join}
use Rattle.store.specs.Row.{rows}
use Rattle.store.specs.Header.{count, room, spans_of}
use Rattle.store.proofs.Laws.{length-rows}
use Rattle.units.specs.Limits.{ROWS, UNITS, EDITS, fits}
use Rattle.units.specs.Store.{well_formed, is_state}
use Rattle.units.specs.Codes.{unless, holds_some, insert_code}
use Rattle.units.specs.Place.{shown, insert_units, mem_id}
use Rattle.units.specs.Change.{delete_units}
use Rattle.rope.specs.Spans.{Fresh}
use Rattle.rope.specs.Edits.{WrittenIn, insert_first}
use Rattle.rope.proofs.Admits.{code_done, first_0}
use Rattle.span.proofs.IdsLaws.{inc_zero, inc_inc}
use Rattle.rope.proofs.States.{part, state_rows}
use Rattle.rope.proofs.Entering.{rows_are, state_head}
use Rattle.history.specs.Edit.{Version, Act, Insert, Delete, Edit, Range, Held, History}
use Rattle.history.specs.Checkout.{unit_at, units_at}
use Rattle.history.specs.Arrive.{act_list, act_took, hold, arrive}
use Rattle.history.specs.Valid.{edit_code, target_list, valid}
use Rattle.history.specs.Codes.{on_units, stored, inside, made, arrival_fits, arrive_code}
use Rattle.history.specs.Run.{arrive_rest}
use Rattle.history.proofs.Runs.{rest_code}
use Rattle.history.proofs.ArriveValid.{ArriveOk, arrive_ok, arrived_valid}
use Rattle.history.proofs.Arriving.{at_formed, at_expand, new_ok, new_known, new_fresh_at, new_low, new_few, gone_some, gone_ids, gone_low}
use Rattle.tracker.specs.declared.row.Head.{Head}
use Rattle.tracker.specs.declared.row.Does.{Does}
use Rattle.tracker.specs.declared.row.Does.TheVariants as Do
use Rattle.tracker.specs.Rows.{to_act, to_edit, pairs, ranges, pairs_in, context_in, edit_in, held, used, target_room, edit_count, placeholder_in, history_in, is_history, EDIT_BYTES}
use Rattle.tracker.specs.Looks.{Sees, unit_seen, seen}
use Rattle.tracker.specs.Targets.{targets_of}
use Rattle.tracker.specs.Entries.{Beside, Leaves, arrive_number, arrived, Stands}
use Rattle.tracker.specs.Arrivals.{units_seen, delete_of, does_list, does_took, CanTake, Ranged, Logged}
use Rattle.tracker.proofs.Logs.{length-held, length-ranges, targets_held, held_cong}
use Rattle.tracker.proofs.Leaving.{Well, well_of, history_well, leaves_refused, leaves_done}
use Rattle.tracker.proofs.Checking.{edit_rows, edit_rows_lem, held_are, well_rows, well_looks, well_stored, used_are, room_same, target_long}
use Rattle.tracker.proofs.Refusing.{row_version, units_is, row_fits, row_few}

-- ---- what the tests of 10 say

module _ (spans targets : ℕ) (h : History) (e : Edit) (f : arrival_fits spans targets h e ≡ true) where
  record FitsAll : Type 0 where
    units : length h.list + made e.act ≤ UNITS
    at : length (join (units_at e.context h)) ≤ spans
    after : length (join (act_list e.act e (units_at e.context h))) ≤ spans
    ranges : length (target_list h.held ++ act_took e.act e (units_at e.context h)) ≤ targets

  fits_all : FitsAll
  unfolding arrival_fits fits
  fits_all =
      let a = (and-eq-true_iff (leb (length h.list + made e.act) UNITS) _).0 f in
      let b = (and-eq-true_iff (leb (length (join (units_at e.context h))) spans) _).0 a.1 in
      let c = (and-eq-true_iff (leb (length (join (act_list e.act e (units_at e.context h)))) spans) _).0 b.1 in
      record { units = leb-true _ _ a.0; at = leb-true _ _ b.0; after = leb-true _ _ c.0; ranges = leb-true _ _ c.1 }

one_plus : (k : ℕ) → 1 + k ≡ suc k
one_plus k = omega arith

-- new ids are not in the list
fresh_none : (n : ℕ) (i : Id) (l : List FugueSpan) → ((k : ℕ) → k < n → mem_id (At (inc_id i k)) l ≡ false) → holds_some n i l ≡ false
unfolding holds_some
fresh_none zero i l f = refl
fresh_none (suc n) i l f = ap₂ ◌||◌ (ap (λ (j : Id). mem_id (At j) l) (sym (inc_zero i)) ∙ f 0 (omega arith)) (fresh_none n (inc_id i 1) l (λ (k : ℕ) (q : k < n). ap (λ (j : Id). mem_id (At j) l) (inc_inc i 1 k ∙ ap (inc_id i) (one_plus k)) ∙ f (suc k) (omega (arith, q))))

-- ---- an edit of a row that is not refused, in a well formed history

module _ (s t e row : List ℕ) (w : is_history s t e ≡ true) (long : 256 ≤ length row) (z : arrive_rest (room s) (target_room t) (history_in s t e) (edit_in row) ≡ 0) where
  abbrev H : History
  H = history_in s t e

  abbrev X : Edit
  X = edit_in row

  well : Well s t e
  well = well_of s t e w

  ok : ArriveOk (room s) (target_room t) H X
  ok = arrive_ok (room s) (target_room t) H X (rest_code (room s) (target_room t) H well.valid X ∙ z)

  fit : FitsAll (room s) (target_room t) (on_units H) X ok.fits
  fit = fits_all (room s) (target_room t) (on_units H) X ok.fits

  abbrev us : List FugueSpan
  us = units_at X.context (on_units H)

  -- ---- the list goes to the context

  module _ (h : ℕ) (eh : h ≡ edit_count e) (n : ℕ) (en : n ≡ count s) (m : ℕ) (em : m ≡ pairs_in row) where
    abbrev v : List ℕ
    v = row_version row

    shown_is : units_seen n (part s) h (edit_rows e) t m v ≡ us
    shown_is = units_is s t e row w long h eh ok.edit m em n en

    pub go_sees : Sees n (part s) h (edit_rows e) t m v m v
    go_sees = let l = well_looks s t e w h eh m v (row_fits s t e row w long h eh ok.edit m em) in record { stored = well_stored s t e w n en; first = l; second = l }

    module _ (k : ℕ) (ek : k ≡ length (join (seen false (pairs m v) (pairs m v) (held h (edit_rows e) t) (expand (rows n (part s)))))) where
      spans_are : rows n (part s) ≡ spans_of s
      spans_are = rows_are s well.state n en

      store_is : join (seen false (pairs m v) (pairs m v) (held h (edit_rows e) t) (expand (spans_of s))) ≡ join us
      store_is = ap (λ (l : List FugueSpan). join (seen false (pairs m v) (pairs m v) (held h (edit_rows e) t) (expand l))) (sym spans_are) ∙ ap join shown_is

      pub go_stands : Stands false n k s h (edit_rows e) t m v m v
      go_stands =
          record {
            state = well.state;
            rows = en;
            first = go_sees.first;
            second = go_sees.second;
            counted = ek ∙ ap (λ (l : List FugueSpan). length (join (seen false (pairs m v) (pairs m v) (held h (edit_rows e) t) (expand l)))) spans_are;
            room = omega (arith, ek, ap length (ap join shown_is), fit.at);
          }

      pub go_done : (u : List ℕ) → WrittenIn (join (seen false (pairs m v) (pairs m v) (held h (edit_rows e) t) (expand (spans_of s)))) s u → WrittenIn (join us) s u
      go_done u x = subst (λ (l : List FugueSpan). WrittenIn l s u) store_is x

  -- ---- what it does there

  module _ (s1 : List ℕ) (len : length s1 ≡ length s) (g : WrittenIn (join us) s s1) where
    units1 : expand (spans_of s1) ≡ us
    units1 = ap expand g.written.list ∙ at_expand (room s) (target_room t) H well.valid X.context

    formed1 : well_formed (spans_of s1) ≡ true
    formed1 = ap well_formed g.written.list ∙ at_formed (room s) (target_room t) H well.valid X.context

    room1 : room s1 ≡ room s
    room1 = room_same s s1 len

    state1 : is_state s1 ≡ true
    state1 = state_rows s1 (omega (arith, len, state_head s well.state)) (omega (arith, room1, count_is, ap length g.written.list, fit.at)) ∙ formed1
      where
        count_is : length (spans_of s1) ≡ count s1
        count_is = unfold spans_of in length-rows (count s1) (drop 72 s1)

    module _ (h : ℕ) (eh : h ≡ edit_count e) (had : ℕ) (ea : had ≡ used h (edit_rows e)) (x : Head) (ex : to_edit x (context_in row) ≡ X) where
      abbrev Y : Edit
      Y = to_edit x (context_in row)

      us_y : us ≡ units_at Y.context (on_units H)
      us_y = ap (λ (q : Edit). units_at q.context (on_units H)) (sym ex)

      ok_y : ArriveOk (room s) (target_room t) H Y
      ok_y = subst (ArriveOk (room s) (target_room t) H) (sym ex) ok

      fit_y : FitsAll (room s) (target_room t) (on_units H) Y ok_y.fits
      fit_y = fits_all (room s) (target_room t) (on_units H) Y ok_y.fits

      units_y : expand (spans_of s1) ≡ units_at Y.context (on_units H)
      units_y = units1 ∙ us_y

      had_is : length (target_list H.held) ≡ had
      unfolding history_in
      had_is = ap length (targets_held (edit_count e) (drop 64 e) t) ∙ (length-ranges (used (edit_count e) (drop 64 e)) t ∙ (sym (used_are s t e w h eh) ∙ sym ea))

      pub can_take : (a : Does) → Y.act ≡ to_act a → CanTake s1 t had x.id x.at a
      unfolding act_list act_took on_units Fresh
      can_take (Do.Insert lam c) q =
          let new = new_span x.id lam c in
          let few : length (units_at Y.context (on_units H)) + len_span new ≤ UNITS = new_few (room s) (target_room t) H well.valid Y lam c q ok_y.edit fit_y.units in
          let low : x.at ≤ shown (units_at Y.context (on_units H)) = new_low (room s) (target_room t) H well.valid Y lam c q ok_y.edit ok_y.inside in
          let none : holds_some (len_span new) new.id (expand (spans_of s1)) ≡ false = fresh_none (len_span new) new.id (expand (spans_of s1)) (subst (Fresh new) (sym units_y) (new_fresh_at (room s) (target_room t) H well.valid Y lam c q ok_y.edit Y.context)) in
          let after : length (join (insert_units x.at new (units_at Y.context (on_units H)))) ≤ room s = subst (λ (a : Act). length (join (act_list a Y (units_at Y.context (on_units H)))) ≤ room s) q fit_y.after in
          record {
            state = state1;
            fine = new_ok (room s) (target_room t) H well.valid Y lam c q ok_y.edit;
            taken = code_done (room s1) (spans_of s1) x.at new formed1 (new_ok (room s) (target_room t) H well.valid Y lam c q ok_y.edit)
                (sym (first_0 (spans_of s1) x.at new (ne_eqb new.id.peer UNKNOWN_PEER (new_known (room s) (target_room t) H well.valid Y lam c q ok_y.edit)) none (omega (arith, low, ap shown units_y)) (omega (arith, few, ap length units_y))))
                (omega (arith, room1, after, ap (λ (l : List FugueSpan). length (join (insert_units x.at new l))) units_y));
          }
      can_take (Do.Delete k reversed start) q =
          let d = delete_of x.at k start in
          let low : x.at + k ≤ shown (units_at Y.context (on_units H)) = gone_low (room s) (target_room t) H well.valid Y k reversed start q ok_y.edit ok_y.inside in
          let after : length (join (delete_units x.at k start (units_at Y.context (on_units H)))) ≤ room s = subst (λ (a : Act). length (join (act_list a Y (units_at Y.context (on_units H)))) ≤ room s) q fit_y.after in
          let many : length (target_list H.held ++ targets_of d (units_at Y.context (on_units H))) ≤ target_room t = subst (λ (a : Act). length (target_list H.held ++ act_took a Y (units_at Y.context (on_units H))) ≤ target_room t) q fit_y.ranges in
          record {
            state = state1;
            some = gone_some (room s) (target_room t) H well.valid Y k reversed start q ok_y.edit;
            ids = gone_ids (room s) (target_room t) H well.valid Y k reversed start q ok_y.edit;
            low = omega (arith, low, ap shown units_y);
            room = omega (arith, room1, after, ap (λ (l : List FugueSpan). length (join (delete_units x.at k start l))) units_y);
            ranges = omega (arith, many, length-append (target_list H.held) (targets_of d (units_at Y.context (on_units H))), had_is, ap (λ (l : List FugueSpan). length (targets_of d l)) units_y, target_long t);
          }

      -- ---- and what is left

      does_list_lem : (a : Does) (l : List FugueSpan) → does_list a x.id x.at l ≡ act_list (to_act a) Y l
      unfolding act_list
      does_list_lem (Do.Insert lam c) l = refl
      does_list_lem (Do.Delete k reversed start) l = refl

      does_took_lem : (a : Does) (l : List FugueSpan) → does_took a x.at l ≡ act_took (to_act a) Y l
      unfolding act_took
      does_took_lem (Do.Insert lam c) l = refl
      does_took_lem (Do.Delete k reversed start) l = refl

      took_is : does_took x.act x.at (expand (spans_of s1)) ≡ act_took X.act X us
      took_is = ap (does_took x.act x.at) units1 ∙ (does_took_lem x.act us ∙ ap (λ (q : Edit). act_took q.act q us) ex)

      list_is : does_list x.act x.id x.at (expand (spans_of s1)) ≡ act_list X.act X us
      list_is = ap (does_list x.act x.id x.at) units1 ∙ (does_list_lem x.act us ∙ ap (λ (q : Edit). act_list q.act q us) ex)

      module _ (r : ℕ) (t2 : List ℕ) (rg : Ranged (does_took x.act x.at (expand (spans_of s1))) had r t t2) where
        took_length : r ≡ length (act_took X.act X us)
        took_length = sym (length-ranges r (drop (had * 16) t2)) ∙ ap length (rg.ranges ∙ took_is)

        pub took_few : had + r ≤ target_room t
        unfolding on_units
        took_few = omega (arith, took_length, fit.ranges, length-append (target_list H.held) (act_took X.act X us), had_is)

        pub took_small : had + r ≤ 65536
        took_small = omega (arith, took_few, room_most)
          where
            room_most : target_room t ≤ 65536
            room_most = unfold target_room in omega arith

        pub log_asks : (EDIT_BYTES ≤ length e) × (h + 1 ≤ 2000) × (256 ≤ length row) × (pairs_in row ≤ 16)
        log_asks = (well.long, omega (arith, ltb-true (length H.held) EDITS ok.few, held_long), long, row_few s t e row w long h eh ok.edit)
          where
            held_long : length H.held ≡ h
            held_long = (let q : length H.held ≡ edit_count e = unfold history_in in length-held (edit_count e) (drop 64 e) t in q) ∙ sym eh

        module _ (s2 : List ℕ) (len2 : length s2 ≡ length s1) (lent : length t2 ≡ length t) (wr : WrittenIn (join (does_list x.act x.id x.at (expand (spans_of s1)))) s1 s2) (e2 : List ℕ) (lene : length e2 ≡ length e) (lg : Logged h row r e e2) where
          had_rows : had ≡ used h (drop 64 e)
          had_rows = ea ∙ ap (used h) (edit_rows_lem e)

          front_same : take (used h (drop 64 e) * 16) t2 ≡ take (used h (drop 64 e) * 16) t
          front_same = subst (λ (k : ℕ). take (k * 16) t2 ≡ take (k * 16) t) had_rows rg.front

          abbrev new : Held
          new = record { edit = X; took = act_took X.act X us }

          held-new : held (edit_count e2) (drop 64 e2) t2 ≡ held (edit_count e) (drop 64 e) t ++ (new ∷ [])
          held-new =
              ap (λ (k : ℕ). held k (drop 64 e2) t2) lg.count
              ∙ (lg.list t2
              ∙ ap₂ (λ (l : List Held) (q : List Range). l ++ (record { edit = X; took = q } ∷ []))
              (held_cong h (drop 64 e) (drop 64 e) t2 t refl front_same ∙ ap (λ (k : ℕ). held k (drop 64 e) t) eh)
              (ap (λ (k : ℕ). ranges r (drop (k * 16) t2)) (sym had_rows) ∙ (rg.ranges ∙ took_is)))

          after_is : history_in s2 t2 e2 ≡ arrived s t e X
          unfolding history_in arrived stored arrive hold on_units
          after_is =
              ap₂ (λ (l : List FugueSpan) (q : List Held). record { placeholder = placeholder_in e2; list = l; held = q }) (wr.written.list ∙ ap join list_is) held-new
              ∙ ap (λ (k : ℕ). record { placeholder = k; list = join (act_list X.act X us); held = held (edit_count e) (drop 64 e) t ++ (new ∷ []) }) lg.placeholder

          past_ranges : drop (ROWS * 16) t2 ≡ drop (ROWS * 16) t
          past_ranges =
              let d = ROWS * 16 - (had + r) * 16 in
              let q : ROWS * 16 ≡ (had + r) * 16 + d = omega (arith, took_small) in
              ap (λ (j : ℕ). drop j t2) q ∙ (sym (drop-drop d ((had + r) * 16) t2) ∙ (ap (drop d) rg.past ∙ (drop-drop d ((had + r) * 16) t ∙ ap (λ (j : ℕ). drop j t) (sym q))))

          number_0 : arrive_number s t e X ≡ 0
          unfolding arrive_number
          number_0 = ap (λ (b : Bool). unless b 15 (arrive_code (room s) (target_room t) H X)) w ∙ (rest_code (room s) (target_room t) H well.valid X ∙ z)

          room_t : target_room t2 ≡ target_room t
          unfolding target_room
          room_t = ap (λ (k : ℕ). min ROWS (k / 16)) lent

          valid_after : valid (room s2) (target_room t2) (history_in s2 t2 e2) ≡ true
          valid_after = ap₂ (λ (a b : ℕ). valid a b (history_in s2 t2 e2)) (room_same s s2 (len2 ∙ len)) room_t ∙ (ap (valid (room s) (target_room t)) (after_is ∙ arrived_is) ∙ arrived_valid (room s) (target_room t) H X ok)
            where
              arrived_is : arrived s t e X ≡ stored (arrive (on_units H) X)
              arrived_is = unfold arrived in refl

          pub taken_leaves : Leaves (arrive_number s t e X) (arrived s t e X) 0 s t e s2 t2 e2
          taken_leaves =
              leaves_done (arrive_number s t e X) (arrived s t e X) 0 s t e s2 t2 e2 (sym number_0) number_0 after_is
              (history_well s2 t2 e2 (omega (arith, lene, well.long)) (omega (arith, len2, len, state_head s well.state)) valid_after)
              (record { head = wr.written.head ∙ g.written.head; spans = wr.past ∙ g.past; targets = past_ranges; edits = lg.past })

-- ---- an edit that is refused

module _ (s t e : List ℕ) (x : Edit) where
  number_none : is_history s t e ≡ false → 15 ≡ arrive_number s t e x
  unfolding arrive_number
  number_none w = sym (ap (λ (b : Bool). unless b 15 (arrive_code (room s) (target_room t) (history_in s t e) x)) w)

  pub arrive_none : is_history s t e ≡ false → Leaves (arrive_number s t e x) (arrived s t e x) 15 s t e s t e
  arrive_none w = leaves_refused (arrive_number s t e x) (arrived s t e x) 15 s t e (number_none w) (λ q. omega (arith, q))

  module _ (w : is_history s t e ≡ true) (c : ℕ) (ec : c ≡ arrive_rest (room s) (target_room t) (history_in s t e) x) where
    number_rest : c ≡ arrive_number s t e x
    unfolding arrive_number
    number_rest = ec ∙ sym (ap (λ (b : Bool). unless b 15 (arrive_code (room s) (target_room t) (history_in s t e) x)) w ∙ rest_code (room s) (target_room t) (history_in s t e) (well_of s t e w).valid x)

    pub arrive_refused : (c ≡ 0 → ⊥) → Leaves (arrive_number s t e x) (arrived s t e x) c s t e s t e
    arrive_refused z = leaves_refused (arrive_number s t e x) (arrived s t e x) c s t e number_rest z
