-- what refuses the edit of a row in a well formed history: from the tests of the code to the definition
use Prim.Native.Nat.{ℕ, ◌+◌, ◌-◌, ◌*◌, ◌<◌, ◌≤◌}
use mathlib.Core.Path.{◌≡◌, refl, sym, ap, ap₂, subst, ◌∙◌}
use mathlib.Core.Bool.{Bool, true, false, cond, ◌&&◌, true≢false}
use mathlib.Core.List.{List, [], ◌∷◌, ◌++◌, map, append-nil}
use native.Mathlib.Omega.{arith}
use lib.Dec.{eqb, leb, ltb}
use lib.ListN.{length, take, drop, length-drop, length-append, length-map}
use lib.Seq.{take_all}
use borrow.Author.Tests.{eq-eqb, ne_eqb, leb-true, le-leb, lt-leb}
use Rattle.span.specs.declared.ids.Id.{Id}
use Rattle.span.specs.declared.chunk.RichtextChunk.{RichtextChunk}
use Rattle.span.specs.declared.span.FugueSpan.{FugueSpan}
use Rattle.span.specs.Span.{new_span, len_span}
use Rattle.span.specs.Chunk.{len_of}
use Rattle.span.specs.Units.{expand, join}
use Rattle.store.specs.Row.{rows}
use Rattle.store.specs.Header.{count, room, spans_of}
use Rattle.units.specs.Limits.{UNITS, EDITS, PEERS, fits}
use Rattle.units.specs.Store.{well_formed}
use Rattle.units.specs.Codes.{unless}
use Rattle.units.specs.Place.{shown, insert_units}
use Rattle.rope.specs.Spans.{Fresh}
use Rattle.units.specs.Change.{delete_units, taken}
use Rattle.rope.proofs.Entering.{rows_are, state_few}
use Rattle.rope.proofs.States.{part}
use Rattle.history.specs.Edit.{Version, Act, Insert, Delete, Edit, Range, Held, History}
use Rattle.history.specs.Version.{named}
use Rattle.history.specs.Checkout.{unit_at, units_at, ranges_of}
use Rattle.history.specs.Arrive.{act_list, act_took, list_after, took_by}
use Rattle.history.specs.Valid.{edit_code, edits_fit, target_list, valid}
use Rattle.history.specs.Codes.{on_units, or_else, inside, made, arrival_fits}
use Rattle.history.specs.Run.{arrive_rest}
use Rattle.history.proofs.Sound.{sound_of, edit_ok}
use Rattle.history.proofs.Arriving.{at_formed, at_expand, at_few, new_ok, new_fresh_at, gone_ids}
use Rattle.tracker.specs.declared.row.Head.{Head}
use Rattle.tracker.specs.declared.row.Does.{Does}
use Rattle.tracker.specs.declared.row.Does.TheVariants as Do
use Rattle.tracker.specs.Rows.{to_act, to_edit, pairs, broken, pairs_in, context_in, edit_in, held, used, target_room, edit_count, history_in, is_history}
use Rattle.tracker.specs.Looks.{unit_seen, seen}
use Rattle.tracker.specs.Targets.{targets_of}
use Rattle.tracker.specs.Arrivals.{units_seen, delete_of, insert_rest, delete_rest, does_rest, CanDo, Acting}
use Rattle.tracker.proofs.Logs.{length-held, length-ranges, targets_held}
use Rattle.tracker.proofs.Leaving.{Well, well_of}
use Rattle.tracker.proofs.Checking.{edit_rows, held_are, well_rows, well_looks, well_stored, used_are}
use Rattle.tracker.proofs.Bare.{fit_any, code_any}
use Rattle.tracker.proofs.Shorts.{broken-named}

-- a row's version, as it is lent
abbrev pub row_version : List ℕ → List ℕ
row_version row = take (length row - 64) (drop 64 row)

row_version_lem : (row : List ℕ) → row_version row ≡ drop 64 row
row_version_lem row = take_all (length row - 64) (drop 64 row) (omega (arith, length-drop 64 row))

context_by : (row : List ℕ) (b : Bool) → leb (pairs_in row) PEERS ≡ b → (edit_in row).context ≡ cond b (pairs (pairs_in row) (drop 64 row)) broken
unfolding edit_in context_in
context_by row b q = ap (λ (z : Bool). cond z (pairs (pairs_in row) (drop 64 row)) broken) q

abbrev or_else_by : Bool → ℕ → ℕ → ℕ
or_else_by b code rest = cond b rest code

and-true : (b : Bool) → (b && true) ≡ b
and-true true = refl
and-true false = refl

-- ---- from 1 to 7

module _ (s t e row : List ℕ) (w : is_history s t e ≡ true) (long : 256 ≤ length row) (h : ℕ) (eh : h ≡ edit_count e) where
  abbrev H : History
  H = history_in s t e

  abbrev X : Edit
  X = edit_in row

  well : Well s t e
  well = well_of s t e w

  ok : valid (room s) (target_room t) H ≡ true
  ok = well.valid

  held_is : (u : List ℕ) → held h (edit_rows e) u ≡ held (edit_count e) (drop 64 e) u
  held_is = held_are s t e w h eh

  pub refuse_fits : (u : List ℕ) → edits_fit [] (held h (edit_rows e) u) ≡ true
  unfolding history_in
  refuse_fits u = fit_any h (edit_rows e) u t ∙ (ap (edits_fit []) (held_is t) ∙ (sound_of (room s) (target_room t) H ok).fit)

  module _ (c : ℕ) (ec : (u : List ℕ) → c ≡ edit_code (held h (edit_rows e) u) X) where
    code_is : c ≡ edit_code H.held X
    unfolding history_in
    code_is = ec t ∙ ap (λ (l : List Held). edit_code l X) (held_is t)

    pub refuse_code : (c ≡ 0 → ⊥) → c ≡ arrive_rest (room s) (target_room t) H X
    unfolding arrive_rest
    refuse_code z = code_is ∙ sym (ap (λ (b : Bool). or_else_by b (edit_code H.held X) (unless (inside X.act X.at (units_at X.context (on_units H))) 8 (unless (ltb (length H.held) EDITS) 9 (unless (arrival_fits (room s) (target_room t) (on_units H) X) 10 0)))) (ne_eqb (edit_code H.held X) 0 (λ (q : edit_code H.held X ≡ 0). z (code_is ∙ q))))

    module _ (z : c ≡ 0) where
      zero : edit_code H.held X ≡ 0
      zero = sym code_is ∙ z

      -- the context has no more pairs than there is room for
      few_pairs : pairs_in row ≤ PEERS
      few_pairs = go (leb (pairs_in row) PEERS) refl
        where
          go : (b : Bool) → leb (pairs_in row) PEERS ≡ b → pairs_in row ≤ PEERS
          go true q = leb-true (pairs_in row) PEERS q
          go false q = absurd (true≢false (sym (edit_ok H.held X zero).named ∙ (ap (named H.held) (context_broken q) ∙ broken-named H.held)))
            where
              context_broken : leb (pairs_in row) PEERS ≡ false → X.context ≡ broken
              context_broken p = context_by row false p

      module _ (m : ℕ) (em : m ≡ pairs_in row) (n : ℕ) (en : n ≡ count s) where
        abbrev v : List ℕ
        v = row_version row

        context_is : X.context ≡ pairs m v
        context_is = context_by row true (le-leb (pairs_in row) PEERS few_pairs) ∙ ap₂ pairs (sym em) (sym (row_version_lem row))

        version_fits : m * 12 ≤ length v
        version_fits = omega (arith, em, few_pairs, long, ap length (row_version_lem row), length-drop 64 row)

        abbrev us : List FugueSpan
        us = units_seen n (part s) h (edit_rows e) t m v

        us_is : us ≡ units_at X.context (on_units H)
        unfolding seen unit_seen units_at on_units history_in
        us_is =
            ap₂ (λ (a : Version) (l : List Held). map (unit_at a l) (expand (rows n (part s)))) (sym context_is) (held_is t)
            ∙ ap (λ (l : List FugueSpan). map (unit_at X.context (held (edit_count e) (drop 64 e) t)) (expand l)) (rows_are s well.state n en)

        us-length : length us ≡ length (on_units H).list
        unfolding on_units
        us-length = ap length us_is ∙ (unfold units_at in length-map (expand H.list) (unit_at X.context H.held))

        module _ (x : Head) (ex : to_edit x (context_in row) ≡ X) where
          abbrev Y : Edit
          Y = to_edit x (context_in row)

          y_code : edit_code H.held Y ≡ 0
          y_code = ap (edit_code H.held) ex ∙ zero

          us_y : us ≡ units_at Y.context (on_units H)
          us_y = us_is ∙ ap (λ (z : Edit). units_at z.context (on_units H)) (sym ex)

          can_do : (a : Does) → Y.act ≡ to_act a → CanDo us x.id a
          can_do (Do.Insert lam c) q = (new_ok (room s) (target_room t) H ok Y lam c q y_code, subst (Fresh (new_span x.id lam c)) (sym us_y) (new_fresh_at (room s) (target_room t) H ok Y lam c q y_code Y.context))
          can_do (Do.Delete k reversed start) q = gone_ids (room s) (target_room t) H ok Y k reversed start q y_code

          pub refuse_acting : (places : ℕ) → places ≡ target_room t → Acting n (part s) h (edit_rows e) t m v x places
          refuse_acting places ep =
              let l = well_looks s t e w h eh m v version_fits in
              record {
                sees = record { stored = well_stored s t e w n en; first = l; second = l };
                few = state_few s well.state n en;
                had = omega (arith, ep, used_are s t e w h eh, well.ranges);
                can = can_do x.act refl;
              }

          -- ---- 8, 9, 10

          -- as the definition has them, of units, edits, units held, and an act
          rest_of : List FugueSpan → ℕ → ℕ → Act → ℕ
          rest_of l k j a = unless (inside a x.at l) 8 (unless (ltb k EDITS) 9 (unless (leb (j + made a) UNITS && (fits (room s) (join l) && (fits (room s) (join (act_list a Y l)) && fits (target_room t) (target_list H.held ++ act_took a Y l)))) 10 0))

          held_long : length H.held ≡ h
          unfolding history_in
          held_long = length-held (edit_count e) (drop 64 e) t ∙ sym eh

          rest_is : arrive_rest (room s) (target_room t) H Y ≡ rest_of us h (length us) (to_act x.act)
          unfolding arrive_rest arrival_fits rest_of on_units history_in
          rest_is =
              ap (λ (b : Bool). cond b (rest_of (units_at Y.context (on_units H)) (length H.held) (length (on_units H).list) (to_act x.act)) (edit_code H.held Y)) (eq-eqb (edit_code H.held Y) 0 y_code)
              ∙ (ap₂ (λ (l : List FugueSpan) (k : ℕ). rest_of l k (length (on_units H).list) (to_act x.act)) (sym us_y) held_long
              ∙ ap (λ (j : ℕ). rest_of us h j (to_act x.act)) (sym us-length))

          ranges_fit : leb (length (target_list H.held ++ [])) (target_room t) ≡ true
          ranges_fit = le-leb (length (target_list H.held ++ [])) (target_room t) (omega (arith, ap length (append-nil (target_list H.held)), (sound_of (room s) (target_room t) H ok).ranges))

          had_is : length (target_list H.held) ≡ used h (edit_rows e)
          unfolding history_in
          had_is = ap length (targets_held (edit_count e) (drop 64 e) t) ∙ (length-ranges (used (edit_count e) (drop 64 e)) t ∙ sym (used_are s t e w h eh))

          units_few : leb (length us + 0) UNITS ≡ true
          units_few = le-leb (length us + 0) UNITS (omega (arith, ap length us_is, at_few (room s) (target_room t) H ok X.context))

          by_act : (a : Does) → rest_of us h (length us) (to_act a) ≡ does_rest (room s) (target_room t) h (used h (edit_rows e)) us x.id x.at a
          unfolding rest_of inside made act_list act_took insert_rest delete_rest fits new_span
          by_act (Do.Insert lam c) =
              ap (λ (f : Bool). unless (leb x.at (shown us)) 8 (unless (ltb h EDITS) 9 (unless (leb (length us + len_of c) UNITS && (leb (length (join us)) (room s) && f)) 10 0)))
              (ap (λ (f : Bool). leb (length (join (insert_units x.at (new_span x.id lam c) us))) (room s) && f) ranges_fit ∙ and-true (leb (length (join (insert_units x.at (new_span x.id lam c) us))) (room s)))
          by_act (Do.Delete k reversed start) =
              ap₂ (λ (f : Bool) (j : ℕ). unless (leb (x.at + k) (shown us)) 8 (unless (ltb h EDITS) 9 (unless (f && (leb (length (join us)) (room s) && (leb (length (join (delete_units x.at k start us))) (room s) && leb j (target_room t)))) 10 0)))
              units_few (length-append (target_list H.held) (targets_of (delete_of x.at k start) us) ∙ ap (λ (j : ℕ). j + length (targets_of (delete_of x.at k start) us)) had_is)

          pub refuse_rest : (most places r : ℕ) → most ≡ room s → places ≡ target_room t → r ≡ does_rest most places h (used h (edit_rows e)) us x.id x.at x.act → r ≡ arrive_rest (room s) (target_room t) H X
          refuse_rest most places r er ep q =
              q ∙ (ap₂ (λ (a b : ℕ). does_rest a b h (used h (edit_rows e)) us x.id x.at x.act) er ep
              ∙ (sym (by_act x.act) ∙ (sym rest_is ∙ ap (arrive_rest (room s) (target_room t) H) ex)))

-- ---- the same, of an edit that 1 to 7 do not refuse

module _ (s t e row : List ℕ) (w : is_history s t e ≡ true) (long : 256 ≤ length row) (h : ℕ) (eh : h ≡ edit_count e) (z : edit_code (history_in s t e).held (edit_in row) ≡ 0) where
  any_code : (u : List ℕ) → 0 ≡ edit_code (held h (edit_rows e) u) (edit_in row)
  unfolding history_in
  any_code u = sym (code_any h (edit_rows e) u t (edit_in row) ∙ (ap (λ (l : List Held). edit_code l (edit_in row)) (held_are s t e w h eh t) ∙ z))

  pub row_few : pairs_in row ≤ PEERS
  row_few = few_pairs s t e row w long h eh 0 any_code refl

  module _ (m : ℕ) (em : m ≡ pairs_in row) where
    pub row_fits : m * 12 ≤ length (row_version row)
    row_fits = omega (arith, em, row_few, long, ap length (row_version_lem row), length-drop 64 row)

    pub units_is : (n : ℕ) (en : n ≡ count s) → units_seen n (part s) h (edit_rows e) t m (row_version row) ≡ units_at (edit_in row).context (on_units (history_in s t e))
    units_is n en = us_is s t e row w long h eh 0 any_code refl m em n en
