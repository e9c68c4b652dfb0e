-- checkout, step by step: what each step may ask, and what each way out leaves
use Prim.Native.Nat.{ℕ, ◌+◌, ◌-◌, ◌*◌, ◌/◌, ◌<◌, ◌≤◌, min}
use mathlib.Core.Path.{◌≡◌, refl, sym, ap, ap₂, subst, ◌∙◌}
use mathlib.Core.Bool.{Bool, true, false, cond, ◌&&◌, not, true≢false}
use mathlib.Core.List.{List, [], map}
use native.Mathlib.Omega.{arith}
use lib.Dec.{eqb, leb}
use lib.ListN.{length, take, drop, length-drop}
use lib.Seq.{take_all}
use borrow.Author.Tests.{eq-eqb, ne_eqb, leb-true, le-leb, lt-leb}
use Rattle.span.specs.declared.span.FugueSpan.{FugueSpan}
use Rattle.span.specs.Units.{expand, join}
use Rattle.store.specs.Row.{rows}
use Rattle.store.specs.Header.{count, room, spans_of}
use Rattle.units.specs.Limits.{ROWS, EDITS, PEERS, fits}
use Rattle.units.specs.Store.{is_state}
use Rattle.units.specs.Codes.{unless, kept}
use Rattle.rope.specs.Spans.{Stored}
use Rattle.rope.specs.Edits.{WrittenIn}
use Rattle.rope.proofs.Entering.{state_head, state_stored, rows_are}
use Rattle.rope.proofs.States.{part, part_rest}
use Rattle.history.specs.Edit.{Version, Held, History}
use Rattle.history.specs.Version.{named, closed, version_code, rising, above, is_held}
use Rattle.units.specs.Lists.{every}
use Rattle.history.specs.Checkout.{unit_at, units_at, checkout}
use Rattle.history.specs.Valid.{valid}
use Rattle.history.specs.Codes.{on_units, stored, checkout_code}
use Rattle.history.proofs.StaysValid.{at_valid}
use Rattle.tracker.specs.Rows.{pairs, held, used, broken, target_room, edit_count, placeholder_in, history_in, is_history, EDIT_BYTES}
use Rattle.tracker.specs.Looks.{Looks, Sees, unit_seen, seen}
use Rattle.tracker.specs.Entries.{version_in, Beside, Leaves, checkout_number, checked_out, Stands}
use Rattle.tracker.proofs.Leaving.{Well, well_of, history_well, leaves_refused, leaves_done}

-- ---- the code, test by test

module _ (spans targets : ℕ) (h : History) (v : Version) (ok : valid spans targets h ≡ true) where
  -- 6 and 7, and then the room
  code_version : checkout_code spans targets h v ≡ cond (eqb (version_code h.held v) 0) (unless (fits spans (join (units_at v (on_units h)))) 10 0) (version_code h.held v)
  unfolding checkout_code version_code
  code_version = ap (λ (b : Bool). unless b 15 (unless (named h.held v) 6 (unless (closed h.held v) 7 (unless (fits spans (join (units_at v (on_units h)))) 10 0)))) ok ∙ go (named h.held v) (closed h.held v)
    where
      go : (a b : Bool) → unless a 6 (unless b 7 (unless (fits spans (join (units_at v (on_units h)))) 10 0)) ≡ cond (eqb (unless a 6 (unless b 7 0)) 0) (unless (fits spans (join (units_at v (on_units h)))) 10 0) (unless a 6 (unless b 7 0))
      go false b = refl
      go true false = refl
      go true true = refl

  pub code_not : (version_code h.held v ≡ 0 → ⊥) → checkout_code spans targets h v ≡ version_code h.held v
  code_not z = code_version ∙ ap (λ (b : Bool). cond b (unless (fits spans (join (units_at v (on_units h)))) 10 0) (version_code h.held v)) (ne_eqb (version_code h.held v) 0 z)

  module _ (z : version_code h.held v ≡ 0) where
    code_rest : checkout_code spans targets h v ≡ unless (fits spans (join (units_at v (on_units h)))) 10 0
    code_rest = code_version ∙ ap (λ (b : Bool). cond b (unless (fits spans (join (units_at v (on_units h)))) 10 0) (version_code h.held v)) (eq-eqb (version_code h.held v) 0 z)

    pub code_full : spans < length (join (units_at v (on_units h))) → checkout_code spans targets h v ≡ 10
    unfolding fits
    code_full l = code_rest ∙ ap (λ (b : Bool). unless b 10 0) (lt-leb (length (join (units_at v (on_units h)))) spans l)

    pub code_fits : length (join (units_at v (on_units h))) ≤ spans → checkout_code spans targets h v ≡ 0
    unfolding fits
    code_fits l = code_rest ∙ ap (λ (b : Bool). unless b 10 0) (le-leb (length (join (units_at v (on_units h)))) spans l)

-- a version that is broken is refused as 6
pub broken_code : (l : List Held) → version_code l broken ≡ 6
unfolding version_code named rising above every is_held
broken_code l = refl

-- ---- checkout of a well formed history s t e to the m pairs of v

pub target_long : (t : List ℕ) → target_room t * 16 ≤ length t
unfolding target_room
target_long t = omega arith

pub room_same : (s u : List ℕ) → length u ≡ length s → room u ≡ room s
unfolding room
room_same s u q = ap (λ (k : ℕ). min ROWS ((k - 72) / 72)) q

-- the edit rows, as they are lent
abbrev pub edit_rows : List ℕ → List ℕ
edit_rows e = take (length e - 64) (drop 64 e)

pub edit_rows_lem : (e : List ℕ) → edit_rows e ≡ drop 64 e
edit_rows_lem e = take_all (length e - 64) (drop 64 e) (omega (arith, length-drop 64 e))

module _ (s t e : List ℕ) (w : is_history s t e ≡ true) where
  well : Well s t e
  well = well_of s t e w

  pub well_head : 72 ≤ length s
  well_head = state_head s well.state

  pub well_edits : 64 ≤ length e
  well_edits = omega (arith, well.long)

  module _ (h : ℕ) (eh : h ≡ edit_count e) where
    pub held_are : (u : List ℕ) → held h (edit_rows e) u ≡ held (edit_count e) (drop 64 e) u
    held_are u = ap₂ (λ (k : ℕ) (b : List ℕ). held k b u) eh (edit_rows_lem e)

    pub well_rows : (h * 256 ≤ length (edit_rows e)) × (h ≤ EDITS)
    well_rows =
        let k : h ≤ EDITS = omega (arith, eh, well.edits) in
        (omega (arith, k, well.long, ap length (edit_rows_lem e), length-drop 64 e), k)

    pub used_are : used h (edit_rows e) ≡ used (edit_count e) (drop 64 e)
    used_are = ap₂ used eh (edit_rows_lem e)

    pub well_looks : (m : ℕ) (v : List ℕ) → m * 12 ≤ length v → Looks h (edit_rows e) t m v
    well_looks m v l =
        record {
          few = well_rows.1;
          edits = well_rows.0;
          targets = omega (arith, used_are, well.ranges, target_long t);
          version = l;
        }

  module _ (n : ℕ) (en : n ≡ count s) where
    pub well_stored : Stored n (part s)
    well_stored = state_stored s well.state n en

  module _ (v : List ℕ) (m : ℕ) (long : 192 ≤ length v) where
    abbrev number : ℕ
    number = checkout_number s t e (version_in m v)

    abbrev after : History
    after = checked_out s t e (version_in m v)

    number_is : number ≡ checkout_code (room s) (target_room t) (history_in s t e) (version_in m v)
    unfolding checkout_number
    number_is = ap (λ (b : Bool). unless b 15 (checkout_code (room s) (target_room t) (history_in s t e) (version_in m v))) w

    version_many : 16 < m → version_in m v ≡ broken
    unfolding version_in
    version_many l = ap (λ (b : Bool). cond b (pairs m v) broken) (lt-leb m PEERS l)

    pub to_many : 16 < m → Leaves number after 6 s t e s t e
    to_many l =
        let c : version_code (history_in s t e).held (version_in m v) ≡ 6 = ap (version_code (history_in s t e).held) (version_many l) ∙ broken_code (history_in s t e).held in
        leaves_refused number after 6 s t e
        (sym (number_is ∙ (code_not (room s) (target_room t) (history_in s t e) (version_in m v) well.valid (λ z. omega (arith, z, c)) ∙ c)))
        (λ z. omega (arith, z))

    module _ (few : m ≤ 16) (h : ℕ) (eh : h ≡ edit_count e) where
      version_is : version_in m v ≡ pairs m v
      unfolding version_in
      version_is = ap (λ (b : Bool). cond b (pairs m v) broken) (le-leb m PEERS few)

      pub to_asks : (h * 256 ≤ length (edit_rows e)) × (h ≤ EDITS) × (m * 12 ≤ length v)
      to_asks = ((well_rows h eh).0, (well_rows h eh).1, omega (arith, few, long))

      module _ (c : ℕ) (ec : (u : List ℕ) → c ≡ version_code (held h (edit_rows e) u) (pairs m v)) where
        code_is : c ≡ version_code (history_in s t e).held (version_in m v)
        unfolding history_in
        code_is = ec t ∙ ap₂ version_code (held_are h eh t) (sym version_is)

        pub to_refused : (c ≡ 0 → ⊥) → Leaves number after c s t e s t e
        to_refused z = leaves_refused number after c s t e
            (code_is ∙ sym (number_is ∙ code_not (room s) (target_room t) (history_in s t e) (version_in m v) well.valid (λ (q : version_code (history_in s t e).held (version_in m v) ≡ 0). z (code_is ∙ q)))) z

        module _ (z : c ≡ 0) (n : ℕ) (en : n ≡ count s) where
          pub to_sees : Sees n (part s) h (edit_rows e) t m v m v
          to_sees = let l = well_looks h eh m v to_asks.2 in record { stored = well_stored n en; first = l; second = l }

          -- the list at the version
          shown_is : join (seen false (pairs m v) (pairs m v) (held h (edit_rows e) t) (expand (spans_of s))) ≡ join (units_at (version_in m v) (on_units (history_in s t e)))
          unfolding seen unit_seen units_at on_units history_in
          shown_is = ap₂ (λ (a : Version) (l : List Held). join (map (unit_at a l) (expand (spans_of s)))) (sym version_is) (held_are h eh t)

          module _ (k : ℕ) (ek : k ≡ length (join (seen false (pairs m v) (pairs m v) (held h (edit_rows e) t) (expand (rows n (part s)))))) (most : ℕ) (em : most ≡ room s) where
            rows_is : k ≡ length (join (seen false (pairs m v) (pairs m v) (held h (edit_rows e) t) (expand (spans_of s))))
            rows_is = ek ∙ ap (λ (l : List FugueSpan). length (join (seen false (pairs m v) (pairs m v) (held h (edit_rows e) t) (expand l)))) (rows_are s well.state n en)

            count_is : k ≡ length (join (units_at (version_in m v) (on_units (history_in s t e))))
            count_is = rows_is ∙ ap length shown_is

            zero : version_code (history_in s t e).held (version_in m v) ≡ 0
            zero = sym code_is ∙ z

            pub to_full : most < k → Leaves number after 10 s t e s t e
            to_full l = leaves_refused number after 10 s t e
                (sym (number_is ∙ code_full (room s) (target_room t) (history_in s t e) (version_in m v) well.valid zero (omega (arith, l, em, count_is)))) (λ q. omega (arith, q))

            pub to_stands : k ≤ most → Stands false n k s h (edit_rows e) t m v m v
            to_stands l = let q = well_looks h eh m v to_asks.2 in
                record { state = well.state; rows = en; first = q; second = q; counted = rows_is; room = omega (arith, l, em) }

            list_changed : (u : List ℕ) → spans_of u ≡ join (units_at (version_in m v) (on_units (history_in s t e))) → history_in u t e ≡ after
            unfolding history_in checked_out stored checkout on_units
            list_changed u q = ap (λ (l : List FugueSpan). record { placeholder = placeholder_in e; list = l; held = held (edit_count e) (drop 64 e) t }) q

            after_is : after ≡ stored (checkout (version_in m v) (on_units (history_in s t e)))
            unfolding checked_out
            after_is = refl

            pub to_done : k ≤ most → (u : List ℕ) → length u ≡ length s → WrittenIn (join (seen false (pairs m v) (pairs m v) (held h (edit_rows e) t) (expand (spans_of s)))) s u → Leaves number after 0 s t e u t e
            to_done l u len x =
                let fit : length (join (units_at (version_in m v) (on_units (history_in s t e)))) ≤ room s = omega (arith, l, em, count_is) in
                let code : number ≡ 0 = number_is ∙ code_fits (room s) (target_room t) (history_in s t e) (version_in m v) well.valid zero fit in
                let same : history_in u t e ≡ after = list_changed u (x.written.list ∙ shown_is) in
                leaves_done number after 0 s t e u t e (sym code) code same
                (history_well u t e well.long (omega (arith, len, well_head))
                (ap₂ (λ (r : ℕ) (y : History). valid r (target_room t) y) (room_same s u len) (same ∙ after_is) ∙ at_valid (room s) (target_room t) (history_in s t e) well.valid (version_in m v) fit))
                (record { head = x.written.head; spans = x.past; targets = refl; edits = refl })
