-- The buffers of a history: what the check asks of them, in its order.
use Prim.Native.Nat.{ℕ, zero, suc, ◌+◌, ◌-◌, ◌*◌, ◌<◌, ◌≤◌}
use mathlib.Core.Path.{◌≡◌, refl, sym, ap, ap₂, subst, ◌∙◌}
use mathlib.Core.Bool.{Bool, true, false, ◌&&◌}
use mathlib.Core.List.{List, [], ◌++◌}
use native.Mathlib.Omega.{arith}
use lib.Dec.{leb}
use lib.ListN.{length, drop, length-append}
use borrow.Author.Tests.{le-leb, lt-leb}
use Rattle.span.specs.declared.span.FugueSpan.{FugueSpan}
use Rattle.span.specs.Units.{expand}
use Rattle.store.specs.Row.{rows}
use Rattle.store.specs.Header.{count, room, spans_of}
use Rattle.store.specs.Limits.{EDITS}
use Rattle.store.proofs.Laws.{length-rows}
use Rattle.units.specs.Limits.{fits}
use Rattle.units.specs.Lists.{every}
use Rattle.units.specs.Store.{is_state}
use Rattle.rope.proofs.States.{part}
use Rattle.rope.proofs.Entering.{rows_are, state_fits, state_formed}
use Rattle.history.specs.Edit.{Held}
use Rattle.history.specs.Arrive.{start}
use Rattle.history.specs.Valid.{edits_fit, edit_units, same_units, targets_fit, target_list, valid}
use Rattle.tracker.specs.Rows.{ranges, target_room, took_in, held, used, edit_count, placeholder_in, history_in, is_history}
use Rattle.tracker.proofs.Logs.{length-ranges}

-- ---------------------------------------------------------------- how many edits, and target ranges

length-held : (h : ℕ) (e t : List ℕ) → length (held h e t) ≡ h
unfolding held
length-held zero e t = refl
length-held (suc h) e t = ap suc (length-held h (drop 256 e) (drop (took_in e * 16) t))

length_targets : (h : ℕ) (e t : List ℕ) → length (target_list (held h e t)) ≡ used h e
unfolding held target_list used
length_targets zero e t = refl
length_targets (suc h) e t =
    length-append (ranges (took_in e) t) (target_list (held h (drop 256 e) (drop (took_in e * 16) t)))
    ∙ ap₂ ◌+◌ (length-ranges (took_in e) t) (length_targets h (drop 256 e) (drop (took_in e * 16) t))

-- ---------------------------------------------------------------- the check, test by test

pub room_small : (t : List ℕ) → (target_room t ≤ 65536) × (target_room t * 16 ≤ length t)
unfolding target_room
room_small t = (omega arith, omega arith)

-- what is left to ask of a log
abbrev pub log_fits : List FugueSpan → ℕ → List Held → Bool
log_fits l p hs = edits_fit [] hs && (same_units (expand l) ((start p).list ++ edit_units hs) && every (targets_fit (expand l)) hs)

pub log_by : (l : List FugueSpan) (p : ℕ) (hs : List Held) (a b c : Bool) → edits_fit [] hs ≡ a → same_units (expand l) ((start p).list ++ edit_units hs) ≡ b → every (targets_fit (expand l)) hs ≡ c → (a && (b && c)) ≡ log_fits l p hs
log_by l p hs a b c x y z = sym (ap₂ ◌&&◌ x (ap₂ ◌&&◌ y z))

module _ (s t e : List ℕ) where
  pub is_short : length e < 512064 → is_history s t e ≡ false
  unfolding is_history
  is_short h = ap (λ (b : Bool). b && (leb (edit_count e) EDITS && (leb (used (edit_count e) (drop 64 e)) (target_room t) && (is_state s && valid (room s) (target_room t) (history_in s t e))))) (lt-leb 512064 (length e) h)

  module _ (h : 512064 ≤ length e) where
    pub is_many : 2000 < edit_count e → is_history s t e ≡ false
    unfolding is_history
    is_many k = ap₂ (λ (a b : Bool). a && (b && (leb (used (edit_count e) (drop 64 e)) (target_room t) && (is_state s && valid (room s) (target_room t) (history_in s t e))))) (le-leb 512064 (length e) h) (lt-leb (edit_count e) EDITS k)

    module _ (k : edit_count e ≤ 2000) where
      to_used : is_history s t e ≡ (leb (used (edit_count e) (drop 64 e)) (target_room t) && (is_state s && valid (room s) (target_room t) (history_in s t e)))
      unfolding is_history
      to_used = ap₂ (λ (a b : Bool). a && (b && (leb (used (edit_count e) (drop 64 e)) (target_room t) && (is_state s && valid (room s) (target_room t) (history_in s t e))))) (le-leb 512064 (length e) h) (le-leb (edit_count e) EDITS k)

      pub is_over : target_room t < used (edit_count e) (drop 64 e) → is_history s t e ≡ false
      is_over l = to_used ∙ ap (λ (b : Bool). b && (is_state s && valid (room s) (target_room t) (history_in s t e))) (lt-leb (used (edit_count e) (drop 64 e)) (target_room t) l)

      module _ (l : used (edit_count e) (drop 64 e) ≤ target_room t) where
        to_state : is_history s t e ≡ (is_state s && valid (room s) (target_room t) (history_in s t e))
        to_state = to_used ∙ ap (λ (b : Bool). b && (is_state s && valid (room s) (target_room t) (history_in s t e))) (le-leb (used (edit_count e) (drop 64 e)) (target_room t) l)

        pub is_none : is_state s ≡ false → is_history s t e ≡ false
        is_none z = to_state ∙ ap (λ (b : Bool). b && valid (room s) (target_room t) (history_in s t e)) z

        module _ (z : is_state s ≡ true) where
          few_spans : fits (room s) (spans_of s) ≡ true
          unfolding fits spans_of
          few_spans = le-leb (length (rows (count s) (drop 72 s))) (room s) (subst (λ (m : ℕ). m ≤ room s) (sym (length-rows (count s) (drop 72 s))) (state_fits s z (count s) refl))

          few_targets : fits (target_room t) (target_list (held (edit_count e) (drop 64 e) t)) ≡ true
          unfolding fits
          few_targets = le-leb (length (target_list (held (edit_count e) (drop 64 e) t))) (target_room t) (subst (λ (m : ℕ). m ≤ target_room t) (sym (length_targets (edit_count e) (drop 64 e) t)) l)

          few_edits : leb (length (held (edit_count e) (drop 64 e) t)) EDITS ≡ true
          few_edits = le-leb (length (held (edit_count e) (drop 64 e) t)) EDITS (subst (λ (m : ℕ). m ≤ 2000) (sym (length-held (edit_count e) (drop 64 e) t)) k)

          to_log : is_history s t e ≡ log_fits (spans_of s) (placeholder_in e) (held (edit_count e) (drop 64 e) t)
          unfolding valid history_in
          to_log =
              to_state ∙ (ap (λ (b : Bool). b && valid (room s) (target_room t) (history_in s t e)) z
              ∙ ap₂ ◌&&◌ (ap₂ ◌&&◌ few_spans (ap₂ ◌&&◌ few_targets few_edits))
              (ap (λ (b : Bool). b && log_fits (spans_of s) (placeholder_in e) (held (edit_count e) (drop 64 e) t)) (state_formed s z (count s) refl)))

          -- as the code has it: the numbers and the parts that it has read
          pub is_log : (n : ℕ) → n ≡ count s → (c : ℕ) → c ≡ edit_count e → (p : ℕ) → p ≡ placeholder_in e → (d : List ℕ) → d ≡ drop 64 e → (b : Bool) → b ≡ log_fits (rows n (part s)) p (held c d t) → b ≡ is_history s t e
          is_log n en c ec p ep d ed b eb =
              eb ∙ (ap (λ (l : List FugueSpan). log_fits l p (held c d t)) (rows_are s z n en)
              ∙ (ap₂ (λ (q : ℕ) (hs : List Held). log_fits (spans_of s) q hs) ep (ap₂ (λ (m : ℕ) (y : List ℕ). held m y t) ec ed)
              ∙ sym to_log))
