-- the questions, step by step: a history that is none, and what a well formed one answers
use Prim.Native.Nat.{ℕ}
use mathlib.Core.Path.{◌≡◌, sym, ap, ◌∙◌}
use mathlib.Core.Bool.{Bool, true, false}
use mathlib.Core.List.{List}
use native.Mathlib.Omega.{arith}
use Rattle.span.specs.declared.span.FugueSpan.{FugueSpan}
use Rattle.span.proofs.AnswerLaws.{is_done, is_refused}
use Rattle.span.specs.Units.{expand}
use Rattle.store.specs.Row.{rows}
use Rattle.store.specs.Header.{count, room}
use Rattle.std.specs.Prelude.{Ok, Err}
use Rattle.span.specs.declared.refusal.Refusal.TheVariants as Refuse
use Rattle.span.proofs.RefusalLaws.{refusal_back, answer_err}
use Rattle.span.specs.Refusal.{refused}
use Rattle.units.specs.Place.{shown}
use Rattle.units.specs.Query.{real_span_at}
use Rattle.units.specs.Codes.{unless}
use Rattle.rope.specs.Entries.{real_done}
use Rattle.rope.proofs.States.{part}
use Rattle.rope.proofs.Entering.{rows_are}
use Rattle.history.specs.Valid.{valid}
use Rattle.history.specs.Codes.{on_units, ask_code}
use Rattle.tracker.specs.Rows.{target_room, history_in, is_history}
use Rattle.tracker.specs.Asks.{ask_number, len_asked, real_asked}
use Rattle.tracker.proofs.Leaving.{well_of}

module _ (s t e : List ℕ) where
  module _ (w : is_history s t e ≡ false) where
    ask_none : 15 ≡ ask_number s t e
    unfolding ask_number
    ask_none = sym (ap (λ (b : Bool). unless b 15 (ask_code (room s) (target_room t) (history_in s t e))) w)

    pub len_none : Err Refuse.Store ≡ len_asked s t e
    unfolding len_asked
    len_none = answer_err Refuse.Store (ask_number s t e) (shown (on_units (history_in s t e)).list) ask_none

    pub real_none : (at : ℕ) → Err Refuse.Store ≡ real_asked s t e at
    unfolding real_asked
    real_none at = ap Err (sym (refusal_back Refuse.Store)) ∙ is_refused real_done refused (ask_number s t e) 15 (real_span_at (history_in s t e).list at) (λ z. omega (arith, z)) ask_none

  module _ (w : is_history s t e ≡ true) where
    ask_zero : ask_number s t e ≡ 0
    unfolding ask_number ask_code
    ask_zero =
        ap (λ (b : Bool). unless b 15 (unless (valid (room s) (target_room t) (history_in s t e)) 15 0)) w
        ∙ ap (λ (b : Bool). unless b 15 0) (well_of s t e w).valid

    module _ (n : ℕ) (en : n ≡ count s) where
      list_is : rows n (part s) ≡ (history_in s t e).list
      unfolding history_in
      list_is = rows_are s (well_of s t e w).state n en

      pub len_done : (k : ℕ) → k ≡ shown (expand (rows n (part s))) → Ok k ≡ len_asked s t e
      unfolding len_asked on_units
      len_done k q = is_done Ok refused (ask_number s t e) ask_zero (q ∙ ap (λ (l : List FugueSpan). shown (expand l)) list_is)

      pub real_is : (at : ℕ) → real_done (real_span_at (rows n (part s)) at) ≡ real_asked s t e at
      unfolding real_asked
      real_is at = is_done real_done refused (ask_number s t e) ask_zero (ap (λ (l : List FugueSpan). real_span_at l at) list_is)
