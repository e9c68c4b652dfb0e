-- what get_diff_records answers and leaves, by what the calls beneath say
use Prim.Native.Nat.{ℕ, ◌≤◌}
use mathlib.Core.Path.{◌≡◌, refl, sym, ap, ◌∙◌}
use mathlib.Core.Bool.{Bool, true, false, cond}
use mathlib.Core.List.{List}
use native.Mathlib.Omega.{arith}
use lib.Dec.{leb}
use lib.ListN.{length}
use borrow.Author.Tests.{ne_eqb, eq-eqb, leb-true}
use Rattle.std.specs.Prelude.{Ok, Err}
use Rattle.std.specs.Result.{IsErrAnd}
use Rattle.std.proofs.lemmas.Result.{err_from_is_err_and}
use Rattle.span.specs.declared.refusal.Refusal.{Refusal}
use Rattle.span.specs.Answer.{answer}
use Rattle.span.specs.Refusal.{refused}
use Rattle.store.specs.Row.{rows}
use Rattle.rope.specs.declared.diff.EntryNumbers.{EntryNumbers}
use Rattle.rope.specs.Maybe.{DiffAnswer}
use Rattle.units.specs.Lists.{every, over}
use Rattle.units.specs.Store.{count, spans_of, is_state}
use Rattle.units.specs.Delta.{insertable, entries}
use Rattle.rope.specs.Columns.{diff_rows_code, get_diff_code}
use Rattle.rope.proofs.States.{part, part_spans}
use Rattle.rope.proofs.Fills.{answer_not_ok, answer_value}
use Rattle.records.specs.Records.{records, answer_of, records_after}

get_code : (room : ℕ) (s : List ℕ) → is_state s ≡ true → get_diff_code room s ≡ diff_rows_code room (spans_of s)
unfolding get_diff_code
get_code room s e = ap (λ (t : Bool). cond t (diff_rows_code room (spans_of s)) 15) e

module _ (room : ℕ) (s : List ℕ) where
  -- what is not refused is a well formed store whose entries fit
  pub code_done : get_diff_code room s ≡ 0 → (is_state s ≡ true) × (length (entries (spans_of s)) ≤ room)
  unfolding get_diff_code diff_rows_code
  code_done e = go (is_state s) (every insertable (spans_of s)) (leb (length (entries (spans_of s))) room) refl refl e
    where
      go : (t u f : Bool) → is_state s ≡ t → leb (length (entries (spans_of s))) room ≡ f → ◌≡◌ {A = ℕ} (cond t (cond u (cond f 0 13) 12) 15) 0 → (is_state s ≡ true) × (length (entries (spans_of s)) ≤ room)
      go true true true a b z = (a, leb-true (length (entries (spans_of s))) room b)
      go true true false a b z = absurd (omega (arith, z))
      go true false f a b z = absurd (omega (arith, z))
      go false u f a b z = absurd (omega (arith, z))

module _ (s : List ℕ) (out : List EntryNumbers) where
  abbrev code : ℕ
  code = get_diff_code (length out) s

  pub refused_slice : (code ≡ 0 → ⊥) → out ≡ records_after s out
  refused_slice z = sym (ap (λ (t : Bool). cond t (over (records (entries (spans_of s))) out) out) (ne_eqb code 0 z))

  -- the rows of a store, as they are lent
  module _ (st : is_state s ≡ true) (n : ℕ) (q : n ≡ count s) where
    lent_spans : rows n (part s) ≡ spans_of s
    lent_spans = ap (λ (m : ℕ). rows m (part s)) q ∙ part_spans s

    whole : (r : DiffAnswer) → r ≡ answer Ok refused (diff_rows_code (length out) (rows n (part s))) (length (entries (rows n (part s)))) → r ≡ answer_of (length out) s
    whole r p = rw (get_code (length out) s st) (rw lent_spans at p)

    pub exit : (r : DiffAnswer) (d : Refusal) → IsErrAnd r (λ (x : Refusal). x ≡ d) → Err d ≡ answer Ok refused (diff_rows_code (length out) (rows n (part s))) (length (entries (rows n (part s)))) → (r ≡ answer_of (length out) s) × (out ≡ records_after s out)
    exit r d x p =
        let w = err_from_is_err_and r x in
        let a = whole (Err d) p in
        (w.1 ∙ (ap Err w.2 ∙ a), refused_slice (answer_not_ok code (length (entries (spans_of s))) d a))

    module _ (m : ℕ) (p : Ok m ≡ answer Ok refused (diff_rows_code (length out) (rows n (part s))) (length (entries (rows n (part s))))) where
      accepted : code ≡ 0
      accepted = (answer_value code (length (entries (spans_of s))) m (whole (Ok m) p)).0

      pub done_fits : length (entries (rows n (part s))) ≤ length out
      done_fits = rw lent_spans (code_done (length out) s accepted).1

      pub done : (ys : List EntryNumbers) → ys ≡ over (records (entries (rows n (part s)))) out → (Ok m ≡ answer_of (length out) s) × (ys ≡ records_after s out)
      done ys e =
          (whole (Ok m) p, rw lent_spans at e ∙ sym (ap (λ (t : Bool). cond t (over (records (entries (spans_of s))) out) out) (eq-eqb code 0 accepted)))
