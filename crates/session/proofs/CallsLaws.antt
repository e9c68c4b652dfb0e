-- an entry's number said, and what it does to the store
use Rattle.std.proofs.Common.{◌≡◌, ℕ, List, length, sym, ◌∙◌, ne_eqb}
use Rattle.span.specs.declared.span.FugueSpan.{FugueSpan}
use Rattle.span.specs.Answer.{answer}
use Rattle.rope.specs.Maybe.{DeleteAnswer}
use Rattle.std.specs.Prelude.{Ok, Err}
use Rattle.span.specs.declared.refusal.Refusal.{Refusal}
use Rattle.span.specs.Refusal.{number_of, refused}
use Rattle.rope.specs.Edits.{EditedIn}
use Rattle.rope.specs.Deletions.{Deleted}
use Rattle.session.specs.Say.{Says}
use Rattle.session.specs.Lines.{done_lines, refused_lines, pieces_lines}
use Rattle.session.specs.Calls.{EditSaid, delete_lines, DeleteSaid}
use Rattle.session.proofs.NumberLaws.{IsNumber, answered_ok, answered_err}
use Rattle.session.proofs.SayLaws.{says_same}

pub edit_said : (code : ℕ) (l : List FugueSpan) (s t : List ℕ) (at : ℕ) (b : List ℕ) {q r : ℕ} {u : List ℕ}
    → EditedIn code l q s t → Says at (done_lines q) b r u → EditSaid code l s t at b r u
edit_said code l s t at b e p = record { said = rw e.edited.number at p; store = rw e.edited.number at e }

pieces_lines_lem : (code n m : ℕ) (out : List ℕ) → answer Ok refused code m ≡ Ok n → pieces_lines out n ≡ delete_lines code out m
unfolding delete_lines
pieces_lines_lem code n m out q = let a = answered_ok code m (sym q) in rw (a.0, a.1)

refused_lines_lem : (code m : ℕ) (out : List ℕ) {e : Refusal} → IsNumber code → answer Ok refused code m ≡ Err e → refused_lines (number_of e) ≡ delete_lines code out m
unfolding delete_lines
refused_lines_lem code m out k q = let a = answered_err code m k (sym q) in rw (a.0, ne_eqb code 0 a.1)

module _ (code : ℕ) (l ps : List FugueSpan) (s o t p : List ℕ) (at : ℕ) (b : List ℕ) {a : DeleteAnswer} {r : ℕ} {u : List ℕ} where
  pub delete_done : {n : ℕ} → Deleted code l ps a s o t p → a ≡ Ok n → Says at (pieces_lines p n) b r u → DeleteSaid code l ps s o t p at b r u
  delete_done {n} d e q =
      record { said = says_same at b (pieces_lines_lem code n (length ps) p (sym d.answered ∙ e)) q; store = rw d.answered at d }

  pub delete_refused : {e : Refusal} → IsNumber code → Deleted code l ps a s o t p → a ≡ Err e → Says at (refused_lines (number_of e)) b r u → DeleteSaid code l ps s o t p at b r u
  delete_refused k d e q =
      record { said = says_same at b (refused_lines_lem code (length ps) p k (sym d.answered ∙ e)) q; store = rw d.answered at d }
