-- The answers of a rope's calls, with what they do to the store.
use Rattle.std.specs.Prelude.{ℕ, List, length, ◌==◌, if◌then◌else◌}
use Rattle.span.specs.declared.span.FugueSpan.{FugueSpan}
use Rattle.span.specs.Answer.{answer}
use Rattle.rope.specs.Edits.{EditedIn}
use Rattle.rope.specs.Deletions.{Deleted}
use Rattle.std.specs.Prelude.{Ok}
use Rattle.span.specs.Refusal.{refused}
use Rattle.session.specs.Say.{Says}
use Rattle.session.specs.Lines.{done_lines, refused_lines, pieces_lines}

-- an edit whose number is `code` and whose list is `l` leaves t of the store s; its answer, said at `at` into b, ends at r and leaves u
pub record EditSaid (code : ℕ) (l : List FugueSpan) (s t : List ℕ) (at : ℕ) (b : List ℕ) (r : ℕ) (u : List ℕ) : Type 0 where
  pub said : Says at (done_lines code) b r u
  pub store : EditedIn code l code s t

-- pieces N and the first n pieces of the output, or the refusal
unfoldable pub delete_lines : ℕ → List ℕ → ℕ → List (List ℕ)
delete_lines code out n = if code == 0 then pieces_lines out n else refused_lines code

-- a delete, which leaves t of the store s and p of the output o
pub record DeleteSaid (code : ℕ) (l ps : List FugueSpan) (s o t p : List ℕ) (at : ℕ) (b : List ℕ) (r : ℕ) (u : List ℕ) : Type 0 where
  pub said : Says at (delete_lines code p (length ps)) b r u
  pub store : Deleted code l ps (answer Ok refused code (length ps)) s o t p
