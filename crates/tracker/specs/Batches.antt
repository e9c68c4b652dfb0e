-- A run of edits, handed over in rows of 256 bytes as a log has them (the number of target ranges in them is not read). Assumes nothing.
use Rattle.std.specs.Prelude.{ℕ, zero, suc, ◌/◌, ◌≡◌, Bool, true, List, [], ◌∷◌, length, drop, if◌then◌else◌}
use Rattle.span.specs.Refusal.{code_of}
use Rattle.store.specs.Header.{room}
use Rattle.history.specs.Edit.{Edit, History}
use Rattle.history.specs.Run.{arrive_run}
use Rattle.tracker.specs.declared.run.Run.{Run}
use Rattle.tracker.specs.Rows.{edit_in, target_room, history_in, is_history}
use Rattle.tracker.specs.Entries.{Beside}

-- the edits of the first n rows, and of a whole batch
unfoldable pub edits : ℕ → List ℕ → List Edit
edits zero b = []
edits (suc n) b = edit_in b ∷ edits n (drop 256 b)

abbrev pub batch : List ℕ → List Edit
batch b = edits (length b / 256) b

-- buffers that are no history take none of them: the first is refused with 15
abbrev pub no_run : History → List Edit → ℕ × ℕ × History
no_run h [] = (0, 0, h)
no_run h (x ∷ es) = (0, 15, h)

-- how many are taken, the number that stops it, and the history that is left: as if they were handed over singly
unfoldable pub run_of : List ℕ → List ℕ → List ℕ → List Edit → ℕ × ℕ × History
run_of s t e es = if is_history s t e then arrive_run (room s) (target_room t) (history_in s t e) es else no_run (history_in s t e) es

-- a run r of the edits es leaves s' t' e'
pub record RunLeaves (es : List Edit) (r : Run) (s t e s' t' e' : List ℕ) : Type 0 where
  pub said : (r.taken, code_of r.outcome, history_in s' t' e') ≡ run_of s t e es
  pub well : is_history s t e ≡ true → is_history s' t' e' ≡ true
  pub none : r.taken ≡ 0 → (s' ≡ s) × (t' ≡ t) × (e' ≡ e)
  pub beside : Beside s t e s' t' e'
