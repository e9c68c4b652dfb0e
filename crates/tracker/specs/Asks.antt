-- The questions that a history answers: 15 alone refuses them. Assumes nothing.
use Rattle.std.specs.Prelude.{ℕ, List}
use Rattle.span.specs.Answer.{answer}
use Rattle.store.specs.Header.{room}
use Rattle.rope.specs.Maybe.{LenAnswer, RealAnswer}
use Rattle.std.specs.Prelude.{Ok}
use Rattle.span.specs.Refusal.{refused}
use Rattle.units.specs.Place.{shown}
use Rattle.units.specs.Query.{real_span_at}
use Rattle.units.specs.Codes.{unless}
use Rattle.rope.specs.Entries.{real_done}
use Rattle.history.specs.Codes.{on_units, ask_code}
use Rattle.tracker.specs.Rows.{target_room, history_in, is_history}

unfoldable pub ask_number : List ℕ → List ℕ → List ℕ → ℕ
ask_number s t e = unless (is_history s t e) 15 (ask_code (room s) (target_room t) (history_in s t e))

-- the visible length of the list as it stands
unfoldable pub len_asked : List ℕ → List ℕ → List ℕ → LenAnswer
len_asked s t e = answer Ok refused (ask_number s t e) (shown (on_units (history_in s t e)).list)

-- active_real_span_at of it
unfoldable pub real_asked : List ℕ → List ℕ → List ℕ → ℕ → RealAnswer
real_asked s t e at = answer real_done refused (ask_number s t e) (real_span_at (history_in s t e).list at)
