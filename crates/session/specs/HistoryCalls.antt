-- What each call of a history says and leaves, of a line whose word 1 is a context or version, and word 2 a second version
use Rattle.std.specs.Prelude.{ℕ, ◌/◌, List, length}
use Rattle.script.specs.declared.call.Insert.{Insert}
use Rattle.script.specs.declared.call.Arriving.{Arriving}
use Rattle.script.specs.declared.call.HistoryCall.{HistoryCall}
use Rattle.script.specs.declared.call.HistoryCall.TheVariants as Call
use Rattle.script.specs.Field.{word_of}
use Rattle.tracker.specs.declared.row.Head.{Head}
use Rattle.tracker.specs.declared.row.Does.TheVariants as Does
use Rattle.session.specs.Entries.{lent_entries}
use Rattle.session.specs.History.{Arrives, Goes, Tells}
use Rattle.session.specs.Applied.{Applies}

-- an arriving edit without its context
abbrev pub insert_head : Insert → Head
insert_head x = record { id = x.id; at = x.pos; act = Does.Insert x.lamport x.content }

abbrev pub delete_head : Arriving → Head
delete_head x = record { id = x.id; at = x.delete.pos; act = Does.Delete x.delete.len x.delete.reversed x.delete.start }

abbrev pub HistorySays : HistoryCall → List ℕ → List ℕ → List ℕ → List ℕ → List ℕ → ℕ → List ℕ → ℕ → List ℕ → List ℕ → List ℕ → List ℕ → List ℕ → Type 0
HistorySays (Call.Insert x) line s t e out at text r s' t' e' out' text' = Arrives (insert_head x) (word_of line 1) s t e at text r s' t' e' text'
HistorySays (Call.Delete x) line s t e out at text r s' t' e' out' text' = Arrives (delete_head x) (word_of line 1) s t e at text r s' t' e' text'
HistorySays Call.Checkout line s t e out at text r s' t' e' out' text' = Goes (word_of line 1) s t e at text r s' text'
HistorySays Call.Delta line s t e out at text r s' t' e' out' text' = Tells (lent_entries (length out / 72)) (word_of line 1) (word_of line 2) s t e at text r s' text'
HistorySays Call.Applied line s t e out at text r s' t' e' out' text' = Applies (word_of line 1) (word_of line 2) s t e out at text r s' out' text'
