-- The calls of a history, with versions and contexts as words: what each says, and what it leaves
use Rattle.std.specs.Prelude.{ℕ, List}
use Rattle.units.specs.Delta.{entries}
use Rattle.tracker.specs.declared.row.Head.{Head}
use Rattle.tracker.specs.Rows.{to_edit}
use Rattle.tracker.specs.Entries.{version_of, Leaves, arrive_number, arrived, checkout_number, checked_out}
use Rattle.tracker.specs.Between.{delta_number, between}
use Rattle.session.specs.Say.{Says}
use Rattle.session.specs.Lines.{done_lines}
use Rattle.session.specs.Columns.{word_peers, word_counts}
use Rattle.session.specs.Entries.{delta_lines}

-- an edit arrives, with the context in w
module _ (x : Head) (w s t e : List ℕ) where
  abbrev pub arrival_number : ℕ
  arrival_number = arrive_number s t e (to_edit x (version_of (word_peers w) (word_counts w)))

  pub record Arrives (at : ℕ) (text : List ℕ) (r : ℕ) (s' t' e' text' : List ℕ) : Type 0 where
    pub leaves : Leaves arrival_number (arrived s t e (to_edit x (version_of (word_peers w) (word_counts w)))) arrival_number s t e s' t' e'
    pub says : Says at (done_lines arrival_number) text r text'

-- the list goes to the version in w
module _ (w s t e : List ℕ) where
  abbrev pub going_number : ℕ
  going_number = checkout_number s t e (version_of (word_peers w) (word_counts w))

  pub record Goes (at : ℕ) (text : List ℕ) (r : ℕ) (s' text' : List ℕ) : Type 0 where
    pub leaves : Leaves going_number (checked_out s t e (version_of (word_peers w) (word_counts w))) going_number s t e s' t e
    pub says : Says at (done_lines going_number) text r text'

-- the delta from the version in v to that in w, with room for so many entries
module _ (room : ℕ) (v w s t e : List ℕ) where
  abbrev pub telling_number : ℕ
  telling_number = delta_number s t e room (version_of (word_peers v) (word_counts v)) (version_of (word_peers w) (word_counts w))

  pub record Tells (at : ℕ) (text : List ℕ) (r : ℕ) (s' text' : List ℕ) : Type 0 where
    pub leaves : Leaves telling_number (checked_out s t e (version_of (word_peers v) (word_counts v))) telling_number s t e s' t e
    pub says :
        Says at (delta_lines telling_number (entries (between s t e (version_of (word_peers v) (word_counts v)) (version_of (word_peers w) (word_counts w)))))
        text r text'
