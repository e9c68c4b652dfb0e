-- `applied A B`: the visible list at A with the delta to B applied to it by the applier, the list and the new one in rows of items
use Rattle.std.specs.Prelude.{◌≡◌, ℕ, ◌*◌, ◌/◌, List, ◌++◌, length, take, drop, ◌==◌, nat_le, if◌then◌else◌, Ok}
use Rattle.words.specs.Le.{put}
use Rattle.span.specs.Answer.{answer}
use Rattle.units.specs.declared.diff.Entry.{Entry}
use Rattle.rope.specs.declared.diff.EntryNumbers.{EntryNumbers}
use Rattle.units.specs.Store.{spans_of, is_state}
use Rattle.units.specs.Codes.{unless, kept}
use Rattle.units.specs.Delta.{entries}
use Rattle.rope.specs.Columns.{column}
use Rattle.apply.specs.declared.item.Item.{Item}
use Rattle.apply.specs.Maybe.{ApplyAnswer}
use Rattle.span.specs.Refusal.{refused}
use Rattle.apply.specs.Items.{items_bytes}
use Rattle.apply.specs.Called.{Called, delta_items, delta_code, shown_items}
use Rattle.tracker.specs.Entries.{version_of, Leaves, checked_out}
use Rattle.tracker.specs.Between.{between}
use Rattle.session.specs.Say.{Says}
use Rattle.session.specs.Columns.{word_peers, word_counts}
use Rattle.session.specs.Entries.{lent_entries, answer_lines}
use Rattle.session.specs.History.{telling_number}

-- the list of a store: refused where it is none, and past 24,576 items
unfoldable pub list_code : List ℕ → ℕ
list_code s = unless (is_state s) 15 (unless (nat_le (length (shown_items (spans_of s))) 24576) 13 0)

unfoldable pub list_rows : List ℕ → List ℕ
list_rows s = items_bytes (shown_items (spans_of s))

-- the first refusal
abbrev pub or_else : ℕ → ℕ → ℕ
or_else first next = if first == 0 then next else first

-- the entries in columns applied to the list of a store
module _ (k a b p c l s : List ℕ) where
  abbrev pub on_list_items : List Item
  on_list_items = delta_items k a b p c l (list_rows s)

  abbrev pub on_list_code : List ℕ → ℕ
  on_list_code out = or_else (list_code s) (delta_code k a b p c l (list_rows s) out)

-- entries applied to the list of a store
module _ (es : List Entry) (s : List ℕ) where
  unfoldable pub new_items : List Item
  new_items =
      on_list_items (column (λ (x : EntryNumbers). x.kind) es) (column (λ (x : EntryNumbers). x.a) es) (column (λ (x : EntryNumbers). x.b) es)
      (column (λ (x : EntryNumbers). x.peer) es) (column (λ (x : EntryNumbers). x.counter) es) (column (λ (x : EntryNumbers). x.lamport) es) s

  unfoldable pub new_code : List ℕ → ℕ
  new_code out =
      on_list_code (column (λ (x : EntryNumbers). x.kind) es) (column (λ (x : EntryNumbers). x.a) es) (column (λ (x : EntryNumbers). x.b) es)
      (column (λ (x : EntryNumbers). x.peer) es) (column (λ (x : EntryNumbers). x.counter) es) (column (λ (x : EntryNumbers). x.lamport) es) s out

-- the delta from the version in v to that in w, with room for so many entries, applied to the list at the first
module _ (room : ℕ) (v w s t e : List ℕ) where
  abbrev pub told_entries : List Entry
  told_entries = entries (between s t e (version_of (word_peers v) (word_counts v)) (version_of (word_peers w) (word_counts w)))

  -- s' is the store afterwards, whose list stands at the first version
  abbrev pub applied_code : List ℕ → List ℕ → ℕ
  applied_code s' out = or_else (telling_number room v w s t e) (new_code told_entries s' out)

  pub record AppliesIn (out : List ℕ) (r : ApplyAnswer) (s' out' : List ℕ) : Type 0 where
    pub leaves : Leaves (telling_number room v w s t e) (checked_out s t e (version_of (word_peers v) (word_counts v))) (telling_number room v w s t e) s t e s' t e
    pub called : Called (applied_code s' out) (new_items told_entries s') out r out'

-- the same with as many entries and items lent as the output has rows of a store: its front is lent, and its answer is said
module _ (v w s t e out : List ℕ) where
  abbrev pub row_room : ℕ
  row_room = lent_entries (length out / 72)

  abbrev pub front : List ℕ
  front = take (length out / 72 * 24) out

  pub record Applies (at : ℕ) (text : List ℕ) (r : ℕ) (s' out' text' : List ℕ) : Type 0 where
    pub leaves :
        Leaves (telling_number row_room v w s t e) (checked_out s t e (version_of (word_peers v) (word_counts v))) (telling_number row_room v w s t e) s t e s' t e
    pub items :
        out' ≡ kept (applied_code row_room v w s t e s' front) (put 0 (items_bytes (new_items (told_entries row_room v w s t e) s')) front) front
        ++ drop (length out / 72 * 24) out
    pub says :
        Says at (answer_lines (answer Ok refused (applied_code row_room v w s t e s' front) (length (new_items (told_entries row_room v w s t e) s'))) out')
        text r text'
