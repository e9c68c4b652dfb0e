-- Rows of 01, and those that our reading of it adds, computed of the applier's call on lent columns and rows, under one checked claim.
use Rattle.std.specs.Prelude.{ℕ, ◌+◌, ◌*◌, ◌≡◌, refl, Bool, true, false, List, [], ◌∷◌, ◌++◌, map, ℤ, pos, negsuc, length}
use Rattle.words.specs.Le.{le, bytes_of}
use Rattle.span.specs.declared.span.FugueSpan.{FugueSpan}
use Rattle.span.specs.Chunk.{chunk, UNKNOWN}
use Rattle.span.specs.Ids.{id, UNKNOWN_PEER}
use Rattle.span.specs.Span.{new_span}
use Rattle.span.specs.Units.{tab}
use Rattle.store.specs.Row.{rows, words_at, span_of, flags_of, words_of, word_bytes, row_bytes}
use Rattle.store.specs.Header.{count, room, spans_of, header_bytes}
use Rattle.rope.specs.declared.diff.EntryNumbers.{EntryNumbers}
use Rattle.units.specs.declared.change.SetFuture.TheVariants.{Keep}
use Rattle.units.specs.Store.{is_state}
use Rattle.units.specs.Codes.{update_of}
use Rattle.units.specs.Delta.{entries}
use Rattle.rope.specs.Columns.{numbers, entry_numbers, diff_rows_code, get_diff_code}
use Rattle.units.specs.Open.{rope_open}
use Rattle.apply.specs.declared.item.Item.{Item}
use Rattle.apply.specs.Apply.{item_of, items, item_at, items_of, applied, lamport_fits, entry_formed, entry_ids, entry_known, used, item_formed, item_ids, item_single, apply_code}
use Rattle.apply.specs.Items.{item_in, items_in, item_bytes, items_bytes}
use Rattle.apply.specs.Given.{given_of, given_at, givens}
use Rattle.apply.specs.Called.{delta_items, delta_code, shown_items, shown_code, visible_code}

-- unit p.c of a text, which stands at s
abbrev at : ℕ → ℕ → ℕ → Item
at p c s = record { id = id p (pos c); content = chunk s (s + 1) }

-- the texts 1.c, c from the list
abbrev ones : List ℕ → List ℕ
ones l = items_bytes (map (λ (c : ℕ). at 1 c c) l)

-- an output of n rows
abbrev lent : ℕ → List ℕ
lent n = tab (λ (k : ℕ). 0) 0 (n * 24)

-- Retain 1, Delete 2; Retain 1, Insert(text 1..3, 1.1, lamport 1)
abbrev p10_on : {A : Type 0} → (List ℕ → List ℕ → List ℕ → List ℕ → List ℕ → List ℕ → A) → A
p10_on f = f (0 ∷ 1 ∷ []) (1 ∷ 2 ∷ []) (0 ∷ 0 ∷ []) (0 ∷ 0 ∷ []) (0 ∷ 0 ∷ []) (0 ∷ 0 ∷ [])

abbrev p11_on : {A : Type 0} → (List ℕ → List ℕ → List ℕ → List ℕ → List ℕ → List ℕ → A) → A
p11_on f = f (0 ∷ 2 ∷ []) (1 ∷ 1 ∷ []) (0 ∷ 3 ∷ []) (0 ∷ 1 ∷ []) (0 ∷ 1 ∷ []) (0 ∷ 1 ∷ [])

-- one entry of a kind, of a and b
abbrev only : {A : Type 0} → (List ℕ → List ℕ → List ℕ → List ℕ → List ℕ → List ℕ → A) → ℕ → ℕ → ℕ → A
only f kind a b = f (kind ∷ []) (a ∷ []) (b ∷ []) (1 ∷ []) (7 ∷ []) (0 ∷ [])

-- an old unit of n unknown units, of a peer
abbrev unknown : ℕ → ℕ → List ℕ
unknown p n = item_bytes (record { id = id p (pos 0); content = chunk UNKNOWN n })

-- a store of spans; text 0..5 by peer 1 with the count of 1.1 and 1.2 changed, in status or in diff_status
abbrev rows_bytes : List FugueSpan → List ℕ
rows_bytes [] = []
rows_bytes (s ∷ l) = row_bytes s ++ rows_bytes l

abbrev stored : List FugueSpan → List ℕ
stored l = header_bytes (length l) ++ rows_bytes l

abbrev counted : ℤ → Bool → List FugueSpan → List FugueSpan
counted k diff l = (update_of 65536 l 1 (pos 1) (pos 3) Keep k diff).1

abbrev five : List FugueSpan
five = new_span (id 1 (pos 0)) 0 (chunk 0 5) ∷ []

-- the stores of P10 and P11
abbrev p10_store : List ℕ
p10_store = stored (counted (pos 1) true five)

abbrev p11_store : List ℕ
p11_store = stored (counted (negsuc 0) true (counted (pos 1) false five))

-- what get_diff puts into its columns, entry by entry
abbrev entered : List ℕ → List EntryNumbers
entered s = map entry_numbers (entries (spans_of s))

pub record Rows : Type 0 where
  -- through the calls: get_diff, visible_items, apply
  pub p10_diff : get_diff_code 2 p10_store ≡ 0
  pub p10_entries : entered p10_store ≡ numbers 0 1 0 0 0 0 ∷ numbers 1 2 0 0 0 0 ∷ []
  pub p10_shown : visible_code p10_store (lent 5) ≡ 0
  pub p10_old : shown_items (spans_of p10_store) ≡ items_in (ones (0 ∷ 1 ∷ 2 ∷ 3 ∷ 4 ∷ []))
  pub p11_diff : get_diff_code 2 p11_store ≡ 0
  pub p11_entries : entered p11_store ≡ numbers 0 1 0 0 0 0 ∷ numbers 2 1 3 1 1 1 ∷ []
  pub p11_shown : visible_code p11_store (lent 3) ≡ 0
  pub p11_old : shown_items (spans_of p11_store) ≡ items_in (ones (0 ∷ 3 ∷ 4 ∷ []))
  pub p10 : p10_on delta_items (ones (0 ∷ 1 ∷ 2 ∷ 3 ∷ 4 ∷ [])) ≡ items_in (ones (0 ∷ 3 ∷ 4 ∷ []))
  pub p10_code : p10_on delta_code (ones (0 ∷ 1 ∷ 2 ∷ 3 ∷ 4 ∷ [])) (lent 3) ≡ 0
  pub p11 : p11_on delta_items (ones (0 ∷ 3 ∷ 4 ∷ [])) ≡ items_in (ones (0 ∷ 1 ∷ 2 ∷ 3 ∷ 4 ∷ []))
  pub p11_code : p11_on delta_code (ones (0 ∷ 3 ∷ 4 ∷ [])) (lent 5) ≡ 0
  -- an output of less than a row; old units too few
  pub short : p10_on delta_code (ones (0 ∷ 1 ∷ 2 ∷ [])) (0 ∷ []) ≡ 13
  pub few : p10_on delta_code (ones (0 ∷ 1 ∷ [])) (lent 3) ≡ 14
  -- Retain 9 past the end and an Insert with a bad chunk: 1, the lower
  pub lowest : delta_code (0 ∷ 2 ∷ []) (9 ∷ 3 ∷ []) (0 ∷ 3 ∷ []) (0 ∷ 1 ∷ []) (0 ∷ 1 ∷ []) (0 ∷ 1 ∷ []) (ones (0 ∷ [])) (lent 3) ≡ 1
  -- no known kind; length 0; an Insert of the unknown peer, whose old units are taken; an old unit longer than one
  pub strange : only delta_code 4 1 1 (ones (0 ∷ [])) (lent 3) ≡ 14
  pub empty : only delta_code 0 0 0 (ones (0 ∷ [])) (lent 3) ≡ 14
  pub unknown_peer : delta_code (3 ∷ []) (0 ∷ []) (1 ∷ []) (UNKNOWN_PEER ∷ []) (0 ∷ []) (0 ∷ []) [] (lent 3) ≡ 2
  pub unknown_old : only delta_code 0 1 0 (unknown UNKNOWN_PEER 1) (lent 3) ≡ 0
  pub longer : only delta_code 0 1 0 (unknown 1 2) (lent 3) ≡ 14
  -- columns of unequal length count as the shortest: the second entry is none
  pub shortest : delta_items (0 ∷ 1 ∷ []) (1 ∷ 2 ∷ []) (0 ∷ 0 ∷ []) (0 ∷ 0 ∷ []) (0 ∷ 0 ∷ []) (0 ∷ []) (ones (0 ∷ 1 ∷ 2 ∷ [])) ≡ items_in (ones (0 ∷ 1 ∷ 2 ∷ []))

pub rows_hold : Rows
unfolding rope_open le bytes_of tab count room spans_of rows words_at span_of flags_of words_of word_bytes header_bytes is_state entry_numbers diff_rows_code get_diff_code shown_items shown_code visible_code item_of items item_at items_of applied lamport_fits entry_formed entry_ids entry_known used item_formed item_ids item_single apply_code item_in items_in item_bytes items_bytes given_of given_at givens delta_items delta_code
rows_hold =
    record {
      p10_diff = refl;
      p10_entries = refl;
      p10_shown = refl;
      p10_old = refl;
      p11_diff = refl;
      p11_entries = refl;
      p11_shown = refl;
      p11_old = refl;
      p10 = refl;
      p10_code = refl;
      p11 = refl;
      p11_code = refl;
      short = refl;
      few = refl;
      lowest = refl;
      strange = refl;
      empty = refl;
      unknown_peer = refl;
      unknown_old = refl;
      longer = refl;
      shortest = refl;
    }
