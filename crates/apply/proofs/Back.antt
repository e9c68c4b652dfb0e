-- What was written is read back: items from their rows, entries from their columns.
use Prim.Native.Nat.{ℕ, suc, ◌+◌, ◌*◌, ◌/◌}
use mathlib.Core.Path.{◌≡◌, refl, sym, ap, ap₂, ◌∙◌}
use mathlib.Core.List.{List, [], ◌∷◌, ◌++◌, map}
use native.Mathlib.Omega.{arith}
use lib.ListN.{length, take, drop}
use lib.Seq.{take_at, drop_at, drop-drop}
use mir.Syntax.{w32}
use mir.Facts.{to_z-of_z}
use mir.ValLaws.{of_z_fits}
use Rattle.words.specs.Le.{bytes_of, put}
use Rattle.words.proofs.Puts.{le_bytes}
use Rattle.span.specs.Units.{tab}
use Rattle.span.proofs.ListLaws.{tab_from}
use Rattle.store.specs.Row.{bits32}
use Rattle.rope.specs.declared.diff.EntryNumbers.{EntryNumbers}
use Rattle.units.specs.declared.diff.Entry.{Entry}
use Rattle.units.specs.Lists.{over}
use Rattle.rope.specs.Columns.{entry_numbers, column, least}
use Rattle.apply.specs.declared.item.Item.{Item}
use Rattle.apply.specs.Apply.{Given, Known}
use Rattle.apply.specs.Items.{item_in, items_in, item_bytes, items_bytes}
use Rattle.apply.specs.Given.{given_of, given_at, givens}
use Rattle.apply.proofs.Tabs.{length_item, length_items}
use Rattle.apply.proofs.Sound.{Sound, AllSound}

-- ---- items

first_back : (x : Item) (r : List ℕ) → Sound x → item_in (item_bytes x ++ r) 0 ≡ x
unfolding item_in item_bytes bytes_of
first_back x r v =
    rw (
      le_bytes 8 x.id.peer v.peer,
      le_bytes 4 (bits32 x.id.counter) (of_z_fits w32 x.id.counter v.counter).fits,
      le_bytes 4 x.content.start v.start,
      le_bytes 4 x.content.end v.end,
      to_z-of_z v.counter,
    )

-- past the first row
past : (p r : List ℕ) (m : ℕ) → length p ≡ 24 → drop (24 + m) (p ++ r) ≡ drop m r
past p r m e = sym (drop-drop m 24 (p ++ r)) ∙ ap (drop m) (drop_at p r 24 e)

next_back : (x : Item) (r : List ℕ) (i j : ℕ) → i ≡ suc j → item_in (item_bytes x ++ r) i ≡ item_in r j
unfolding item_in
next_back x r i j e =
    rw (
      ap (λ (m : ℕ). drop m (item_bytes x ++ r)) (let q : i * 24 ≡ 24 + j * 24 = omega arith in q) ∙ past (item_bytes x) r (j * 24) (length_item x),
      ap (λ (m : ℕ). drop m (item_bytes x ++ r)) (let q : i * 24 + 8 ≡ 24 + (j * 24 + 8) = omega arith in q) ∙ past (item_bytes x) r (j * 24 + 8) (length_item x),
      ap (λ (m : ℕ). drop m (item_bytes x ++ r)) (let q : i * 24 + 12 ≡ 24 + (j * 24 + 12) = omega arith in q) ∙ past (item_bytes x) r (j * 24 + 12) (length_item x),
      ap (λ (m : ℕ). drop m (item_bytes x ++ r)) (let q : i * 24 + 16 ≡ 24 + (j * 24 + 16) = omega arith in q) ∙ past (item_bytes x) r (j * 24 + 16) (length_item x),
    )

all_back : (l : List Item) → AllSound l → tab (item_in (items_bytes l)) 0 (length l) ≡ l
unfolding tab items_bytes AllSound
all_back [] v = refl
all_back (x ∷ l) v =
    ap₂ (λ (y : Item) (m : List Item). y ∷ m) (first_back x (items_bytes l) v.0)
    (tab_from (item_in (item_bytes x ++ items_bytes l)) (item_in (items_bytes l)) 1 0 (length l) (λ (k : ℕ). next_back x (items_bytes l) (1 + k) (0 + k) (omega arith)) ∙ all_back l v.1)

-- the output of a call, cut to the rows that it wrote
pub items_back : (l : List Item) (s : List ℕ) → AllSound l → items_in (take (length l * 24) (put 0 (items_bytes l) s)) ≡ l
unfolding items_in put
items_back l s v =
    let b : length (items_bytes l) ≡ length l * 24 = length_items l in
    ap items_in (take_at (items_bytes l) (drop (0 + length (items_bytes l)) s) (length l * 24) b)
    ∙ (ap (tab (item_in (items_bytes l)) 0) (let q : length (items_bytes l) / 24 ≡ length l = omega (arith, b) in q) ∙ all_back l v)

-- ---- entries

-- an entry that its numbers say
abbrev pub Said : Entry → Type 0
Said e = given_of (entry_numbers e) ≡ Known e

unfoldable pub AllSaid : List Entry → Type 0
AllSaid [] = Unit {0}
AllSaid (e ∷ es) = Said e × AllSaid es

length-column : (f : EntryNumbers → ℕ) (es : List Entry) → length (column f es) ≡ length es
length-column f [] = refl
length-column f (e ∷ es) = ap suc (length-column f es)

-- a column that was filled, cut to the entries
pub column_cut : (f : EntryNumbers → ℕ) (es : List Entry) (c0 c : List ℕ) → c ≡ over (column f es) c0 → take (length es) c ≡ column f es
unfolding over
column_cut f es c0 c e = ap (take (length es)) e ∙ take_at (column f es) (drop (length (column f es)) c0) (length es) (length-column f es)

module _ (es : List Entry) where
  abbrev kinds : List ℕ
  kinds = column (λ (x : EntryNumbers). x.kind) es

  abbrev firsts : List ℕ
  firsts = column (λ (x : EntryNumbers). x.a) es

  abbrev seconds : List ℕ
  seconds = column (λ (x : EntryNumbers). x.b) es

  abbrev peers : List ℕ
  peers = column (λ (x : EntryNumbers). x.peer) es

  abbrev counters : List ℕ
  counters = column (λ (x : EntryNumbers). x.counter) es

  abbrev lamports : List ℕ
  lamports = column (λ (x : EntryNumbers). x.lamport) es

  abbrev at : ℕ → Given
  at = given_at kinds firsts seconds peers counters lamports

at_next : (e : Entry) (es : List Entry) (i j : ℕ) → i ≡ suc j → at (e ∷ es) i ≡ at es j
unfolding given_at
at_next e es i j q = ap (at (e ∷ es)) q

all_said : (es : List Entry) → AllSaid es → tab (at es) 0 (length es) ≡ map Known es
unfolding tab AllSaid given_at
all_said [] v = refl
all_said (e ∷ es) v =
    ap₂ (λ (g : Given) (m : List Given). g ∷ m) v.0
    (tab_from (at (e ∷ es)) (at es) 1 0 (length es) (λ (k : ℕ). at_next e es (1 + k) (0 + k) (omega arith)) ∙ all_said es v.1)

-- columns of entries say them
pub givens_back : (es : List Entry) → AllSaid es → givens (kinds es) (firsts es) (seconds es) (peers es) (counters es) (lamports es) ≡ map Known es
unfolding givens
givens_back es v =
    ap (tab (at es) 0)
    (let q : least (length (kinds es)) (length (firsts es)) (length (seconds es)) (length (peers es)) (length (counters es)) (length (lamports es)) ≡ length es =
    omega (arith, length-column (λ (x : EntryNumbers). x.kind) es, length-column (λ (x : EntryNumbers). x.a) es, length-column (λ (x : EntryNumbers). x.b) es, length-column (λ (x : EntryNumbers). x.peer) es, length-column (λ (x : EntryNumbers). x.counter) es, length-column (λ (x : EntryNumbers). x.lamport) es) in q)
    ∙ all_said es v
