-- A delta with like neighbours joined is applied to the same effect. Assumes nothing.
use Prim.Native.Nat.{ℕ, suc, ◌+◌}
use mathlib.Core.Path.{◌≡◌, refl, sym, ap, ap₂, ◌∙◌}
use mathlib.Core.Bool.{Bool, true, false, ◌&&◌, cond, false≢true}
use mathlib.Core.List.{List, [], ◌∷◌, ◌++◌, map, append_assoc}
use native.Mathlib.Nat.{zero-add, add-suc}
use lib.ListN.{take, drop}
use lib.Seq.{take-add, drop-drop}
use Rattle.span.specs.declared.chunk.RichtextChunk.{RichtextChunk}
use Rattle.span.specs.declared.ids.Id.{Id}
use Rattle.span.specs.Chunk.{len_of, joins, merged_chunk}
use Rattle.span.specs.Ids.{inc_id, same_id}
use Rattle.span.proofs.IdsLaws.{inc_inc}
use Rattle.span.proofs.Same.{same_id-true}
use Rattle.span.proofs.ListLaws.{tab_from, tab-add}
use Rattle.span.proofs.Views.{JoinView, join_view}
use Rattle.span.proofs.JoinLaws.{merged_len, merged_left_lem, merged_right, merged_formed}
use Rattle.units.specs.Lists.{every}
use Rattle.units.specs.declared.diff.Entry.{Entry}
use Rattle.units.specs.declared.diff.Entry.TheVariants.{Retain, Delete, Insert}
use Rattle.units.specs.Delta.{lamports_run, like, size_of, merged_entry, join_entry, join_entries}
use Rattle.rope.proofs.Lists.{and-true}
use Rattle.apply.specs.declared.item.Item.{Item}
use Rattle.apply.specs.Apply.{Given, Known, item_at, items_of, applied, entry_formed}

abbrev known : List Entry → List Given
known es = map Known es

-- ---- the units of two Inserts that join

module _ (c d : RichtextChunk) (i : Id) (v : JoinView c d) where
  left_item : (k : ℕ) → item_at (merged_chunk c d) i k ≡ item_at c i k
  unfolding item_at
  left_item k = ap (λ (x : RichtextChunk). record { id = inc_id i k; content = x }) (merged_left_lem c d v k (suc k))

  right_item : (k : ℕ) → item_at (merged_chunk c d) i (len_of c + k) ≡ item_at d (inc_id i (len_of c)) k
  unfolding item_at
  right_item k =
      ap₂ (λ (j : Id) (x : RichtextChunk). record { id = j; content = x }) (sym (inc_inc i (len_of c) k)) (rw (← add-suc) (merged_right c d v k (suc k)))

  items_merged : items_of (merged_chunk c d) i ≡ items_of c i ++ items_of d (inc_id i (len_of c))
  unfolding items_of
  items_merged =
      rw (merged_len c d v)
      (tab-add (item_at (merged_chunk c d) i) 0 (len_of c) (len_of d)
      ∙ ap₂ (λ (l m : List Item). l ++ m) (tab_from (item_at (merged_chunk c d) i) (item_at c i) 0 0 (len_of c) (λ k. rw zero-add (left_item k)))
      (tab_from (item_at (merged_chunk c d) i) (item_at d (inc_id i (len_of c))) (0 + len_of c) 0 (len_of d) (λ k. simp zero-add (right_item k))))

-- ---- two like entries as one

merged_applies : (e f : Entry) (es : List Given) (old : List Item) → entry_formed (Known e) ≡ true → entry_formed (Known f) ≡ true → like e f ≡ true → applied (Known (merged_entry e f) ∷ es) old ≡ applied (Known e ∷ (Known f ∷ es)) old
unfolding applied like merged_entry size_of entry_formed
merged_applies (Retain a) (Retain b) es old p q h =
    ap₂ (λ (l m : List Item). l ++ applied es m) (take-add a b old) (sym (drop-drop b a old))
    ∙ append_assoc (take a old) (take b (drop a old)) (applied es (drop b (drop a old)))
merged_applies (Retain a) (Delete b) es old p q h = absurd (false≢true h)
merged_applies (Retain a) (Insert d j m) es old p q h = absurd (false≢true h)
merged_applies (Delete a) (Retain b) es old p q h = absurd (false≢true h)
merged_applies (Delete a) (Delete b) es old p q h = ap (applied es) (sym (drop-drop b a old))
merged_applies (Delete a) (Insert d j m) es old p q h = absurd (false≢true h)
merged_applies (Insert c i l) (Retain b) es old p q h = absurd (false≢true h)
merged_applies (Insert c i l) (Delete b) es old p q h = absurd (false≢true h)
merged_applies (Insert c i l) (Insert d j m) es old p q h =
    let a = and-true (joins c d) (same_id (inc_id i (len_of c)) j && lamports_run l (len_of c) m) h in
    let b = and-true (same_id (inc_id i (len_of c)) j) (lamports_run l (len_of c) m) a.1 in
    ap (λ (x : List Item). x ++ applied es old) (items_merged c d i (join_view c d p q a.0) ∙ ap (λ (k : Id). items_of c i ++ items_of d k) (same_id-true (inc_id i (len_of c)) j b.0))
    ∙ append_assoc (items_of c i) (items_of d j) (applied es old)

-- two like entries that are formed are one that is
merged_is_formed : (e f : Entry) → entry_formed (Known e) ≡ true → entry_formed (Known f) ≡ true → like e f ≡ true → entry_formed (Known (merged_entry e f)) ≡ true
unfolding like merged_entry entry_formed
merged_is_formed (Retain a) f p q h = refl
merged_is_formed (Delete a) f p q h = refl
merged_is_formed (Insert c i l) (Retain b) p q h = p
merged_is_formed (Insert c i l) (Delete b) p q h = p
merged_is_formed (Insert c i l) (Insert d j m) p q h =
    let a = and-true (joins c d) (same_id (inc_id i (len_of c)) j && lamports_run l (len_of c) m) h in
    merged_formed c d (join_view c d p q a.0)

-- ---- a delta

-- what joining leaves: the same effect, and entries that are formed
pub record Alike (es fs : List Entry) : Type 0 where
  pub formed : every entry_formed (known fs) ≡ true
  pub same : (old : List Item) → applied (known fs) old ≡ applied (known es) old

and_both : (a b : Bool) → a ≡ true → b ≡ true → (a && b) ≡ true
and_both a b p q = ap₂ (λ (x y : Bool). x && y) p q

-- an entry keeps the effect of what follows it
cons_same : (e : Entry) (es fs : List Given) → ((old : List Item) → applied fs old ≡ applied es old) → (old : List Item) → applied (Known e ∷ fs) old ≡ applied (Known e ∷ es) old
unfolding applied
cons_same (Retain n) es fs h old = ap (λ (x : List Item). take n old ++ x) (h (drop n old))
cons_same (Delete n) es fs h old = h (drop n old)
cons_same (Insert c i l) es fs h old = ap (λ (x : List Item). items_of c i ++ x) (h old)

join_front : (e : Entry) (es fs : List Entry) → entry_formed (Known e) ≡ true → Alike es fs → Alike (e ∷ es) (join_entry e fs)
unfolding join_entry every
join_front e es [] p v = record { formed = and_both (entry_formed (Known e)) true p refl; same = cons_same e (known es) [] v.same }
join_front e es (f ∷ fs) p v = go (like e f) refl
  where
    front : (entry_formed (Known f) ≡ true) × (every entry_formed (known fs) ≡ true)
    front = and-true (entry_formed (Known f)) (every entry_formed (known fs)) v.formed

    go : (t : Bool) → like e f ≡ t → Alike (e ∷ es) (cond t (merged_entry e f ∷ fs) (e ∷ (f ∷ fs)))
    go true h =
        record {
          formed = and_both (entry_formed (Known (merged_entry e f))) (every entry_formed (known fs)) (merged_is_formed e f p front.0 h) front.1;
          same = λ old. merged_applies e f (known fs) old p front.0 h ∙ cons_same e (known es) (known (f ∷ fs)) v.same old;
        }
    go false h =
        record { formed = and_both (entry_formed (Known e)) (every entry_formed (known (f ∷ fs))) p v.formed; same = cons_same e (known es) (known (f ∷ fs)) v.same }

pub join_alike : (es : List Entry) → every entry_formed (known es) ≡ true → Alike es (join_entries es)
unfolding join_entries every
join_alike [] h = record { formed = refl; same = λ old. refl }
join_alike (e ∷ es) h =
    let a = and-true (entry_formed (Known e)) (every entry_formed (known es)) h in
    join_front e es (join_entries es) a.0 (join_alike es a.1)

-- the law: like neighbours joined, a delta does the same to every list
pub join_applies : (es : List Entry) → every entry_formed (known es) ≡ true → (old : List Item) → applied (map Known (join_entries es)) old ≡ applied (map Known es) old
join_applies es h old = (join_alike es h).same old
