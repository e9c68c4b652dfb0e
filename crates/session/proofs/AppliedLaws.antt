-- a delta applied to the list of a store, call by call
use Rattle.std.proofs.Common.{◌≡◌, ℕ, ◌+◌, ◌*◌, ◌/◌, List, ◌++◌, length, take, drop, replicate, sym, ap, ◌∙◌, arith, take_at, ne_eqb}
use lib.ListN.{length-replicate}
use Rattle.words.specs.Le.{put}
use Rattle.span.specs.declared.span.FugueSpan.{FugueSpan}
use Rattle.rope.specs.declared.diff.EntryNumbers.{EntryNumbers}
use Rattle.rope.specs.Maybe.{DiffAnswer}
use Rattle.std.specs.Prelude.{Ok, Err}
use Rattle.span.specs.declared.refusal.Refusal.{Refusal}
use Rattle.span.specs.Refusal.{number_of}
use Rattle.span.proofs.RefusalLaws.{number_not_zero}
use Rattle.units.specs.Store.{spans_of}
use Rattle.units.specs.Delta.{entries}
use Rattle.rope.specs.Columns.{Diffed}
use Rattle.apply.specs.declared.item.Item.{Item}
use Rattle.apply.specs.Maybe.{ApplyAnswer}
use Rattle.apply.specs.Items.{items_in, items_bytes}
use Rattle.apply.specs.Called.{Called, delta_items, delta_code, shown_items, shown_code, visible_code}
use Rattle.apply.proofs.Tabs.{length_items}
use Rattle.apply.proofs.Back.{column_cut}
use Rattle.apply.proofs.Coded.{length_in, called_err}
use Rattle.tracker.specs.Entries.{version_of}
use Rattle.tracker.specs.Between.{Deltas}
use Rattle.session.specs.Say.{Says}
use Rattle.session.proofs.NumberLaws.{IsNumber, answered_ok, answered_err, number_of_list}
use Rattle.session.specs.Entries.{answer_lines}
use Rattle.session.specs.Columns.{word_peers, word_counts}
use Rattle.session.specs.Applied.{list_code, list_rows, or_else, on_list_items, on_list_code, new_items, new_code, told_entries, applied_code, AppliesIn, row_room, front, Applies}

-- columns cut to their entries, and the old list's rows
pub called_as : (out : List ℕ) {k a b p c l o k2 a2 b2 p2 c2 l2 o2 : List ℕ} {r : ApplyAnswer} {out' : List ℕ}
    → k2 ≡ k → a2 ≡ a → b2 ≡ b → p2 ≡ p → c2 ≡ c → l2 ≡ l → o2 ≡ o
    → Called (delta_code k2 a2 b2 p2 c2 l2 o2 out) (delta_items k2 a2 b2 p2 c2 l2 o2) out r out'
    → Called (delta_code k a b p c l o out) (delta_items k a b p c l o) out r out'
called_as out e1 e2 e3 e4 e5 e6 e7 d = rw (e1, e2, e3, e4, e5, e6, e7) at d

-- ---- the list of a store

module _ (s old : List ℕ) (h : length old ≡ 589824) {r : ApplyAnswer} {old2 : List ℕ} (d : Called (visible_code s old) (shown_items (spans_of s)) old r old2) where
  many : length (items_in old) ≡ 24576
  many = length_in old ∙ (let e : length old / 24 ≡ 24576 = omega arith in e)

  code_is : visible_code s old ≡ list_code s
  unfolding visible_code shown_code list_code
  code_is = rw many

  pub list_done : (m : ℕ) {f : List ℕ} → r ≡ Ok m → f ≡ take (m * 24) old2 → (list_code s ≡ 0) × (f ≡ list_rows s)
  unfolding list_rows put
  list_done m e g =
      let w = answered_ok (visible_code s old) (length (shown_items (spans_of s))) (sym e ∙ d.said) in
      let x : old2 ≡ put 0 (items_bytes (shown_items (spans_of s))) old = rw w.0 at d.left in (
        sym code_is ∙ w.0,
        g ∙ rw (x, w.1)
            (take_at (items_bytes (shown_items (spans_of s))) (drop (0 + length (items_bytes (shown_items (spans_of s)))) old) (length (shown_items (spans_of s)) * 24) (length_items (shown_items (spans_of s)))),
      )

  pub list_refused : (e : Refusal) → r ≡ Err e → number_of e ≡ list_code s
  list_refused e q =
      let k : IsNumber (visible_code s old) = rw code_is (number_of_list s) in
      (answered_err (visible_code s old) (length (shown_items (spans_of s))) k (sym q ∙ d.said)).0 ∙ code_is

-- what the call that lists into 589,824 zeros tells, with the zeros left out
pub record Shown (s : List ℕ) (r : ApplyAnswer) (old2 : List ℕ) : Type 0 where
  pub long : 589824 ≡ length old2
  pub done : (m : ℕ) {f : List ℕ} → r ≡ Ok m → f ≡ take (m * 24) old2 → (list_code s ≡ 0) × (f ≡ list_rows s)
  pub refused : (e : Refusal) → r ≡ Err e → number_of e ≡ list_code s

pub is_shown : (s : List ℕ) {r : ApplyAnswer} (old2 : List ℕ) → length old2 ≡ length (replicate {A = ℕ} 589824 0)
    → Called (visible_code s (replicate 589824 0)) (shown_items (spans_of s)) (replicate 589824 0) r old2 → Shown s r old2
is_shown s old2 e d =
    let h = length-replicate {A = ℕ} 589824 0 in
    record { long = sym (e ∙ h); done = λ m {f} p q. list_done s (replicate 589824 0) h d m p q; refused = list_refused s (replicate 589824 0) h d }

-- a refusal goes before the next call
module _ (first next : ℕ) (new : List Item) (out : List ℕ) where
  pub or_refused : (e : Refusal) → number_of e ≡ first → Called (or_else first next) new out (Err e) out
  or_refused e q = called_err (or_else first next) e new out (q ∙ rw (ne_eqb first 0 (λ z. number_not_zero e (q ∙ z))))

  pub or_next : {r : ApplyAnswer} {out' : List ℕ} → first ≡ 0 → Called next new out r out' → Called (or_else first next) new out r out'
  or_next e d = rw e d

-- ---- the delta's entries, cut out of its columns

module _ (code : ℕ) (spans : List FugueSpan) (k a b p c l : List ℕ) {k2 a2 b2 p2 c2 l2 : List ℕ} {r : DiffAnswer} (d : Diffed code spans r k a b p c l k2 a2 b2 p2 c2 l2) where
  pub new_done : (n : ℕ) (s out : List ℕ) {q : ApplyAnswer} {out' : List ℕ} → r ≡ Ok n
      → Called (on_list_code (take n k2) (take n a2) (take n b2) (take n p2) (take n c2) (take n l2) s out) (on_list_items (take n k2) (take n a2) (take n b2) (take n p2) (take n c2) (take n l2) s) out q out'
      → Called (or_else code (new_code (entries spans) s out)) (new_items (entries spans) s) out q out'
  unfolding new_code new_items
  new_done n s out e v =
      let w = answered_ok code (length (entries spans)) (sym e ∙ d.said) in
      let u = rw w.1 at v in
      or_next code _ _ out w.0
      (rw (
        column_cut (λ (x : EntryNumbers). x.kind) (entries spans) k k2 (rw w.0 at d.kind),
        column_cut (λ (x : EntryNumbers). x.a) (entries spans) a a2 (rw w.0 at d.first),
        column_cut (λ (x : EntryNumbers). x.b) (entries spans) b b2 (rw w.0 at d.second),
        column_cut (λ (x : EntryNumbers). x.peer) (entries spans) p p2 (rw w.0 at d.peer),
        column_cut (λ (x : EntryNumbers). x.counter) (entries spans) c c2 (rw w.0 at d.counter),
        column_cut (λ (x : EntryNumbers). x.lamport) (entries spans) l l2 (rw w.0 at d.lamport),
      ) at u)

  pub new_refused : (e : Refusal) (s out : List ℕ) → number_of e ≡ code → Called (or_else code (new_code (entries spans) s out)) (new_items (entries spans) s) out (Err e) out
  new_refused e s out q = or_refused code _ _ out e q

-- the delta and the list
module _ (v w s t e : List ℕ) (most : ℕ) {r : DiffAnswer} {s' k x y p c l k2 x2 y2 p2 c2 l2 : List ℕ} where
  pub is_applying : (out : List ℕ) {q : ApplyAnswer} {out' : List ℕ}
      → Deltas s t e (version_of (word_peers v) (word_counts v)) (version_of (word_peers w) (word_counts w)) most r s' k x y p c l k2 x2 y2 p2 c2 l2
      → Called (applied_code most v w s t e s' out) (new_items (told_entries most v w s t e) s') out q out'
      → AppliesIn most v w s t e out q s' out'
  is_applying out d m = record { leaves = rw d.leaves.number at d.leaves; called = m }

pub applies_as : (v w s t e out : List ℕ) {m n : ℕ} {r : ApplyAnswer} {s' out' : List ℕ} → m ≡ n → AppliesIn m v w s t e out r s' out' → AppliesIn n v w s t e out r s' out'
applies_as v w s t e out h d = rw h at d

-- the front of the output, and the answer said
pub is_applied : (v w s t e out : List ℕ) (at : ℕ) (text : List ℕ) {ans : ApplyAnswer} {r : ℕ} {part s' out' text' : List ℕ}
    → AppliesIn (row_room v w s t e out) v w s t e (front v w s t e out) ans s' part → out' ≡ part ++ drop (length out / 72 * 24) out
    → Says at (answer_lines ans out') text r text' → Applies v w s t e out at text r s' out' text'
is_applied v w s t e out at text d q m =
    record { leaves = d.leaves; items = q ∙ ap (λ (l : List ℕ). l ++ drop (length out / 72 * 24) out) d.called.left; says = rw d.called.said at m }
