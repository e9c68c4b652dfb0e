-- columns that are filled entry by entry
use Prim.Native.Nat.{ℕ, suc, ◌+◌, ◌<◌, ◌≤◌}
use mathlib.Core.Path.{◌≡◌, refl, sym, ap, ap₂, ◌∙◌}
use mathlib.Core.Bool.{Bool, true, false, cond, true≢false}
use mathlib.Core.List.{List, [], ◌∷◌, ◌++◌}
use native.Mathlib.Omega.{arith}
use native.Mathlib.Nat.{zero-add}
use lib.ListN.{length, take, drop, set, length-set}
use lib.Dec.{leb, eqb}
use lib.Seq.{set_split}
use borrow.Author.Tests.{le-leb, lt-leb, leb-true, eq-eqb, ne_eqb, eqb-true}
use Rattle.words.specs.Le.{put}
use Rattle.words.proofs.Puts.{put-put, put-nil}
use Rattle.span.proofs.AnswerLaws.{is_done, is_refused}
use Rattle.store.specs.Row.{rows}
use Rattle.rope.specs.declared.diff.EntryNumbers.{EntryNumbers}
use Rattle.rope.specs.Maybe.{DiffAnswer}
use Rattle.std.specs.Prelude.{Result, Ok, Err}
use Rattle.std.specs.Result.{IsErrAnd}
use Rattle.std.proofs.lemmas.Result.{err_from_is_err_and}
use Rattle.span.specs.declared.refusal.Refusal.{Refusal}
use Rattle.span.specs.Answer.{answer}
use Rattle.span.specs.Refusal.{refused}
use Rattle.units.specs.Lists.{every, over}
use Rattle.units.specs.Store.{count, spans_of, is_state}
use Rattle.span.specs.declared.span.FugueSpan.{FugueSpan}
use Rattle.units.specs.declared.diff.Entry.{Entry}
use Rattle.units.specs.Delta.{insertable, entries_from, entries}
use Rattle.units.specs.Codes.{kept}
use Rattle.rope.specs.Columns.{entry_numbers, column, least, Hold, Set, Filled, diff_rows_code, get_diff_code, Diffed}
use Rattle.rope.proofs.States.{part, part_spans}

pub put-over : (bs s : List ℕ) → put 0 bs s ≡ over bs s
unfolding put over
put-over bs s = ap (λ (n : ℕ). bs ++ drop n s) (zero-add (length bs))

set_one : (s : List ℕ) (k x : ℕ) → k < length s → set s k x ≡ put k (x ∷ []) s
unfolding put
set_one s k x h = set_split s k x h ∙ front (take k s) (drop (suc k) s) ∙ ap (λ (n : ℕ). (take k s ++ (x ∷ [])) ++ drop n s) (let e : suc k ≡ k + 1 = omega arith in e)
  where
    front : (p q : List ℕ) → p ++ (x ∷ q) ≡ (p ++ (x ∷ [])) ++ q
    front [] q = refl
    front (y ∷ p) q = ap (λ (l : List ℕ). y ∷ l) (front p q)

-- what is put from k on is a store and the rest
pub put-set : (s bs : List ℕ) (k x : ℕ) → k < length s → put (k + 1) bs (set s k x) ≡ put k (x ∷ bs) s
put-set s bs k x h = ap (put (k + 1) bs) (set_one s k x h) ∙ put-put s (x ∷ []) k (omega arith) bs

length-column : (f : EntryNumbers → ℕ) (es : List Entry) → length (column f es) ≡ length es
length-column f [] = refl
length-column f (e ∷ es) = ap suc (length-column f es)

-- a column with the first k of the entries es written: rest are those that are left
pub record Col (f : EntryNumbers → ℕ) (es rest : List Entry) (k : ℕ) (c0 c : List ℕ) : Type 0 where
  pub long : length c ≡ length c0
  pub room : k + length rest ≤ length c0
  pub is : put k (column f rest) c ≡ over (column f es) c0

module _ (f : EntryNumbers → ℕ) (es : List Entry) where
  col_start : (c : List ℕ) → length es ≤ length c → Col f es es 0 c c
  col_start c h = record { long = refl; room = omega arith; is = put-over (column f es) c }

  module _ (rest : List Entry) (k : ℕ) (c0 c : List ℕ) (v : Col f es rest k c0 c) where
    col_end : rest ≡ [] → c ≡ over (column f es) c0
    col_end e = sym (put-nil c k) ∙ ap (λ (l : List Entry). put k (column f l) c) (sym e) ∙ v.is

    col_next : (e : Entry) (left : List Entry) → rest ≡ e ∷ left → (x : EntryNumbers) → x ≡ entry_numbers e → (c2 : List ℕ) → c2 ≡ set c k (f x) → Col f es left (k + 1) c0 c2
    col_next e left p x q c2 r =
        let z : length rest ≡ suc (length left) = ap length p in
        let h : k < length c = omega (arith, z, v.room, v.long) in
        let g : c2 ≡ set c k (f (entry_numbers e)) = r ∙ ap (λ (y : EntryNumbers). set c k (f y)) q in
        record {
          long = ap length r ∙ (length-set c k (f x) ∙ v.long);
          room = omega (arith, z, v.room);
          is = ap (put (k + 1) (column f left)) g ∙ (put-set c (column f left) k (f (entry_numbers e)) h ∙ (ap (λ (l : List Entry). put k (column f l) c) (sym p) ∙ v.is));
        }

    col_room : (e : Entry) (left : List Entry) → rest ≡ e ∷ left → k + 1 ≤ length c
    col_room e left p = let z : length rest ≡ suc (length left) = ap length p in omega (arith, z, v.room, v.long)

-- all six
pub record Filling (es rest : List Entry) (i : ℕ) (k0 a0 b0 p0 c0 l0 k a b p c l : List ℕ) : Type 0 where
  pub kind : Col (λ (x : EntryNumbers). x.kind) es rest i k0 k
  pub first : Col (λ (x : EntryNumbers). x.a) es rest i a0 a
  pub second : Col (λ (x : EntryNumbers). x.b) es rest i b0 b
  pub peer : Col (λ (x : EntryNumbers). x.peer) es rest i p0 p
  pub counter : Col (λ (x : EntryNumbers). x.counter) es rest i c0 c
  pub lamport : Col (λ (x : EntryNumbers). x.lamport) es rest i l0 l

pub fill_start : (es : List Entry) (k a b p c l : List ℕ) → Hold (length es) k a b p c l → Filling es es 0 k a b p c l k a b p c l
fill_start es k a b p c l h =
    record {
      kind = col_start (λ (x : EntryNumbers). x.kind) es k h.kind;
      first = col_start (λ (x : EntryNumbers). x.a) es a h.first;
      second = col_start (λ (x : EntryNumbers). x.b) es b h.second;
      peer = col_start (λ (x : EntryNumbers). x.peer) es p h.peer;
      counter = col_start (λ (x : EntryNumbers). x.counter) es c h.counter;
      lamport = col_start (λ (x : EntryNumbers). x.lamport) es l h.lamport;
    }

pub start_all : (spans : List FugueSpan) (k a b p c l : List ℕ) → Hold (length (entries spans)) k a b p c l → Filling (entries spans) (entries_from (drop 0 spans) 0) 0 k a b p c l k a b p c l
unfolding entries
start_all spans k a b p c l h = fill_start (entries_from spans 0) k a b p c l h

module _ (es rest : List Entry) (i : ℕ) (k0 a0 b0 p0 c0 l0 k a b p c l : List ℕ) (v : Filling es rest i k0 a0 b0 p0 c0 l0 k a b p c l) where
  pub fill_end : rest ≡ [] → Filled es k0 a0 b0 p0 c0 l0 k a b p c l
  fill_end e =
      record {
        kind = col_end (λ (x : EntryNumbers). x.kind) es rest i k0 k v.kind e;
        first = col_end (λ (x : EntryNumbers). x.a) es rest i a0 a v.first e;
        second = col_end (λ (x : EntryNumbers). x.b) es rest i b0 b v.second e;
        peer = col_end (λ (x : EntryNumbers). x.peer) es rest i p0 p v.peer e;
        counter = col_end (λ (x : EntryNumbers). x.counter) es rest i c0 c v.counter e;
        lamport = col_end (λ (x : EntryNumbers). x.lamport) es rest i l0 l v.lamport e;
      }

  module _ (e : Entry) (left : List Entry) (at : rest ≡ e ∷ left) where
    pub fill_room : Hold (i + 1) k a b p c l
    fill_room =
        record {
          kind = col_room (λ (x : EntryNumbers). x.kind) es rest i k0 k v.kind e left at;
          first = col_room (λ (x : EntryNumbers). x.a) es rest i a0 a v.first e left at;
          second = col_room (λ (x : EntryNumbers). x.b) es rest i b0 b v.second e left at;
          peer = col_room (λ (x : EntryNumbers). x.peer) es rest i p0 p v.peer e left at;
          counter = col_room (λ (x : EntryNumbers). x.counter) es rest i c0 c v.counter e left at;
          lamport = col_room (λ (x : EntryNumbers). x.lamport) es rest i l0 l v.lamport e left at;
        }

    pub fill_next : (x : EntryNumbers) → x ≡ entry_numbers e → (k2 a2 b2 p2 c2 l2 : List ℕ) → Set i x k a b p c l k2 a2 b2 p2 c2 l2 → Filling es left (i + 1) k0 a0 b0 p0 c0 l0 k2 a2 b2 p2 c2 l2
    fill_next x q k2 a2 b2 p2 c2 l2 w =
        record {
          kind = col_next (λ (y : EntryNumbers). y.kind) es rest i k0 k v.kind e left at x q k2 w.kind;
          first = col_next (λ (y : EntryNumbers). y.a) es rest i a0 a v.first e left at x q a2 w.first;
          second = col_next (λ (y : EntryNumbers). y.b) es rest i b0 b v.second e left at x q b2 w.second;
          peer = col_next (λ (y : EntryNumbers). y.peer) es rest i p0 p v.peer e left at x q p2 w.peer;
          counter = col_next (λ (y : EntryNumbers). y.counter) es rest i c0 c v.counter e left at x q c2 w.counter;
          lamport = col_next (λ (y : EntryNumbers). y.lamport) es rest i l0 l v.lamport e left at x q l2 w.lamport;
        }

-- ---- what an answer says of its code

abbrev is_ok : {A : Type 0} → Result A Refusal → Bool
is_ok (Ok x) = true
is_ok (Err e) = false

abbrev value_or : {A : Type 0} → A → Result A Refusal → A
value_or d (Ok x) = x
value_or d (Err e) = d

module _ {A : Type 0} (code : ℕ) (y : A) where
  by_code : (t : Bool) → eqb code 0 ≡ t → answer Ok refused code y ≡ cond t (Ok y) (refused code)
  unfolding answer
  by_code t q = ap (λ (b : Bool). cond b (Ok y) (refused code)) q

  pub answer_not_ok : (d : Refusal) → Err d ≡ answer Ok refused code y → code ≡ 0 → ⊥
  answer_not_ok d e z = true≢false (ap is_ok (sym (e ∙ by_code true (eq-eqb code 0 z))))

  pub answer_value : (x : A) → Ok x ≡ answer Ok refused code y → (code ≡ 0) × (x ≡ y)
  answer_value x e = go (eqb code 0) refl
    where
      go : (t : Bool) → eqb code 0 ≡ t → (code ≡ 0) × (x ≡ y)
      go true q = (eqb-true code 0 q, ap (value_or x) (e ∙ by_code true q))
      go false q = absurd (true≢false (ap is_ok (e ∙ by_code false q)))

-- ---- get_diff

pub hold_least : (n : ℕ) (k a b p c l : List ℕ) → n ≤ least (length k) (length a) (length b) (length p) (length c) (length l) → Hold n k a b p c l
hold_least n k a b p c l h =
    record { kind = omega arith; first = omega arith; second = omega arith; peer = omega arith; counter = omega arith; lamport = omega arith }

module _ (room : ℕ) (spans : List FugueSpan) where
  rows_code : (t u : Bool) → every insertable spans ≡ t → leb (length (entries spans)) room ≡ u → diff_rows_code room spans ≡ cond t (cond u 0 13) 12
  unfolding diff_rows_code
  rows_code t u e f = ap₂ (λ (a b : Bool). cond a (cond b 0 13) 12) e f

  pub rows_code_real : every insertable spans ≡ false → diff_rows_code room spans ≡ 12
  rows_code_real e = rows_code false _ e refl

  pub rows_code_full : every insertable spans ≡ true → room < length (entries spans) → diff_rows_code room spans ≡ 13
  rows_code_full e h = rows_code true false e (lt-leb (length (entries spans)) room h)

  pub rows_code_done : every insertable spans ≡ true → length (entries spans) ≤ room → diff_rows_code room spans ≡ 0
  rows_code_done e h = rows_code true true e (le-leb (length (entries spans)) room h)

  pub rows_code_fits : diff_rows_code room spans ≡ 0 → length (entries spans) ≤ room
  rows_code_fits e = go (every insertable spans) (leb (length (entries spans)) room) refl refl
    where
      go : (t u : Bool) → every insertable spans ≡ t → leb (length (entries spans)) room ≡ u → length (entries spans) ≤ room
      go true true p q = leb-true (length (entries spans)) room q
      go true false p q = let z : ◌≡◌ {A = ℕ} 13 0 = sym (rows_code true false p q) ∙ e in absurd (omega (arith, z))
      go false u p q = let z : ◌≡◌ {A = ℕ} 12 0 = sym (rows_code false u p q) ∙ e in absurd (omega (arith, z))

module _ (code : ℕ) (spans : List FugueSpan) (k a b p c l : List ℕ) where
  as_was : (n : ℕ) → code ≡ n → (n ≡ 0 → ⊥) → (x y : List ℕ) → x ≡ kept code y x
  as_was n e z x y = sym (ap (λ (t : Bool). cond t y x) (ne_eqb code 0 (λ q. z (sym e ∙ q))))

  pub diffed_refused : (n : ℕ) → code ≡ n → (n ≡ 0 → ⊥) → Diffed code spans (refused n) k a b p c l k a b p c l
  diffed_refused n e z =
      record {
        said = is_refused Ok refused code n (length (entries spans)) z (sym e);
        kind = as_was n e z k _;
        first = as_was n e z a _;
        second = as_was n e z b _;
        peer = as_was n e z p _;
        counter = as_was n e z c _;
        lamport = as_was n e z l _;
      }

  pub diffed_exit : (r : DiffAnswer) (d : Refusal) → IsErrAnd r (λ (x : Refusal). x ≡ d) → Err d ≡ answer Ok refused code (length (entries spans)) → Diffed code spans r k a b p c l k a b p c l
  diffed_exit r d x e =
      let w = err_from_is_err_and r x in
      let z : code ≡ 0 → ⊥ = answer_not_ok code (length (entries spans)) d e in
      record {
        said = w.1 ∙ (ap Err w.2 ∙ e);
        kind = as_was code refl z k _;
        first = as_was code refl z a _;
        second = as_was code refl z b _;
        peer = as_was code refl z p _;
        counter = as_was code refl z c _;
        lamport = as_was code refl z l _;
      }

  as_new : code ≡ 0 → (x y z : List ℕ) → x ≡ y → x ≡ kept code y z
  as_new e x y z q = q ∙ sym (ap (λ (t : Bool). cond t y z) (eq-eqb code 0 e))

  pub diffed_done : code ≡ 0 → (n : ℕ) → n ≡ length (entries spans) → (k2 a2 b2 p2 c2 l2 : List ℕ) → Filled (entries spans) k a b p c l k2 a2 b2 p2 c2 l2 → Diffed code spans (Ok n) k a b p c l k2 a2 b2 p2 c2 l2
  diffed_done e n q k2 a2 b2 p2 c2 l2 w =
      record {
        said = is_done Ok refused code e q;
        kind = as_new e k2 _ k w.kind;
        first = as_new e a2 _ a w.first;
        second = as_new e b2 _ b w.second;
        peer = as_new e p2 _ p w.peer;
        counter = as_new e c2 _ c w.counter;
        lamport = as_new e l2 _ l w.lamport;
      }

module _ (room : ℕ) (s : List ℕ) where
  pub get_code_none : is_state s ≡ false → get_diff_code room s ≡ 15
  unfolding get_diff_code
  get_code_none e = ap (λ (t : Bool). cond t (diff_rows_code room (spans_of s)) 15) e

  get_code : is_state s ≡ true → get_diff_code room s ≡ diff_rows_code room (spans_of s)
  unfolding get_diff_code
  get_code e = ap (λ (t : Bool). cond t (diff_rows_code room (spans_of s)) 15) e

  pub diffed_all : is_state s ≡ true → (n : ℕ) → n ≡ count s → (r : DiffAnswer) (k a b p c l k2 a2 b2 p2 c2 l2 : List ℕ) → Diffed (diff_rows_code room (rows n (part s))) (rows n (part s)) r k a b p c l k2 a2 b2 p2 c2 l2 → Diffed (get_diff_code room s) (spans_of s) r k a b p c l k2 a2 b2 p2 c2 l2
  diffed_all e n q r k a b p c l k2 a2 b2 p2 c2 l2 d =
      let w : rows n (part s) ≡ spans_of s = ap (λ (m : ℕ). rows m (part s)) q ∙ part_spans s in
      rw (get_code e) (rw w at d)
