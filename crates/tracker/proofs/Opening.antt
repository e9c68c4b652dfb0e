-- A history that was opened is well formed, and the start; its number is the history's own where the buffers are long enough. Assumes nothing.
use Prim.Native.Nat.{ℕ, zero, suc, ◌+◌, ◌-◌, ◌^◌, ◌≤◌, ◌<◌}
use mathlib.Core.Path.{◌≡◌, refl, sym, ap, subst, ◌∙◌}
use mathlib.Core.Bool.{Bool, true, false, ◌&&◌, cond}
use mathlib.Core.List.{List, [], ◌∷◌, append-nil}
use native.Mathlib.Omega.{arith}
use lib.Dec.{leb, eqb}
use lib.ListN.{length, drop}
use lib.Seq.{drop-drop}
use borrow.Author.Tests.{le-leb, lt-leb, leb-true, leb-false, ne_eqb}
use Rattle.words.specs.Le.{bytes_of, put}
use Rattle.words.proofs.Puts.{length-put, drop-put}
use Rattle.span.specs.declared.span.FugueSpan.{FugueSpan}
use Rattle.span.specs.Units.{units_of, expand, join, Apart, Joined}
use Rattle.span.proofs.ForRope.{joined_is}
use Rattle.store.specs.Row.{row_bytes, word_bytes}
use Rattle.store.specs.Header.{room, spans_of}
use Rattle.store.specs.Header as Spans
use Rattle.units.specs.Query.{placeholder}
use Rattle.units.specs.Codes.{placeholder_code}
use Rattle.rope.specs.Entries.{open_code as store_code, open_bytes, open_with_code, open_with_bytes}
use Rattle.rope.specs.Edits.{past_rows}
use Rattle.rope.proofs.Opened.{empty_spans, placeholder_ok, placeholder_spans}
use Rattle.rope.proofs.States.{open_short, open_done, with_none, with_many, with_full, with_done, room_head}
use Rattle.history.specs.Arrive.{start}
use Rattle.history.specs.Valid.{valid}
use Rattle.history.specs.Codes.{open_code, stored}
use Rattle.history.specs.ByCalls.{opened}
use Rattle.history.proofs.Start.{start_is}
use Rattle.history.proofs.Histories.{never_15}
use Rattle.tracker.specs.Rows.{held, edit_count, placeholder_in, history_in, is_history, target_room, EDIT_BYTES}
use Rattle.tracker.specs.Writes.{header_bytes}
use Rattle.tracker.specs.Opens.{open_number, open_with_number, Opened}
use Rattle.tracker.proofs.Appends.{header_count, header_placeholder}
use Rattle.tracker.proofs.Leaving.{history_well}

-- ---------------------------------------------------------------- the bytes beside what is put

drop_past : (s bs : List ℕ) (at k : ℕ) → at ≤ length s → at + length bs ≤ k → drop k (put at bs s) ≡ drop k s
drop_past s bs at k h q =
    let p : k ≡ (at + length bs) + (k - (at + length bs)) = omega arith in
    let m = k - (at + length bs) in
    ap (λ (j : ℕ). drop j (put at bs s)) p
    ∙ (sym (drop-drop m (at + length bs) (put at bs s))
    ∙ (ap (drop m) (drop-put s bs at h)
    ∙ (drop-drop m (at + length bs) s ∙ ap (λ (j : ℕ). drop j s) (sym p))))

length_header : (n p : ℕ) → length (header_bytes n p) ≡ 64
unfolding header_bytes bytes_of
length_header n p = refl

length_spans : (n : ℕ) → length (Spans.header_bytes n) ≡ 72
unfolding Spans.header_bytes word_bytes bytes_of
length_spans n = refl

length_row : (x : FugueSpan) → length (row_bytes x) ≡ 72
unfolding word_bytes bytes_of
length_row x = refl

room_same : (s s' : List ℕ) → length s' ≡ length s → room s' ≡ room s
unfolding room
room_same s s' e = rw e

-- ---------------------------------------------------------------- a header of no edits, and the list of the start

module _ (n : ℕ) (small : n < 2 ^ 64) (s' t e e' : List ℕ) (long : EDIT_BYTES ≤ length e) (q : e' ≡ put 0 (header_bytes 0 n) e) (list : spans_of s' ≡ (stored (start n)).list) where
  length_edits : length e' ≡ length e
  length_edits = ap length q ∙ length-put e (header_bytes 0 n) 0 (omega arith) (omega (arith, length_header 0 n, long))

  pub is_start : history_in s' t e' ≡ stored (start n)
  unfolding history_in held stored start
  is_start =
      let c : edit_count e' ≡ 0 = ap edit_count q ∙ header_count 0 n (omega arith) small e in
      let p : placeholder_in e' ≡ n = ap placeholder_in q ∙ header_placeholder 0 n (omega arith) small e in
      rw (p, list, c)

  pub is_well : 72 ≤ length s' → open_code (room s') n ≡ 0 → is_history s' t e' ≡ true
  is_well head c =
      history_well s' t e' (omega (arith, length_edits, long)) head
      (ap (valid (room s') (target_room t)) is_start ∙ never_15 n (room s') (target_room t) (stored (start n)) (opened c))

  pub edits_beside : drop EDIT_BYTES e' ≡ drop EDIT_BYTES e
  edits_beside = ap (drop EDIT_BYTES) q ∙ drop_past e (header_bytes 0 n) 0 EDIT_BYTES (omega arith) (omega (arith, length_header 0 n))

-- ---------------------------------------------------------------- refused

pub opened_not : (code n r : ℕ) (s t e : List ℕ) → r ≡ code → (r ≡ 0 → ⊥) → Opened code n r s t e s e
opened_not code n r s t e q z =
    let c : code ≡ 0 → ⊥ = λ (p : code ≡ 0). z (q ∙ p) in
    record {
      number = q;
      history = λ (p : code ≡ 0). absurd (c p);
      well = λ (p : code ≡ 0). absurd (c p);
      bytes = λ _. (refl, refl);
      spans = refl;
      edits = refl;
    }

-- ---------------------------------------------------------------- an empty history

module _ (s e : List ℕ) where
  short_spans : length s < 72 → 13 ≡ open_number s e
  unfolding open_number
  short_spans h = rw (lt-leb 72 (length s) h)

  pub short_edits : length e < EDIT_BYTES → 13 ≡ open_number s e
  unfolding open_number
  short_edits k = rw (lt-leb EDIT_BYTES (length e) k) (go (leb 72 (length s)))
    where
      go : (b : Bool) → ◌≡◌ {A = ℕ} 13 (cond (b && false) 0 13)
      go true = refl
      go false = refl

  -- the store's own opening, by its number
  pub store_head : store_code s ≡ 0 → 72 ≤ length s
  store_head z = go (leb 72 (length s)) refl
    where
      go : (b : Bool) → leb 72 (length s) ≡ b → 72 ≤ length s
      go true q = leb-true 72 (length s) q
      go false q = absurd (let k : 13 ≡ 0 = sym (open_short s (leb-false 72 (length s) q)).0 ∙ z in omega (arith, k))

  pub opened_short : (k : ℕ) (t s' : List ℕ) → k ≡ store_code s → (k ≡ 0 → ⊥) → s' ≡ open_bytes s → Opened (open_number s e) 0 k s t e s' e
  opened_short k t s' q z p = go (leb 72 (length s)) refl
    where
      go : (b : Bool) → leb 72 (length s) ≡ b → Opened (open_number s e) 0 k s t e s' e
      go true l = absurd (z (q ∙ (open_done s (leb-true 72 (length s) l)).0))
      go false l =
          let h : length s < 72 = leb-false 72 (length s) l in
          let o = open_short s h in
          subst (λ (r : List ℕ). Opened (open_number s e) 0 k s t e r e) (sym (p ∙ o.1))
          (opened_not (open_number s e) 0 k s t e (q ∙ (o.0 ∙ short_spans h)) z)

  pub number_done : 72 ≤ length s → EDIT_BYTES ≤ length e → 0 ≡ open_number s e
  unfolding open_number
  number_done h k = rw (le-leb 72 (length s) h, le-leb EDIT_BYTES (length e) k)

  pub opened_done : (t s' e' : List ℕ) → 72 ≤ length s → EDIT_BYTES ≤ length e → s' ≡ open_bytes s → e' ≡ put 0 (header_bytes 0 0) e → Opened (open_number s e) 0 0 s t e s' e'
  opened_done t s' e' h k p q =
      let d : s' ≡ put 0 (Spans.header_bytes 0) s = p ∙ (open_done s h).1 in
      let l : length s' ≡ length s = ap length d ∙ length-put s (Spans.header_bytes 0) 0 (omega arith) (omega (arith, length_spans 0, h)) in
      let i : spans_of s' ≡ (stored (start 0)).list = ap spans_of d ∙ (empty_spans s h ∙ (unfold stored start join in refl)) in
      record {
        number = number_done h k;
        history = λ _. is_start 0 (omega arith) s' t e e' k q i;
        well = λ _. is_well 0 (omega arith) s' t e e' k q i (omega (arith, l, h)) (unfold open_code in refl);
        bytes = λ (z : open_number s e ≡ 0 → ⊥). absurd (z (sym (number_done h k)));
        spans = ap (λ (r : List ℕ). past_rows r) d ∙ drop_past s (Spans.header_bytes 0) 0 4718664 (omega arith) (omega (arith, length_spans 0));
        edits = edits_beside 0 (omega arith) s' t e e' k q i;
      }

-- ---------------------------------------------------------------- with a placeholder

module _ (s e : List ℕ) (n : ℕ) where
  by_code : (c : ℕ) → open_with_code n s ≡ c → open_with_number n s e ≡ cond (eqb c 0) (cond (leb EDIT_BYTES (length e)) 0 13) c
  unfolding open_with_number open_with_code
  by_code c q = rw q

  pub no_units : n ≡ 0 → 1 ≡ open_with_number n s e
  no_units h = sym (by_code 1 (with_none s n h).0)

  pub many_units : 65536 < n → 10 ≡ open_with_number n s e
  many_units h = sym (by_code 10 (with_many s n h).0)

  pub no_room : (n ≡ 0 → ⊥) → n ≤ 65536 → room s ≡ 0 → 10 ≡ open_with_number n s e
  no_room z h r = sym (by_code 10 (with_full s n z h r).0)

  module _ (some : n ≡ 0 → ⊥) (few : n ≤ 65536) (r : room s ≡ 0 → ⊥) where
    pub with_short : length e < EDIT_BYTES → 13 ≡ open_with_number n s e
    with_short k = sym (by_code 0 (with_done s n some few r).0 ∙ ap (λ (b : Bool). cond b 0 13) (lt-leb EDIT_BYTES (length e) k))

    pub with_number : EDIT_BYTES ≤ length e → 0 ≡ open_with_number n s e
    with_number k = sym (by_code 0 (with_done s n some few r).0 ∙ ap (λ (b : Bool). cond b 0 13) (le-leb EDIT_BYTES (length e) k))

    positive : 0 < n
    positive = go n some
      where
        go : (k : ℕ) → (k ≡ 0 → ⊥) → 0 < k
        go zero f = absurd (f refl)
        go (suc k) f = omega arith

    open_code_lem : open_code (room s) n ≡ 0
    unfolding open_code open_with_code
    open_code_lem = ap (λ (b : Bool). cond b 0 (placeholder_code (room s) n)) (ne_eqb n 0 some) ∙ (with_done s n some few r).0

    start-list : (k : ℕ) → (k ≡ 0 → ⊥) → (start k).list ≡ units_of (placeholder k)
    start-list zero f = absurd (f refl)
    start-list (suc k) f = start_is k

    one_span : placeholder n ∷ [] ≡ (stored (start n)).list
    unfolding stored expand Joined Apart
    one_span =
        joined_is (placeholder n ∷ []) (start n).list
        (placeholder_ok n positive few, (tt, tt))
        (append-nil (units_of (placeholder n)) ∙ sym (start-list n some))

    pub with_opened : (t s' e' : List ℕ) → n < 2 ^ 64 → EDIT_BYTES ≤ length e → s' ≡ open_with_bytes n s → e' ≡ put 0 (header_bytes 0 n) e → Opened (open_with_number n s e) n 0 s t e s' e'
    with_opened t s' e' small k p q =
        let h : 144 ≤ length s = room_head s r in
        let b = Spans.header_bytes 1 in
        let x = row_bytes (placeholder n) in
        let d : s' ≡ put 72 x (put 0 b s) = p ∙ (with_done s n some few r).1 in
        let l0 : length (put 0 b s) ≡ length s = length-put s b 0 (omega arith) (omega (arith, length_spans 1, h)) in
        let l : length s' ≡ length s = ap length d ∙ (length-put (put 0 b s) x 72 (omega (arith, l0, h)) (omega (arith, length_row (placeholder n), l0, h)) ∙ l0) in
        let i : spans_of s' ≡ (stored (start n)).list = ap spans_of d ∙ (placeholder_spans n positive few s h ∙ one_span) in
        record {
          number = with_number k;
          history = λ _. is_start n small s' t e e' k q i;
          well = λ _. is_well n small s' t e e' k q i (omega (arith, l, h)) (ap (λ (m : ℕ). open_code m n) (room_same s s' l) ∙ open_code_lem);
          bytes = λ (z : open_with_number n s e ≡ 0 → ⊥). absurd (z (sym (with_number k)));
          spans = ap (λ (w : List ℕ). past_rows w) d ∙ (drop_past (put 0 b s) x 72 4718664 (omega (arith, l0, h)) (omega (arith, length_row (placeholder n))) ∙ drop_past s b 0 4718664 (omega arith) (omega (arith, length_spans 1)));
          edits = edits_beside n small s' t e e' k q i;
        }

-- ---------------------------------------------------------------- the numbers are the history's own

pub open_is : (s e : List ℕ) → 72 ≤ length s → EDIT_BYTES ≤ length e → open_number s e ≡ open_code (room s) 0
unfolding open_code
open_is s e h k = sym (number_done s e h k)

pub open_with_is : (s e : List ℕ) (n : ℕ) → (n ≡ 0 → ⊥) → EDIT_BYTES ≤ length e → open_with_number n s e ≡ open_code (room s) n
unfolding open_code open_with_number
open_with_is s e n z k = rw (le-leb EDIT_BYTES (length e) k, ne_eqb n 0 z) (go (placeholder_code (room s) n))
  where
    go : (c : ℕ) → cond (eqb c 0) 0 c ≡ c
    go zero = refl
    go (suc c) = rw (ne_eqb (suc c) 0 (λ (d : suc c ≡ 0). omega arith))
