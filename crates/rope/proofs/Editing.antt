-- the bytes that a call leaves: the rows written back behind the header, a refused call, and that the contract leaves no choice
use Prim.Native.Nat.{ℕ, ◌+◌, ◌-◌, ◌*◌, ◌<◌, ◌≤◌}
use mathlib.Core.Path.{◌≡◌, refl, sym, ap, ap₂, subst, ◌∙◌}
use mathlib.Core.Bool.{Bool, cond}
use mathlib.Core.List.{List, [], ◌++◌, append-nil}
use native.Mathlib.Omega.{arith}
use native.Mathlib.Nat.{zero-add}
use lib.ListN.{length, take, drop, length-drop, length-append, drop_of_length-le}
use lib.Seq.{take_all, take-append-le, take-append_seam, drop-append-le, drop-append-add, drop_at, drop-drop, length-take-le, ext_get_or}
use borrow.Author.Tests.{eq-eqb, ne_eqb}
use Rattle.words.specs.Le.{le, bytes_of, put}
use Rattle.words.proofs.Puts.{length_bytes, le_bytes, drop-put, part_inside, part_part}
use Rattle.span.specs.declared.span.FugueSpan.{FugueSpan}
use Rattle.span.specs.Span.{len_span, span_code}
use Rattle.store.specs.Row.{rows, row_at, span_of}
use Rattle.store.proofs.Laws.{words_moved, length-rows, rows_at}
use Rattle.rope.specs.declared.insert.Plan.{Plan}
use Rattle.rope.specs.declared.insert.Plan.TheVariants.{Join, Own, Cut}
use Rattle.units.specs.Store.{count, spans_of}
use Rattle.units.specs.Codes.{kept}
use Rattle.rope.specs.Plans.{Can}
use Rattle.rope.specs.Edits.{head_rest, past_rows, Written, WrittenIn, Edited, EditedIn}

-- ---- rows in the front of a buffer

row_front : (m : ℕ) (b : List ℕ) (i : ℕ) → i * 72 + 72 ≤ m → m ≤ length b → row_at (take m b) (i * 72) ≡ row_at b (i * 72)
row_front m b i h k =
    ap span_of (words_moved b (take m b) (i * 72) (i * 72) (λ o j l. part_part b 0 m (i * 72 + o) j (omega (arith, k)) (omega (arith, h, l)) ∙ ap (λ (a : ℕ). take j (drop a b)) (zero-add (i * 72 + o))))

pub rows_front : (n m : ℕ) (b : List ℕ) → n * 72 ≤ m → m ≤ length b → rows n (take m b) ≡ rows n b
rows_front n m b h k =
    ext_get_or (row_at b 0) (rows n (take m b)) (rows n b) (length-rows n (take m b) ∙ sym (length-rows n b))
    (λ i l. let q : i < n = omega (arith, l, length-rows n (take m b)) in
    rows_at n (take m b) i (row_at b 0) q ∙ (row_front m b i (omega (arith, q, h)) k ∙ sym (rows_at n b i (row_at b 0) q)))

rows-append : (k : ℕ) (q r : List ℕ) → k * 72 ≤ length q → rows k (q ++ r) ≡ rows k q
rows-append k q r h =
    sym (rows_front k (length q) (q ++ r) h (omega (arith, length-append q r))) ∙ ap (rows k) (take-append_seam q r)

pub can_front : (p : Plan) (n m : ℕ) (b : List ℕ) → n * 72 ≤ m → m ≤ length b → Can p n b → Can p n (take m b)
unfolding Can
can_front (Join r y) n m b h k c = c
can_front (Own r y) n m b h k c = c
can_front (Cut r i y) n m b h k c =
    let e : row_at (take m b) (r * 72) ≡ row_at b (r * 72) = row_front m b r (omega (arith, h, c.at)) k in
    record {
      at = c.at;
      some = c.some;
      below = subst (λ (z : FugueSpan). i < len_span z) (sym e) c.below;
      fine = ap span_code e ∙ c.fine;
    }

-- ---- rows behind a header

module _ (s q : List ℕ) (m : ℕ) (h : 72 ≤ length s) where
  -- m bytes were lent, and q is given back_in
  abbrev pub back_in : List ℕ
  back_in = take 72 s ++ (q ++ drop m (drop 72 s))

  front : length (take 72 s) ≡ 72
  front = length-take-le 72 s h

  pub in_long : 72 ≤ length back_in
  in_long = omega (arith, length-append (take 72 s) (q ++ drop m (drop 72 s)), front)

  rest_in : drop 72 back_in ≡ q ++ drop m (drop 72 s)
  rest_in = drop_at (take 72 s) (q ++ drop m (drop 72 s)) 72 front

  head_in : head_rest back_in ≡ head_rest s
  head_in =
      ap (take 64) (drop-append-le 8 (take 72 s) (q ++ drop m (drop 72 s)) (omega (arith, front))) ∙
      (take-append-le 64 (drop 8 (take 72 s)) (q ++ drop m (drop 72 s)) (rw length-drop (omega (arith, front))) ∙
      part_part s 0 72 8 64 (omega (arith, h)) (omega arith))

  past_in : length q ≡ m → m ≤ 4718592 → past_rows back_in ≡ past_rows s
  past_in e k =
      let f : 4718592 ≡ length q + (4718592 - m) = omega (arith, e, k) in
      let g : m + (4718592 - m) ≡ 4718592 = omega (arith, k) in
      sym (drop-drop 4718592 72 back_in) ∙
      (ap (drop 4718592) rest_in ∙
      (ap (λ (j : ℕ). drop j (q ++ drop m (drop 72 s))) f ∙
      (drop-append-add q (drop m (drop 72 s)) (4718592 - m) ∙
      (drop-drop (4718592 - m) m (drop 72 s) ∙ (ap (λ (j : ℕ). drop j (drop 72 s)) g ∙ drop-drop 4718592 72 s)))))

module _ (s : List ℕ) (k : ℕ) (h : 72 ≤ length s) (small : k < 18446744073709551616) where
  -- the number of rows is set
  abbrev set_count : List ℕ
  set_count = put 0 (bytes_of 8 k) s

  eight : length (bytes_of 8 k) ≡ 8
  eight = length_bytes 8 k

  count_set : count set_count ≡ k
  unfolding count
  count_set =
      ap le (part_inside s (bytes_of 8 k) 0 0 8 (omega arith) (omega (arith, eight)) ∙ take_all 8 (bytes_of 8 k) (omega (arith, eight))) ∙
      le_bytes 8 k small

  past : (m : ℕ) → drop (8 + m) set_count ≡ drop (8 + m) s
  past m =
      let e : 8 ≡ 0 + length (bytes_of 8 k) = omega (arith, eight) in
      sym (drop-drop m 8 set_count) ∙
      (ap (drop m) (ap (λ (j : ℕ). drop j set_count) e ∙ (drop-put s (bytes_of 8 k) 0 (omega arith) ∙ ap (λ (j : ℕ). drop j s) (sym e))) ∙
      drop-drop m 8 s)

  rows_set : spans_of set_count ≡ rows k (drop 72 s)
  unfolding spans_of
  rows_set = ap₂ rows count_set (past 64)

  head_set : head_rest set_count ≡ head_rest s
  head_set = ap (take 64) (past 0)

-- the bytes q given back, and the number of rows set to k
pub written_in : (s q t : List ℕ) (m k : ℕ) (l : List FugueSpan) → (h : 72 ≤ length s) → length q ≡ m → m ≤ 4718592 → k * 72 ≤ m → t ≡ put 0 (bytes_of 8 k) (back_in s q m h) → rows k q ≡ l → WrittenIn l s t
written_in s q t m k l h len most fits e f =
    let b : 72 ≤ length (back_in s q m h) = in_long s q m h in
    let small : k < 18446744073709551616 = omega (arith, fits, most) in
    record {
      written = record {
        list = ap spans_of e ∙ (rows_set (back_in s q m h) k b small ∙ (ap (rows k) (rest_in s q m h) ∙ (rows-append k q (drop m (drop 72 s)) (omega (arith, len, fits)) ∙ f)));
        head = ap (λ (z : List ℕ). head_rest z) e ∙ (head_set (back_in s q m h) k b small ∙ head_in s q m h);
      };
      past = ap (λ (z : List ℕ). past_rows z) e ∙ (past (back_in s q m h) k b small 4718656 ∙ past_in s q m h len most);
    }

-- all after the header was lent
module _ (s q : List ℕ) (h : 72 ≤ length s) where
  abbrev pub back : List ℕ
  back = take 72 s ++ (q ++ drop (length s - 72) (drop 72 s))

  none : drop (length s - 72) (drop 72 s) ≡ []
  none = drop_of_length-le (drop 72 s) {i = length s - 72} (rw length-drop (omega arith))

  written_all : (t : List ℕ) (k : ℕ) (l : List FugueSpan) → k < 18446744073709551616 → t ≡ put 0 (bytes_of 8 k) back → rows k q ≡ l → Written l s t
  written_all t k l small e f =
      let m = length s - 72 in
      let b : 72 ≤ length back = in_long s q m h in
      record {
        list = ap spans_of e ∙ (rows_set back k b small ∙ (ap (rows k) (rest_in s q m h ∙ (ap (λ (r : List ℕ). q ++ r) none ∙ append-nil q)) ∙ f));
        head = ap (λ (z : List ℕ). head_rest z) e ∙ (head_set back k b small ∙ head_in s q m h);
      }

pub written_back : (s q t : List ℕ) (k : ℕ) (l : List FugueSpan) → (h : 72 ≤ length s) → k < 18446744073709551616 → t ≡ put 0 (bytes_of 8 k) (back s q h) → rows k q ≡ l → Written l s t
written_back s q t k l h small e f = written_all s q h t k l small e f

-- ---- what a call leaves

module _ (code : ℕ) (l : List FugueSpan) (r : ℕ) (s : List ℕ) where
  kept_none : (code ≡ 0 → ⊥) → kept code l (spans_of s) ≡ spans_of s
  kept_none z = ap (λ (b : Bool). cond b l (spans_of s)) (ne_eqb code 0 z)

  pub edited_refused : r ≡ code → (r ≡ 0 → ⊥) → Edited code l r s s
  edited_refused e z = record { number = e; list = sym (kept_none (λ q. z (e ∙ q))); head = refl; bytes = λ q. refl }

  pub edited_done : (t : List ℕ) → r ≡ 0 → code ≡ 0 → Written l s t → Edited code l r s t
  edited_done t e z w =
      record {
        number = e ∙ sym z;
        list = w.list ∙ sym (ap (λ (b : Bool). cond b l (spans_of s)) (eq-eqb code 0 z));
        head = w.head;
        bytes = λ q. absurd (q z);
      }

pub edited_as : (c d : ℕ) (l m : List FugueSpan) (r : ℕ) (s t : List ℕ) → c ≡ d → l ≡ m → Edited c l r s t → Edited d m r s t
edited_as c d l m r s t e f w = subst (λ (x : List FugueSpan). Edited d x r s t) f (subst (λ (x : ℕ). Edited x l r s t) e w)

-- two outcomes that meet the contract are the same answer and the same list, and a refused call leaves the same bytes
pub edited_same : (code : ℕ) (l : List FugueSpan) (q r : ℕ) (s t u : List ℕ) → Edited code l q s t → Edited code l r s u → (q ≡ r) × ((spans_of t ≡ spans_of u) × ((head_rest t ≡ head_rest u) × ((q ≡ 0 → ⊥) → t ≡ u)))
edited_same code l q r s t u v w =
    (v.number ∙ sym w.number, (v.list ∙ sym w.list, (v.head ∙ sym w.head, λ z. let n : code ≡ 0 → ⊥ = (λ e. z (v.number ∙ e)) in v.bytes n ∙ sym (w.bytes n))))

-- the same, where the bytes past the rows that count are spoken of

pub refused_in : (code : ℕ) (l : List FugueSpan) (r : ℕ) (s : List ℕ) → r ≡ code → (r ≡ 0 → ⊥) → EditedIn code l r s s
refused_in code l r s e z = record { edited = edited_refused code l r s e z; past = refl }

pub done_in : (code : ℕ) (l : List FugueSpan) (r : ℕ) (s t : List ℕ) → r ≡ 0 → code ≡ 0 → WrittenIn l s t → EditedIn code l r s t
done_in code l r s t e z w = record { edited = edited_done code l r s t e z w.written; past = w.past }

pub edited_in : (c d : ℕ) (l m : List FugueSpan) (r : ℕ) (s t : List ℕ) → c ≡ d → l ≡ m → EditedIn c l r s t → EditedIn d m r s t
edited_in c d l m r s t e f w = record { edited = edited_as c d l m r s t e f w.edited; past = w.past }
