-- What is printed of a well formed store is its list of spans, in the words of docs/SCRIPT.md (`list_said`).
use Rattle.std.proofs.Common.{◌≡◌, ℕ, zero, suc, ◌+◌, ◌*◌, ◌/◌, ◌%◌, ◌^◌, ◌<◌, ◌≤◌, Bool, true, false, cond, List, [], ◌∷◌, ◌++◌, length, get_or, take, drop, sym, refl, ap, ◌∙◌, ap₂, append_assoc, append-nil, mod-eq_of_lt, add-one, arith, length-append, drop-drop, le-ltb, lt-ltb}
use Rattle.text.specs.Ascii.{ascii}
use Rattle.span.specs.declared.span.FugueSpan.{FugueSpan}
use Rattle.std.specs.Prelude.{Some, Ok}
use Rattle.span.specs.Refusal.{refused}
use Rattle.span.specs.Status.{activated}
use Rattle.span.specs.Span.{len_span, span_code, shift, part_span, slice_span_code, slice_span_of, active_len}
use Rattle.span.specs.Units.{tab, unit_at, units_of, expand}
use Rattle.span.proofs.AnswerLaws.{is_done}
use Rattle.span.proofs.Unique.{in_range_lem}
use Rattle.store.specs.Row.{span_of, row_at, rows}
use Rattle.store.specs.Header.{count, room, spans_of}
use Rattle.store.proofs.Laws.{words_moved, length-rows, rows_at}
use Rattle.units.specs.Lists.{keep_if}
use Rattle.units.specs.Query.{visibles}
use Rattle.rope.specs.Spans.{AllOk}
use Rattle.units.specs.Store.{is_state}
use Rattle.rope.proofs.WellFormed.{Formed, formed_of}
use Rattle.rope.proofs.States.{part_rest, room_long, state_of}
use Rattle.tracker.specs.Rows.{is_history}
use Rattle.tracker.proofs.Leaving.{well_of}
use Rattle.script.specs.Print.{head_line, unit_line}
use Rattle.session.specs.declared.look.Kind.{Kind}
use Rattle.session.specs.declared.look.Kind.TheVariants as Kind
use Rattle.session.specs.Say.{up_to}
use Rattle.session.specs.Lines.{one_lines, unit_lines, span_lines, span_count, row_of, row_lines, row_count, rows_said, rows_lines, rows_count, kind_name, list_lines, refused_lines, piece_lines, pieces_lines}
use Rattle.session.specs.Listed.{each, span_own, item_own, listed, list_text, piece_own, pieces_text}

-- ---------------------------------------------------------------- lists

each-append : (f : FugueSpan → List ℕ) (k l : List FugueSpan) → each f (k ++ l) ≡ each f k ++ each f l
unfolding each
each-append f [] l = refl
each-append f (x ∷ k) l = ap (λ (t : List (List ℕ)). f x ∷ t) (each-append f k l)

each-length : (f : FugueSpan → List ℕ) (l : List FugueSpan) → length (each f l) ≡ length l
unfolding each
each-length f [] = refl
each-length f (x ∷ l) = ap suc (each-length f l)

tab-length : (h : ℕ → FugueSpan) (i n : ℕ) → length (tab h i n) ≡ n
unfolding tab
tab-length h i zero = refl
tab-length h i (suc n) = ap suc (tab-length h (suc i) n)

keep_append : (t : FugueSpan → Bool) (k l : List FugueSpan) → keep_if t (k ++ l) ≡ keep_if t k ++ keep_if t l
unfolding keep_if
keep_append t [] l = refl
keep_append t (x ∷ k) l = go (t x) (keep_append t k l)
  where
    go : (q : Bool) → keep_if t (k ++ l) ≡ keep_if t k ++ keep_if t l → cond q (x ∷ keep_if t (k ++ l)) (keep_if t (k ++ l)) ≡ cond q (x ∷ keep_if t k) (keep_if t k) ++ keep_if t l
    go true e = ap (λ (m : List FugueSpan). x ∷ m) e
    go false e = e

keep_few : (t : FugueSpan → Bool) (l : List FugueSpan) → length (keep_if t l) ≤ length l
unfolding keep_if
keep_few t [] = omega arith
keep_few t (x ∷ l) = go (t x) (keep_few t l)
  where
    go : (q : Bool) → length (keep_if t l) ≤ length l → length (cond q (x ∷ keep_if t l) (keep_if t l)) ≤ suc (length l)
    go true e = omega arith
    go false e = omega arith

keep_all : (t : FugueSpan → Bool) (h : ℕ → FugueSpan) (i n : ℕ) → ((k : ℕ) → t (h k) ≡ true) → keep_if t (tab h i n) ≡ tab h i n
unfolding keep_if tab
keep_all t h i zero e = refl
keep_all t h i (suc n) e = rw (e i) (ap (λ (m : List FugueSpan). h i ∷ m) (keep_all t h (suc i) n e))

keep_none : (t : FugueSpan → Bool) (h : ℕ → FugueSpan) (i n : ℕ) → ((k : ℕ) → t (h k) ≡ false) → keep_if t (tab h i n) ≡ []
unfolding keep_if tab
keep_none t h i zero e = refl
keep_none t h i (suc n) e = rw (e i) (keep_none t h (suc i) n e)

upto_none : (f : ℕ → List (List ℕ)) → up_to f 0 ≡ []
unfolding up_to
upto_none f = refl

upto_split : (f : ℕ → List (List ℕ)) (n : ℕ) → up_to f (suc n) ≡ f 0 ++ up_to (λ (i : ℕ). f (suc i)) n
unfolding up_to
upto_split f zero = sym (append-nil (f 0))
upto_split f (suc n) =
    ap (λ (l : List (List ℕ)). l ++ f (suc n)) (upto_split f n) ∙ append_assoc (f 0) (up_to (λ (i : ℕ). f (suc i)) n) (f (suc n))

upto_eq : (f g : ℕ → List (List ℕ)) (n : ℕ) → ((i : ℕ) → i < n → f i ≡ g i) → up_to f n ≡ up_to g n
unfolding up_to
upto_eq f g zero e = refl
upto_eq f g (suc n) e = ap₂ (λ (k l : List (List ℕ)). k ++ l) (upto_eq f g n (λ i h. e i (omega arith))) (e n (omega arith))

upto_each : (f : ℕ → List (List ℕ)) (g : FugueSpan → List ℕ) (h : ℕ → FugueSpan) (i n : ℕ) → ((k : ℕ) → k < n → f k ≡ g (h (i + k)) ∷ []) → up_to f n ≡ each g (tab h i n)
unfolding each tab
upto_each f g h i zero e = upto_none f
upto_each f g h i (suc n) e =
    let z : i + 0 ≡ i = omega arith in
    upto_split f n
    ∙ ap₂ (λ (k l : List (List ℕ)). k ++ l) (e 0 (omega arith) ∙ ap (λ (j : ℕ). g (h j) ∷ []) z)
    (upto_each (λ (k : ℕ). f (suc k)) g h (suc i) n (λ k l. let y : i + suc k ≡ suc i + k = omega arith in e (suc k) (omega arith) ∙ ap (λ (j : ℕ). g (h j) ∷ []) y))

-- ---------------------------------------------------------------- the lines of a well formed span

slice_done : (x : FugueSpan) (k : ℕ) → span_code x ≡ 0 → k < len_span x → slice_span_of x k (k + 1) ≡ Ok (unit_at x k)
slice_done x k c h =
    sym (is_done Ok refused (slice_span_code x k (k + 1)) (in_range_lem x k (k + 1) c (omega arith) (omega arith)) (ap (part_span x k) (sym (add-one k))))

module _ (x : FugueSpan) (c : span_code x ≡ 0) where
  unit_line_lem : (k : ℕ) → k < len_span x → unit_lines Kind.Units (slice_span_of x k (k + 1)) ≡ unit_line (unit_at x k) ∷ []
  unfolding unit_lines one_lines
  unit_line_lem k h = rw (slice_done x k c h)

  item_line : (k : ℕ) → k < len_span x → unit_lines Kind.Items (slice_span_of x k (k + 1)) ≡ item_own (unit_at x k) ∷ []
  unfolding unit_lines one_lines
  item_line k h = rw (slice_done x k c h)

  active_most : active_len x ≤ len_span x
  unfolding active_len
  active_most = go (activated x.status)
    where
      go : (q : Bool) → cond q (len_span x) 0 ≤ len_span x
      go true = omega arith
      go false = omega arith

  units_each : span_lines Kind.Units x ≡ each unit_line (tab (unit_at x) 0 (len_span x))
  unfolding span_lines
  units_each = upto_each _ unit_line (unit_at x) 0 (len_span x) (λ k h. let z : k ≡ 0 + k = omega arith in unit_line_lem k h ∙ ap (λ (j : ℕ). unit_line (unit_at x j) ∷ []) z)

  items_each : span_lines Kind.Items x ≡ each item_own (tab (unit_at x) 0 (active_len x))
  unfolding span_lines
  items_each = upto_each _ item_own (unit_at x) 0 (active_len x)
      (λ k h. let z : k ≡ 0 + k = omega arith in item_line k (omega (arith, active_most)) ∙ ap (λ (j : ℕ). item_own (unit_at x j) ∷ []) z)

  visible_units : tab (unit_at x) 0 (active_len x) ≡ visibles (units_of x)
  unfolding visibles units_of active_len shift tab
  visible_units = go (activated x.status) refl
    where
      go : (q : Bool) → activated x.status ≡ q → tab (unit_at x) 0 (cond q (len_span x) 0) ≡ keep_if (λ (u : FugueSpan). activated u.status) (tab (unit_at x) 0 (len_span x))
      go true e = sym (keep_all (λ (u : FugueSpan). activated u.status) (unit_at x) 0 (len_span x) (λ k. e))
      go false e = sym (keep_none (λ (u : FugueSpan). activated u.status) (unit_at x) 0 (len_span x) (λ k. e))

  one_span : 1 ≡ length (span_lines Kind.Spans x)
  unfolding span_lines
  one_span = refl

  span_count_lem : (kind : Kind) → span_count kind x ≡ length (span_lines kind x)
  unfolding span_count
  span_count_lem Kind.Units = sym (ap length units_each ∙ each-length unit_line (tab (unit_at x) 0 (len_span x)) ∙ tab-length (unit_at x) 0 (len_span x))
  span_count_lem Kind.Spans = one_span
  span_count_lem Kind.Items = sym (ap length items_each ∙ each-length item_own (tab (unit_at x) 0 (active_len x)) ∙ tab-length (unit_at x) 0 (active_len x))

  module _ (l : List FugueSpan) where
    on_units_lem : each unit_line (expand (x ∷ l)) ≡ span_lines Kind.Units x ++ each unit_line (expand l)
    unfolding expand units_of
    on_units_lem = each-append unit_line (tab (unit_at x) 0 (len_span x)) (expand l) ∙ ap (λ (k : List (List ℕ)). k ++ each unit_line (expand l)) (sym units_each)

    on_spans : each span_own (x ∷ l) ≡ span_lines Kind.Spans x ++ each span_own l
    unfolding each span_lines
    on_spans = refl

    on_items : each item_own (visibles (expand (x ∷ l))) ≡ span_lines Kind.Items x ++ each item_own (visibles (expand l))
    unfolding expand visibles
    on_items =
        ap (each item_own) (keep_append (λ (u : FugueSpan). activated u.status) (units_of x) (expand l))
        ∙ each-append item_own (visibles (units_of x)) (visibles (expand l))
        ∙ ap (λ (k : List (List ℕ)). k ++ each item_own (visibles (expand l))) (ap (each item_own) (sym visible_units) ∙ sym items_each)

    listed_on : (kind : Kind) → listed kind (x ∷ l) ≡ span_lines kind x ++ listed kind l
    unfolding listed
    listed_on Kind.Units = on_units_lem
    listed_on Kind.Spans = on_spans
    listed_on Kind.Items = on_items

-- ---------------------------------------------------------------- the rows of a well formed store

listed_none : (kind : Kind) → listed kind [] ≡ []
unfolding listed expand visibles keep_if each
listed_none Kind.Units = refl
listed_none Kind.Spans = refl
listed_none Kind.Items = refl

listed_upto : (kind : Kind) (d : FugueSpan) (l : List FugueSpan) → AllOk l → listed kind l ≡ up_to (λ (i : ℕ). span_lines kind (get_or l i d)) (length l)
unfolding AllOk
listed_upto kind d [] o = listed_none kind ∙ sym (upto_none (λ (i : ℕ). span_lines kind (get_or [] i d)))
listed_upto kind d (x ∷ l) o =
    listed_on x o.0 l kind
    ∙ ap (λ (k : List (List ℕ)). span_lines kind x ++ k) (listed_upto kind d l o.1)
    ∙ sym (upto_split (λ (i : ℕ). span_lines kind (get_or (x ∷ l) i d)) (length l))

all_at : (d : FugueSpan) (l : List FugueSpan) (i : ℕ) → AllOk l → i < length l → span_code (get_or l i d) ≡ 0
unfolding AllOk
all_at d [] i o h = absurd (omega arith)
all_at d (x ∷ l) zero o h = o.0
all_at d (x ∷ l) (suc i) o h = all_at d l i o.1 (omega arith)

row_past : (s : List ℕ) (b : ℕ) → row_at (drop 72 s) b ≡ row_at s (b + 72)
row_past s b = ap span_of (words_moved s (drop 72 s) (b + 72) b (λ k m h. ap (take m) (drop-drop (b + k) 72 s ∙ ap (λ (j : ℕ). drop j s) (moved k))))
  where
    moved : (k : ℕ) → 72 + (b + k) ≡ b + 72 + k
    moved k = omega arith

module _ (s : List ℕ) (n : ℕ) (long : n * 72 + 72 ≤ length s) (ok : AllOk (rows n (drop 72 s))) where
  row_is : (i : ℕ) → i < n → row_of s i ≡ Some (get_or (rows n (drop 72 s)) i (row_at s 0))
  unfolding row_of
  row_is i h =
      rw (lt-ltb (i + 1) (length s / 72) (omega arith))
      (ap Some (sym (rows_at n (drop 72 s) i (row_at s 0) h ∙ row_past s (i * 72) ∙ ap (row_at s) next)))
    where
      next : i * 72 + 72 ≡ (i + 1) * 72
      next = omega arith

  fine_at : (i : ℕ) → i < n → span_code (get_or (rows n (drop 72 s)) i (row_at s 0)) ≡ 0
  fine_at i h = all_at (row_at s 0) (rows n (drop 72 s)) i ok (rw (length-rows n (drop 72 s)) h)

  lines_at : (kind : Kind) (i : ℕ) → i < n → row_lines kind (row_of s i) ≡ span_lines kind (get_or (rows n (drop 72 s)) i (row_at s 0))
  unfolding row_lines
  lines_at kind i h = rw (row_is i h)

  count_at : (kind : Kind) (i : ℕ) → i < n → row_count kind (row_of s i) ≡ length (row_lines kind (row_of s i))
  unfolding row_lines row_count
  count_at kind i h = rw (row_is i h) (span_count_lem (get_or (rows n (drop 72 s)) i (row_at s 0)) (fine_at i h) kind)

  rows-listed : (kind : Kind) → rows_lines kind s n ≡ listed kind (rows n (drop 72 s))
  rows-listed kind =
      upto_eq (λ (i : ℕ). row_lines kind (row_of s i)) (λ (i : ℕ). span_lines kind (get_or (rows n (drop 72 s)) i (row_at s 0))) n (lines_at kind)
      ∙ ap (up_to (λ (i : ℕ). span_lines kind (get_or (rows n (drop 72 s)) i (row_at s 0)))) (sym (length-rows n (drop 72 s)))
      ∙ sym (listed_upto kind (row_at s 0) (rows n (drop 72 s)) ok)

-- the count of some rows is the number of their lines, where it is so of each
counts : (kind : Kind) (s : List ℕ) (n : ℕ) → ((i : ℕ) → i < n → row_count kind (row_of s i) ≡ length (row_lines kind (row_of s i))) → rows_count kind s n ≡ length (rows_lines kind s n)
unfolding rows_count up_to
counts kind s zero e = refl
counts kind s (suc n) e =
    ap₂ (λ (a b : ℕ). a + b) (counts kind s n (λ i h. e i (omega arith))) (e n (omega arith))
    ∙ sym (length-append (rows_lines kind s n) (row_lines kind (row_of s n)))

-- a list has no more lines than units or spans
few_lines : (kind : Kind) (l : List FugueSpan) → length l ≤ 65536 → length (expand l) ≤ 65536 → length (listed kind l) ≤ 65536
unfolding listed visibles
few_lines Kind.Units l h k = rw (each-length unit_line (expand l)) k
few_lines Kind.Spans l h k = rw (each-length span_own l) h
few_lines Kind.Items l h k =
    rw (each-length item_own (keep_if (λ (u : FugueSpan). activated u.status) (expand l)))
    (omega (arith, keep_few (λ (u : FugueSpan). activated u.status) (expand l), k))

module _ (kind : Kind) (s : List ℕ) (head : 72 ≤ length s) (fits : count s ≤ room s) (formed : Formed (rows (count s) (drop 72 s))) where
  long : count s * 72 + 72 ≤ length s
  long = omega (arith, head, fits, room_long s)

  lines_said : rows_lines kind s (count s) ≡ listed kind (rows (count s) (drop 72 s))
  lines_said = rows-listed s (count s) long formed.each kind

  number_said : rows_count kind s (count s) % 2 ^ 64 ≡ length (listed kind (rows (count s) (drop 72 s)))
  number_said =
      ap (λ (m : ℕ). m % 2 ^ 64) (counts kind s (count s) (count_at s (count s) long formed.each kind) ∙ ap length lines_said)
      ∙ mod-eq_of_lt (omega (arith, few_lines kind (rows (count s) (drop 72 s)) formed.few formed.units))

  text_said : list_lines true kind s ≡ list_text kind (spans_of s)
  unfolding list_lines rows_said spans_of
  text_said = rw (le-ltb (length s) 72 head) (ap₂ (λ (m : ℕ) (l : List (List ℕ)). head_line (kind_name kind) m ∷ l) number_said lines_said)

-- the list of a well formed store, said with its number
pub list_said : (kind : Kind) (s : List ℕ) → is_state s ≡ true → list_lines true kind s ≡ list_text kind (spans_of s)
list_said kind s e =
    let st = state_of s e in
    text_said kind s st.head st.fits (formed_of (rows (count s) (drop 72 s)) (rw (part_rest s) at st.stored.formed))

-- what a rope answers to `dump`, `spans` and `visible`, and a history
refused_said : (kind : Kind) (s : List ℕ) → list_lines false kind s ≡ refused_lines 15
unfolding list_lines
refused_said kind s = refl

by_state : (kind : Kind) (s : List ℕ) (q : Bool) → (q ≡ true → is_state s ≡ true) → list_lines q kind s ≡ cond q (list_text kind (spans_of s)) (refused_lines 15)
by_state kind s true h = list_said kind s (h refl)
by_state kind s false h = refused_said kind s

pub rope_said : (kind : Kind) (s : List ℕ) → list_lines (is_state s) kind s ≡ cond (is_state s) (list_text kind (spans_of s)) (refused_lines 15)
rope_said kind s = by_state kind s (is_state s) (λ h. h)

pub history_said : (kind : Kind) (s t e : List ℕ) → list_lines (is_history s t e) kind s ≡ cond (is_history s t e) (list_text kind (spans_of s)) (refused_lines 15)
history_said kind s t e = by_state kind s (is_history s t e) (λ h. (well_of s t e h).state)

-- ---------------------------------------------------------------- a delete's pieces

each_upto : (g : FugueSpan → List ℕ) (d : FugueSpan) (l : List FugueSpan) → each g l ≡ up_to (λ (i : ℕ). g (get_or l i d) ∷ []) (length l)
unfolding each
each_upto g d [] = sym (upto_none (λ (i : ℕ). g (get_or [] i d) ∷ []))
each_upto g d (x ∷ l) =
    ap (λ (k : List (List ℕ)). g x ∷ k) (each_upto g d l) ∙ sym (upto_split (λ (i : ℕ). g (get_or (x ∷ l) i d) ∷ []) (length l))

module _ (out : List ℕ) (n : ℕ) (long : n * 72 ≤ length out) where
  piece_at : (i : ℕ) → i < n → piece_lines out i ≡ piece_own (get_or (rows n out) i (row_at out 0)) ∷ []
  unfolding piece_lines
  piece_at i h = rw (lt-ltb i (length out / 72) (omega arith), rows_at n out i (row_at out 0) h)

  pieces_each : up_to (piece_lines out) n ≡ each piece_own (rows n out)
  pieces_each =
      upto_eq (piece_lines out) (λ (i : ℕ). piece_own (get_or (rows n out) i (row_at out 0)) ∷ []) n piece_at
      ∙ ap (up_to (λ (i : ℕ). piece_own (get_or (rows n out) i (row_at out 0)) ∷ [])) (sym (length-rows n out))
      ∙ sym (each_upto piece_own (row_at out 0) (rows n out))

-- the output's rows, where they fit, said with their number
pub pieces_said : (out : List ℕ) (n : ℕ) (l : List FugueSpan) → n * 72 ≤ length out → rows n out ≡ l → pieces_lines out n ≡ pieces_text l
pieces_said out n l h e =
    ap₂ (λ (m : ℕ) (k : List (List ℕ)). head_line (ascii "pieces") m ∷ k)
    (sym (length-rows n out) ∙ ap length e)
    (pieces_each out n h ∙ ap (each piece_own) e)
