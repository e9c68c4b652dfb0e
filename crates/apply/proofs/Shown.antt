-- The visible units of rows as items, one row after the other.
use Prim.Native.Nat.{ℕ, suc, ◌+◌, ◌*◌, ◌/◌, ◌<◌, ◌≤◌}
use mathlib.Core.Path.{◌≡◌, refl, sym, ap, ◌∙◌}
use mathlib.Core.Bool.{Bool, true, false, cond}
use mathlib.Core.List.{List, [], ◌∷◌, ◌++◌, map}
use native.Mathlib.Omega.{arith}
use lib.Dec.{leb}
use lib.ListN.{length, drop, length-append}
use borrow.Author.Tests.{le-leb, lt-leb}
use Rattle.words.specs.Le.{put}
use Rattle.words.proofs.Puts.{length-put}
use Rattle.span.specs.declared.span.FugueSpan.{FugueSpan}
use Rattle.span.specs.Status.{activated}
use Rattle.span.specs.Span.{len_span, span_code, active_len}
use Rattle.span.specs.Units.{units_of, expand}
use Rattle.store.specs.Row.{rows, row_at}
use Rattle.units.specs.Lists.{keep_if}
use Rattle.units.specs.Query.{visibles}
use Rattle.units.specs.Place.{shown}
use Rattle.rope.specs.Spans.{Stored}
use Rattle.units.specs.Store.{count, spans_of, is_state}
use Rattle.rope.proofs.Rights.{row_drop, row_ok, row_none}
use Rattle.rope.proofs.WellFormed.{formed_of}
use Rattle.rope.proofs.States.{part, part_spans}
use Rattle.apply.specs.Maybe.{ApplyAnswer}
use Rattle.std.specs.Prelude.{Ok, Err}
use Rattle.span.specs.declared.refusal.Refusal.TheVariants as Refuse
use Rattle.apply.specs.Apply.{item_of, items}
use Rattle.apply.specs.Items.{items_in, items_bytes}
use Rattle.apply.specs.Called.{Called, shown_items, shown_code, visible_code}
use Rattle.apply.proofs.DeltaApplies.{items-cons, items-append, items_old, shown_length, shown_if}
use Rattle.apply.proofs.Tabs.{Writing, write_start, write_end, write_many, length_items}
use Rattle.apply.proofs.Coded.{length_in, called_done, called_err}
use Rattle.apply.proofs.Written.{units_are, put_none}

-- ---- one row

module _ (s : FugueSpan) where
  pub row_shown : activated s.status ≡ true → map item_of (units_of s) ≡ items (units_of s)
  row_shown e = units_are s ∙ sym (items_old s ∙ ap (shown_if s) e)

  pub row_hidden : activated s.status ≡ false → items (units_of s) ≡ []
  row_hidden e = items_old s ∙ ap (shown_if s) e

  pub row_length : length (items (units_of s)) ≡ active_len s
  row_length = ap length (items_old s) ∙ shown_length s (activated s.status) refl

  pub active_all : activated s.status ≡ true → active_len s ≡ len_span s
  unfolding active_len
  active_all e = ap (λ (b : Bool). cond b (len_span s) 0) e

-- ---- how many there are

length_units : (us : List FugueSpan) → length (items us) ≡ shown us
unfolding items visibles keep_if shown
length_units [] = refl
length_units (u ∷ us) = go (length_units us) (activated u.status) refl
  where
    go : length (items us) ≡ shown us → (t : Bool) → activated u.status ≡ t → length (items (u ∷ us)) ≡ cond (activated u.status) (suc (shown us)) (shown us)
    go on true e = ap length (items-cons u us true e) ∙ (ap suc on ∙ sym (ap (λ (b : Bool). cond b (suc (shown us)) (shown us)) e))
    go on false e = ap length (items-cons u us false e) ∙ (on ∙ sym (ap (λ (b : Bool). cond b (suc (shown us)) (shown us)) e))

pub length-shown : (l : List FugueSpan) → length (shown_items l) ≡ shown (expand l)
unfolding shown_items
length-shown l = length_units (expand l)

shown_cons : (s : FugueSpan) (l : List FugueSpan) → shown_items (s ∷ l) ≡ items (units_of s) ++ shown_items l
unfolding shown_items expand
shown_cons s l = items-append (units_of s) (expand l)

shown_none : shown_items [] ≡ []
unfolding shown_items expand items visibles keep_if
shown_none = refl

-- ---- the loop: i rows are done, k items written

abbrev pub Showing : ℕ → List ℕ → ℕ → ℕ → List ℕ → List ℕ → Type 0
Showing n b i k s0 s = Writing (shown_items (rows n b)) (shown_items (drop i (rows n b))) 0 k s0 s

module _ (n : ℕ) (b : List ℕ) where
  pub showing_start : (s : List ℕ) → length (shown_items (rows n b)) * 24 ≤ length s → Showing n b 0 0 s s
  showing_start s h = write_start (shown_items (rows n b)) 0 s (omega arith)

  pub row_fine : (i : ℕ) → Stored n b → i < n → (r : FugueSpan) → r ≡ row_at b (i * 72) → span_code r ≡ 0
  row_fine i v h r e = ap span_code e ∙ row_ok n b i h (formed_of (rows n b) v.formed).each

  module _ (i k : ℕ) (s0 s : List ℕ) (v : Showing n b i k s0 s) where
    module _ (h : i < n) (r : FugueSpan) (e : r ≡ row_at b (i * 72)) where
      rest_on : shown_items (drop i (rows n b)) ≡ items (units_of r) ++ shown_items (drop (i + 1) (rows n b))
      rest_on = ap shown_items (row_drop n b i h) ∙ (shown_cons (row_at b (i * 72)) (drop (i + 1) (rows n b)) ∙ ap (λ (x : FugueSpan). items (units_of x) ++ shown_items (drop (i + 1) (rows n b))) (sym e))

      rest_long : length (shown_items (drop i (rows n b))) ≡ active_len r + length (shown_items (drop (i + 1) (rows n b)))
      rest_long = ap length rest_on ∙ (length-append (items (units_of r)) (shown_items (drop (i + 1) (rows n b))) ∙ ap (λ (m : ℕ). m + length (shown_items (drop (i + 1) (rows n b)))) (row_length r))

      pub showing_room : (k + active_len r) * 24 ≤ length s
      showing_room = omega (arith, rest_long, v.room, v.long)

      pub showing_next : (m : ℕ) → m ≡ active_len r → (s2 : List ℕ) → s2 ≡ put (k * 24) (items_bytes (items (units_of r))) s → Showing n b (i + 1) (k + m) s0 s2
      showing_next m q s2 w =
          let l : length (items_bytes (items (units_of r))) ≡ length (items (units_of r)) * 24 = length_items (items (units_of r)) in
          let y : (k + active_len r) * 24 ≤ length s = showing_room in
          let z : length s2 ≡ length s = ap length w ∙ length-put s (items_bytes (items (units_of r))) (k * 24) (omega arith) (omega (arith, l, row_length r)) in
          write_many (shown_items (rows n b)) (shown_items (drop i (rows n b))) 0 k s0 s v (items (units_of r)) (shown_items (drop (i + 1) (rows n b))) rest_on s2 z w (k + m) (ap (λ (x : ℕ). k + x) (q ∙ sym (row_length r)))

    pub showing_end : n ≤ i → s ≡ put 0 (items_bytes (shown_items (rows n b))) s0
    showing_end h = write_end (shown_items (rows n b)) (shown_items (drop i (rows n b))) 0 k s0 s v (ap shown_items (row_none n b i h) ∙ shown_none)

-- ---- the calls

module _ (spans : List FugueSpan) (out : List ℕ) where
  code_by : (t : Bool) → leb (length (shown_items spans)) (length (items_in out)) ≡ t → shown_code spans out ≡ cond t 0 13
  unfolding shown_code
  code_by t e = ap (λ (b : Bool). cond b 0 13) e

  module _ (many : ℕ) (e : many ≡ shown (expand spans)) where
    pub shown_full : length out / 24 < many → Called (shown_code spans out) (shown_items spans) out (Err Refuse.Output) out
    shown_full h =
        called_err (shown_code spans out) Refuse.Output (shown_items spans) out
        (sym (code_by false (lt-leb (length (shown_items spans)) (length (items_in out)) (omega (arith, length_in out, length-shown spans, e)))))

    pub shown_fits : many ≤ length out / 24 → length (shown_items spans) * 24 ≤ length out
    shown_fits h = omega (arith, length-shown spans, e)

    pub shown_done : many ≤ length out / 24 → (t : List ℕ) → t ≡ put 0 (items_bytes (shown_items spans)) out → Called (shown_code spans out) (shown_items spans) out (Ok many) t
    shown_done h t w =
        called_done (shown_code spans out) many (shown_items spans) out t
        (code_by true (le-leb (length (shown_items spans)) (length (items_in out)) (omega (arith, length_in out, length-shown spans, e)))) (e ∙ sym (length-shown spans)) w

module _ (s out : List ℕ) where
  visible_by : (t : Bool) → is_state s ≡ t → visible_code s out ≡ cond t (shown_code (spans_of s) out) 15
  unfolding visible_code
  visible_by t e = ap (λ (b : Bool). cond b (shown_code (spans_of s) out) 15) e

  pub visible_none : is_state s ≡ false → Called (visible_code s out) (shown_items (spans_of s)) out (Err Refuse.Store) out
  visible_none e = called_err (visible_code s out) Refuse.Store (shown_items (spans_of s)) out (sym (visible_by false e))

  pub visible_all : is_state s ≡ true → (n : ℕ) → n ≡ count s → (r : ApplyAnswer) (t : List ℕ)
      → Called (shown_code (rows n (part s)) out) (shown_items (rows n (part s))) out r t → Called (visible_code s out) (shown_items (spans_of s)) out r t
  visible_all e n q r t d =
      let w : rows n (part s) ≡ spans_of s = ap (λ (m : ℕ). rows m (part s)) q ∙ part_spans s in
      rw (visible_by true e) (rw w at d)

-- a row that shows, and one that does not
pub ruleset row_cases = (row_shown, row_hidden, active_all, put_none)

-- the steps of the loop, where a call asks for them
pub ruleset showing_steps = (showing_start, row_fine, showing_room, showing_end)
