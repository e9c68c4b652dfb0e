-- a store that was opened is well formed, and its list is empty or the placeholder
use Prim.Native.Nat.{ℕ, ◌+◌, ◌<◌, ◌≤◌}
use mathlib.Core.Path.{◌≡◌, refl, ap, ◌∙◌}
use mathlib.Core.Bool.{Bool, true, false, cond}
use mathlib.Core.List.{List, [], ◌∷◌}
use native.Mathlib.Omega.{arith}
use lib.ListN.{length, set, drop}
use borrow.Author.Tests.{le-leb, eq-eqb}
use Rattle.words.specs.Le.{le, bytes_of, put}
use Rattle.words.proofs.Puts.{length-put, part_before}
use Rattle.span.specs.declared.span.FugueSpan.{FugueSpan}
use Rattle.span.specs.Chunk.{UNKNOWN, chunk}
use Rattle.span.specs.Ids.{room as idRoom, room_opt}
use Rattle.span.specs.Span.{len_span, span_code, new_span, real_new}
use Rattle.span.specs.Units.{expand}
use Rattle.span.proofs.UnitLaws.{span_of_lem}
use Rattle.span.proofs.Views.{len_unknown, formed_unknown}
use Rattle.store.specs.Row.{rows, words_of, word_bytes, row_bytes, flags_of, Fitting, Signed}
use Rattle.store.proofs.Laws.{rows-put}
use Rattle.store.specs.Header.{header_bytes}
use Rattle.units.specs.Store.{count, room, spans_of, touching, joined_rows, named, distinct_ids, origins_named, well_formed, is_state}
use Rattle.units.specs.Query.{placeholder}
use Rattle.rope.specs.Spans.{holds_any, apart_rows}
use Rattle.rope.proofs.Counts.{length_span}
use Rattle.rope.proofs.WellFormed.{form_3}
use Rattle.rope.proofs.States.{state_rows}

length_header : (n : ℕ) → length (header_bytes n) ≡ 72
unfolding header_bytes word_bytes bytes_of
length_header n = refl

length_row : (x : FugueSpan) → length (row_bytes x) ≡ 72
unfolding word_bytes bytes_of
length_row x = refl

room_one : (s : List ℕ) → 144 ≤ length s → 1 ≤ room s
unfolding room
room_one s h = omega arith

module _ (s : List ℕ) (h : 72 ≤ length s) where
  empty : List ℕ
  empty = put 0 (header_bytes 0) s

  empty-length : length empty ≡ length s
  unfolding empty
  empty-length = length-put s (header_bytes 0) 0 (omega arith) (rw (length_header 0) h)

  empty-count : count empty ≡ 0
  unfolding empty count put header_bytes word_bytes bytes_of le
  empty-count = refl

  pub empty_spans : spans_of (put 0 (header_bytes 0) s) ≡ []
  unfolding empty spans_of rows
  empty_spans = ap (λ (n : ℕ). rows n (drop 72 empty)) empty-count

  pub empty_state : is_state (put 0 (header_bytes 0) s) ≡ true
  unfolding empty well_formed joined_rows distinct_ids origins_named expand
  empty_state = state_rows empty (rw empty-length h) (rw empty-count (omega arith)) ∙ ap well_formed empty_spans

-- ---- with a placeholder

module _ (n : ℕ) (some : 0 < n) (few : n ≤ 65536) where
  abbrev p : FugueSpan
  p = placeholder n

  p_length : len_span p ≡ n
  unfolding placeholder new_span
  p_length = len_unknown (chunk UNKNOWN n) refl

  pub placeholder_ok : span_code (placeholder n) ≡ 0
  unfolding placeholder new_span real_new room_opt idRoom
  placeholder_ok = span_of_lem p n p_length (formed_unknown (chunk UNKNOWN n) refl some) (le-leb (0 + n) 2147483647 (omega arith)) (omega arith) refl

  pub placeholder_formed : well_formed (placeholder n ∷ []) ≡ true
  unfolding placeholder new_span real_new origins_named named joined_rows touching apart_rows holds_any expand
  placeholder_formed =
      form_3 (p ∷ []) (ap (λ (t : Bool). cond t true false) (eq-eqb (span_code p) 0 placeholder_ok)) (let e : length (expand (p ∷ [])) ≡ len_span p + 0 = length_span p [] in omega (arith, e, p_length)) true refl

  p_signed : Signed p
  unfolding placeholder new_span real_new
  p_signed =
      record {
        own = record { sfits = omega arith };
        real = record { sfits = omega arith };
        left = record { sfits = omega arith };
        right = record { sfits = omega arith };
        times = record { sfits = omega arith };
        diff = record { sfits = omega arith };
      }

  p_fitting : Fitting (words_of p)
  unfolding placeholder new_span real_new words_of flags_of
  p_fitting =
      record {
        p0 = omega arith;
        p1 = omega arith;
        p2 = omega arith;
        p3 = omega arith;
        c0 = omega arith;
        c1 = omega arith;
        c2 = omega arith;
        c3 = omega arith;
        c4 = omega arith;
        c5 = omega arith;
        c6 = omega arith;
        c7 = omega arith;
        c8 = omega arith;
      }

  module _ (s : List ℕ) (h : 144 ≤ length s) where
    head : List ℕ
    head = put 0 (header_bytes 1) s

    made : List ℕ
    made = put 72 (row_bytes p) head

    head-length : length head ≡ length s
    unfolding head
    head-length = length-put s (header_bytes 1) 0 (omega arith) (rw (length_header 1) (omega arith))

    head-count : count head ≡ 1
    unfolding head count put header_bytes word_bytes bytes_of le
    head-count = refl

    made_length : length made ≡ length s
    unfolding made
    made_length = length-put head (row_bytes p) 72 (rw head-length (omega arith)) (rw (length_row p, head-length) h) ∙ head-length

    made-count : count made ≡ 1
    unfolding made count
    made-count = before ∙ head-count
      where
        before : count made ≡ count head
        before = ap le (part_before head (row_bytes p) 72 0 8 (rw head-length (omega arith)) (omega arith))

    made-rows : rows 2 made ≡ set (rows 2 head) 1 p
    unfolding made
    made-rows = rows-put 2 head 1 p (rw head-length h) (omega arith) p_signed p_fitting

    pub placeholder_spans : spans_of (put 72 (row_bytes (placeholder n)) (put 0 (header_bytes 1) s)) ≡ placeholder n ∷ []
    unfolding spans_of made head rows
    placeholder_spans = ap (λ (k : ℕ). rows k (drop 72 made)) made-count ∙ one
      where
        one : rows 1 (drop 72 made) ≡ p ∷ []
        one = ap (drop 1) made-rows

    pub placeholder_state : is_state (put 72 (row_bytes (placeholder n)) (put 0 (header_bytes 1) s)) ≡ true
    unfolding made head
    placeholder_state = state_rows made (rw made_length (omega arith)) (rw made-count (room_one made (rw made_length h))) ∙ (ap well_formed placeholder_spans ∙ placeholder_formed)
