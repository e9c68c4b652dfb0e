-- No line of an answer is cut: a buffer of 65,536 bytes takes any line of 1,024 bytes where one starts (`said_fits`), and no line is longer (`short_…`).
use Rattle.std.proofs.Common.{◌≡◌, ℕ, zero, suc, ◌+◌, ◌*◌, ◌/◌, ◌%◌, ◌^◌, ◌<◌, ◌≤◌, Bool, true, false, cond, eqb, ltb, List, [], ◌∷◌, ◌++◌, length, ℤ, pos, negsuc, sym, refl, ◌∙◌, arith, length-append, ltb-true}
use Rattle.io.specs.Digits.{last_digits}
use Rattle.words.specs.Le.{put}
use Rattle.words.proofs.Puts.{length-put}
use Rattle.text.specs.Ascii.{ascii}
use Rattle.text.specs.Numbers.{places, numeral, int_text}
use Rattle.text.proofs.PutsLaws.{placed_fits, written_whole}
use Rattle.span.specs.declared.ids.Id.{Id}
use Rattle.span.specs.Maybe.{OptId}
use Rattle.std.specs.Prelude as OptId
use Rattle.span.specs.declared.status.Status.{Status}
use Rattle.span.specs.Maybe.{OptStatus}
use Rattle.span.specs.declared.span.FugueSpan.{FugueSpan}
use Rattle.span.specs.Maybe.{SpanAnswer}
use Rattle.std.specs.Prelude.{Some, None, Ok, Err}
use Rattle.span.specs.Refusal.{number_of}
use Rattle.span.specs.declared.chunk.RichtextChunk.{RichtextChunk}
use Rattle.span.specs.declared.chunk.RichtextChunkValue.{RichtextChunkValue}
use Rattle.span.specs.declared.chunk.RichtextChunkValue.TheVariants as Value
use Rattle.span.specs.declared.chunk.AnchorType.TheVariants as Anchor
use Rattle.span.specs.Ids.{UNKNOWN_PEER}
use Rattle.span.specs.Chunk.{value_of}
use Rattle.span.specs.Span.{len_span, slice_span_of}
use Rattle.store.specs.Row.{row_at}
use Rattle.rope.specs.Maybe.{LenAnswer, RealAnswer}
use Rattle.script.specs.declared.call.Look.{Look}
use Rattle.script.specs.declared.call.Look.TheVariants as Look
use Rattle.script.specs.Print.{peer_text, number_text, id_text, opt_id_text, future_text, status_text, opt_status_text, named_text, value_text, span_text, head_line, unit_line, span_line, item_line, at_line}
use Rattle.session.specs.Maybe.{Row}
use Rattle.session.specs.declared.look.Kind.{Kind}
use Rattle.session.specs.declared.look.Kind.TheVariants as Kind
use Rattle.session.specs.Say.{line_start, said_at, said_text, up_to, Short, whole_at, whole_text}
use Rattle.session.specs.Lines.{ok_lines, error_lines, refused_lines, done_lines, len_lines, at_lines, sum_lines, one_lines, unit_lines, span_lines, row_of, row_lines, kind_name, rows_said, rows_count, list_lines, piece_lines, pieces_lines, within_lines, row_fits, rows_fit, look_lines}
use Rattle.session.specs.Calls.{delete_lines}

-- ---------------------------------------------------------------- short lines fit

starts : (at : ℕ) → line_start at < 64512
unfolding line_start
starts at = go (ltb at 64512) refl
  where
    go : (q : Bool) → ltb at 64512 ≡ q → cond q at 0 < 64512
    go true e = ltb-true at 64512 e
    go false e = omega arith

pub said_fits : (ls : List (List ℕ)) (at : ℕ) (s : List ℕ) → length s ≡ 65536 → Short ls → (said_at ls at s ≡ whole_at ls at) × (said_text ls at s ≡ whole_text ls at s)
unfolding said_at said_text whole_at whole_text Short
said_fits [] at s e h = (refl, refl)
said_fits (l ∷ ls) at s e h =
    let b = starts at in
    let f : line_start at + length l ≤ length s = omega (arith, h.0, e) in
    rw (sym (placed_fits (line_start at) l s f), written_whole (line_start at) l s f)
    (said_fits ls (line_start at + length l) (put (line_start at) l s) (length-put s l (line_start at) (omega arith) f ∙ e) h.1)

-- ---------------------------------------------------------------- fields

places_most : (k n : ℕ) → places k n ≤ suc k
unfolding places
places_most zero n = omega arith
places_most (suc k) n = go (ltb n 10) (places_most k (n / 10))
  where
    go : (q : Bool) → places k (n / 10) ≤ suc k → cond q 1 (suc (places k (n / 10))) ≤ suc (suc k)
    go true h = omega arith
    go false h = omega arith

digits_length : (b k n : ℕ) → length (last_digits b k n) ≡ k
digits_length b zero n = refl
digits_length b (suc k) n = rw (length-append, digits_length b k (n / b)) (omega arith)

numeral_most : (n : ℕ) → length (numeral n) ≤ 20
unfolding numeral
numeral_most n = rw (digits_length 10 (places 19 n) n) (places_most 19 n)

int_most : (z : ℤ) → length (int_text z) ≤ 21
unfolding int_text
int_most (pos n) = omega (arith, numeral_most n)
int_most (negsuc n) = omega (arith, numeral_most (suc n))

peer_most : (p : ℕ) → length (peer_text p) ≤ 20
unfolding peer_text
peer_most p = go (eqb p UNKNOWN_PEER)
  where
    go : (q : Bool) → length (cond q (ascii "U") (numeral p)) ≤ 20
    go true = omega arith
    go false = numeral_most p

number_most : (n : ℕ) → length (number_text n) ≤ 21
unfolding number_text
number_most n = omega (arith, numeral_most n)

id_most : (i : Id) → length (id_text i) ≤ 43
unfolding id_text
id_most i = simp length-append (omega (arith, peer_most i.peer, int_most i.counter))

opt_id_most : (o : OptId) → length (opt_id_text o) ≤ 43
unfolding opt_id_text
opt_id_most OptId.None = omega arith
opt_id_most (OptId.Some i) = id_most i

future_most : (f : Bool) → length (future_text f) ≤ 8
future_most true = omega arith
future_most false = omega arith

status_most : (s : Status) → length (status_text s) ≤ 29
unfolding status_text
status_most s = rw (length-append (future_text s.future) (int_text s.delete_times)) (omega (arith, future_most s.future, int_most s.delete_times))

opt_status_most : (o : OptStatus) → length (opt_status_text o) ≤ 29
unfolding opt_status_text
opt_status_most OptId.None = omega arith
opt_status_most (OptId.Some s) = status_most s

named_most : (name : List ℕ) (n : ℕ) → length (named_text name n) ≤ length name + 21
unfolding named_text
named_most name n = rw (length-append name (number_text n)) (omega (arith, number_most n))

value_most : (v : RichtextChunkValue) → length (value_text v) ≤ 50
unfolding value_text
value_most (Value.Text a b) = rw (length-append (named_text (ascii " text") a) (number_text b)) (omega (arith, named_most (ascii " text") a, number_most b))
value_most (Value.StyleAnchor i Anchor.Start) = omega (arith, named_most (ascii " start") i)
value_most (Value.StyleAnchor i Anchor.End) = omega (arith, named_most (ascii " end") i)
value_most (Value.Unknown n) = omega (arith, named_most (ascii " unknown") n)
value_most Value.MoveAnchor = omega arith

span_most : (x : FugueSpan) → length (span_text x) ≤ 301
unfolding span_text
span_most x =
    simp length-append
    (omega
    (arith, id_most x.id, number_most x.lamport, opt_id_most x.real_id, status_most x.status, opt_status_most x.diff_status, opt_id_most x.origin_left, opt_id_most x.origin_right, value_most (value_of x.content)))

-- ---------------------------------------------------------------- lines

head_most : (name : List ℕ) (n : ℕ) → length (head_line name n) ≤ length name + 22
unfolding head_line
head_most name n = rw (length-append (named_text name n) (10 ∷ [])) (omega (arith, named_most name n))

unit_most : (x : FugueSpan) → length (unit_line x) ≤ 1024
unfolding unit_line
unit_most x = simp length-append (omega (arith, span_most x))

span_line_most : (name : List ℕ) (n : ℕ) (x : FugueSpan) → length name ≤ 5 → length (span_line name n x) ≤ 1024
unfolding span_line
span_line_most name n x h = simp length-append (omega (arith, named_most name n, span_most x))

item_most : (i : Id) (c : RichtextChunk) → length (item_line i c) ≤ 1024
unfolding item_line
item_most i c = simp length-append (omega (arith, id_most i, value_most (value_of c)))

at_most : (i : Id) (n : ℕ) → length (at_line i n) ≤ 1024
unfolding at_line
at_most i n = simp length-append (omega (arith, id_most i, number_most n))

-- ---------------------------------------------------------------- answers

pub short_none : Short []
unfolding Short
short_none = tt

pub short_line : (l : List ℕ) → length l ≤ 1024 → Short (l ∷ [])
unfolding Short
short_line l h = (h, tt)

pub short_on : (l : List ℕ) (ls : List (List ℕ)) → length l ≤ 1024 → Short ls → Short (l ∷ ls)
unfolding Short
short_on l ls h t = (h, t)

pub short_append : (ks ls : List (List ℕ)) → Short ks → Short ls → Short (ks ++ ls)
unfolding Short
short_append [] ls p q = q
short_append (k ∷ ks) ls p q = (p.0, short_append ks ls p.1 q)

pub short_upto : (f : ℕ → List (List ℕ)) (n : ℕ) → ((i : ℕ) → Short (f i)) → Short (up_to f n)
unfolding up_to
short_upto f zero h = short_none
short_upto f (suc n) h = short_append (up_to f n) (f n) (short_upto f n h) (h n)

pub short_ok : Short ok_lines
short_ok = short_line (ascii "ok" ++ (10 ∷ [])) (omega arith)

pub short_error : Short error_lines
short_error = short_line (ascii "error" ++ (10 ∷ [])) (omega arith)

pub short_head : (name : List ℕ) (n : ℕ) → length name ≤ 7 → Short (head_line name n ∷ [])
short_head name n h = short_line (head_line name n) (omega (arith, head_most name n))

pub short_refused : (code : ℕ) → Short (refused_lines code)
short_refused code = short_head (ascii "no") code (omega arith)

pub short_done : (code : ℕ) → Short (done_lines code)
unfolding done_lines
short_done code = go (eqb code 0)
  where
    go : (q : Bool) → Short (cond q ok_lines (refused_lines code))
    go true = short_ok
    go false = short_refused code

pub short_len : (a : LenAnswer) → Short (len_lines a)
unfolding len_lines
short_len (Ok n) = short_head (ascii "len") n (omega arith)
short_len (Err e) = short_refused (number_of e)

pub short_at : (a : RealAnswer) → Short (at_lines a)
unfolding at_lines
short_at (Ok (Some (i, n))) = short_line (at_line i n) (at_most i n)
short_at (Ok None) = short_line (ascii "at nothing" ++ (10 ∷ [])) (omega arith)
short_at (Err e) = short_refused (number_of e)

pub short_sum : (n : ℕ) → Short (sum_lines n)
short_sum n = short_line (ascii "sum " ++ last_digits 16 16 n ++ (10 ∷ [])) (simp length-append (omega (arith, digits_length 16 16 n)))

one_short : (kind : Kind) (u : FugueSpan) → Short (one_lines kind u)
unfolding one_lines
one_short Kind.Units u = short_line (unit_line u) (unit_most u)
one_short Kind.Spans u = short_none
one_short Kind.Items u = short_line (item_line _ u.content) (item_most _ u.content)

unit_short : (kind : Kind) (a : SpanAnswer) → Short (unit_lines kind a)
unfolding unit_lines
unit_short kind (Ok u) = one_short kind u
unit_short kind (Err e) = short_none

span_short : (kind : Kind) (x : FugueSpan) → Short (span_lines kind x)
unfolding span_lines
span_short Kind.Units x = short_upto _ _ (λ (k : ℕ). unit_short Kind.Units (slice_span_of x k (k + 1)))
span_short Kind.Spans x = short_line (span_line (ascii "span") _ x) (span_line_most (ascii "span") _ x (omega arith))
span_short Kind.Items x = short_upto _ _ (λ (k : ℕ). unit_short Kind.Items (slice_span_of x k (k + 1)))

row_short : (kind : Kind) (r : Row) → Short (row_lines kind r)
unfolding row_lines
row_short kind (Some x) = span_short kind x
row_short kind None = short_none

kind_most : (kind : Kind) → length (kind_name kind) ≤ 7
unfolding kind_name
kind_most Kind.Units = omega arith
kind_most Kind.Spans = omega arith
kind_most Kind.Items = omega arith

pub short_list : (fine : Bool) (kind : Kind) (s : List ℕ) → Short (list_lines fine kind s)
unfolding list_lines
short_list true kind s =
    let n = rows_count kind s (rows_said s) % 2 ^ 64 in
    short_on (head_line (kind_name kind) n) _ (omega (arith, head_most (kind_name kind) n, kind_most kind)) (short_upto _ _ (λ (i : ℕ). row_short kind (row_of s i)))
short_list false kind s = short_refused 15

piece_short : (out : List ℕ) (i : ℕ) → Short (piece_lines out i)
unfolding piece_lines
piece_short out i = go (ltb i (length out / 72))
  where
    go : (q : Bool) → Short (cond q (span_line (ascii "piece") (len_span (row_at out (i * 72))) (row_at out (i * 72)) ∷ []) [])
    go true = short_line _ (span_line_most (ascii "piece") (len_span (row_at out (i * 72))) (row_at out (i * 72)) (omega arith))
    go false = short_none

pub short_pieces : (out : List ℕ) (n : ℕ) → Short (pieces_lines out n)
short_pieces out n = short_on (head_line (ascii "pieces") n) _ (omega (arith, head_most (ascii "pieces") n)) (short_upto (piece_lines out) n (piece_short out))

pub short_delete : (code : ℕ) (out : List ℕ) (n : ℕ) → Short (delete_lines code out n)
unfolding delete_lines
short_delete code out n = go (eqb code 0)
  where
    go : (q : Bool) → Short (cond q (pieces_lines out n) (refused_lines code))
    go true = short_pieces out n
    go false = short_refused code

short_within : (b : Bool) → Short (within_lines b)
short_within true = short_ok
short_within false = short_error

-- whatever is asked of what is open
pub short_look : (l : Look) (fine : Bool) (real : ℕ → RealAnswer) (len : LenAnswer) (sum : ℕ) (s : List ℕ) → Short (look_lines l fine real len sum s)
unfolding look_lines
short_look (Look.At at) fine real len sum s = short_at (real at)
short_look Look.Len fine real len sum s = short_len len
short_look Look.Dump fine real len sum s = short_list fine Kind.Units s
short_look Look.Spans fine real len sum s = short_list fine Kind.Spans s
short_look Look.Visible fine real len sum s = short_list fine Kind.Items s
short_look (Look.Row i x) fine real len sum s = short_within (row_fits i s)
short_look (Look.Rows n) fine real len sum s = short_within (rows_fit n s)
short_look Look.Sum fine real len sum s = short_sum sum
