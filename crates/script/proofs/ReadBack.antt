-- What is printed reads back: each field of an answer is a blank and a word that says the field, so that a list that is printed can be
-- handed back as rows. Numbers are those that fit their types, as every value of the program does.
use mathlib.Core.Path.{◌≡◌, refl, sym, ap, ap₂, ◌∙◌}
use mathlib.Core.Bool.{Bool, true, false, cond}
use mathlib.Core.List.{List, [], ◌∷◌, ◌++◌, append_assoc}
use Rattle.std.specs.Prelude.{None, Some}
use Prim.Native.Nat.{ℕ, ◌^◌, ◌≤◌, ◌<◌}
use native.Mathlib.Omega.{arith}
use borrow.Author.Tests.{eqb-true}
use lib.Dec.{eqb}
use lib.ListN.{drop, get_or}
use lib.IntN.{ℤ}
use mir.Syntax.{w16, w32}
use mir.Val.{SFits}
use Rattle.text.specs.Ascii.{ascii}
use Rattle.text.specs.Parts.{rest, parts, same_text}
use Rattle.text.specs.Numbers.{is_digit, all_digits, up_to, decimal_of, numeral, int_text}
use Rattle.text.proofs.NumeralLaws.{decimal_numeral}
use Rattle.text.proofs.PartsLaws.{same_equal}
use Rattle.text.proofs.CutLaws.{Lacks, lacks_append, before_cut, after_cut, rest_cut, same_lacks, joined, AllLack, part-joined, parts-joined, numeral_lacks, int_lacks}
use Rattle.text.proofs.IntLaws as Text
use Rattle.span.specs.declared.ids.Id.{Id}
use Rattle.span.specs.Maybe.{OptId}
use Rattle.span.specs.declared.status.Status.{Status}
use Rattle.span.specs.Maybe.{OptStatus}
use Rattle.span.specs.declared.span.FugueSpan.{FugueSpan}
use Rattle.span.specs.declared.chunk.RichtextChunk.{RichtextChunk}
use Rattle.span.specs.declared.chunk.RichtextChunkValue.TheVariants as Value
use Rattle.span.specs.declared.chunk.AnchorType.TheVariants as Anchor
use Rattle.span.specs.Chunk.{UNKNOWN, START, END, MOVE, by_start, chunk, move_chunk, shape_of, formed}
use Rattle.span.specs.Ids.{UNKNOWN_PEER}
use Rattle.store.specs.Row as Row
use Rattle.script.specs.declared.call.Look.TheVariants as Look
use Rattle.script.specs.declared.call.Call.TheVariants as Call
use Rattle.script.specs.Field.{number_of, peer_of, id_from, id_word, opt_by, opt_word, status_from, status_word, change_word, diff_by, diff_word, raw_from, two_words, three_words, one_word, chunk_by, chunk_of, word_of, span_by, span_of}
use Rattle.script.specs.Print.{peer_text, number_text, id_text, opt_id_text, future_text, status_text, opt_status_text, named_text, value_text, chunk_text, span_text}
use Rattle.script.specs.Call.{row_of, several_of, call_by, call_of}
use Rattle.script.proofs.FieldLaws.{raw_is, span_is}
use Rattle.script.proofs.CallLaws.{row_is}

-- a blank and one word, which says x
pub record Back {A : Type 0} (text : List ℕ) (says : List ℕ → A) (x : A) : Type 0 where
  pub word : List ℕ
  pub is : text ≡ 32 ∷ word
  pub one : Lacks 32 word
  pub back : says word ≡ x

-- ---- fields

pub number_back : (n : ℕ) → n < 2 ^ 32 → Back (number_text n) number_of (Some n)
unfolding number_text is_digit
number_back n h = record { word = numeral n; is = refl; one = numeral_lacks 32 refl n; back = Text.number_back n h }

-- a peer's bytes are digits or a `U`
peer_lacks : (b p : ℕ) → is_digit b ≡ false → Lacks b (ascii "U") → Lacks b (peer_text p)
unfolding peer_text
peer_lacks b p h u = go (eqb p UNKNOWN_PEER)
  where
    go : (q : Bool) → Lacks b (cond q (ascii "U") (numeral p))
    go true = u
    go false = numeral_lacks b h p

pub peer_back : (p : ℕ) → p < 2 ^ 64 → peer_of (peer_text p) ≡ Some p
unfolding peer_text peer_of is_digit
peer_back p h = go (eqb p UNKNOWN_PEER) refl
  where
    go : (q : Bool) → eqb p UNKNOWN_PEER ≡ q → peer_of (cond q (ascii "U") (numeral p)) ≡ Some p
    go true e = ap Some (sym (eqb-true p UNKNOWN_PEER e))
    go false e = rw (same_lacks 85 (numeral p) [] (numeral_lacks 85 refl p)) (decimal_numeral 18446744073709551615 p (omega arith) (omega arith))

-- PEER.COUNTER
id_part : Id → List ℕ
id_part i = peer_text i.peer ++ (46 ∷ int_text i.counter)

module _ (i : Id) (h : i.peer < 2 ^ 64) (f : SFits w32 i.counter) where
  id_one : Lacks 32 (id_part i)
  unfolding id_part is_digit
  id_one = lacks_append 32 (peer_text i.peer) (46 ∷ int_text i.counter) (peer_lacks 32 i.peer refl refl) (rw (int_lacks 32 refl i.counter refl) (omega arith))

  id_from_lem : id_from (peer_text i.peer) (int_text i.counter) ≡ Some i
  unfolding id_from
  id_from_lem = rw (peer_back i.peer h, Text.int32_read i.counter f)

  id_says : id_word (id_part i) ≡ Some i
  unfolding id_part is_digit
  id_says =
      let l : Lacks 46 (peer_text i.peer) = peer_lacks 46 i.peer refl refl in
      ap₂ id_from (before_cut 46 (peer_text i.peer) (int_text i.counter) l) (after_cut 46 (peer_text i.peer) (int_text i.counter) l)
      ∙ id_from_lem

  pub id_back : Back (id_text i) id_word (Some i)
  unfolding id_text id_part
  id_back = record { word = id_part i; is = append_assoc (32 ∷ peer_text i.peer) (46 ∷ []) (int_text i.counter); one = id_one; back = id_says }

-- an id, or `-`, which is no id
pub opt_id_back : (o : OptId) → Row.peer_of o < 2 ^ 64 → SFits w32 (Row.ctr_of o) → Back (opt_id_text o) opt_word (Some o)
unfolding opt_id_text opt_word id_from peer_of decimal_of up_to all_digits is_digit
opt_id_back None h f = record { word = ascii "-"; is = refl; one = refl; back = refl }
opt_id_back (Some i) h f = let b = id_back i h f in record { word = b.word; is = b.is; one = b.one; back = go b.word b.back (same_text b.word (ascii "-")) refl }
  where
    go : (w : List ℕ) → id_word w ≡ Some i → (q : Bool) → same_text w (ascii "-") ≡ q → cond q (Some None) (opt_by (id_word w)) ≡ Some (Some i)
    go w e true q = let n : None ≡ Some i = ap id_word (sym (same_equal w (ascii "-") q)) ∙ e in let z : ◌≡◌ {A = ℕ} 0 1 = cc in absurd (omega arith)
    go w e false q = ap opt_by e

-- now:COUNT, future:COUNT
count_back : (q : Bool) (z : ℤ) → SFits w16 z → Back (future_text q ++ int_text z) status_word (Some (record { future = q; delete_times = z }))
unfolding status_word status_from change_word is_digit
count_back true z f = record { word = ascii "future:" ++ int_text z; is = refl; one = rw (int_lacks 32 refl z refl) (omega arith); back = rw (Text.int16_read z f) }
count_back false z f = record { word = ascii "now:" ++ int_text z; is = refl; one = rw (int_lacks 32 refl z refl) (omega arith); back = rw (Text.int16_read z f) }

pub status_back : (s : Status) → SFits w16 s.delete_times → Back (status_text s) status_word (Some s)
unfolding status_text
status_back s f = count_back s.future s.delete_times f

-- a status, or `-`, which is no status
pub opt_status_back : (o : OptStatus) → SFits w16 (Row.times_of o) → Back (opt_status_text o) diff_word (Some o)
unfolding opt_status_text diff_word status_word
opt_status_back None f = record { word = ascii "-"; is = refl; one = refl; back = refl }
opt_status_back (Some s) f = let b = status_back s f in record { word = b.word; is = b.is; one = b.one; back = go b.word b.back (same_text b.word (ascii "-")) refl }
  where
    go : (w : List ℕ) → status_word w ≡ Some s → (q : Bool) → same_text w (ascii "-") ≡ q → cond q (Some None) (diff_by (status_word w)) ≡ Some (Some s)
    go w e true q = let n : None ≡ Some s = ap status_word (sym (same_equal w (ascii "-") q)) ∙ e in let z : ◌≡◌ {A = ℕ} 0 1 = cc in absurd (omega arith)
    go w e false q = ap diff_by e

-- ---- a chunk

module _ (name : List ℕ) (l : Lacks 32 name) where
  chunk_two : (n : ℕ) → chunk_of (name ++ (32 ∷ numeral n)) ≡ two_words name (numeral n)
  unfolding chunk_by is_digit
  chunk_two n = rw (parts-joined 32 name vs k, part-joined 32 name vs k 0 (omega arith), part-joined 32 name vs k 1 (omega arith))
    where
      vs : List (List ℕ)
      vs = numeral n ∷ []

      k : AllLack 32 name (numeral n ∷ [])
      k = (l, numeral_lacks 32 refl n)

  chunk_three : (a b : ℕ) → chunk_of (name ++ (32 ∷ (numeral a ++ (32 ∷ numeral b)))) ≡ three_words name (numeral a) (numeral b)
  unfolding chunk_by is_digit
  chunk_three a b = rw (parts-joined 32 name vs k, part-joined 32 name vs k 0 (omega arith), part-joined 32 name vs k 1 (omega arith), part-joined 32 name vs k 2 (omega arith))
    where
      vs : List (List ℕ)
      vs = numeral a ∷ numeral b ∷ []

      k : AllLack 32 name (numeral a ∷ numeral b ∷ [])
      k = (l, (numeral_lacks 32 refl a, numeral_lacks 32 refl b))

module _ (n : ℕ) (h : n < 2 ^ 32) where
  unknown_back : chunk_of (drop 1 (value_text (Value.Unknown n))) ≡ Some (chunk UNKNOWN n)
  unfolding value_text named_text number_text two_words
  unknown_back = chunk_two (ascii "unknown") refl n ∙ rw (Text.number_back n h)

  start_back : chunk_of (drop 1 (value_text (Value.StyleAnchor n Anchor.Start))) ≡ Some (chunk START n)
  unfolding value_text named_text number_text two_words
  start_back = chunk_two (ascii "start") refl n ∙ rw (Text.number_back n h)

  end_back : chunk_of (drop 1 (value_text (Value.StyleAnchor n Anchor.End))) ≡ Some (chunk END n)
  unfolding value_text named_text number_text two_words
  end_back = chunk_two (ascii "end") refl n ∙ rw (Text.number_back n h)

-- a move's end is not printed: it reads back as that of a formed one
pub move_back : (n : ℕ) → chunk_of (drop 1 (chunk_text (chunk MOVE n))) ≡ Some move_chunk
unfolding by_start value_text chunk_by one_word parts rest
move_back n = refl

text_back : (a b : ℕ) → a < 2 ^ 32 → b < 2 ^ 32 → chunk_of (drop 1 (value_text (Value.Text a b))) ≡ Some (chunk a b)
unfolding value_text named_text number_text three_words
text_back a b h k = chunk_three (ascii "text") refl a b ∙ sym (raw_is (numeral a) (numeral b) a b (Text.number_back a h) (Text.number_back b k))

-- every chunk but a move that is not formed
pub chunk_back : (c : RichtextChunk) → c.start < 2 ^ 32 → c.end < 2 ^ 32 → (c.start ≡ MOVE → c.end ≡ MOVE) → chunk_of (drop 1 (chunk_text c)) ≡ Some c
unfolding by_start
chunk_back c h k m = go (eqb c.start UNKNOWN) (eqb c.start START) (eqb c.start END) (eqb c.start MOVE) refl refl refl refl
  where
    go : (u s e v : Bool) → eqb c.start UNKNOWN ≡ u → eqb c.start START ≡ s → eqb c.start END ≡ e → eqb c.start MOVE ≡ v →
        chunk_of (drop 1 (value_text (cond u (Value.Unknown c.end) (cond s (Value.StyleAnchor c.end Anchor.Start) (cond e (Value.StyleAnchor c.end Anchor.End) (cond v Value.MoveAnchor (Value.Text c.start c.end))))))) ≡ Some c
    go true s e v p q r t = unknown_back c.end k ∙ ap (λ (n : ℕ). Some (chunk n c.end)) (sym (eqb-true c.start UNKNOWN p))
    go false true e v p q r t = start_back c.end k ∙ ap (λ (n : ℕ). Some (chunk n c.end)) (sym (eqb-true c.start START q))
    go false false true v p q r t = end_back c.end k ∙ ap (λ (n : ℕ). Some (chunk n c.end)) (sym (eqb-true c.start END r))
    go false false false true p q r t =
        let x : c.start ≡ MOVE = eqb-true c.start MOVE t in
        move_back c.end ∙ ap₂ (λ (n j : ℕ). Some (chunk n j)) (sym x) (sym (m x))
    go false false false false p q r t = text_back c.start c.end h k

-- a formed chunk is none of those
pub formed_move : (c : RichtextChunk) → formed c ≡ true → c.start ≡ MOVE → c.end ≡ MOVE
unfolding formed shape_of
formed_move c f e = eqb-true c.end MOVE (rw e at f)

-- ---- a row

-- the fields of a span before its chunk
abbrev pub head_text : FugueSpan → List ℕ
head_text x =
    id_text x.id ++ number_text x.lamport ++ opt_id_text x.real_id ++ status_text x.status ++ opt_status_text x.diff_status
    ++ opt_id_text x.origin_left ++ opt_id_text x.origin_right

pub span_head : (x : FugueSpan) → span_text x ≡ head_text x ++ chunk_text x.content
unfolding span_text
span_head x = refl

module _ (w v0 v1 v2 v3 v4 v5 v6 v7 : List ℕ) where
  abbrev others : List (List ℕ)
  others = v0 ∷ v1 ∷ v2 ∷ v3 ∷ v4 ∷ v5 ∷ v6 ∷ v7 ∷ []

  gathered : (32 ∷ w) ++ (32 ∷ v0) ++ (32 ∷ v1) ++ (32 ∷ v2) ++ (32 ∷ v3) ++ (32 ∷ v4) ++ (32 ∷ v5) ++ (32 ∷ v6) ++ (32 ∷ v7) ≡ 32 ∷ joined 32 w others
  gathered = simp append_assoc

  span_words : AllLack 32 w others → span_by (id_word w) (number_of v0) (opt_word v1) (status_word v2) (diff_word v3) (opt_word v4) (opt_word v5) (raw_from v6 v7) ≡ span_of (joined 32 w others)
  span_words l =
      span_is (joined 32 w others) (parts-joined 32 w others l) (ap id_word (at 0 (omega arith))) (ap number_of (at 1 (omega arith))) (ap opt_word (at 2 (omega arith)))
      (ap status_word (at 3 (omega arith)))
      (ap diff_word (at 4 (omega arith)))
      (ap opt_word (at 5 (omega arith)))
      (ap opt_word (at 6 (omega arith)))
      (ap₂ raw_from (at 7 (omega arith)) (at 8 (omega arith)))
    where
      at : (i : ℕ) → i ≤ 8 → get_or (w ∷ others) i [] ≡ word_of (joined 32 w others) i
      at i h = sym (part-joined 32 w others l i h)

-- a call of eleven words, and one by the name `row`
several_row : (t : List ℕ) → several_of (ascii "row") t ≡ row_of t
unfolding several_of
several_row t = refl

call_row : (line : List ℕ) → parts 32 line ≡ 11 → call_of line ≡ several_of (word_of line 0) (rest 32 1 line)
unfolding call_by
call_row line e = rw e

-- a span's fields with its chunk as two numbers
abbrev pub row_text : FugueSpan → List ℕ
row_text x = head_text x ++ number_text x.content.start ++ number_text x.content.end

module _ (x : FugueSpan) (h : Row.Fitting (Row.words_of x)) (s : Row.Signed x) where
  own : Back (id_text x.id) id_word (Some x.id)
  unfolding Row.words_of
  own = id_back x.id h.p0 s.own

  lamport : Back (number_text x.lamport) number_of (Some x.lamport)
  unfolding Row.words_of
  lamport = number_back x.lamport h.c1

  real : Back (opt_id_text x.real_id) opt_word (Some x.real_id)
  unfolding Row.words_of
  real = opt_id_back x.real_id h.p1 s.real

  status : Back (status_text x.status) status_word (Some x.status)
  status = status_back x.status s.times

  diff : Back (opt_status_text x.diff_status) diff_word (Some x.diff_status)
  diff = opt_status_back x.diff_status s.diff

  left : Back (opt_id_text x.origin_left) opt_word (Some x.origin_left)
  unfolding Row.words_of
  left = opt_id_back x.origin_left h.p2 s.left

  right : Back (opt_id_text x.origin_right) opt_word (Some x.origin_right)
  unfolding Row.words_of
  right = opt_id_back x.origin_right h.p3 s.right

  start : Back (number_text x.content.start) number_of (Some x.content.start)
  unfolding Row.words_of
  start = number_back x.content.start h.c5

  end : Back (number_text x.content.end) number_of (Some x.content.end)
  unfolding Row.words_of
  end = number_back x.content.end h.c6

  abbrev words : List (List ℕ)
  words = lamport.word ∷ real.word ∷ status.word ∷ diff.word ∷ left.word ∷ right.word ∷ start.word ∷ end.word ∷ []

  lacks : AllLack 32 own.word words
  lacks = (own.one, (lamport.one, (real.one, (status.one, (diff.one, (left.one, (right.one, (start.one, end.one))))))))

  text_is : row_text x ≡ 32 ∷ joined 32 own.word words
  text_is =
      rw (own.is, lamport.is, real.is, status.is, diff.is, left.is, right.is, start.is, end.is)
      (gathered own.word lamport.word real.word status.word diff.word left.word right.word start.word end.word)

  says : span_of (joined 32 own.word words) ≡ Some x
  unfolding raw_from
  says =
      sym (span_words own.word lamport.word real.word status.word diff.word left.word right.word start.word end.word lacks)
      ∙ rw (own.back, lamport.back, real.back, status.back, diff.back, left.back, right.back, start.back, end.back)

  pub row_back : span_of (drop 1 (row_text x)) ≡ Some x
  row_back = rw text_is says

  -- the call that writes it
  pub row_call : (i : ℕ) → i < 2 ^ 32 → call_of (ascii "row" ++ number_text i ++ row_text x) ≡ Some (Call.Look (Look.Row i x))
  unfolding number_text rest is_digit
  row_call i k =
      ap (λ (t : List ℕ). call_of (ascii "row" ++ (32 ∷ numeral i) ++ t)) text_is
      ∙ call_row (joined 32 (ascii "row") (numeral i ∷ own.word ∷ words)) (parts-joined 32 (ascii "row") (numeral i ∷ own.word ∷ words) (refl, after))
      ∙ several_row tail
      ∙ sym (row_is tail (sym (ap number_of (before_cut 32 (numeral i) spans after.0) ∙ Text.number_back i k)) (sym (ap span_of (rest_cut 32 (numeral i) spans after.0 0) ∙ says)))
    where
      spans : List ℕ
      spans = joined 32 own.word words

      tail : List ℕ
      tail = joined 32 (numeral i) (own.word ∷ words)

      after : AllLack 32 (numeral i) (own.word ∷ words)
      after = (numeral_lacks 32 refl i, lacks)
