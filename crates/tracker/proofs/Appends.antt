-- What is put in a row of the log or in its header is read back, and one more edit leaves the others as they were. Assumes nothing.
use Prim.Native.Nat.{ℕ, ◌+◌, ◌*◌, ◌/◌, ◌^◌, ◌≤◌, ◌<◌}
use mathlib.Core.Path.{◌≡◌, refl, sym, ap, ap₂, ◌∙◌}
use mathlib.Core.Bool.{true, false, cond}
use mathlib.Core.List.{List, [], ◌∷◌, ◌++◌, append_assoc}
use native.Mathlib.Omega.{arith}
use lib.ListN.{length, take, drop, length-append, length-drop}
use lib.Seq.{drop_at, take_at, drop-drop, length-take-le}
use mir.Syntax.{w32}
use mir.Val.{SFits}
use mir.Facts.{to_z-of_z}
use mir.ValLaws.{of_z_fits}
use borrow.Author.Tests.{le-leb}
use Rattle.words.specs.Le.{bytes_of, put}
use Rattle.words.proofs.Puts.{le_bytes, next, part_before}
use Rattle.store.specs.Limits.{PEERS}
use Rattle.span.specs.Chunk.{chunk}
use Rattle.store.specs.Row.{bits32, id_of, low_of, u64_at, u32_at}
use Rattle.history.specs.Edit.{Edit, Held, Insert, Delete}
use Rattle.tracker.specs.declared.row.Head.{Head}
use Rattle.tracker.specs.declared.row.Does.{Does}
use Rattle.tracker.specs.declared.row.Does.TheVariants as Do
use Rattle.tracker.specs.Rows.{to_act, to_edit, pairs, ranges, act_in, took_in, pairs_in, context_in, edit_in, head_bytes, held, used, edit_count, placeholder_in, kind_of, lamport_of, first_of, last_of, target_peer, target_bits}
use Rattle.tracker.specs.Writes.{header_bytes, target_counter, HeadFits, Appended}
use Rattle.tracker.proofs.Logs.{pairs_cong, held_cong, used_cong, held_one, used_one}

-- ---------------------------------------------------------------- an edit's words

module _ (x : Head) (took many : ℕ) (f : HeadFits x took many) (r : List ℕ) where
  pub took_back : took_in (head_bytes x took many ++ r) ≡ took
  unfolding took_in head_bytes bytes_of
  took_back = le_bytes 4 took f.ranges

  pub many_back : pairs_in (head_bytes x took many ++ r) ≡ many
  unfolding pairs_in head_bytes bytes_of
  many_back = le_bytes 4 many f.pairs

  pub rest_back : drop 64 (head_bytes x took many ++ r) ≡ r
  unfolding head_bytes bytes_of
  rest_back = refl

pub length_head : (x : Head) (took many : ℕ) → length (head_bytes x took many) ≡ 64
unfolding head_bytes bytes_of
length_head x took many = refl

-- the words of an edit, put one after the other as the code does
module _ (x : Head) (took many tp cb ki la fo lo tb : ℕ)
    (etp : tp ≡ target_peer x.act) (ecb : cb ≡ bits32 x.id.counter) (eki : ki ≡ kind_of x.act) (ela : la ≡ lamport_of x.act)
    (efo : fo ≡ first_of x.act) (elo : lo ≡ last_of x.act) (etb : tb ≡ target_bits x.act) where
  pub head_put : (s : List ℕ) (at : ℕ) {s1 s2 s3 s4 s5 : List ℕ} → at ≤ length s
      → s1 ≡ put at (bytes_of 8 x.id.peer) s
      → s2 ≡ put (at + 8) (bytes_of 8 tp) s1
      → s3 ≡ put (at + 16) (bytes_of 4 cb ++ bytes_of 4 x.at ++ bytes_of 4 ki ++ bytes_of 4 la) s2
      → s4 ≡ put (at + 32) (bytes_of 4 fo ++ bytes_of 4 lo ++ bytes_of 4 tb ++ bytes_of 4 took) s3
      → s5 ≡ put (at + 48) (bytes_of 4 many ++ bytes_of 4 0 ++ bytes_of 4 0 ++ bytes_of 4 0) s4
      → s5 ≡ put at (head_bytes x took many) s
  unfolding head_bytes bytes_of
  head_put s at h e1 e2 e3 e4 e5 =
      rw (sym etp, sym ecb, sym eki, sym ela, sym efo, sym elo, sym etb)
      (next s _ _ at _ h (next s _ _ at _ h (next s _ _ at _ h (next s _ _ at _ h e1 e2 refl) e3 refl) e4 refl) e5 refl)

-- the words of what an edit does say it
pub bits_of : (a : Does) → bits32 (target_counter a) ≡ target_bits a
bits_of (Do.Insert lamport c) = refl
bits_of (Do.Delete n reversed start) = refl

kind_fits : (a : Does) → kind_of a < 2 ^ 32
kind_fits (Do.Insert lamport c) = omega arith
kind_fits (Do.Delete n true start) = omega arith
kind_fits (Do.Delete n false start) = omega arith

bits_fit : (a : Does) → SFits w32 (target_counter a) → target_bits a < 2 ^ 32
bits_fit (Do.Insert lamport c) h = omega arith
bits_fit (Do.Delete n reversed start) h = omega (arith, of_z_fits w32 start.counter h)

does_back : (a : Does) → SFits w32 (target_counter a)
    → cond (low_of (kind_of a)) (Delete (first_of a) (low_of (kind_of a / 2)) (id_of (target_peer a) (target_bits a))) (Insert (lamport_of a) (chunk (first_of a) (last_of a)))
    ≡ to_act a
does_back (Do.Insert lamport c) h = refl
does_back (Do.Delete n true start) h = rw (to_z-of_z h)
does_back (Do.Delete n false start) h = rw (to_z-of_z h)

module _ (x : Head) (took many : ℕ) (f : HeadFits x took many) (r : List ℕ) where
  act_back : act_in (head_bytes x took many ++ r) ≡ to_act x.act
  unfolding act_in head_bytes bytes_of
  act_back =
      rw (
        le_bytes 8 (target_peer x.act) f.target,
        le_bytes 4 (kind_of x.act) (kind_fits x.act),
        le_bytes 4 (lamport_of x.act) f.lamport,
        le_bytes 4 (first_of x.act) f.first,
        le_bytes 4 (last_of x.act) f.last,
        le_bytes 4 (target_bits x.act) (bits_fit x.act f.start),
      )
      (does_back x.act f.start)

  id_back : id_of (u64_at (head_bytes x took many ++ r) 0) (u32_at (head_bytes x took many ++ r) 16) ≡ x.id
  unfolding head_bytes bytes_of
  id_back =
      rw (
        le_bytes 8 x.id.peer f.peer,
        le_bytes 4 (bits32 x.id.counter) (omega (arith, of_z_fits w32 x.id.counter f.counter)),
        to_z-of_z f.counter,
      )

  at_back : u32_at (head_bytes x took many ++ r) 20 ≡ x.at
  unfolding head_bytes bytes_of
  at_back = le_bytes 4 x.at f.at

  -- the edit that was written is read back, with what stands after it as its context
  pub edit_back : edit_in (head_bytes x took many ++ r) ≡ to_edit x (context_in (head_bytes x took many ++ r))
  unfolding edit_in
  edit_back = rw (id_back, at_back, act_back)

-- ---------------------------------------------------------------- an edit's pairs

module _ (x : Head) (took many : ℕ) (f : HeadFits x took many) (v r : List ℕ) (few : many ≤ 16) (long : many * 12 ≤ length v) where
  pub context_back : context_in (head_bytes x took many ++ (take (many * 12) v ++ r)) ≡ pairs many v
  unfolding context_in
  context_back =
      rw (many_back x took many f (take (many * 12) v ++ r), le-leb many PEERS few)
      (ap (pairs many) (rest_back x took many f (take (many * 12) v ++ r))
      ∙ pairs_cong many (take (many * 12) v ++ r) v (take_at (take (many * 12) v) r (many * 12) (length-take-le (many * 12) v long)))

-- ---------------------------------------------------------------- one edit more

drop_in : (s bs : List ℕ) (b : ℕ) → b ≤ length s → drop b (put b bs s) ≡ bs ++ drop (b + length bs) s
unfolding put
drop_in s bs b h = rw (append_assoc (take b s) bs) (drop_at (take b s) (bs ++ drop (b + length bs) s) b (length-take-le b s h))

-- what stands in row h alone counts for a log of h + 1 edits
module _ (h : ℕ) (e bs : List ℕ) (room : h * 256 ≤ length e) where
  front : take (h * 256) (put (h * 256) bs e) ≡ take (h * 256) e
  front = part_before e bs (h * 256) 0 (h * 256) room (omega arith)

  row_in : drop (h * 256) (put (h * 256) bs e) ≡ bs ++ drop (h * 256 + length bs) e
  row_in = drop_in e bs (h * 256) room

  pub used-put : used (h + 1) (put (h * 256) bs e) ≡ used h e + took_in (bs ++ drop (h * 256 + length bs) e)
  used-put =
      used_one h (put (h * 256) bs e)
      ∙ ap₂ (λ (n : ℕ) (d : List ℕ). n + took_in d) (used_cong h (put (h * 256) bs e) e front) row_in

  pub held-put : (t : List ℕ) → held (h + 1) (put (h * 256) bs e) t
      ≡ held h e t ++ (record { edit = edit_in (bs ++ drop (h * 256 + length bs) e); took = ranges (took_in (bs ++ drop (h * 256 + length bs) e)) (drop (used h e * 16) t) } ∷ [])
  held-put t =
      let u = used_cong h (put (h * 256) bs e) e front in
      held_one h (put (h * 256) bs e) t
      ∙ (ap (λ (l : List Held). l ++ (record { edit = edit_in (drop (h * 256) (put (h * 256) bs e)); took = ranges (took_in (drop (h * 256) (put (h * 256) bs e))) (drop (used h (put (h * 256) bs e) * 16) t) } ∷ [])) (held_cong h (put (h * 256) bs e) e t t front refl)
      ∙ ap₂ (λ (n : ℕ) (d : List ℕ). held h e t ++ (record { edit = edit_in d; took = ranges (took_in d) (drop (n * 16) t) } ∷ [])) u row_in)

-- the head x, then the pairs of the row w
module _ (h : ℕ) (w : List ℕ) (took : ℕ) (e : List ℕ) (room : h * 256 + 256 ≤ length e) (long : 256 ≤ length w) (few : pairs_in w ≤ 16)
    (x : Head) (is : to_edit x (context_in w) ≡ edit_in w) (many : ℕ) (m : many ≡ pairs_in w) (f : HeadFits x took many) where
  row_bytes : List ℕ
  row_bytes = head_bytes x took many ++ take (many * 12) (drop 64 w)

  tail : List ℕ
  tail = drop (h * 256 + length row_bytes) e

  fits : many * 12 ≤ length (drop 64 w)
  fits = rw length-drop (omega arith)

  long_row : length row_bytes ≡ 64 + many * 12
  unfolding row_bytes
  long_row =
      length-append (head_bytes x took many) (take (many * 12) (drop 64 w))
      ∙ ap₂ ◌+◌ (length_head x took many) (length-take-le (many * 12) (drop 64 w) fits)

  same_context : context_in (row_bytes ++ tail) ≡ context_in w
  unfolding row_bytes context_in
  same_context =
      ap context_in (append_assoc (head_bytes x took many) (take (many * 12) (drop 64 w)) tail)
      ∙ (context_back x took many f (drop 64 w) tail (omega arith) fits
      ∙ (ap (λ (n : ℕ). pairs n (drop 64 w)) m ∙ rw (le-leb (pairs_in w) PEERS few) refl))

  same_edit : edit_in (row_bytes ++ tail) ≡ edit_in w
  unfolding row_bytes
  same_edit =
      ap edit_in (append_assoc (head_bytes x took many) (take (many * 12) (drop 64 w)) tail)
      ∙ (edit_back x took many f (take (many * 12) (drop 64 w) ++ tail)
      ∙ (ap (to_edit x) (ap context_in (sym (append_assoc (head_bytes x took many) (take (many * 12) (drop 64 w)) tail)) ∙ same_context) ∙ is))

  same_took : took_in (row_bytes ++ tail) ≡ took
  unfolding row_bytes
  same_took =
      ap took_in (append_assoc (head_bytes x took many) (take (many * 12) (drop 64 w)) tail)
      ∙ took_back x took many f (take (many * 12) (drop 64 w) ++ tail)

  pub appended : (f : List ℕ) → f ≡ put (h * 256) (head_bytes x took many ++ take (many * 12) (drop 64 w)) e → Appended h w took e f
  unfolding row_bytes tail
  appended f q =
      let r : h * 256 ≤ length e = omega arith in
      record {
        row = row_bytes;
        few = omega (arith, long_row);
        bytes = q;
        count = ap (used (h + 1)) q ∙ (used-put h e row_bytes r ∙ ap (λ (n : ℕ). used h e + n) same_took);
        list = λ t.
            ap (λ (d : List ℕ). held (h + 1) d t) q
            ∙ (held-put h e row_bytes r t
            ∙ ap₂ (λ (y : Edit) (n : ℕ). held h e t ++ (record { edit = y; took = ranges n (drop (used h e * 16) t) } ∷ [])) same_edit same_took);
      }

-- ---------------------------------------------------------------- the header

module _ (n p : ℕ) (fn : n < 2 ^ 64) (fp : p < 2 ^ 64) (e : List ℕ) where
  pub header_count : edit_count (put 0 (header_bytes n p) e) ≡ n
  unfolding edit_count put header_bytes bytes_of
  header_count = le_bytes 8 n fn

  pub header_placeholder : placeholder_in (put 0 (header_bytes n p) e) ≡ p
  unfolding placeholder_in put header_bytes bytes_of
  header_placeholder = le_bytes 8 p fp

pub header_rows : (n p : ℕ) (e : List ℕ) → drop 64 (put 0 (header_bytes n p) e) ≡ drop 64 e
unfolding put header_bytes bytes_of
header_rows n p e = refl

-- another number of edits
pub set_count : (n : ℕ) → n < 2 ^ 64 → (e : List ℕ) → edit_count (put 0 (bytes_of 8 n) e) ≡ n
unfolding edit_count put bytes_of
set_count n f e = le_bytes 8 n f

pub count_placeholder : (n : ℕ) (e : List ℕ) → placeholder_in (put 0 (bytes_of 8 n) e) ≡ placeholder_in e
unfolding placeholder_in put bytes_of
count_placeholder n e = refl

pub count_rows : (n : ℕ) (e : List ℕ) → drop 64 (put 0 (bytes_of 8 n) e) ≡ drop 64 e
unfolding put bytes_of
count_rows n e = drop-drop 56 8 e
