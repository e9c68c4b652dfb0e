-- the steps of a definition by tests and by cases, as a function's returns meet them
use mathlib.Core.Path.{◌≡◌}
use mathlib.Core.List.{List}
use Rattle.std.specs.Prelude.{Option, Some}
use Rattle.span.specs.declared.chunk.RichtextChunk.{RichtextChunk}
use Rattle.span.specs.declared.ids.Id.{Id}
use Rattle.span.specs.declared.status.Status.{Status}
use Rattle.span.specs.Maybe.{OptId, OptStatus}
use Prim.Native.Nat.{ℕ}
use Rattle.text.specs.Parts.{parts}
use Rattle.script.specs.Field.{word_of, number_of, id_word, opt_word, status_word, diff_word, raw_from, span_by, span_of}

pub raw_is : (a b : List ℕ) (n m : ℕ) → number_of a ≡ Some n → number_of b ≡ Some m → Some (record { start = n; end = m }) ≡ raw_from a b
unfolding raw_from
raw_is a b n m e f = rw (e, f)

pub span_is : (t : List ℕ) {i : Option Id} {n : Option ℕ} {r x y : Option OptId} {s : Option Status} {d : Option OptStatus} {c : Option RichtextChunk} → parts 32 t ≡ 9 →
    i ≡ id_word (word_of t 0) → n ≡ number_of (word_of t 1) → r ≡ opt_word (word_of t 2) → s ≡ status_word (word_of t 3) → d ≡ diff_word (word_of t 4) →
    x ≡ opt_word (word_of t 5) → y ≡ opt_word (word_of t 6) → c ≡ raw_from (word_of t 7) (word_of t 8) → span_by i n r s d x y c ≡ span_of t
unfolding span_of
span_is t h e0 e1 e2 e3 e4 e5 e6 e7 = rw (h, e0, e1, e2, e3, e4, e5, e6, e7)
