-- `==` of the derived types tests the equality that the definitions state. Assumes nothing.
use Prim.Native.Nat.{ℕ}
use mathlib.Core.Path.{◌≡◌, refl, sym, ap, ap₂, ◌∙◌}
use mathlib.Core.Bool.{Bool, true, false, ◌&&◌, beq}
use lib.IntN.{ℤ, pos, negsuc}
use lib.Dec.{eqb}
use borrow.Author.Tests.{eq-eqb}
use Rattle.std.specs.Prelude.{Option, Some, None}
use Rattle.std.specs.Ordering.{int_eq}
use Rattle.std.specs.Option.{option_eq}
use Rattle.std.proofs.lemmas.Bool.Decides.{Decides-int_eq, same_from_decides}
use Rattle.span.specs.declared.chunk.RichtextChunk.{RichtextChunk}
use Rattle.span.specs.declared.ids.Id.{Id}
use Rattle.span.specs.declared.status.Status.{Status}
use Rattle.span.specs.declared.span.FugueSpan.{FugueSpan}
use Rattle.span.specs.Maybe.{OptId, OptStatus}
use Rattle.span.specs.Status.{eq_z, same_status}
use Rattle.span.specs.Ids.{same_id, same_opt}
use Rattle.span.specs.Span.{same_diff, same_place, same_state, same_origins, same_head, len_span, shift}
use Rattle.span.proofs.StatusLaws.{eq_z-true, eq_z_refl}

pub eq_z_derived : (x y : ℤ) → int_eq x y ≡ eq_z x y
eq_z_derived x y = same_from_decides (int_eq x y) (eq_z x y) (Decides-int_eq x y) (eq_z-true x y, λ (e : x ≡ y). ap (eq_z x) (sym e) ∙ eq_z_refl x)

-- what `==` answers at ids, statuses, chunks and spans
abbrev pub id_eq : Id → Id → Bool
id_eq a b = eqb a.peer b.peer && int_eq a.counter b.counter

abbrev pub status_eq : Status → Status → Bool
status_eq a b = beq a.future b.future && int_eq a.delete_times b.delete_times

abbrev pub chunk_eq : RichtextChunk → RichtextChunk → Bool
chunk_eq a b = eqb a.start b.start && eqb a.end b.end

abbrev pub span_eq : FugueSpan → FugueSpan → Bool
span_eq a b = id_eq a.id b.id && (eqb a.lamport b.lamport && (option_eq id_eq a.real_id b.real_id && (status_eq a.status b.status && (option_eq status_eq a.diff_status b.diff_status && (option_eq id_eq a.origin_left b.origin_left && (option_eq id_eq a.origin_right b.origin_right && chunk_eq a.content b.content))))))

pub id_derived : (a b : Id) → id_eq a b ≡ same_id a b
unfolding same_id
id_derived a b = ap (λ (z : Bool). eqb a.peer b.peer && z) (eq_z_derived a.counter b.counter)

pub opt_derived : (a b : OptId) → option_eq id_eq a b ≡ same_opt a b
unfolding same_opt
opt_derived None None = refl
opt_derived None (Some b) = refl
opt_derived (Some a) None = refl
opt_derived (Some a) (Some b) = id_derived a b

pub status_derived : (a b : Status) → status_eq a b ≡ same_status a b
unfolding same_status
status_derived a b = ap (λ (z : Bool). beq a.future b.future && z) (eq_z_derived a.delete_times b.delete_times)

pub diff_derived : (a b : OptStatus) → option_eq status_eq a b ≡ same_diff a b
unfolding same_diff
diff_derived None None = refl
diff_derived None (Some b) = refl
diff_derived (Some a) None = refl
diff_derived (Some a) (Some b) = status_derived a b

-- the seven tests of a span's head in a row, and grouped
grouped : (a b c d e f g h : Bool) → (a && (b && (c && (d && (e && (f && (g && h))))))) ≡ (((a && (b && c)) && ((d && e) && (f && g))) && h)
grouped false b c d e f g h = refl
grouped true false c d e f g h = refl
grouped true true false d e f g h = refl
grouped true true true false e f g h = refl
grouped true true true true false f g h = refl
grouped true true true true true false g h = refl
grouped true true true true true true false h = refl
grouped true true true true true true true h = refl

pub span_derived : (a b : FugueSpan) → span_eq a b ≡ (same_head a b && chunk_eq a.content b.content)
unfolding same_head same_place same_state same_origins
span_derived a b =
    rw (id_derived a.id b.id, opt_derived a.real_id b.real_id, status_derived a.status b.status, diff_derived a.diff_status b.diff_status, opt_derived a.origin_left b.origin_left, opt_derived a.origin_right b.origin_right)
    (grouped (same_id a.id b.id) (eqb a.lamport b.lamport) (same_opt a.real_id b.real_id) (same_status a.status b.status) (same_diff a.diff_status b.diff_status) (same_opt a.origin_left b.origin_left) (same_opt a.origin_right b.origin_right) (chunk_eq a.content b.content))

pub chunk_eq_refl : (c : RichtextChunk) → chunk_eq c c ≡ true
chunk_eq_refl c = rw (eq-eqb c.start c.start refl) (eq-eqb c.end c.end refl)

-- spans with one content are one where their heads are alike
pub head_derived : (a b : FugueSpan) → a.content ≡ b.content → span_eq a b ≡ same_head a b
head_derived a b e = span_derived a b ∙ (ap (λ (c : RichtextChunk). same_head a b && chunk_eq c b.content) e ∙ (ap (λ (z : Bool). same_head a b && z) (chunk_eq_refl b.content) ∙ last (same_head a b)))
  where
    last : (z : Bool) → (z && true) ≡ z
    last true = refl
    last false = refl

-- the span that one runs on to, compared with its right neighbour
pub next_derived : (a b x : FugueSpan) (n : ℕ) → x ≡ shift a n b.content → n ≡ len_span a → span_eq x b ≡ same_head (shift a (len_span a) b.content) b
unfolding shift
next_derived a b x n e m = rw e (rw m (head_derived (shift a (len_span a) b.content) b refl))
