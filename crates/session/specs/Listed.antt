-- A list of spans as docs/SCRIPT.md says it: a line for each unit (`dump`), each span (`spans`) or each visible unit (`visible`).
use Rattle.std.specs.Prelude.{ℕ, List, [], ◌∷◌, length}
use Rattle.text.specs.Ascii.{ascii}
use Rattle.span.specs.declared.span.FugueSpan.{FugueSpan}
use Rattle.span.specs.Span.{len_span, real_of}
use Rattle.span.specs.Units.{expand}
use Rattle.units.specs.Query.{visibles}
use Rattle.script.specs.Print.{head_line, unit_line, span_line, item_line}
use Rattle.session.specs.declared.look.Kind.{Kind}
use Rattle.session.specs.declared.look.Kind.TheVariants as Kind
use Rattle.session.specs.Lines.{kind_name}

-- a line for each
unfoldable pub each : (FugueSpan → List ℕ) → List FugueSpan → List (List ℕ)
each f [] = []
each f (x ∷ l) = f x ∷ each f l

-- span LEN SPAN
abbrev pub span_own : FugueSpan → List ℕ
span_own x = span_line (ascii "span") (len_span x) x

-- item ID CHUNK: the real id, own id if none
abbrev pub item_own : FugueSpan → List ℕ
item_own u = item_line (real_of u) u.content

unfoldable pub listed : Kind → List FugueSpan → List (List ℕ)
listed Kind.Units l = each unit_line (expand l)
listed Kind.Spans l = each span_own l
listed Kind.Items l = each item_own (visibles (expand l))

-- their number, and they
abbrev pub list_text : Kind → List FugueSpan → List (List ℕ)
list_text kind l = head_line (kind_name kind) (length (listed kind l)) ∷ listed kind l

-- piece LEN SPAN, and the pieces that a delete put out, said with their number
abbrev pub piece_own : FugueSpan → List ℕ
piece_own x = span_line (ascii "piece") (len_span x) x

abbrev pub pieces_text : List FugueSpan → List (List ℕ)
pieces_text l = head_line (ascii "pieces") (length l) ∷ each piece_own l
