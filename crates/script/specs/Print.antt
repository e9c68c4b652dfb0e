-- The fields of an answer as text, each with a blank (32) in front, and its lines, each with its end (10) (docs/SCRIPT.md). Text is bytes.
use Rattle.std.specs.Prelude.{ℕ, Bool, List, [], ◌∷◌, ◌++◌, None, Some, if◌then◌else◌, ◌==◌}
use Rattle.text.specs.Ascii.{ascii}
use Rattle.text.specs.Numbers.{numeral, int_text}
use Rattle.span.specs.declared.ids.Id.{Id}
use Rattle.span.specs.Maybe.{OptId}
use Rattle.span.specs.declared.status.Status.{Status}
use Rattle.span.specs.Maybe.{OptStatus}
use Rattle.span.specs.declared.span.FugueSpan.{FugueSpan}
use Rattle.span.specs.declared.chunk.RichtextChunk.{RichtextChunk}
use Rattle.span.specs.declared.chunk.RichtextChunkValue.{RichtextChunkValue}
use Rattle.span.specs.declared.chunk.RichtextChunkValue.TheVariants as Value
use Rattle.span.specs.declared.chunk.AnchorType.TheVariants as Anchor
use Rattle.span.specs.Ids.{UNKNOWN_PEER}
use Rattle.span.specs.Chunk.{value_of}

-- ---- fields

-- a peer, with no blank in front
unfoldable pub peer_text : ℕ → List ℕ
peer_text p = if p == UNKNOWN_PEER then ascii "U" else numeral p

unfoldable pub number_text : ℕ → List ℕ
number_text n = 32 ∷ numeral n

-- PEER.COUNTER
unfoldable pub id_text : Id → List ℕ
id_text i = (32 ∷ peer_text i.peer) ++ ascii "." ++ int_text i.counter

unfoldable pub opt_id_text : OptId → List ℕ
opt_id_text None = ascii " -"
opt_id_text (Some i) = id_text i

abbrev pub future_text : Bool → List ℕ
future_text f = if f then ascii " future:" else ascii " now:"

-- now:COUNT or future:COUNT
unfoldable pub status_text : Status → List ℕ
status_text s = future_text s.future ++ int_text s.delete_times

unfoldable pub opt_status_text : OptStatus → List ℕ
opt_status_text None = ascii " -"
opt_status_text (Some s) = status_text s

-- a name and a number
unfoldable pub named_text : List ℕ → ℕ → List ℕ
named_text name n = name ++ number_text n

-- text A B, unknown N, start I, end I or move
unfoldable pub value_text : RichtextChunkValue → List ℕ
value_text (Value.Text a b) = named_text (ascii " text") a ++ number_text b
value_text (Value.StyleAnchor i Anchor.Start) = named_text (ascii " start") i
value_text (Value.StyleAnchor i Anchor.End) = named_text (ascii " end") i
value_text (Value.Unknown n) = named_text (ascii " unknown") n
value_text Value.MoveAnchor = ascii " move"

abbrev pub chunk_text : RichtextChunk → List ℕ
chunk_text c = value_text (value_of c)

-- PEER.COUNTER LAMPORT REAL STATUS DIFF LEFT RIGHT CHUNK
unfoldable pub span_text : FugueSpan → List ℕ
span_text x =
    id_text x.id ++ number_text x.lamport ++ opt_id_text x.real_id ++ status_text x.status ++ opt_status_text x.diff_status
    ++ opt_id_text x.origin_left ++ opt_id_text x.origin_right ++ chunk_text x.content

-- ---- lines

-- a name with its number, as `units N` and `no K`
unfoldable pub head_line : List ℕ → ℕ → List ℕ
head_line name n = named_text name n ++ (10 ∷ [])

unfoldable pub unit_line : FugueSpan → List ℕ
unit_line x = ascii "unit" ++ span_text x ++ (10 ∷ [])

-- span LEN SPAN, and piece LEN SPAN
unfoldable pub span_line : List ℕ → ℕ → FugueSpan → List ℕ
span_line name n x = named_text name n ++ span_text x ++ (10 ∷ [])

-- item ID CHUNK
unfoldable pub item_line : Id → RichtextChunk → List ℕ
item_line i c = ascii "item" ++ id_text i ++ chunk_text c ++ (10 ∷ [])

-- at ID LEFT
unfoldable pub at_line : Id → ℕ → List ℕ
at_line i left = ascii "at" ++ id_text i ++ number_text left ++ (10 ∷ [])
