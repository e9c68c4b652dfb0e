-- Whether an insert fits: where two lists of units meet, the cursor of a visible position at a version, and whether the scan from there on leaves a new
-- span at the cursor. The rows stand at another version, so what is future is asked of the version. Assumes nothing.
use Rattle.std.specs.Prelude.{ℕ, ◌-◌, ◌<◌, ◌≤◌, ◌≡◌, Bool, true, false, not, ◌&&◌, List, [], ◌∷◌, ◌++◌, length, take, drop, if◌then◌else◌, nat_le, ◌==◌, Some, None}
use Rattle.span.specs.Maybe.{OptId}
use Rattle.span.specs.declared.span.FugueSpan.{FugueSpan}
use Rattle.span.specs.Span.{len_span, span_code, joins_span}
use Rattle.span.specs.Units.{unit_at, units_of, expand, join}
use Rattle.store.specs.Row.{rows}
use Rattle.units.specs.declared.place.Verdict.{Verdict}
use Rattle.units.specs.Place.{is_stop, after, verdict, pr_pos, with_origins, front, behind, shown}
use Rattle.rope.specs.Spans.{Fresh}
use Rattle.history.specs.Edit.{Version, Held}
use Rattle.history.specs.Version.{in_version}
use Rattle.tracker.specs.declared.fits.Left.{Left}
use Rattle.tracker.specs.Looks.{seen}
use Rattle.tracker.specs.Ahead.{ahead, Place}

-- ---------------------------------------------------------------- where two lists meet

-- a unit joins the first of a list
unfoldable pub meets : FugueSpan → List FugueSpan → Bool
meets u [] = false
meets u (w ∷ l) = joins_span u w

-- the last of a list joins the first of another
unfoldable pub meet : List FugueSpan → List FugueSpan → Bool
meet [] B = false
meet (u ∷ []) B = meets u B
meet (u ∷ (v ∷ A)) B = meet (v ∷ A) B

abbrev pub bit : Bool → ℕ
bit b = if b then 1 else 0

-- ---------------------------------------------------------------- the scan, at a version

abbrev pub future : Version → FugueSpan → Bool
future v u = not (in_version v u.id)

-- the first row that the version has, by its first unit
unfoldable pub first_in : Version → List FugueSpan → OptId
first_in v [] = None
first_in v (s ∷ l) = if future v s then first_in v l else Some s.id

-- the scan leaves the place where it starts: nothing that it passes clears "holding"
unfoldable pub stays_at : Version → (List FugueSpan → FugueSpan → Verdict) → List FugueSpan → Bool → List FugueSpan → Bool
stays_at v f S h [] = true
stays_at v f S h (s ∷ l) =
    if future v s then (if is_stop (f (expand S) s) then true else (if after (f (expand S) s) h then stays_at v f (S ++ (s ∷ [])) (after (f (expand S) s) h) l else false)) else true

-- the span x after the unit u, with the origins that it has before row `at`
abbrev pub placed : Version → List FugueSpan → ℕ → FugueSpan → FugueSpan → FugueSpan
placed v R at u x = with_origins x (Some u.id) (first_in v (drop at R))

-- it joins that unit, and nothing comes between
unfoldable pub joins_at : Version → List FugueSpan → ℕ → FugueSpan → FugueSpan → Bool
joins_at v R at u x =
    joins_span u (placed v R at u x)
    && stays_at v (verdict (expand R) (Some u.id) (first_in v (drop at R)) (pr_pos (expand R) (Some u.id) (first_in v (drop at R))) x.id.peer) [] false (drop at R)

-- ---------------------------------------------------------------- the cursor of a position

-- the units of n rows at a version
abbrev pub list_at : Version → List Held → ℕ → List ℕ → List FugueSpan
list_at v l n s = seen false v v l (expand (rows n s))

-- some units of a piece are before the cursor; the place is behind the piece
pub record Cut (n : ℕ) (s : List ℕ) (f : Left) : Type 0 where
  pub place : Place n s f.row f.from
  pub fine : span_code f.piece ≡ 0
  pub some : 0 < f.skip
  pub most : f.skip ≤ len_span f.piece

-- the unit before the cursor, and the units behind it: the rest of the piece, and what is ahead
abbrev pub left_unit : Left → FugueSpan
left_unit f = unit_at f.piece (f.skip - 1)

abbrev pub behind_of : Version → List Held → ℕ → List ℕ → Left → List FugueSpan
behind_of v l n s f = drop f.skip (units_of f.piece) ++ seen false v v l (ahead n s f.row f.from)

-- the cursor of the visible position `at`
pub record Sought (v : Version) (l : List Held) (n : ℕ) (s : List ℕ) (at : ℕ) (f : Left) : Type 0 where
  pub cut : Cut n s f
  pub first : List FugueSpan
  pub before : front (list_at v l n s) at ≡ first ++ take f.skip (units_of f.piece)
  pub after : behind (list_at v l n s) at ≡ behind_of v l n s f

-- the place is before a row, or behind all of them
abbrev pub edge : ℕ → Left → Bool
edge n f = if f.from == 0 then true else nat_le n f.row

-- the cursor is at such a place, and the span x joins the unit before it there
unfoldable pub joins_left : Version → ℕ → List ℕ → Left → FugueSpan → Bool
joins_left v n s f x = f.skip == len_span f.piece && (edge n f && joins_at v (rows n s) f.row (left_unit f) x)

-- an insert of new ids at a visible position of a list of k rows, that fits the room as it is
pub record Enters (v : Version) (l : List Held) (n : ℕ) (s : List ℕ) (at : ℕ) (x : FugueSpan) (k most : ℕ) : Type 0 where
  pub count : k ≡ length (join (list_at v l n s))
  pub room : k ≤ most
  pub low : at ≤ shown (list_at v l n s)
  pub fine : span_code x ≡ 0
  pub new : Fresh x (list_at v l n s)
