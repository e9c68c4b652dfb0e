-- The delta of a history in lent bytes: its number, what each step asks, and what it leaves in the list and in the columns. Assumes nothing.
use Rattle.std.specs.Prelude.{ℕ, ◌≤◌, ◌≡◌, true, false, ◌&&◌, List, length, drop, Result, IfOk}
use Rattle.span.specs.declared.span.FugueSpan.{FugueSpan}
use Rattle.span.specs.declared.refusal.Refusal.{Refusal}
use Rattle.span.specs.Refusal.{code_of}
use Rattle.span.specs.Units.{expand, join}
use Rattle.store.specs.Header.{room, spans_of}
use Rattle.rope.specs.Maybe.{DiffAnswer}
use Rattle.units.specs.Limits.{fits}
use Rattle.units.specs.Store.{well_formed}
use Rattle.units.specs.Codes.{unless}
use Rattle.rope.specs.Columns.{diff_rows_code, diff_number, Diffed}
use Rattle.history.specs.Edit.{Version, Held, History}
use Rattle.history.specs.Version.{named, closed}
use Rattle.history.specs.Deltas.{spans_between}
use Rattle.history.specs.Valid.{valid}
use Rattle.history.specs.Codes.{on_units, or_else}
use Rattle.tracker.specs.declared.delta.Ready.{Ready}
use Rattle.tracker.specs.Rows.{pairs, held, target_room, edit_count, history_in, is_history}
use Rattle.tracker.specs.Looks.{seen}
use Rattle.tracker.specs.Entries.{version_in, Leaves, checked_out, Stands}

-- ---------------------------------------------------------------- numbers

-- two versions: 6 of either goes before 7
unfoldable pub versions_code : List Held → Version → Version → ℕ
versions_code l a b = unless (named l a && named l b) 6 (unless (closed l a && closed l b) 7 0)

-- a list with both statuses, where there is room for so many spans and for so many entries
unfoldable pub rooms_code : ℕ → ℕ → List FugueSpan → ℕ
rooms_code spans most l = unless (fits spans l) 10 (diff_rows_code most l)

-- delta_code, of an output with room for so many entries
unfoldable pub delta_code_in : ℕ → ℕ → ℕ → History → Version → Version → ℕ
delta_code_in spans targets most h a b =
    unless (valid spans targets h) 15 (or_else (versions_code h.held a b) (rooms_code spans most (spans_between a b (on_units h))))

unfoldable pub delta_number : List ℕ → List ℕ → List ℕ → ℕ → Version → Version → ℕ
delta_number s t e most a b = unless (is_history s t e) 15 (delta_code_in (room s) (target_room t) most (history_in s t e) a b)

-- the list with both statuses
unfoldable pub between : List ℕ → List ℕ → List ℕ → Version → Version → List FugueSpan
between s t e a b = spans_between a b (on_units (history_in s t e))

-- ---------------------------------------------------------------- what the delta leaves

-- The answer r, the list at A, and the entries in the columns, where the shortest of them has room. A refused call keeps every byte.
pub record Deltas (s t e : List ℕ) (a b : Version) (most : ℕ) (r : DiffAnswer) (s' k x y p c l k2 x2 y2 p2 c2 l2 : List ℕ) : Type 0 where
  pub leaves : Leaves (delta_number s t e most a b) (checked_out s t e a) (diff_number r) s t e s' t e
  pub diffed : Diffed (delta_number s t e most a b) (between s t e a b) r k x y p c l k2 x2 y2 p2 c2 l2

-- ---------------------------------------------------------------- inner

-- the list of h edits with both statuses, or at A alone
abbrev pub both_of : ℕ → List ℕ → List ℕ → ℕ → List ℕ → ℕ → List ℕ → List FugueSpan → List FugueSpan
both_of h e t ka a kb b l = join (seen true (pairs ka a) (pairs kb b) (held h e t) (expand l))

abbrev pub one_of : ℕ → List ℕ → List ℕ → ℕ → List ℕ → List FugueSpan → List FugueSpan
one_of h e t ka a l = join (seen false (pairs ka a) (pairs ka a) (held h e t) (expand l))

-- what the writing of a delta asks: room for the k rows with both statuses, and for the m rows at A
pub record Between (n k m : ℕ) (s : List ℕ) (h : ℕ) (e t : List ℕ) (ka : ℕ) (a : List ℕ) (kb : ℕ) (b : List ℕ) : Type 0 where
  pub stands : Stands true n k s h e t ka a kb b
  pub formed : well_formed (both_of h e t ka a kb b (spans_of s)) ≡ true
  pub one : m ≡ length (one_of h e t ka a (spans_of s))
  pub few : m ≤ room s

-- where nothing refuses, the numbers of edits and rows are right
pub record Done (s t e : List ℕ) (ka : ℕ) (a : List ℕ) (kb : ℕ) (b : List ℕ) (most : ℕ) (r : Ready) : Type 0 where
  pub from : ka ≤ 16
  pub to : kb ≤ 16
  pub edits : r.edits ≡ edit_count e
  pub asks : Between r.rows r.both r.one s r.edits (drop 64 e) t ka a kb b
  pub diff : diff_rows_code most (both_of r.edits (drop 64 e) t ka a kb b (spans_of s)) ≡ 0

pub record Readied (s t e : List ℕ) (ka : ℕ) (a : List ℕ) (kb : ℕ) (b : List ℕ) (most : ℕ) (r : Result Ready Refusal) : Type 0 where
  pub number : code_of r ≡ delta_number s t e most (version_in ka a) (version_in kb b)
  pub done : IfOk r (Done s t e ka a kb b most)
