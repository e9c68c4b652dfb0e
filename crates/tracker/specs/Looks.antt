-- What the code that looks at a log asks and answers: a status and how far it reaches, and the list at a version as pieces. Assumes nothing.
use Rattle.std.specs.Prelude.{ℕ, ◌+◌, ◌-◌, ◌*◌, ◌≤◌, ◌<◌, ◌≡◌, Bool, true, List, map, length, take, drop, if◌then◌else◌}
use Rattle.span.specs.declared.ids.Id.{Id}
use Rattle.span.specs.declared.span.FugueSpan.{FugueSpan}
use Rattle.span.specs.Ids.{inc_id}
use Rattle.span.specs.Span.{span_code, len_span}
use Rattle.span.specs.Units.{units_of, expand}
use Rattle.store.specs.Row.{rows}
use Rattle.store.specs.Limits.{EDITS}
use Rattle.rope.specs.Spans.{Stored}
use Rattle.history.specs.Edit.{Version, Held}
use Rattle.history.specs.Checkout.{status_at, unit_at, unit_between}
use Rattle.tracker.specs.declared.look.Reach.{Reach}
use Rattle.tracker.specs.Rows.{pairs, held, used}

-- h edits in the rows e, their target ranges in t, and a version of m pairs in v
pub record Looks (h : ℕ) (e t : List ℕ) (m : ℕ) (v : List ℕ) : Type 0 where
  pub few : h ≤ EDITS
  pub edits : h * 256 ≤ length e
  pub targets : used h e * 16 ≤ length t
  pub version : m * 12 ≤ length v

-- the first r .len units from the id i on, one at least and no more than `most`, have the status that r says
pub record Reaches (v : Version) (l : List Held) (i : Id) (most : ℕ) (r : Reach) : Type 0 where
  pub some : 0 < r.len
  pub few : r.len ≤ most
  pub same : (j : ℕ) → j < r.len → status_at v l (inc_id i j) ≡ r.status

-- a unit as a version shows it, or with one version as status and another as diff_status
unfoldable pub unit_seen : Bool → Version → Version → List Held → FugueSpan → FugueSpan
unit_seen both a b l u = if both then unit_between a b l u else unit_at a l u

unfoldable pub seen : Bool → Version → Version → List Held → List FugueSpan → List FugueSpan
seen both a b l us = map (unit_seen both a b l) us

-- what the calls that look at a list through a log ask: a well formed list in n rows, and versions a and b
pub record Sees (n : ℕ) (s : List ℕ) (h : ℕ) (e t : List ℕ) (ka : ℕ) (a : List ℕ) (kb : ℕ) (b : List ℕ) : Type 0 where
  pub stored : Stored n s
  pub first : Looks h e t ka a
  pub second : Looks h e t kb b

-- x is a piece of a span from its unit `from` on, seen: some units and none past its end
pub record Piece (both : Bool) (a b : Version) (l : List Held) (s : FugueSpan) (from : ℕ) (x : FugueSpan) : Type 0 where
  pub fine : span_code x ≡ 0
  pub some : 0 < len_span x
  pub few : from + len_span x ≤ len_span s
  pub units : units_of x ≡ seen both a b l (take (len_span x) (drop from (units_of s)))
