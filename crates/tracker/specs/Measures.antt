-- The entries of a delta, counted row by row: rows and entries so far, whether each insert has a real id, and the visible units since the last change.
-- Assumes nothing.
use Rattle.std.specs.Prelude.{◌+◌, ◌≡◌, Bool, true, ◌&&◌, List, [], ◌∷◌, length, if◌then◌else◌, ◌==◌}
use Rattle.span.specs.declared.span.FugueSpan.{FugueSpan}
use Rattle.span.specs.declared.span.DiffStatus.{DiffStatus}
use Rattle.span.specs.declared.span.DiffStatus.TheVariants.{NotChanged, Created, Deleted}
use Rattle.span.specs.Span.{active_len, diff_of}
use Rattle.units.specs.Lists.{every}
use Rattle.units.specs.Delta.{is_real, insertable, entries}
use Rattle.tracker.specs.declared.measure.Measure.{Measure}

abbrev pub nothing : Measure
nothing = record { fine = true; rows = 0; entries = 0; gap = 0 }

-- one change more: a positive gap before it is an entry of its own
unfoldable pub changed : Measure → Bool → Measure
changed x real = record { fine = x.fine && real; rows = x.rows + 1; entries = x.entries + (if x.gap == 0 then 1 else 2); gap = 0 }

abbrev pub measure_by : DiffStatus → Measure → FugueSpan → Measure
measure_by NotChanged x s = record { fine = x.fine; rows = x.rows + 1; entries = x.entries; gap = x.gap + active_len s }
measure_by Created x s = changed x (is_real s.real_id)
measure_by Deleted x s = changed x true

unfoldable pub measured : Measure → FugueSpan → Measure
measured x s = measure_by (diff_of s) x s

unfoldable pub measured_all : Measure → List FugueSpan → Measure
measured_all x [] = x
measured_all x (s ∷ l) = measured_all (measured x s) l

-- the rows of a joined list, the entries of the delta that it gives, and whether each insert has a real id
pub record Measures (l : List FugueSpan) (r : Measure) : Type 0 where
  pub fine : r.fine ≡ every insertable l
  pub rows : r.rows ≡ length l
  pub entries : r.entries ≡ length (entries l)
