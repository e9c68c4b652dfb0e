-- The delta between two versions: A as status and B as diff_status on every unit, and get_diff of the joined list. Assumes nothing.
use Rattle.std.specs.Prelude.{List}
use Rattle.span.specs.declared.span.FugueSpan.{FugueSpan}
use Rattle.span.specs.Units.{join}
use Rattle.units.specs.declared.diff.Entry.{Entry}
use Rattle.units.specs.Delta.{entries}
use Rattle.history.specs.Edit.{Version, History}
use Rattle.history.specs.Checkout.{units_between}

-- the joined list with both statuses
unfoldable pub spans_between : Version → Version → History → List FugueSpan
spans_between a b h = join (units_between a b h)

unfoldable pub delta : Version → Version → History → List Entry
delta a b h = entries (spans_between a b h)
