-- A closed version, asked of fewer edits: what a version covers to its end and past it is closed if what its peer did next is. Assumes nothing.
use Rattle.std.specs.Prelude.{Bool, ◌||◌, List, pos, ◌+ℤ◌}
use Rattle.std.specs.Int.Signed.{lt_z}
use Rattle.units.specs.Lists.{every}
use Rattle.history.specs.Edit.{Version, Edit, Held, size}
use Rattle.history.specs.Version.{count_of, closed_for}

-- a version covers an edit, and more of its peer's
unfoldable pub past : Version → Edit → Bool
past v e = lt_z (e.id.counter +ℤ pos (size e)) (pos (count_of v e.id.peer))

unfoldable pub last_for : Version → Edit → Bool
last_for v e = past v e || closed_for v e

unfoldable pub closed_last : List Held → Version → Bool
closed_last held v = every (λ (h : Held). last_for v h.edit) held
