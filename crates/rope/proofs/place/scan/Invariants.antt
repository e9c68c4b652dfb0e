use Rattle.units.specs.Place.{mem_id}
use Rattle.store.specs.Row.{rows}
use Rattle.span.specs.Units.{expand}
use lib.ListN.{take}
use Prim.Native.Nat.{◌-◌, ◌≤◌}
use mathlib.Core.Bool.{false}
use mathlib.Core.Path.{◌≡◌}
use Rattle.rope.proofs.Turns.{Scan}
use Rattle.rope.proofs.place.scan.Given as goal

abbrev pub invariant-scanned : goal.invariant-scanned
invariant-scanned l = (l.j ≤ l.i) × (mem_id l.left (expand (take l.j (rows l.k l.part))) ≡ false)

abbrev pub decreases-scanned : goal.decreases-scanned
decreases-scanned l = l.i - l.j

abbrev pub invariant-scan : goal.invariant-scan
invariant-scan l = Scan (expand (rows l.n l.all)) l.x l.o l.m l.q l.k l.part l.holding l.place l.i

abbrev pub decreases-scan : goal.decreases-scan
decreases-scan l = l.k - l.i
