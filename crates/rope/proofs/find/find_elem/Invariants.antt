use mathlib.Core.Path.{◌≡◌}
use lib.ListN.{drop}
use Rattle.store.specs.Listed.{spans}
use Rattle.rope.specs.Spans.{find_in}
use Rattle.rope.proofs.find.find_elem.Given as goal

abbrev pub invariant-loop-i : goal.invariant-loop-i
invariant-loop-i l = find_in (spans (drop l.i l.rows)) l.o l.i ≡ find_in (spans l.rows) l.fn.o 0
