use Rattle.rope.specs.Spans.{seek_in}
use Rattle.store.specs.Listed.{spans}
use lib.ListN.{drop}
use mathlib.Core.Path.{◌≡◌}
use Rattle.rope.proofs.seek.seek.Given as goal

abbrev pub invariant-loop-i : goal.invariant-loop-i
invariant-loop-i l = seek_in (spans (drop l.i l.rows)) l.left l.i ≡ seek_in (spans l.rows) l.fn.pos 0
