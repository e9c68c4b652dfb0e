use Prim.Native.Nat.{ℕ}
use Rattle.span.specs.Span.{len_span}
use Rattle.span.specs.Units.{unit_at}
use Rattle.apply.specs.Apply.{item_of}
use Rattle.apply.proofs.Tabs.{Copy}
use Rattle.apply.proofs.item.put_units.Given as goal

abbrev pub invariant-loop-i : goal.invariant-loop-i
invariant-loop-i l = Copy (λ (i : ℕ). item_of (unit_at l.span i)) 0 (len_span l.span) l.row l.i l.initial.out l.out
