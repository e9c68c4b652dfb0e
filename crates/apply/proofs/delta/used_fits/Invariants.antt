use Rattle.std.proofs.Common.{◌≡◌, ◌-◌}
use Rattle.std.specs.Prelude.{nat_le}
use Rattle.span.specs.Units.{tab}
use Rattle.apply.specs.Apply.{used}
use Rattle.apply.specs.Said.{entry_at, said}
use Rattle.apply.proofs.delta.used_fits.Given as goal

abbrev pub invariant-loop-i : goal.invariant-loop-i
invariant-loop-i l = nat_le (used (said l.columns)) l.have ≡ nat_le (used (tab (entry_at l.columns) l.i (l.columns.len - l.i))) l.left
