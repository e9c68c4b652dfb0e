use Rattle.std.proofs.Common.{◌≡◌, ◌-◌}
use Rattle.span.specs.Answer.{lower}
use Rattle.span.specs.Refusal.{code_of}
use Rattle.span.specs.Units.{tab}
use Rattle.apply.specs.Given.{given_code, lowest}
use Rattle.apply.specs.Said.{entry_at, said}
use Rattle.apply.proofs.delta.check_entries.Given as goal

-- the lower of what was met and of what is left
abbrev pub invariant-loop-i : goal.invariant-loop-i
invariant-loop-i l = lower (code_of l.outcome) (lowest given_code (tab (entry_at l.columns) l.i (l.columns.len - l.i))) ≡ lowest given_code (said l.columns)
