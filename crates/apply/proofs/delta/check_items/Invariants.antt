use Rattle.std.proofs.Common.{◌≡◌, ◌-◌, ◌/◌, length}
use Rattle.span.specs.Answer.{lower}
use Rattle.span.specs.Refusal.{code_of}
use Rattle.span.specs.Units.{tab}
use Rattle.apply.specs.Items.{item_in}
use Rattle.apply.specs.Given.{item_code, lowest}
use Rattle.apply.proofs.delta.check_items.Given as goal

-- the lower of what was met and of what is left
abbrev pub invariant-loop-i : goal.invariant-loop-i
invariant-loop-i l = lower (code_of l.outcome) (lowest item_code (tab (item_in l.old) l.i (length l.old / 24 - l.i))) ≡ lowest item_code (tab (item_in l.old) 0 (length l.old / 24))
