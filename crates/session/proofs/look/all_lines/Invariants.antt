use Rattle.std.proofs.Common.{◌≡◌, ◌%◌, ◌^◌}
use Rattle.session.specs.Lines.{rows_count}
use Rattle.session.proofs.look.all_lines.Given as goal

abbrev pub invariant-loop-i : goal.invariant-loop-i
invariant-loop-i l = l.sum ≡ rows_count l.kind l.s l.i % 2 ^ 64
