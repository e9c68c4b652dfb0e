use Rattle.std.proofs.Common.{◌≡◌, ◌-◌}
use Rattle.text.specs.Parts as spec
use Rattle.text.proofs.parts.rest.Given as goal

abbrev pub invariant-loop : goal.invariant-loop
invariant-loop l = spec.rest l.b (l.i - l.counter) l.rest ≡ spec.rest l.b l.i l.s
