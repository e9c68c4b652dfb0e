use Rattle.std.proofs.Common.{◌≡◌, drop}
use Rattle.text.specs.Numbers.{up_to, decimal_of}
use Rattle.text.proofs.numbers.decimal.Given as goal

abbrev pub invariant-loop-byte : goal.invariant-loop-byte
invariant-loop-byte l = up_to l.most l.value (drop l.byte-index l.s) ≡ decimal_of l.most l.s
