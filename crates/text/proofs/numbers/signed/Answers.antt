use Rattle.text.proofs.NumbersLaws.{decimal_most, signed_minus, signed_plus, wide_is, minus_is}
use Rattle.std.proofs.Common.{sym, ap, arith, None, Some, ◌∙◌}
use Rattle.text.proofs.numbers.signed.Goals as goal

pub returns-in_err-n : goal.returns-in_err-n
returns-in_err-n c = let a = c.args in let p = c.in-Some.ensures.cases in
    let e = rw (c.from.ensures, p.1) at c.decimal.ensures in
    c.from_residual.ensures ∙ signed_minus a.most a.s.now None p.0 (sym e ∙ c.in_err-n.was)

pub returns-in_ok-n : goal.returns-in_ok-n
returns-in_ok-n c = let a = c.args in let p = c.in-Some.ensures.cases in
    let e = sym (rw (c.from.ensures, p.1) at c.decimal.ensures) ∙ c.in_ok-n.was in
    let m = decimal_most _ _ _ e in
    ap Some (minus_is c.in_ok-n.n (omega (arith, m, c.ranges.most.fits))) ∙ signed_minus a.most a.s.now (Some c.in_ok-n.n) p.0 e

pub returns-in_err-n-2 : goal.returns-in_err-n-2
returns-in_err-n-2 c = let a = c.args in
    let e = sym (rw c.from-in_default.ensures at c.decimal-in_default.ensures) ∙ c.in_err-n-2.was in
    c.from_residual-in_err-n-2.ensures ∙ signed_plus a.most a.s.now None c.in_default.ensures.cases e

pub returns-in_ok-n-2 : goal.returns-in_ok-n-2
returns-in_ok-n-2 c = let a = c.args in
    let e = sym (rw c.from-in_default.ensures at c.decimal-in_default.ensures) ∙ c.in_ok-n-2.was in
    let m = decimal_most _ _ _ e in
    ap Some (wide_is c.in_ok-n-2.n (omega (arith, m, c.ranges.most.fits))) ∙ signed_plus a.most a.s.now (Some c.in_ok-n-2.n) c.in_default.ensures.cases e
