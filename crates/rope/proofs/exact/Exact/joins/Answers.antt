use mir.Val.{SFits, of_z}
use lib.Dec.{eqb}
use borrow.Author.Tests.{eq-eqb, ne_eqb}
use mir.Syntax.{w32}
use Rattle.span.proofs.Signed.{eq_bits}
use mathlib.Core.Bool.{true, false}
use mathlib.Core.Path.{◌≡◌, refl, sym, ◌∙◌}
use Rattle.rope.proofs.Exacts.{joins_by}
use borrow.Author.Rules.{rules}
use Rattle.rope.proofs.exact.Exact.joins.Goals as goal

pub returns-then-self-other : goal.returns-then-self-other
returns-then-self-other c = let a = c.args in
    let f : SFits w32 a.self.times = search rules in
    let g : SFits w32 a.other.times = search rules in
    c.can_merge.ensures ∙ joins_by a.self a.other true _ (sym (eq_bits f g) ∙ eq-eqb (of_z w32 a.self.times) (of_z w32 a.other.times) c.if-self-other.true) refl

pub returns-else-self-other : goal.returns-else-self-other
returns-else-self-other c = let a = c.args in
    let f : SFits w32 a.self.times = search rules in
    let g : SFits w32 a.other.times = search rules in
    let q : eqb (of_z w32 a.self.times) (of_z w32 a.other.times) ≡ false = ne_eqb (of_z w32 a.self.times) (of_z w32 a.other.times) c.if-self-other.false in
    q ∙ joins_by a.self a.other false _ (sym (eq_bits f g) ∙ q) refl
