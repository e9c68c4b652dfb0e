use Rattle.span.proofs.SpanLaws.{runs_by}
use Rattle.span.proofs.Derived.{next_derived}
use mathlib.Core.Bool.{true, false}
use mathlib.Core.Path.{refl, sym, ◌∙◌}
use Rattle.span.proofs.span.FugueSpan.runs_on.Goals as goal

pub returns-then-eq : goal.returns-then-eq
returns-then-eq c = let a = c.args in
    runs_by a.self a.rhs true _ (sym (c.if-eq.ensures ∙ next_derived a.self a.rhs _ _ c.shifted.ensures c.rle_len.ensures)) (sym c.can_merge.ensures)

pub returns-else-eq : goal.returns-else-eq
returns-else-eq c = let a = c.args in
    c.if-eq.false ∙ runs_by a.self a.rhs false _ (sym (c.if-eq.ensures ∙ next_derived a.self a.rhs _ _ c.shifted.ensures c.rle_len.ensures)) refl
