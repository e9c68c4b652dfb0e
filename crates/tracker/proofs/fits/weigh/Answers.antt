use mathlib.Core.Path.{sym, ap, ◌∙◌}
use mathlib.Core.List.{List}
use Rattle.units.specs.Place.{mem_id}
use Rattle.span.specs.declared.span.FugueSpan.{FugueSpan}
use mathlib.Core.Bool.{true, false}
use Rattle.span.specs.Units.{expand}
use Rattle.span.proofs.Derived.{opt_derived}
use Rattle.store.specs.Row.{rows}
use Rattle.tracker.proofs.Stays.{weigh_same, weigh_other}
use Rattle.tracker.proofs.fits.weigh.Goals as goal

pub returns-then-eq : goal.returns-then-eq
returns-then-eq c = let a = c.args in c.judge.ensures ∙ sym (weigh_same (expand (rows a.n a.all.now)) a.x a.o a.p a.q (expand (rows a.i a.part.now)) a.row (sym (opt_derived a.row.origin_left a.x) ∙ (sym c.eq.ensures ∙ c.if-eq.true)))

pub returns-then-has : goal.returns-then-has
returns-then-has c = let a = c.args in sym (weigh_other (expand (rows a.n a.all.now)) a.x a.o a.p a.q (expand (rows a.i a.part.now)) a.row true (sym (opt_derived a.row.origin_left a.x) ∙ (sym c.eq.ensures ∙ c.if-eq.false)) (sym (c.has.ensures ∙ ap (λ (l : List FugueSpan). mem_id a.row.origin_left (expand l)) c.rows.ensures.list) ∙ c.if-has.true))

pub returns-else-has : goal.returns-else-has
returns-else-has c = let a = c.args in sym (weigh_other (expand (rows a.n a.all.now)) a.x a.o a.p a.q (expand (rows a.i a.part.now)) a.row false (sym (opt_derived a.row.origin_left a.x) ∙ (sym c.eq.ensures ∙ c.if-eq.false)) (sym (c.has.ensures ∙ ap (λ (l : List FugueSpan). mem_id a.row.origin_left (expand l)) c.rows.ensures.list) ∙ c.if-has.false))
