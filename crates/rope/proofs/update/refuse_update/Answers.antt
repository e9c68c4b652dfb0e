use Rattle.store.specs.Row.{rows}
use native.Mathlib.Omega.{arith}
use lib.IntN.{pos}
use mathlib.Core.List.{List}
use mathlib.Core.Path.{sym, subst, ◌∙◌}
use Rattle.span.specs.Units.{expand}
use Rattle.span.specs.declared.span.FugueSpan.{FugueSpan}
use Rattle.units.specs.Codes.{counts_fit}
use Rattle.rope.specs.Spans.{AllOk}
use borrow.Author.Tests.{not-true, not-false}
use Rattle.rope.proofs.Updated.{asks_of, rest_held, rest_full, rest_counts, rest_none}
use mathlib.Core.Path.{ap}
use mathlib.Core.Bool.{not}
use Rattle.rope.proofs.update.refuse_update.Goals as goal

pub held_in-requires : goal.held_in-requires
held_in-requires c = let a = c.args in asks_of a.n a.u a.s.now c.requires.0 c.requires.1 c.requires.2

pub returns-then-not-held_in : goal.returns-then-not-held_in
returns-then-not-held_in c = let a = c.args in rest_held a.most (rows a.n a.s.now) a.u (sym c.held_in.ensures ∙ not-true _ (ap not c.if-not-held_in.true))

pub rows_after-requires : goal.rows_after-requires
rows_after-requires c = let a = c.args in asks_of a.n a.u a.s.now c.requires.0 c.requires.1 c.requires.2

pub returns-then-most-rows_after : goal.returns-then-most-rows_after
returns-then-most-rows_after c = let a = c.args in let m = c.rows_after.ensures in rest_full a.most (rows a.n a.s.now) a.u (sym c.held_in.ensures ∙ not-false _ (ap not c.if-not-held_in.false)) (omega (arith, m, c.if-most-rows_after.true))

pub counts_fit-requires : goal.counts_fit-requires
counts_fit-requires c = let a = c.args in let w = asks_of a.n a.u a.s.now c.requires.0 c.requires.1 c.requires.2 in (subst AllOk (sym c.rows-list.ensures.list) w.1, w.3)

pub returns-then-not-counts_fit : goal.returns-then-not-counts_fit
returns-then-not-counts_fit c = let a = c.args in let m = c.rows_after.ensures in rest_counts a.most (rows a.n a.s.now) a.u (sym c.held_in.ensures ∙ not-false _ (ap not c.if-not-held_in.false)) (omega (arith, m, c.if-most-rows_after.false)) (sym (c.counts_fit.ensures ∙ ap (λ (l : List FugueSpan). counts_fit a.u.peer (pos a.u.from) (pos a.u.to) a.u.change a.u.diff (expand l)) c.rows-list.ensures.list) ∙ not-true _ (ap not c.if-not-counts_fit.true))

pub returns : goal.returns
returns c = let a = c.args in let m = c.rows_after.ensures in rest_none a.most (rows a.n a.s.now) a.u (sym c.held_in.ensures ∙ not-false _ (ap not c.if-not-held_in.false)) (omega (arith, m, c.if-most-rows_after.false)) (sym (c.counts_fit.ensures ∙ ap (λ (l : List FugueSpan). counts_fit a.u.peer (pos a.u.from) (pos a.u.to) a.u.change a.u.diff (expand l)) c.rows-list.ensures.list) ∙ not-false _ (ap not c.if-not-counts_fit.false))
