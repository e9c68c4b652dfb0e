use mathlib.Core.Path.{sym, ap, ◌∙◌}
use borrow.Author.Tests.{not-true, not-false}
use mathlib.Core.List.{List}
use Rattle.span.specs.declared.span.FugueSpan.{FugueSpan}
use Rattle.span.specs.Units.{expand}
use Rattle.units.specs.Place.{shown}
use Rattle.rope.specs.Entries.{len_answer}
use Rattle.span.specs.Refusal.{refused, refusal_of}
use Rattle.rope.proofs.States.{state_of, part_spans, answer_none, answer_state}
use mathlib.Core.Bool.{not}
use native.Mathlib.Omega.{arith}
use Rattle.rope.proofs.Readers.{stored_few}
use Rattle.rope.proofs.query.visible_len.Goals as goal

pub returns-then-not-check : goal.returns-then-not-check
unfolding len_answer refusal_of
returns-then-not-check c = answer_none c.args.s.now _ refused _ (sym c.check.ensures ∙ not-true _ (ap not c.if-not-check.true))

pub count-n-requires : goal.count-n-requires
count-n-requires c = (state_of c.args.s.now (sym c.check.ensures ∙ not-false _ (ap not c.if-not-check.false))).head

pub slice_bounds-rows-count : goal.slice_bounds-rows-count
slice_bounds-rows-count c = (state_of c.args.s.now (sym c.check.ensures ∙ not-false _ (ap not c.if-not-check.false))).head

pub slice_bounds-rows-start : goal.slice_bounds-rows-start
slice_bounds-rows-start c = (state_of c.args.s.now (sym c.check.ensures ∙ not-false _ (ap not c.if-not-check.false))).head

pub rows-list-requires : goal.rows-list-requires
rows-list-requires c = rw c.count-n.ensures (state_of c.args.s.now (sym c.check.ensures ∙ not-false _ (ap not c.if-not-check.false))).stored.long

pub visible-requires : goal.visible-requires
visible-requires c = omega (arith, c.rows-list.ensures.len, c.count-n.ensures, stored_few _ _ (state_of c.args.s.now (sym c.check.ensures ∙ not-false _ (ap not c.if-not-check.false))).stored)

pub returns : goal.returns
unfolding len_answer
returns c = let s = c.args.s.now in
    answer_state s _ _ (sym c.check.ensures ∙ not-false _ (ap not c.if-not-check.false)) (c.visible.ensures ∙ (ap (λ (l : List FugueSpan). shown (expand l)) c.rows-list.ensures.list ∙ rw c.count-n.ensures (ap (λ (l : List FugueSpan). shown (expand l)) (part_spans s))))
