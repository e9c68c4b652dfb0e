use mathlib.Core.Path.{◌≡◌, sym, ap, subst, ◌∙◌}
use Rattle.store.specs.Listed.{spans}
use Rattle.rope.specs.Spans.{AllOk}
use Rattle.rope.proofs.WellFormed.{formed_of}
use Rattle.units.specs.Store.{spans_of}
use Rattle.span.specs.Refusal.{refused, refusal_of}
use Rattle.rope.proofs.States.{state_of, part_spans, answer_none, answer_state}
use borrow.Author.Tests.{not-true, not-false}
use mathlib.Core.List.{List}
use Prim.Native.Nat.{ℕ}
use Rattle.std.specs.Prelude.{Option, Ok}
use Rattle.span.specs.declared.ids.Id.{Id}
use Rattle.span.specs.declared.span.FugueSpan.{FugueSpan}
use Rattle.units.specs.Query.{real_span_at}
use Rattle.rope.specs.Entries.{real_answer, real_done}
use mathlib.Core.Bool.{not}
use Rattle.rope.proofs.query.active_real_span_at.Goals as goal

pub returns-then-not-check : goal.returns-then-not-check
unfolding real_answer refusal_of
returns-then-not-check c = answer_none c.args.s.now _ refused _ (sym c.check.ensures ∙ not-true _ (ap not c.if-not-check.true))

pub count-n-requires : goal.count-n-requires
count-n-requires c = (state_of c.args.s.now (sym c.check.ensures ∙ not-false _ (ap not c.if-not-check.false))).head

pub slice_bounds-rows-count : goal.slice_bounds-rows-count
slice_bounds-rows-count c = (state_of c.args.s.now (sym c.check.ensures ∙ not-false _ (ap not c.if-not-check.false))).head

pub slice_bounds-rows-start : goal.slice_bounds-rows-start
slice_bounds-rows-start c = (state_of c.args.s.now (sym c.check.ensures ∙ not-false _ (ap not c.if-not-check.false))).head

pub rows-list-requires : goal.rows-list-requires
rows-list-requires c = rw c.count-n.ensures (state_of c.args.s.now (sym c.check.ensures ∙ not-false _ (ap not c.if-not-check.false))).stored.long

pub real_at-requires : goal.real_at-requires
real_at-requires c = subst AllOk (sym c.rows-list.ensures.list) (rw c.count-n.ensures (formed_of _ (state_of c.args.s.now (sym c.check.ensures ∙ not-false _ (ap not c.if-not-check.false))).stored.formed).each)

pub returns : goal.returns
unfolding real_answer
returns c = let s = c.args.s.now in
    let p = c.args.pos in
    let e : real_span_at (spans c.rows-list.result.now) p ≡ real_span_at (spans_of s) p = ap (λ (l : List FugueSpan). real_span_at l p) c.rows-list.ensures.list ∙ rw c.count-n.ensures (ap (λ (l : List FugueSpan). real_span_at l p) (part_spans s)) in
    ap (λ (q : Option (Id × ℕ)). Ok q) c.real_at.ensures ∙ answer_state s real_done refused (sym c.check.ensures ∙ not-false _ (ap not c.if-not-check.false)) e
