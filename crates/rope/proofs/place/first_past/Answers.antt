use mathlib.Core.Bool.{true, false}
use mathlib.Core.Path.{sym, ◌∙◌}
use Rattle.rope.proofs.Turns.{not-true, not-false}
use Rattle.rope.proofs.Readers.{fine_here, past_here, past_end}
use Rattle.rope.proofs.place.first_past.Goals as goal

pub returns-then-not-row : goal.returns-then-not-row
returns-then-not-row c =
    let l = c.loop-row in
    sym (sym l.invariant.1 ∙ past_here c.args.rows.now l.row-index c.loop-row-test.true _ c.span_of-row.ensures l.invariant.0 false (not-true _ c.if-not-row.true))

pub loop-row-preserved : goal.loop-row-preserved
loop-row-preserved c =
    let l = c.loop-row in
    let r = c.args.rows.now in
    let h = c.loop-row-test.true in (
      (fine_here r l.row-index h _ c.span_of-row.ensures l.invariant.0).1,
      sym (past_here r l.row-index h _ c.span_of-row.ensures l.invariant.0 true (not-false _ c.if-not-row.false)) ∙ l.invariant.1,
    )

pub returns : goal.returns
returns c =
    let l = c.loop-row in
    sym (sym l.invariant.1 ∙ past_end c.args.rows.now l.row-index c.loop-row-test.false)
