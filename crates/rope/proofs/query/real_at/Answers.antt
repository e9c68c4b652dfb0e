use mathlib.Core.List.{List, []}
use mathlib.Core.Path.{sym, ap, ◌∙◌}
use Rattle.span.specs.declared.span.FugueSpan.{FugueSpan}
use Rattle.units.specs.Query.{real_span_at}
use Rattle.rope.specs.Entries.{real_said}
use Rattle.rope.proofs.Readers.{here, fine_here}
use Rattle.rope.proofs.Reals.{real_cut, real_here, real_past, real_end}
use Rattle.rope.proofs.query.real_at.Goals as goal

pub piece-rest-requires : goal.piece-rest-requires
piece-rest-requires c =
    let l = c.loop-row in
    let ok = fine_here c.args.rows.now l.row-index c.loop-row-test.true _ c.span_of-row.ensures l.invariant.0 in
    real_cut _ [] l.left _ c.activated_len-len.ensures ok.0 c.if-left-len.true

pub returns-then-left-len : goal.returns-then-left-len
returns-then-left-len c =
    let l = c.loop-row in
    let r = c.args.rows.now in
    let ok = fine_here r l.row-index c.loop-row-test.true _ c.span_of-row.ensures l.invariant.0 in
    let e = here r l.row-index c.loop-row-test.true _ c.span_of-row.ensures in
    sym (ap real_said (sym l.invariant.1 ∙ ap (λ (q : List FugueSpan). real_span_at q l.left) e) ∙
    real_here _ _ l.left _ c.activated_len-len.ensures ok.0 c.if-left-len.true _ c.piece-rest.ensures _ _ c.real_id.ensures c.rle_len.ensures)

pub loop-row-preserved : goal.loop-row-preserved
loop-row-preserved c =
    let l = c.loop-row in
    let r = c.args.rows.now in
    let ok = fine_here r l.row-index c.loop-row-test.true _ c.span_of-row.ensures l.invariant.0 in
    let e = here r l.row-index c.loop-row-test.true _ c.span_of-row.ensures in
    (ok.1, sym (ap (λ (q : List FugueSpan). real_span_at q l.left) e ∙ real_past _ _ l.left _ c.activated_len-len.ensures c.if-left-len.false) ∙ l.invariant.1)

pub returns : goal.returns
returns c =
    let l = c.loop-row in
    sym (ap real_said (sym l.invariant.1 ∙ real_end c.args.rows.now l.row-index l.left c.loop-row-test.false))
