use Rattle.span.specs.declared.span.FugueSpan.{FugueSpan}
use Rattle.span.specs.Span.{new_span}
use Rattle.rope.proofs.Entering.{said_refused, said_done}
use Rattle.tracker.specs.Arrivals.{units_seen, insert_rest, Inserting}
use mathlib.Core.Path.{sym, ap, subst, ◌∙◌}
use Rattle.tracker.proofs.refuse.refuse_new.Goals as goal

pub returns-in_err-x : goal.returns-in_err-x
returns-in_err-x c =
    let x = c.args in
    absurd ((said_refused c.new.result (new_span x.id x.lamport x.content) c.new.ensures _ c.in_err-x.was).1 c.requires.0.fine)

pub refuse_insert-requires : goal.refuse_insert-requires
refuse_insert-requires c =
    let x = c.args in
    (subst (λ (z : FugueSpan). Inserting x.n x.s.now x.h x.e.now x.t.now x.m x.v.now z) (sym (said_done c.new.result (new_span x.id x.lamport x.content) c.new.ensures _ c.in_ok-x.was).0) c.requires.0, c.requires.1)

pub returns : goal.returns
returns c =
    let x = c.args in
    c.refuse_insert.ensures ∙ ap (insert_rest x.most x.h (units_seen x.n x.s.now x.h x.e.now x.t.now x.m x.v.now) x.at) (said_done c.new.result (new_span x.id x.lamport x.content) c.new.ensures _ c.in_ok-x.was).0
