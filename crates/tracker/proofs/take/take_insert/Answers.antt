use Rattle.span.specs.declared.span.FugueSpan.{FugueSpan}
use Rattle.span.specs.Span.{new_span}
use Rattle.store.specs.Header.{room, spans_of}
use Rattle.units.specs.Codes.{insert_code}
use Rattle.rope.specs.Edits.{WrittenIn, insert_list}
use Rattle.rope.proofs.Entering.{said_refused, said_done}
use Rattle.tracker.proofs.Doing.{edited_written}
use mathlib.Core.Path.{ap, subst, ◌∙◌}
use Rattle.tracker.proofs.take.take_insert.Goals as goal

pub insert_span-requires : goal.insert_span-requires
insert_span-requires c =
    let x = c.args in (c.requires.state, (said_done c.new.result (new_span x.id x.lamport x.content) c.new.ensures _ c.in-Ok.is).1)

pub returns-in_default : goal.returns-in_default
returns-in_default c =
    let x = c.args in absurd ((said_refused c.new.result (new_span x.id x.lamport x.content) c.new.ensures _ c.in_default.is).1 c.requires.fine)

pub returns-in-Ok : goal.returns-in-Ok
returns-in-Ok c =
    let x = c.args in
    let q = (said_done c.new.result (new_span x.id x.lamport x.content) c.new.ensures _ c.in-Ok.is).0 in
    let f = c.insert_span in
    subst (λ (z : FugueSpan). WrittenIn (insert_list x.s.now x.at z) x.s.now f.new.s) q
    (edited_written _ _ _ x.s.now f.new.s f.ensures (ap (insert_code (room x.s.now) (spans_of x.s.now) x.at) q ∙ c.requires.taken))
