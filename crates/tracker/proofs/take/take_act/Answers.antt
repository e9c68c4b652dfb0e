use Rattle.span.specs.Units.{expand, join}
use Rattle.store.specs.Header.{spans_of}
use Rattle.rope.specs.Edits.{WrittenIn}
use Rattle.tracker.specs.declared.row.Does.{Does}
use Rattle.tracker.specs.Arrivals.{does_list, does_took, Ranged}
use Rattle.tracker.proofs.Doing.{ranged_none}
use mathlib.Core.Path.{sym, subst}
use Rattle.tracker.proofs.take.take_act.Goals as goal

pub returns-in-Insert : goal.returns-in-Insert
returns-in-Insert c =
    let x = c.args in let q = sym c.in-Insert.is in let f = c.take_insert in
    (subst (λ (a : Does). WrittenIn (join (does_list a x.x.id x.x.at (expand (spans_of x.s.now)))) x.s.now f.new.s) q f.ensures, subst (λ (a : Does). Ranged (does_took a x.x.at (expand (spans_of x.s.now))) x.had 0 x.t.now x.t.now) q (ranged_none x.had x.t.now))
