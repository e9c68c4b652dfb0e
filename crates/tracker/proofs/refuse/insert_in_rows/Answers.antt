use Rattle.tracker.specs.Arrivals.{units_seen, insert_fits}
use Rattle.tracker.proofs.Rests.{seen_length}
use Rattle.tracker.proofs.Roomy.{insert_roomy}
use borrow.Author.Tests.{le-leb, lt-leb}
use mathlib.Core.Path.{sym, ap, ◌∙◌}
use mathlib.Core.Bool.{Bool, ◌&&◌}
use lib.Dec.{leb}
use lib.ListN.{length}
use Rattle.span.specs.Units.{join}
use Rattle.units.specs.Limits.{fits}
use Rattle.units.specs.Place.{insert_units}
use native.Mathlib.Omega.{arith}
use Rattle.tracker.proofs.refuse.insert_in_rows.Goals as goal

pub returns-then-many-most : goal.returns-then-many-most
returns-then-many-most c =
    let x = c.args in let us = units_seen x.n x.s.now x.h x.e.now x.t.now x.m x.v.now in
    let len = seen_length x.n x.s.now x.h x.e.now x.t.now x.m x.v.now in
    insert_roomy x.most us x.at x.x (omega (arith, c.if-many-most.true, c.requires.2, len))

pub returns-else-k-most : goal.returns-else-k-most
unfolding insert_fits fits
returns-else-k-most c =
    let x = c.args in let us = units_seen x.n x.s.now x.h x.e.now x.t.now x.m x.v.now in
    let len = seen_length x.n x.s.now x.h x.e.now x.t.now x.m x.v.now in
    lt-leb _ _ c.if-k-most.false ∙ sym (ap (λ (b : Bool). b && leb (length (join (insert_units x.at x.x us))) x.most) (lt-leb (length (join us)) x.most (omega (arith, c.if-k-most.false, c.count_seen-k.ensures))))

pub returns-then-k-most : goal.returns-then-k-most
unfolding insert_fits fits
returns-then-k-most c =
    let x = c.args in let us = units_seen x.n x.s.now x.h x.e.now x.t.now x.m x.v.now in
    let len = seen_length x.n x.s.now x.h x.e.now x.t.now x.m x.v.now in
    c.insert_fits.ensures ∙ sym (ap (λ (b : Bool). b && leb (length (join (insert_units x.at x.x us))) x.most) (le-leb (length (join us)) x.most (omega (arith, c.if-k-most.true, c.count_seen-k.ensures))))
