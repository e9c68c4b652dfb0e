use Rattle.tracker.proofs.TakenLaws.{stored_few}
use Rattle.tracker.specs.Arrivals.{units_seen, delete_fits}
use Rattle.tracker.proofs.Rests.{seen_length}
use Rattle.tracker.proofs.Roomy.{delete_roomy}
use borrow.Author.Tests.{le-leb, lt-leb}
use mathlib.Core.Path.{sym, ap, ◌∙◌}
use mathlib.Core.Bool.{Bool, ◌&&◌}
use Prim.Native.Nat.{ℕ}
use lib.Dec.{leb}
use lib.ListN.{length}
use Rattle.span.specs.Units.{expand, join}
use mathlib.Core.List.{List}
use Rattle.span.specs.declared.span.FugueSpan.{FugueSpan}
use Rattle.units.specs.Limits.{fits}
use Rattle.units.specs.Change.{delete_units}
use native.Mathlib.Omega.{arith}
use Rattle.tracker.proofs.refuse.delete_in_rows.Goals as goal

pub rows-list-requires : goal.rows-list-requires
rows-list-requires c = c.requires.0.sees.stored.long

pub units-requires : goal.units-requires
units-requires c =
    let x = c.args in
    omega (arith, c.rows-list.ensures.len, stored_few x.n x.s.now c.requires.0.sees.stored)

pub returns-then-units-most : goal.returns-then-units-most
returns-then-units-most c =
    let x = c.args in let us = units_seen x.n x.s.now x.h x.e.now x.t.now x.m x.v.now in
    let len = seen_length x.n x.s.now x.h x.e.now x.t.now x.m x.v.now in
    le-leb _ _ c.if-units-most.true ∙ delete_roomy us x.d x.most (omega (arith, c.if-units-most.true, (c.units.ensures ∙ ap (λ (l : List FugueSpan). length (expand l)) c.rows-list.ensures.list), len))

pub returns-else-count_seen-most : goal.returns-else-count_seen-most
unfolding delete_fits fits
returns-else-count_seen-most c =
    let x = c.args in let us = units_seen x.n x.s.now x.h x.e.now x.t.now x.m x.v.now in
    let len = seen_length x.n x.s.now x.h x.e.now x.t.now x.m x.v.now in
    lt-leb _ _ c.if-count_seen-most.false ∙ sym (ap (λ (b : Bool). b && leb (length (join (delete_units x.d.at x.d.len x.d.start us))) x.most) (lt-leb (length (join us)) x.most (omega (arith, c.if-count_seen-most.false, c.count_seen.ensures))))

pub returns-then-count_seen-most : goal.returns-then-count_seen-most
unfolding delete_fits fits
returns-then-count_seen-most c =
    let x = c.args in let us = units_seen x.n x.s.now x.h x.e.now x.t.now x.m x.v.now in
    let len = seen_length x.n x.s.now x.h x.e.now x.t.now x.m x.v.now in
    ap (λ (k : ℕ). leb k x.most) c.count_deleted.ensures ∙ sym (ap (λ (b : Bool). b && leb (length (join (delete_units x.d.at x.d.len x.d.start us))) x.most) (le-leb (length (join us)) x.most (omega (arith, c.if-count_seen-most.true, c.count_seen.ensures))))
