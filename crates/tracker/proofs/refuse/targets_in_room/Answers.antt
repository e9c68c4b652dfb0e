use Rattle.tracker.specs.Arrivals.{units_seen}
use Rattle.tracker.proofs.Rests.{seen_length}
use Rattle.tracker.proofs.Roomy.{targets_roomy}
use native.Mathlib.Omega.{arith}
use borrow.Author.Tests.{le-leb}
use mathlib.Core.Path.{◌∙◌}
use Rattle.tracker.proofs.refuse.targets_in_room.Goals as goal

pub returns-then-d-free : goal.returns-then-d-free
returns-then-d-free c =
    let x = c.args in let us = units_seen x.n x.s.now x.h x.e.now x.t.now x.m x.v.now in
    let len = seen_length x.n x.s.now x.h x.e.now x.t.now x.m x.v.now in
    le-leb _ _ c.if-d-free.true ∙ targets_roomy us x.d x.free (omega (arith, c.if-d-free.true))
