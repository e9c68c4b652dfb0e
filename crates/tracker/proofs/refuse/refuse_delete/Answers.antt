use Rattle.tracker.specs.Arrivals.{units_seen}
use Rattle.tracker.specs.Rows.{used}
use Rattle.tracker.specs.Targets.{targets_of}
use Rattle.tracker.proofs.Rests.{seen_length, delete_8, delete_9, delete_rows, can_delete}
use borrow.Author.Tests.{not-true, not-false, leb-true, leb-false, le-leb, lt-leb}
use mathlib.Core.Path.{refl, sym, ◌∙◌}
use mathlib.Core.Bool.{true, false}
use Prim.Native.Nat.{◌+◌, ◌<◌, ◌≤◌}
use lib.ListN.{length}
use Rattle.units.specs.Place.{shown}
use native.Mathlib.Omega.{arith}
use mathlib.Core.Path.{ap}
use mathlib.Core.Bool.{not}
use Rattle.tracker.proofs.refuse.refuse_delete.Goals as goal

pub returns-then-shown_seen-d : goal.returns-then-shown_seen-d
returns-then-shown_seen-d c =
    let x = c.args in let us = units_seen x.n x.s.now x.h x.e.now x.t.now x.m x.v.now in
    let len = seen_length x.n x.s.now x.h x.e.now x.t.now x.m x.v.now in
    delete_8 x.most x.places x.h (used x.h x.e.now) us x.d (omega (arith, c.if-shown_seen-d.true, c.shown_seen.ensures))

pub returns-then-h-ge-EDITS : goal.returns-then-h-ge-EDITS
returns-then-h-ge-EDITS c =
    let x = c.args in let us = units_seen x.n x.s.now x.h x.e.now x.t.now x.m x.v.now in
    let len = seen_length x.n x.s.now x.h x.e.now x.t.now x.m x.v.now in
    let l : x.d.at + x.d.len ≤ shown us = omega (arith, c.if-shown_seen-d.false, c.shown_seen.ensures) in
    delete_9 x.most x.places x.h (used x.h x.e.now) us x.d l (omega (arith, c.if-h-ge-EDITS.true))

pub delete_in_rows-requires : goal.delete_in_rows-requires
delete_in_rows-requires c =
    let x = c.args in let us = units_seen x.n x.s.now x.h x.e.now x.t.now x.m x.v.now in
    let len = seen_length x.n x.s.now x.h x.e.now x.t.now x.m x.v.now in
    let l : x.d.at + x.d.len ≤ shown us = omega (arith, c.if-shown_seen-d.false, c.shown_seen.ensures) in
    (c.requires.0, can_delete x.n x.s.now x.h x.e.now x.t.now x.m x.v.now x.d c.requires.0 l)

pub returns-then-not-delete_in_rows : goal.returns-then-not-delete_in_rows
returns-then-not-delete_in_rows c =
    let x = c.args in let us = units_seen x.n x.s.now x.h x.e.now x.t.now x.m x.v.now in
    let len = seen_length x.n x.s.now x.h x.e.now x.t.now x.m x.v.now in
    let l : x.d.at + x.d.len ≤ shown us = omega (arith, c.if-shown_seen-d.false, c.shown_seen.ensures) in
    let k : x.h < 2000 = omega (arith, c.if-h-ge-EDITS.false) in
    sym (delete_rows x.most x.places x.h (used x.h x.e.now) us x.d l k false _ (sym c.delete_in_rows.ensures ∙ not-true _ (ap not c.if-not-delete_in_rows.true)) refl)

pub targets_in_room-requires : goal.targets_in_room-requires
targets_in_room-requires c =
    let x = c.args in let us = units_seen x.n x.s.now x.h x.e.now x.t.now x.m x.v.now in
    let len = seen_length x.n x.s.now x.h x.e.now x.t.now x.m x.v.now in
    let l : x.d.at + x.d.len ≤ shown us = omega (arith, c.if-shown_seen-d.false, c.shown_seen.ensures) in
    (c.requires.0, can_delete x.n x.s.now x.h x.e.now x.t.now x.m x.v.now x.d c.requires.0 l)

pub returns-then-not-targets_in_room : goal.returns-then-not-targets_in_room
returns-then-not-targets_in_room c =
    let x = c.args in let us = units_seen x.n x.s.now x.h x.e.now x.t.now x.m x.v.now in
    let len = seen_length x.n x.s.now x.h x.e.now x.t.now x.m x.v.now in
    let l : x.d.at + x.d.len ≤ shown us = omega (arith, c.if-shown_seen-d.false, c.shown_seen.ensures) in
    let k : x.h < 2000 = omega (arith, c.if-h-ge-EDITS.false) in
    let q = leb-false (length (targets_of x.d us)) _ (sym c.targets_in_room.ensures ∙ not-true _ (ap not c.if-not-targets_in_room.true)) in
    sym (delete_rows x.most x.places x.h (used x.h x.e.now) us x.d l k true false (sym c.delete_in_rows.ensures ∙ not-false _ (ap not c.if-not-delete_in_rows.false)) (lt-leb (used x.h x.e.now + length (targets_of x.d us)) x.places (omega (arith, q, c.used_len.ensures, c.requires.1))))

pub returns : goal.returns
returns c =
    let x = c.args in let us = units_seen x.n x.s.now x.h x.e.now x.t.now x.m x.v.now in
    let len = seen_length x.n x.s.now x.h x.e.now x.t.now x.m x.v.now in
    let l : x.d.at + x.d.len ≤ shown us = omega (arith, c.if-shown_seen-d.false, c.shown_seen.ensures) in
    let k : x.h < 2000 = omega (arith, c.if-h-ge-EDITS.false) in
    let q = leb-true (length (targets_of x.d us)) _ (sym c.targets_in_room.ensures ∙ not-false _ (ap not c.if-not-targets_in_room.false)) in
    sym (delete_rows x.most x.places x.h (used x.h x.e.now) us x.d l k true true (sym c.delete_in_rows.ensures ∙ not-false _ (ap not c.if-not-delete_in_rows.false)) (le-leb (used x.h x.e.now + length (targets_of x.d us)) x.places (omega (arith, q, c.used_len.ensures, c.requires.1))))
