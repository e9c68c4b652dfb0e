use Rattle.tracker.specs.Arrivals.{units_seen}
use mathlib.Core.List.{List}
use Rattle.span.specs.Units.{expand}
use Rattle.span.specs.declared.span.FugueSpan.{FugueSpan}
use Rattle.tracker.proofs.Rests.{seen_length, insert_8, insert_9, insert_units_lem, insert_rows}
use borrow.Author.Tests.{not-true, not-false}
use mathlib.Core.Path.{sym, ◌∙◌}
use mathlib.Core.Bool.{true, false}
use Prim.Native.Nat.{◌+◌, ◌<◌, ◌≤◌}
use lib.ListN.{length}
use Rattle.span.specs.Span.{len_span}
use Rattle.store.specs.Row.{rows}
use Rattle.units.specs.Place.{shown}
use Rattle.rope.proofs.WellFormed.{formed_of}
use native.Mathlib.Omega.{arith}
use mathlib.Core.Path.{ap}
use mathlib.Core.Bool.{not}
use Rattle.tracker.proofs.refuse.refuse_insert.Goals.{then-many-gt-UNITS-via-then-many-gt-UNITS, then-many-gt-UNITS-via-else-many-gt-UNITS+then-not-insert_in_rows}
use Rattle.tracker.proofs.refuse.refuse_insert.Goals as goal

pub returns-then-shown_seen-at : goal.returns-then-shown_seen-at
returns-then-shown_seen-at c =
    let x = c.args in let us = units_seen x.n x.s.now x.h x.e.now x.t.now x.m x.v.now in
    let len = seen_length x.n x.s.now x.h x.e.now x.t.now x.m x.v.now in
    insert_8 x.most x.h us x.at x.x (omega (arith, c.if-shown_seen-at.true, c.shown_seen.ensures))

pub returns-then-h-ge-EDITS : goal.returns-then-h-ge-EDITS
returns-then-h-ge-EDITS c =
    let x = c.args in let us = units_seen x.n x.s.now x.h x.e.now x.t.now x.m x.v.now in
    let len = seen_length x.n x.s.now x.h x.e.now x.t.now x.m x.v.now in
    let l : x.at ≤ shown us = omega (arith, c.if-shown_seen-at.false, c.shown_seen.ensures) in
    insert_9 x.most x.h us x.at x.x l (omega (arith, c.if-h-ge-EDITS.true))

pub overflow_add-many : goal.overflow_add-many
overflow_add-many c =
    let x = c.args in let us = units_seen x.n x.s.now x.h x.e.now x.t.now x.m x.v.now in
    let len = seen_length x.n x.s.now x.h x.e.now x.t.now x.m x.v.now in
    omega (arith, c.len_of.ensures.1, (c.units.ensures ∙ ap (λ (l : List FugueSpan). length (expand l)) c.rows-list.ensures.list), (formed_of (rows x.n x.s.now) c.requires.0.sees.stored.formed).units)

pub returns-then-many-gt-UNITS : goal.returns-then-many-gt-UNITS
returns-then-many-gt-UNITS c =
    let x = c.args in let us = units_seen x.n x.s.now x.h x.e.now x.t.now x.m x.v.now in
    let len = seen_length x.n x.s.now x.h x.e.now x.t.now x.m x.v.now in
    let l : x.at ≤ shown us = omega (arith, c.if-shown_seen-at.false, c.shown_seen.ensures) in
    let k : x.h < 2000 = omega (arith, c.if-h-ge-EDITS.false) in
    elim c.then-many-gt-UNITS.branch [
      | then-many-gt-UNITS-via-then-many-gt-UNITS w ↦ insert_units_lem x.most x.h us x.at x.x l k (omega (arith, w.if-many-gt-UNITS.true, (c.units.ensures ∙ ap (λ (l : List FugueSpan). length (expand l)) c.rows-list.ensures.list), c.len_of.ensures.0, len))
      | then-many-gt-UNITS-via-else-many-gt-UNITS+then-not-insert_in_rows w ↦
          let m : length us + len_span x.x ≤ 65536 = omega (arith, w.if-many-gt-UNITS.false, (c.units.ensures ∙ ap (λ (l : List FugueSpan). length (expand l)) c.rows-list.ensures.list), c.len_of.ensures.0, len) in
          sym (insert_rows x.most x.h us x.at x.x l k m false (sym w.insert_in_rows.ensures ∙ not-true _ (ap not w.if-not-insert_in_rows.true)))
    ]

pub returns : goal.returns
returns c =
    let x = c.args in let us = units_seen x.n x.s.now x.h x.e.now x.t.now x.m x.v.now in
    let len = seen_length x.n x.s.now x.h x.e.now x.t.now x.m x.v.now in
    let l : x.at ≤ shown us = omega (arith, c.if-shown_seen-at.false, c.shown_seen.ensures) in
    let k : x.h < 2000 = omega (arith, c.if-h-ge-EDITS.false) in
    let m : length us + len_span x.x ≤ 65536 = omega (arith, c.if-many-gt-UNITS.false, (c.units.ensures ∙ ap (λ (l : List FugueSpan). length (expand l)) c.rows-list.ensures.list), c.len_of.ensures.0, len) in
    sym (insert_rows x.most x.h us x.at x.x l k m true (sym c.insert_in_rows.ensures ∙ not-false _ (ap not c.if-not-insert_in_rows.false)))
