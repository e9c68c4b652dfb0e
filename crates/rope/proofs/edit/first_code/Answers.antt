use mathlib.Core.Bool.{true, false}
use Prim.Native.Nat.{◌+◌, ◌<◌, ◌≤◌}
use lib.ListN.{length}
use Rattle.units.specs.Codes.{holds_some}
use Rattle.units.specs.Place.{shown}
use Rattle.span.specs.Span.{len_span}
use Rattle.span.specs.Units.{expand}
use Rattle.rope.proofs.Admits.{holds_same, first_2, first_3, first_8, first_10, first_0}
use Rattle.rope.proofs.WellFormed.{formed_of}
use Rattle.store.specs.Row.{rows}
use borrow.Author.Tests.{eq-eqb, ne_eqb}
use mathlib.Core.Path.{◌≡◌, sym, ap, ◌∙◌}
use mathlib.Core.List.{List}
use Rattle.span.specs.declared.span.FugueSpan.{FugueSpan}
use Rattle.rope.specs.Spans.{holds_any}
use Rattle.rope.proofs.Readers.{stored_few}
use native.Mathlib.Omega.{arith}
use Rattle.rope.proofs.edit.first_code.Goals as goal

pub visible-requires : goal.visible-requires
visible-requires c = omega (arith, c.rows-list.ensures.len, stored_few c.args.n c.args.s.now c.requires.stored)

pub returns-then-x-eq-UNKNOWN_PEER : goal.returns-then-x-eq-UNKNOWN_PEER
returns-then-x-eq-UNKNOWN_PEER c = let a = c.args in first_2 (rows a.n a.s.now) a.pos a.x (eq-eqb _ _ c.if-x-eq-UNKNOWN_PEER.true)

pub returns-then-holds : goal.returns-then-holds
returns-then-holds c =
    let a = c.args in
    let p = c.requires in
    let R = rows a.n a.s.now in
    let h : holds_some (len_span a.x) a.x.id (expand R) ≡ true = sym (holds_same R a.x (formed_of R p.stored.formed).each p.fine) ∙ (sym (c.holds.ensures ∙ ap (λ (l : List FugueSpan). holds_any l a.x) c.rows-list.ensures.list) ∙ c.if-holds.true) in
    first_3 R a.pos a.x (ne_eqb _ _ c.if-x-eq-UNKNOWN_PEER.false) h

pub returns-then-visible-pos : goal.returns-then-visible-pos
returns-then-visible-pos c =
    let a = c.args in
    let p = c.requires in
    let R = rows a.n a.s.now in
    let h : holds_some (len_span a.x) a.x.id (expand R) ≡ false = sym (holds_same R a.x (formed_of R p.stored.formed).each p.fine) ∙ (sym (c.holds.ensures ∙ ap (λ (l : List FugueSpan). holds_any l a.x) c.rows-list.ensures.list) ∙ c.if-holds.false) in
    let v : shown (expand R) < a.pos = omega (arith, (c.visible.ensures ∙ ap (λ (l : List FugueSpan). shown (expand l)) c.rows-list.ensures.list), c.if-visible-pos.true) in
    first_8 R a.pos a.x (ne_eqb _ _ c.if-x-eq-UNKNOWN_PEER.false) h v

pub overflow_add-units : goal.overflow_add-units
overflow_add-units c =
    let p = c.requires in
    omega (arith, p.count, (formed_of _ p.stored.formed).units, c.len_of.ensures.1)

pub returns-then-units-len_of-gt-UNITS : goal.returns-then-units-len_of-gt-UNITS
returns-then-units-len_of-gt-UNITS c =
    let a = c.args in
    let p = c.requires in
    let R = rows a.n a.s.now in
    let h : holds_some (len_span a.x) a.x.id (expand R) ≡ false = sym (holds_same R a.x (formed_of R p.stored.formed).each p.fine) ∙ (sym (c.holds.ensures ∙ ap (λ (l : List FugueSpan). holds_any l a.x) c.rows-list.ensures.list) ∙ c.if-holds.false) in
    let v : a.pos ≤ shown (expand R) = omega (arith, (c.visible.ensures ∙ ap (λ (l : List FugueSpan). shown (expand l)) c.rows-list.ensures.list), c.if-visible-pos.false) in
    let u : 65536 < length (expand R) + len_span a.x = omega (arith, p.count, c.len_of.ensures.0, c.if-units-len_of-gt-UNITS.true) in
    first_10 R a.pos a.x (ne_eqb _ _ c.if-x-eq-UNKNOWN_PEER.false) h v u

pub returns : goal.returns
returns c =
    let a = c.args in
    let p = c.requires in
    let R = rows a.n a.s.now in
    let h : holds_some (len_span a.x) a.x.id (expand R) ≡ false = sym (holds_same R a.x (formed_of R p.stored.formed).each p.fine) ∙ (sym (c.holds.ensures ∙ ap (λ (l : List FugueSpan). holds_any l a.x) c.rows-list.ensures.list) ∙ c.if-holds.false) in
    let v : a.pos ≤ shown (expand R) = omega (arith, (c.visible.ensures ∙ ap (λ (l : List FugueSpan). shown (expand l)) c.rows-list.ensures.list), c.if-visible-pos.false) in
    let u : length (expand R) + len_span a.x ≤ 65536 = omega (arith, p.count, c.len_of.ensures.0, c.if-units-len_of-gt-UNITS.false) in
    first_0 R a.pos a.x (ne_eqb _ _ c.if-x-eq-UNKNOWN_PEER.false) h v u
