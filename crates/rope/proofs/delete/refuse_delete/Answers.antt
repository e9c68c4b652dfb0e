use Rattle.units.specs.Place.{shown}
use Rattle.store.specs.Row.{rows}
use Rattle.span.specs.Units.{expand}
use Rattle.span.specs.Ids.{room_opt}
use Rattle.std.specs.Prelude.{Some as At}
use Prim.Native.Nat.{◌+◌, ◌≤◌}
use native.Mathlib.Omega.{arith}
use mathlib.Core.Bool.{true}
use mathlib.Core.Path.{◌≡◌, sym, ◌∙◌}
use borrow.Author.Tests.{not-true, not-false}
use Rattle.rope.proofs.Deletion.{rest_ids, rest_past, rest_full, rest_short, rest_none, report_of, counts_of, count_is}
use mathlib.Core.Path.{ap}
use mathlib.Core.List.{List}
use Rattle.span.specs.declared.span.FugueSpan.{FugueSpan}
use mathlib.Core.Bool.{not}
use Rattle.rope.proofs.delete.refuse_delete.Goals as goal

pub returns-then-not-real_has_room : goal.returns-then-not-real_has_room
returns-then-not-real_has_room c = let a = c.args in rest_ids a.most a.places (rows a.n a.s.now) a.d a.reversed (sym c.real_has_room.ensures ∙ not-true _ (ap not c.if-not-real_has_room.true))

pub returns-then-visible-d : goal.returns-then-visible-d
returns-then-visible-d c = let a = c.args in let ids : room_opt (At a.d.start) a.d.len ≡ true = sym c.real_has_room.ensures ∙ not-false _ (ap not c.if-not-real_has_room.false) in let q : c.visible.result ≡ shown (expand (rows a.n a.s.now)) = (c.visible.ensures ∙ ap (λ (l : List FugueSpan). shown (expand l)) c.rows-list.ensures.list) in rest_past a.most a.places (rows a.n a.s.now) a.d a.reversed ids (omega (arith, q, c.if-visible-d.true))

pub count-requires : goal.count-requires
count-requires c = let a = c.args in let ids : room_opt (At a.d.start) a.d.len ≡ true = sym c.real_has_room.ensures ∙ not-false _ (ap not c.if-not-real_has_room.false) in let low : a.d.at + a.d.len ≤ shown (expand (rows a.n a.s.now)) = (let q : c.visible.result ≡ shown (expand (rows a.n a.s.now)) = (c.visible.ensures ∙ ap (λ (l : List FugueSpan). shown (expand l)) c.rows-list.ensures.list) in omega (arith, q, c.if-visible-d.false)) in let w = report_of a.n a.s.now a.d c.requires.0 c.requires.1 ids low in counts_of a.n a.s.now a.d w

pub returns-then-most-count : goal.returns-then-most-count
returns-then-most-count c = let a = c.args in let ids : room_opt (At a.d.start) a.d.len ≡ true = sym c.real_has_room.ensures ∙ not-false _ (ap not c.if-not-real_has_room.false) in let low : a.d.at + a.d.len ≤ shown (expand (rows a.n a.s.now)) = (let q : c.visible.result ≡ shown (expand (rows a.n a.s.now)) = (c.visible.ensures ∙ ap (λ (l : List FugueSpan). shown (expand l)) c.rows-list.ensures.list) in omega (arith, q, c.if-visible-d.false)) in let w = report_of a.n a.s.now a.d c.requires.0 c.requires.1 ids low in let m = count_is a.n a.s.now a.d w c.count.result c.count.ensures in rest_full a.most a.places (rows a.n a.s.now) a.d a.reversed ids low (omega (arith, m, c.if-most-count.true))

pub removed_len-requires : goal.removed_len-requires
removed_len-requires c = let a = c.args in let ids : room_opt (At a.d.start) a.d.len ≡ true = sym c.real_has_room.ensures ∙ not-false _ (ap not c.if-not-real_has_room.false) in let low : a.d.at + a.d.len ≤ shown (expand (rows a.n a.s.now)) = (let q : c.visible.result ≡ shown (expand (rows a.n a.s.now)) = (c.visible.ensures ∙ ap (λ (l : List FugueSpan). shown (expand l)) c.rows-list.ensures.list) in omega (arith, q, c.if-visible-d.false)) in let w = report_of a.n a.s.now a.d c.requires.0 c.requires.1 ids low in w

pub returns-then-places-removed_len : goal.returns-then-places-removed_len
returns-then-places-removed_len c = let a = c.args in let ids : room_opt (At a.d.start) a.d.len ≡ true = sym c.real_has_room.ensures ∙ not-false _ (ap not c.if-not-real_has_room.false) in let low : a.d.at + a.d.len ≤ shown (expand (rows a.n a.s.now)) = (let q : c.visible.result ≡ shown (expand (rows a.n a.s.now)) = (c.visible.ensures ∙ ap (λ (l : List FugueSpan). shown (expand l)) c.rows-list.ensures.list) in omega (arith, q, c.if-visible-d.false)) in let w = report_of a.n a.s.now a.d c.requires.0 c.requires.1 ids low in let m = count_is a.n a.s.now a.d w c.count.result c.count.ensures in let z = c.removed_len.ensures in rest_short a.most a.places (rows a.n a.s.now) a.d a.reversed ids low (omega (arith, m, c.if-most-count.false)) (omega (arith, z, c.if-places-removed_len.true))

pub returns : goal.returns
returns c = let a = c.args in let ids : room_opt (At a.d.start) a.d.len ≡ true = sym c.real_has_room.ensures ∙ not-false _ (ap not c.if-not-real_has_room.false) in let low : a.d.at + a.d.len ≤ shown (expand (rows a.n a.s.now)) = (let q : c.visible.result ≡ shown (expand (rows a.n a.s.now)) = (c.visible.ensures ∙ ap (λ (l : List FugueSpan). shown (expand l)) c.rows-list.ensures.list) in omega (arith, q, c.if-visible-d.false)) in let w = report_of a.n a.s.now a.d c.requires.0 c.requires.1 ids low in let m = count_is a.n a.s.now a.d w c.count.result c.count.ensures in let z = c.removed_len.ensures in rest_none a.most a.places (rows a.n a.s.now) a.d a.reversed ids low (omega (arith, m, c.if-most-count.false)) (omega (arith, z, c.if-places-removed_len.false))
