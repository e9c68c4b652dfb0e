use mathlib.Core.Path.{sym, ap, ◌∙◌}
use borrow.Author.Tests.{not-true}
use Rattle.history.specs.Version.{below}
use Rattle.tracker.specs.Rows.{pairs}
use Rattle.tracker.proofs.Reaches.{edit_none, edit_in_lem, edit_out}
use Rattle.tracker.proofs.look.edit_reach.Goals as goal

pub returns-then-found-most : goal.returns-then-found-most
returns-then-found-most c = let k = c.edit_took-took in
    let f = c.ranges_reach-found in
    let a = c.args in
    edit_none (pairs a.m a.v.now) a.e.now a.i a.t.now a.at a.peer a.c a.most k.result k.ensures f.result (not-true _ c.if-not-found.true) f.ensures

pub returns-then-below : goal.returns-then-below
returns-then-below c = let k = c.edit_took-took in
    let f = c.ranges_reach-found in
    let bl = c.below in
    let ei = c.edit_id in
    let a = c.args in
    let v = pairs a.m a.v.now in
    edit_in_lem v a.e.now a.i a.t.now a.at a.peer a.c a.most (sym (bl.ensures ∙ ap (below v) ei.ensures) ∙ c.if-below.true) k.result k.ensures f.result f.ensures

pub returns-else-below : goal.returns-else-below
returns-else-below c = let bl = c.below in
    let ei = c.edit_id in
    let a = c.args in
    let v = pairs a.m a.v.now in
    edit_out v a.e.now a.i a.t.now a.at a.peer a.c a.most c.requires.3 (sym (bl.ensures ∙ ap (below v) ei.ensures) ∙ c.if-below.false)
