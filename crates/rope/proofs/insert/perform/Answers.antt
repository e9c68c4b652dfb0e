use Rattle.rope.proofs.Planning.{at_join, joined_done, at_own, own_room, own_done, at_cut, cut_room, cut_done}
use native.Mathlib.Omega.{arith}
use Rattle.rope.proofs.insert.perform.Goals as goal

pub put_row-requires : goal.put_row-requires
put_row-requires c =
    let a = c.args in
    let w = c.requires in
    omega (arith, w.0, at_join a.n a.s.now a.p w.2 _ _ c.in-Join.is)

pub insert_row-requires : goal.insert_row-requires
insert_row-requires c =
    let a = c.args in
    let w = c.requires in
    (own_room a.n a.s.now a.p w.2 _ _ c.in-Own.is w.3, at_own a.n a.s.now a.p w.2 _ _ c.in-Own.is)

pub put_inside-requires : goal.put_inside-requires
put_inside-requires c =
    let a = c.args in
    let w = c.requires in
    (cut_room a.n a.s.now a.p w.2 _ _ _ c.in-Cut.is w.3, w.1, at_cut a.n a.s.now a.p w.2 _ _ _ c.in-Cut.is)

pub returns-in-Join : goal.returns-in-Join
returns-in-Join c =
    let a = c.args in
    let w = c.requires in
    joined_done a.n a.s.now a.p w.2 _ _ c.in-Join.is _ w.0 c.put_row.ensures

pub returns-in-Own : goal.returns-in-Own
returns-in-Own c =
    let a = c.args in
    let w = c.requires in
    own_done a.n a.s.now a.p w.2 _ _ c.in-Own.is _ c.insert_row.ensures

pub returns-in-Cut : goal.returns-in-Cut
returns-in-Cut c =
    let a = c.args in
    let w = c.requires in
    cut_done a.n a.s.now a.p w.2 _ _ _ c.in-Cut.is _ c.put_inside.ensures
