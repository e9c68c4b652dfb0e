use Rattle.tracker.proofs.MadeLaws.{new_done, meets_new, fine_done}
use Rattle.tracker.proofs.same.reach_new.Goals as goal

pub reach-requires : goal.reach-requires
reach-requires c = let a = c.args in (c.requires.0, c.requires.1, fine_done _ _ _ (new_done a.id a.lamport a.c _ c.new.ensures c.requires.2) c.in-Ok.is c.requires.2)

pub returns : goal.returns
returns c = let a = c.args in meets_new a.row a.k _ _ _ _ (new_done a.id a.lamport a.c _ c.new.ensures c.requires.2) c.in-Ok.is c.reach.ensures

pub returns-in_default : goal.returns-in_default
returns-in_default c = let a = c.args in let d = new_done a.id a.lamport a.c _ c.new.ensures c.requires.2 in let w = c.in_default.is in cc
