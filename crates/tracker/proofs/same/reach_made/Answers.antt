use Rattle.tracker.proofs.MadeLaws.{made_holder, made_edits}
use Rattle.tracker.proofs.same.reach_made.Goals as goal

pub returns-then-r-ne0 : goal.returns-then-r-ne0
returns-then-r-ne0 c = let a = c.args in made_holder a.row a.k a.p a.h a.e.now _ c.reach_holder-r.ensures c.if-r-ne0.true

pub returns : goal.returns
returns c = let a = c.args in made_edits a.row a.k a.p a.h a.e.now _ _ c.reach_holder-r.ensures c.if-r-ne0.false c.reach_edits.ensures
