use Rattle.session.proofs.look.rope_list.Goals as goal

pub returns : goal.returns
returns c = rw c.check.ensures at c.list.ensures
