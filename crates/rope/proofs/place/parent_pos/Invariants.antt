use Rattle.rope.proofs.Rights.{Search}
use Rattle.rope.proofs.place.parent_pos.Given as goal

abbrev pub invariant-loop-i : goal.invariant-loop-i
invariant-loop-i l = Search l.n l.units l.all l.x l.o l.i l.base
