use Rattle.tracker.specs.Rows.{pairs}
use Rattle.tracker.proofs.Reaches.{Run}
use Rattle.tracker.proofs.look.edits_reach.Given as goal

abbrev pub invariant-loop-i : goal.invariant-loop-i
invariant-loop-i l = Run (pairs l.m l.v) l.e l.t l.h l.peer l.c l.most l.times l.len l.at l.i
