use Rattle.tracker.proofs.Refines.{rows_fine, no_more, refine_start, same_goal}
use Rattle.tracker.specs.Rows.{pairs, held}
use Rattle.span.specs.Units.{join}
use mathlib.Core.Path.{ap, ◌∙◌}
use native.Mathlib.Omega.{arith}
use Rattle.tracker.proofs.restate.restate.Goals as goal

pub bare_rows-m-requires : goal.bare_rows-m-requires
bare_rows-m-requires c = let a = c.args in (c.requires.0.stored.long, rows_fine a.both (pairs a.ka a.a.now) (pairs a.kb a.b.now) (held a.h a.e.now a.t.now) a.n a.k a.s.now c.requires.0.stored c.requires.1 c.requires.2)

pub raise-requires : goal.raise-requires
raise-requires c = let a = c.args in let w = c.bare_rows-m in
    (no_more a.both (pairs a.ka a.a.now) (pairs a.kb a.b.now) (held a.h a.e.now a.t.now) a.n a.k a.s.now c.requires.0.stored c.requires.1 c.requires.2 w.result w.new.s w.ensures.0, omega (arith, w.auto.s, c.requires.2))

pub overflow_sub-k : goal.overflow_sub-k
overflow_sub-k c = let a = c.args in let w = c.bare_rows-m in no_more a.both (pairs a.ka a.a.now) (pairs a.kb a.b.now) (held a.h a.e.now a.t.now) a.n a.k a.s.now c.requires.0.stored c.requires.1 c.requires.2 w.result w.new.s w.ensures.0

pub refine-requires : goal.refine-requires
refine-requires c = let a = c.args in let w = c.bare_rows-m in let r = c.raise in
    (refine_start a.both (pairs a.ka a.a.now) (pairs a.kb a.b.now) (held a.h a.e.now a.t.now) a.n a.k a.s.now c.requires.0.stored c.requires.1 c.requires.2 w.result w.new.s w.ensures.0 r.new.s (omega (arith, w.auto.s, r.auto.s)) r.ensures, c.requires.0.first, c.requires.0.second)

pub returns : goal.returns
returns c = let a = c.args in let w = c.bare_rows-m in let r = c.raise in
    c.refine.ensures ∙ ap join (same_goal a.both (pairs a.ka a.a.now) (pairs a.kb a.b.now) (held a.h a.e.now a.t.now) a.n a.k a.s.now c.requires.0.stored c.requires.1 c.requires.2 w.result w.new.s w.ensures.0 r.new.s (omega (arith, w.auto.s, r.auto.s)) r.ensures)
