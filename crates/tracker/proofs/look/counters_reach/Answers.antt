use Rattle.tracker.proofs.Reaches.{counters_before, counters_after, counters_low}
use Rattle.std.specs.Prelude.{unsigned_abs}
use Rattle.span.specs.Status.{counter_of}
use mir.Facts.{to_z-of_z}
use mir.Syntax.{w32}
use mathlib.Core.Path.{sym, ap, ◌∙◌}
use Rattle.tracker.proofs.look.counters_reach.Goals as goal

pub returns-in_default : goal.returns-in_default
returns-in_default c = let a = c.args in let q = to_z-of_z {w = w32} c.ranges.start in counters_low a.c a.n a.most a.start (ap counter_of (sym q) ∙ (sym c.counter_of.ensures ∙ c.in_default.is)) c.unsigned_abs.result (c.unsigned_abs.ensures.value ∙ ap unsigned_abs q) c.below_reach.result c.below_reach.ensures

pub returns-then-c-first : goal.returns-then-c-first
returns-then-c-first c = let a = c.args in let q = to_z-of_z {w = w32} c.ranges.start in counters_before a.c c.in-Some.first a.n a.most c.requires.0 a.start (ap counter_of (sym q) ∙ (sym c.counter_of.ensures ∙ c.in-Some.is)) c.if-c-first.true c.min.result c.min.ensures

pub returns-else-c-first : goal.returns-else-c-first
returns-else-c-first c = let a = c.args in let q = to_z-of_z {w = w32} c.ranges.start in counters_after a.c c.in-Some.first a.n a.most c.requires.0 a.start (ap counter_of (sym q) ∙ (sym c.counter_of.ensures ∙ c.in-Some.is)) c.if-c-first.false c.below_reach-else-c-first.result c.below_reach-else-c-first.ensures
