use mathlib.Core.Path.{sym, ◌∙◌}
use native.Mathlib.Omega.{arith}
use Rattle.tracker.specs.Rows.{pairs, held}
use Rattle.tracker.proofs.Tight.{by_not, fit_two, fit_start, fit_in, fit_out, fit_join}
use Rattle.tracker.proofs.fits.insert_fits.Goals as goal

pub returns-then-spare-ge2 : goal.returns-then-spare-ge2
returns-then-spare-ge2 c = let a = c.args in fit_two (pairs a.m a.v.now) (held a.h a.e.now a.t.now) a.n a.s.now a.at a.x a.k a.most c.requires.0.stored c.requires.1 (omega (arith, c.if-spare-ge2.true))

pub returns-then-at-eq0 : goal.returns-then-at-eq0
returns-then-at-eq0 c = let a = c.args in fit_start (pairs a.m a.v.now) (held a.h a.e.now a.t.now) a.n a.s.now a.at a.x a.k a.most c.requires.0.stored c.requires.1 c.if-at-eq0.true

pub returns-then-spare-gt0 : goal.returns-then-spare-gt0
returns-then-spare-gt0 c = let a = c.args in let f = c.find_left-f in by_not c.inside.result _
    (λ b. fit_in (pairs a.m a.v.now) (held a.h a.e.now a.t.now) a.n a.s.now a.at a.x a.k a.most c.requires.0.stored c.requires.1 f.result f.ensures (sym c.inside.ensures ∙ b) (omega (arith, c.if-spare-ge2.false)))
    (λ b. fit_out (pairs a.m a.v.now) (held a.h a.e.now a.t.now) a.n a.s.now a.at a.x a.k a.most c.requires.0.stored c.requires.1 f.result f.ensures (sym c.inside.ensures ∙ b) (omega (arith, c.if-spare-gt0.true)))

pub returns-else-spare-gt0 : goal.returns-else-spare-gt0
returns-else-spare-gt0 c = let a = c.args in let f = c.find_left-f in c.joins_left.ensures ∙ fit_join (pairs a.m a.v.now) (held a.h a.e.now a.t.now) a.n a.s.now a.at a.x a.k a.most c.requires.0.stored c.requires.1 f.result f.ensures (omega (arith, c.if-spare-gt0.false))
