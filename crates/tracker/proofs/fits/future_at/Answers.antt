use Rattle.tracker.specs.Rows.{pairs, held}
use Rattle.tracker.proofs.Stays.{future_of}
use Rattle.tracker.proofs.fits.future_at.Goals as goal

pub returns : goal.returns
returns c = let a = c.args in let x = c.status_run in future_of (pairs a.m a.v.now) (held a.h a.e.now a.t.now) a.id 1 x.result x.ensures
