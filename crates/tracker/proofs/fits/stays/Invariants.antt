use Rattle.span.specs.Units.{expand}
use Rattle.store.specs.Row.{rows}
use Rattle.units.specs.Place.{verdict}
use Rattle.tracker.specs.Rows.{pairs}
use Rattle.tracker.proofs.Stays.{Stay}
use Rattle.tracker.proofs.fits.stays.Given as goal

abbrev pub invariant-loop-i : goal.invariant-loop-i
invariant-loop-i l = Stay (pairs l.m l.v) (verdict (expand (rows l.n l.all)) l.x l.o l.p l.q) l.k l.part l.holding l.i
