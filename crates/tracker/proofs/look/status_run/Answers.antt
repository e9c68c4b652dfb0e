use Rattle.tracker.specs.Rows.{pairs, held}
use Rattle.tracker.proofs.Reaches.{unit_low, status_same}
use Rattle.tracker.proofs.look.status_run.Goals as goal

pub edits_reach-taken-requires : goal.edits_reach-taken-requires
edits_reach-taken-requires c = let a = c.args in (c.requires.0, c.requires.1, unit_low a.id a.most c.requires.2 c.counter_bits-c.result c.counter_bits-c.ensures.0 c.requires.1)

pub returns : goal.returns
returns c = let vr = c.version_reach-known in
    let er = c.edits_reach-taken in
    let cb = c.counter_bits-c in
    let a = c.args in
    status_same a.id a.most c.requires.2 cb.result cb.ensures.0 (pairs a.m a.v.now) (held a.h a.e.now a.t.now) a.h c.requires.0.few er.result er.ensures vr.result vr.ensures c.status_of.result c.status_of.ensures
