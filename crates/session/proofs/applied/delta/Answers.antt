use Rattle.std.proofs.Common.{sym, ◌∙◌}
use Rattle.session.proofs.EntriesLaws.{in_zeros, front_long, lent_zeros}
use Rattle.session.proofs.HistoryLaws.{tells_as}
use Rattle.session.proofs.applied.delta.Goals as goal

pub slice_bounds-kind-end : goal.slice_bounds-kind-end
slice_bounds-kind-end c = in_zeros 8192 c.most-n.ensures.1

pub slice_bounds-print_delta-end : goal.slice_bounds-print_delta-end
slice_bounds-print_delta-end c = let m = c.most-n in sym (front_long m.result 8192 m.ensures.1)

pub slice_bounds-a-end : goal.slice_bounds-a-end
slice_bounds-a-end c = in_zeros 8192 c.most-n.ensures.1

pub slice_bounds-print_delta-end-2 : goal.slice_bounds-print_delta-end-2
slice_bounds-print_delta-end-2 c = let m = c.most-n in sym (front_long m.result 8192 m.ensures.1)

pub slice_bounds-b-end : goal.slice_bounds-b-end
slice_bounds-b-end c = in_zeros 8192 c.most-n.ensures.1

pub slice_bounds-print_delta-end-3 : goal.slice_bounds-print_delta-end-3
slice_bounds-print_delta-end-3 c = let m = c.most-n in sym (front_long m.result 8192 m.ensures.1)

pub slice_bounds-peer-end : goal.slice_bounds-peer-end
slice_bounds-peer-end c = in_zeros 8192 c.most-n.ensures.1

pub slice_bounds-print_delta-end-4 : goal.slice_bounds-print_delta-end-4
slice_bounds-print_delta-end-4 c = let m = c.most-n in sym (front_long m.result 8192 m.ensures.1)

pub slice_bounds-counter-end : goal.slice_bounds-counter-end
slice_bounds-counter-end c = in_zeros 8192 c.most-n.ensures.1

pub slice_bounds-print_delta-end-5 : goal.slice_bounds-print_delta-end-5
slice_bounds-print_delta-end-5 c = let m = c.most-n in sym (front_long m.result 8192 m.ensures.1)

pub slice_bounds-lamport-end : goal.slice_bounds-lamport-end
slice_bounds-lamport-end c = in_zeros 8192 c.most-n.ensures.1

pub slice_bounds-print_delta-end-6 : goal.slice_bounds-print_delta-end-6
slice_bounds-print_delta-end-6 c = let m = c.most-n in sym (front_long m.result 8192 m.ensures.1)

pub returns : goal.returns
returns c = let m = c.most-n in tells_as _ _ _ _ _ _ _ (lent_zeros m.result 8192 m.ensures.1 ∙ m.ensures.0) c.print_delta.ensures
