use Rattle.std.proofs.Common.{ℕ, sym, ap, ◌∙◌}
use Rattle.session.specs.Entries.{diff_lines}
use Rattle.session.proofs.EntriesLaws.{in_zeros, front_long, lent_zeros, says_as}
use Rattle.session.proofs.entries.diff.Goals as goal

pub slice_bounds-kind-end : goal.slice_bounds-kind-end
slice_bounds-kind-end c = in_zeros 8192 c.most-n.ensures.1

pub slice_bounds-diff_into-end : goal.slice_bounds-diff_into-end
slice_bounds-diff_into-end c = let m = c.most-n in sym (front_long m.result 8192 m.ensures.1)

pub slice_bounds-a-end : goal.slice_bounds-a-end
slice_bounds-a-end c = in_zeros 8192 c.most-n.ensures.1

pub slice_bounds-diff_into-end-2 : goal.slice_bounds-diff_into-end-2
slice_bounds-diff_into-end-2 c = let m = c.most-n in sym (front_long m.result 8192 m.ensures.1)

pub slice_bounds-b-end : goal.slice_bounds-b-end
slice_bounds-b-end c = in_zeros 8192 c.most-n.ensures.1

pub slice_bounds-diff_into-end-3 : goal.slice_bounds-diff_into-end-3
slice_bounds-diff_into-end-3 c = let m = c.most-n in sym (front_long m.result 8192 m.ensures.1)

pub slice_bounds-peer-end : goal.slice_bounds-peer-end
slice_bounds-peer-end c = in_zeros 8192 c.most-n.ensures.1

pub slice_bounds-diff_into-end-4 : goal.slice_bounds-diff_into-end-4
slice_bounds-diff_into-end-4 c = let m = c.most-n in sym (front_long m.result 8192 m.ensures.1)

pub slice_bounds-counter-end : goal.slice_bounds-counter-end
slice_bounds-counter-end c = in_zeros 8192 c.most-n.ensures.1

pub slice_bounds-diff_into-end-5 : goal.slice_bounds-diff_into-end-5
slice_bounds-diff_into-end-5 c = let m = c.most-n in sym (front_long m.result 8192 m.ensures.1)

pub slice_bounds-lamport-end : goal.slice_bounds-lamport-end
slice_bounds-lamport-end c = in_zeros 8192 c.most-n.ensures.1

pub slice_bounds-diff_into-end-6 : goal.slice_bounds-diff_into-end-6
slice_bounds-diff_into-end-6 c = let m = c.most-n in sym (front_long m.result 8192 m.ensures.1)

pub returns : goal.returns
returns c = let a = c.args in let m = c.most-n in says_as _ _ (ap (λ (m : ℕ). diff_lines m a.s.now) (lent_zeros m.result 8192 m.ensures.1 ∙ m.ensures.0)) c.diff_into.ensures
