use Rattle.std.proofs.Common.{ℕ, sym}
use Rattle.std.proofs.lemmas.List.{length-replicate}
use Rattle.session.proofs.run.Goals as goal

pub slice_bounds-lent-end : goal.slice_bounds-lent-end
slice_bounds-lent-end c = sym (length-replicate {A = ℕ} 589896 0)

pub slice_bounds-lent-end-2 : goal.slice_bounds-lent-end-2
slice_bounds-lent-end-2 c = sym (length-replicate {A = ℕ} 131072 0)

pub slice_bounds-lent-end-3 : goal.slice_bounds-lent-end-3
slice_bounds-lent-end-3 c = sym (length-replicate {A = ℕ} 512064 0)

pub slice_bounds-lent-end-4 : goal.slice_bounds-lent-end-4
slice_bounds-lent-end-4 c = sym (length-replicate {A = ℕ} 589824 0)
