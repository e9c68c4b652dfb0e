use Rattle.std.proofs.Common.{ℕ, sym, refl, arith}
use Rattle.session.specs.Columns.{pairs_taken}
use Rattle.std.proofs.lemmas.List.{length-replicate}
use Rattle.session.proofs.HistoryLaws.{front_peers, front_counts}
use Rattle.session.proofs.versions.VersionColumns.new.Goals as goal

pub slice_bounds-columns-end : goal.slice_bounds-columns-end
slice_bounds-columns-end c = sym (length-replicate {A = ℕ} 32 0)

pub slice_bounds-columns-end-2 : goal.slice_bounds-columns-end-2
slice_bounds-columns-end-2 c = sym (length-replicate {A = ℕ} 32 0)

pub returns : goal.returns
unfolding pairs_taken
returns c =
    let w = c.args.w.now in
    let e = c.columns-pairs.ensures in
    let taken = e.0 in
    record { peers = front_peers w (omega (arith, taken)) refl e.1; counts = front_counts w (omega (arith, taken)) refl e.2 }
