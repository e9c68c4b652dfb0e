use Rattle.std.proofs.Common.{◌∙◌}
use Rattle.session.proofs.HistoryLaws.{is_arriving}
use Rattle.session.proofs.history_calls.arrive.Goals as goal

pub returns : goal.returns
returns c =
    let v = c.new-version.ensures in
    is_arriving c.args.w.now _ _ _ _ _ (c.peers.ensures ∙ v.peers) (c.counts.ensures ∙ v.counts) (rw c.code_of.ensures at c.done.ensures) _ c.arrive-outcome.ensures
