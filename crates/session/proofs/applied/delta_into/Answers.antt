use Rattle.std.proofs.Common.{ap, ◌∙◌}
use Rattle.session.specs.Columns.{word_peers, word_counts}
use Rattle.session.proofs.HistoryLaws.{deltas_as}
use Rattle.session.proofs.applied.delta_into.Goals as goal

pub returns : goal.returns
returns c =
    let f = c.new-from.ensures in
    let t = c.new-to.ensures in
    let v = c.word.ensures in
    let w = c.word-2.ensures in
    deltas_as _ _ _ _ _ _
    (c.peers.ensures ∙ f.peers ∙ ap word_peers v)
    (c.counts.ensures ∙ f.counts ∙ ap word_counts v)
    (c.peers-2.ensures ∙ t.peers ∙ ap word_peers w)
    (c.counts-2.ensures ∙ t.counts ∙ ap word_counts w)
    c.delta.ensures
