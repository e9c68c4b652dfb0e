use Rattle.std.proofs.Common.{ap, ◌∙◌}
use Rattle.session.specs.Columns.{up_to32}
use Rattle.session.proofs.ColumnsLaws.{taken, peers_in_lem, counts_in_lem}
use Rattle.session.proofs.versions.columns.Goals as goal

pub returns : goal.returns
returns c =
    let n = c.min-n.ensures ∙ taken _ ∙ ap up_to32 c.pairs.ensures in
    let e = c.put_pairs.ensures in
    (n, peers_in_lem _ _ n e.0, counts_in_lem _ _ n e.1)
