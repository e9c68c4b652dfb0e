use Rattle.tracker.proofs.Zips.{edit_put}
use Rattle.tracker.proofs.columns.put_edit.Goals as goal

pub returns : goal.returns
returns c =
    let x = c.args in
    let v = c.put_version-m in
    let h = c.put_head in
    edit_put x.row.now c.requires x.x v.result x.peers.now x.counts.now v.new.v h.new.e h.ensures.1 v.ensures.0 h.ensures.0
