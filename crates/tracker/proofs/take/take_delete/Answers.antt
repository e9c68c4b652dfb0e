use Rattle.tracker.proofs.Doing.{gives_head, gives_targets, gives_removes, gives_done}
use Rattle.tracker.proofs.take.take_delete.Goals as goal

pub count-n-requires : goal.count-n-requires
count-n-requires c =
    let x = c.args in gives_head x.s.now x.t.now x.had x.d c.requires

pub slice_bounds-put_targets-count : goal.slice_bounds-put_targets-count
slice_bounds-put_targets-count c =
    let x = c.args in gives_head x.s.now x.t.now x.had x.d c.requires

pub slice_bounds-put_targets-start : goal.slice_bounds-put_targets-start
slice_bounds-put_targets-start c =
    let x = c.args in gives_head x.s.now x.t.now x.had x.d c.requires

pub put_targets-k-requires : goal.put_targets-k-requires
put_targets-k-requires c =
    let x = c.args in gives_targets x.s.now x.t.now x.had x.d c.requires c.count-n.result c.count-n.ensures

pub write_delete-requires : goal.write_delete-requires
write_delete-requires c =
    let x = c.args in gives_removes x.s.now x.t.now x.had x.d c.requires c.count-n.result c.count-n.ensures

pub returns : goal.returns
returns c =
    let x = c.args in gives_done x.s.now x.t.now x.had x.d c.requires c.count-n.result c.count-n.ensures c.put_targets-k.result c.write_delete.new.s c.put_targets-k.new.t c.put_targets-k.ensures c.write_delete.ensures
