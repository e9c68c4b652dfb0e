use Rattle.tracker.proofs.Doing.{logged}
use Rattle.tracker.proofs.take.log_edit.Goals as goal

pub returns : goal.returns
returns c =
    let x = c.args in
    logged x.e.now c.append_edit.new.e c.requires.0 x.h c.requires.1 x.row.now x.took c.append_edit.ensures c.set_edit_count.new.e c.set_edit_count.ensures
