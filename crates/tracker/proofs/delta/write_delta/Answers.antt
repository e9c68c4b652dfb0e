use native.Mathlib.Omega.{arith}
use lib.ListN.{length}
use Rattle.rope.specs.Columns.{least}
use Rattle.tracker.proofs.Betweens.{both_head, both_stored, both_diffed, one_stands, one_written}
use Rattle.tracker.proofs.delta.write_delta.Goals as goal

pub slice_bounds-diff_rows-count : goal.slice_bounds-diff_rows-count
slice_bounds-diff_rows-count c =
    let x = c.args in let g = c.stand in both_head x.n x.k x.m x.s.now x.h x.e.now x.t.now x.ka x.a.now x.kb x.b.now c.requires g.new.s (omega (arith, g.auto.s)) g.ensures

pub slice_bounds-diff_rows-start : goal.slice_bounds-diff_rows-start
slice_bounds-diff_rows-start c =
    let x = c.args in let g = c.stand in both_head x.n x.k x.m x.s.now x.h x.e.now x.t.now x.ka x.a.now x.kb x.b.now c.requires g.new.s (omega (arith, g.auto.s)) g.ensures

pub diff_rows-r-requires : goal.diff_rows-r-requires
diff_rows-r-requires c =
    let x = c.args in let g = c.stand in both_stored x.n x.k x.m x.s.now x.h x.e.now x.t.now x.ka x.a.now x.kb x.b.now c.requires g.new.s (omega (arith, g.auto.s)) g.ensures

pub stand-requires-2 : goal.stand-requires-2
stand-requires-2 c =
    let x = c.args in let g = c.stand in one_stands x.n x.k x.m x.s.now x.h x.e.now x.t.now x.ka x.a.now x.kb x.b.now c.requires g.new.s (omega (arith, g.auto.s)) g.ensures

pub returns : goal.returns
returns c =
    let x = c.args in let g = c.stand in let d = c.diff_rows-r in let j = c.stand-2 in
    (one_written x.n x.k x.m x.s.now x.h x.e.now x.t.now x.ka x.a.now x.kb x.b.now c.requires g.new.s (omega (arith, g.auto.s)) g.ensures j.new.s j.ensures, both_diffed x.n x.k x.m x.s.now x.h x.e.now x.t.now x.ka x.a.now x.kb x.b.now c.requires g.new.s (omega (arith, g.auto.s)) g.ensures (least (length x.kind.now) (length x.x.now) (length x.y.now) (length x.peer.now) (length x.counter.now) (length x.lamport.now)) d.result x.kind.now x.x.now x.y.now x.peer.now x.counter.now x.lamport.now d.new.kind d.new.a d.new.b d.new.peer d.new.counter d.new.lamport d.ensures)
