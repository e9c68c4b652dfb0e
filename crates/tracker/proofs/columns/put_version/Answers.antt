use Prim.Native.Nat.{◌≤◌}
use native.Mathlib.Omega.{arith}
use lib.ListN.{length}
use Rattle.tracker.proofs.Zips.{columned_none, columned_more, columned_all, many_broken, uneven_broken}
use Rattle.tracker.proofs.columns.put_version.Goals.{then-m-gt-PEERS-via-then-m-gt-PEERS, then-m-gt-PEERS-via-else-m-gt-PEERS+then-counts-m}
use Rattle.tracker.proofs.columns.put_version.Goals as goal

pub returns-then-m-gt-PEERS : goal.returns-then-m-gt-PEERS
returns-then-m-gt-PEERS c =
    let a = c.args in
    elim c.then-m-gt-PEERS.branch [
      | then-m-gt-PEERS-via-then-m-gt-PEERS w ↦ (many_broken a.v.now a.peers.now a.counts.now w.if-m-gt-PEERS.true, omega arith)
      | then-m-gt-PEERS-via-else-m-gt-PEERS+then-counts-m w ↦ (uneven_broken a.v.now a.peers.now a.counts.now w.if-counts-m.true, omega arith)
    ]

pub loop-i-init : goal.loop-i-init
loop-i-init c = columned_none _ _ _

pub loop-i-preserved : goal.loop-i-preserved
loop-i-preserved c =
    let l = c.loop-i in
    let p = c.put_column in
    let few : length c.args.peers.now ≤ 16 = omega (arith, c.if-m-gt-PEERS.false) in
    columned_more c.args.v.now c.args.peers.now c.args.counts.now few c.if-counts-m.false l.v l.i l.invariant p.new.v c.loop-i-test.true p.auto.v p.ensures

pub returns : goal.returns
returns c =
    let l = c.loop-i in
    let few : length c.args.peers.now ≤ 16 = omega (arith, c.if-m-gt-PEERS.false) in
    (columned_all c.args.v.now c.args.peers.now c.args.counts.now few c.if-counts-m.false l.v l.i l.invariant c.loop-i-test.false, omega (arith, few))
