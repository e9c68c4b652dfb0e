use Rattle.std.proofs.Common.{◌≡◌, ◌-◌, length}
use Rattle.session.specs.Columns.{peers_put, counts_put}
use Rattle.session.proofs.versions.put_pairs.Given as goal

abbrev pub invariant-loop-i : goal.invariant-loop-i
invariant-loop-i l =
    (length l.peers ≡ length l.initial.peers) × (length l.counts ≡ length l.initial.counts)
    × (peers_put l.w l.i (l.n - l.i) l.peers ≡ peers_put l.w 0 l.n l.initial.peers) × (counts_put l.w l.i (l.n - l.i) l.counts ≡ counts_put l.w 0 l.n l.initial.counts)
