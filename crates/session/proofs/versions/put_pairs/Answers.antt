use Rattle.std.proofs.Common.{sym, refl, ◌∙◌, arith, rules}
use Rattle.session.proofs.ColumnsLaws.{peers_turn, counts_turn, peers_done, counts_done}
use native.Mathlib.Numerals.{unary_clauses}
use Rattle.session.proofs.versions.put_pairs.Goals as goal

pub loop-i-init : goal.loop-i-init
loop-i-init c = (refl, refl, simp unary_clauses, simp unary_clauses)

pub loop-i-preserved : goal.loop-i-preserved
loop-i-preserved c = let l = c.loop-i in let e = c.put_pair.ensures in
    (search rules, search rules, rw e.0 (sym (peers_turn _ _ _ l.peers (omega arith)) ∙ l.invariant.2), rw e.1 (sym (counts_turn _ _ _ l.counts (omega arith)) ∙ l.invariant.3))

pub returns : goal.returns
returns c = let l = c.loop-i in (peers_done _ _ l.i l.peers (omega arith) ∙ l.invariant.2, counts_done _ _ l.i l.counts (omega arith) ∙ l.invariant.3)
