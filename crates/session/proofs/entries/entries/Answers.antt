use Rattle.std.proofs.Common.{◌≡◌, [], ◌∷◌, refl, arith, rules}
use Rattle.text.specs.Ascii.{ascii}
use Rattle.script.specs.Print.{head_line}
use Rattle.session.specs.Say.{up_to}
use Rattle.session.specs.Entries.{entry_at}
use Rattle.session.proofs.SayLaws.{says_first, says_next, says_then}
use Rattle.session.proofs.entries.entries.Goals as goal

pub loop-i-init : goal.loop-i-init
loop-i-init c = (refl, says_first _ _ _)

pub loop-i-preserved : goal.loop-i-preserved
loop-i-preserved c = let l = c.loop-i in (search rules, says_next _ _ l.i _ l.invariant.1 (rw c.numbers_at-x.ensures at c.entry-at.ensures))

pub returns : goal.returns
returns c = let l = c.loop-i in let a = c.args in
    let e : l.i ≡ a.n = omega arith in
    says_then a.start (head_line (ascii "entries") a.n ∷ []) (up_to (entry_at a.kind.now a.a.now a.b.now a.peer.now a.counter.now a.lamport.now) a.n) a.text.now c.counted-at.ensures (rw e at l.invariant.1)
