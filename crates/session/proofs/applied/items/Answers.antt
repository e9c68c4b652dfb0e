use Rattle.std.proofs.Common.{◌≡◌, [], ◌∷◌, refl, arith, rules}
use Rattle.text.specs.Ascii.{ascii}
use Rattle.script.specs.Print.{head_line}
use Rattle.session.specs.Say.{up_to}
use Rattle.session.specs.Entries.{item_at}
use Rattle.session.proofs.SayLaws.{says_first, says_next, says_then}
use Rattle.session.proofs.applied.items.Goals as goal

pub loop-i-init : goal.loop-i-init
loop-i-init c = (refl, says_first _ _ _)

pub loop-i-preserved : goal.loop-i-preserved
loop-i-preserved c = let l = c.loop-i in (search rules, says_next _ _ l.i _ l.invariant.1 c.item-at.ensures)

pub returns : goal.returns
returns c = let l = c.loop-i in let a = c.args in
    let e : l.i ≡ a.n = omega arith in
    says_then a.start (head_line (ascii "list") a.n ∷ []) (up_to (item_at a.out.now) a.n) a.text.now c.counted-at.ensures (rw e at l.invariant.1)
