use Rattle.std.proofs.Common.{◌≡◌, [], ◌∷◌, refl, arith, rules}
use Rattle.text.specs.Ascii.{ascii}
use Rattle.script.specs.Print.{head_line}
use Rattle.session.proofs.SayLaws.{says_then, says_first, says_next, says_all}
use Rattle.session.specs.Say.{up_to}
use Rattle.session.specs.Lines.{piece_lines}
use Rattle.session.proofs.calls.pieces.Goals as goal

pub loop-i-init : goal.loop-i-init
loop-i-init c = (refl, says_first _ _ _)

pub loop-i-preserved : goal.loop-i-preserved
loop-i-preserved c = (search rules, says_next _ _ c.loop-i.i _ c.loop-i.invariant.1 c.piece-at.ensures)

pub returns : goal.returns
returns c = let a = c.args in let e : c.loop-i.i ≡ a.n = omega arith in says_then a.start (head_line (ascii "pieces") a.n ∷ []) (up_to (piece_lines a.out.now) a.n) a.text.now c.counted-at.ensures (says_all _ _ _ e c.loop-i.invariant.1)
