use Rattle.std.proofs.Common.{[], ◌∷◌, ◌++◌}
use Rattle.text.specs.Ascii.{ascii}
use Rattle.io.specs.Digits.{last_digits}
use Rattle.text.proofs.PutsLaws.{puts_then}
use Rattle.session.proofs.SayLaws.{says_line}
use Rattle.session.proofs.look.put_sum.Goals as goal

pub returns : goal.returns
returns c = let a = c.args in says_line a.at (ascii "sum " ++ last_digits 16 16 a.sum ++ (10 ∷ [])) a.text.now c.make_room-at.ensures (puts_then c.make_room-at.result (ascii "sum ") (last_digits 16 16 a.sum ++ (10 ∷ [])) a.text.now c.put-at.ensures (puts_then c.put-at.result (last_digits 16 16 a.sum) (10 ∷ []) c.put-at.new.out c.put_hex-at.ensures c.put.ensures))
