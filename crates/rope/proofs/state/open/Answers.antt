use mathlib.Core.Path.{sym, ◌∙◌}
use Rattle.rope.proofs.States.{open_short, open_done}
use Rattle.rope.proofs.state.open.Goals as goal

pub returns-then-s-lt72 : goal.returns-then-s-lt72
returns-then-s-lt72 c = let w = open_short c.args.s.now c.if-s-lt72.true in
    (sym w.0, sym w.1)

pub returns : goal.returns
returns c = let w = open_done c.args.s.now c.if-s-lt72.false in
    (sym w.0, c.put_header.ensures ∙ sym w.1)
