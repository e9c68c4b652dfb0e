use Rattle.std.proofs.Common.{◌%◌, ◌^◌, [], ◌∷◌}
use Rattle.script.specs.Print.{head_line}
use Rattle.session.proofs.SayLaws.{says_then}
use Rattle.session.specs.Lines.{list_lines, kind_name, rows_count, rows_said, rows_lines}
use Rattle.session.proofs.look.list.Goals as goal

pub returns-then-fine : goal.returns-then-fine
unfolding list_lines
returns-then-fine c =
    let a = c.args in
    rw c.if-fine.true
    (says_then a.at (head_line (kind_name a.kind) (rows_count a.kind a.s.now (rows_said a.s.now) % 2 ^ 64) ∷ []) (rows_lines a.kind a.s.now (rows_said a.s.now)) a.text.now
    (rw (c.name.ensures, c.all_lines.ensures, c.rows_of-n.ensures) at c.counted-at.ensures) (rw c.rows_of-n.ensures at c.rows.ensures))

pub returns-else-fine : goal.returns-else-fine
unfolding list_lines
returns-else-fine c = rw c.if-fine.false (rw c.number.ensures at c.refused.ensures)
