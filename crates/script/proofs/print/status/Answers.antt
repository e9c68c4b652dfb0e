use Rattle.std.proofs.Common.{◌≡◌, ◌∙◌, rules}
use mir.Syntax.{w16, w32}
use mir.Val.{SFits, to_z, of_z}
use mir.Facts.{to_z-of_z}
use Rattle.text.proofs.PutsLaws.{puts_then}
use Rattle.text.specs.Numbers.{int_text}
use Rattle.script.specs.Print.{future_text, status_text}
use Rattle.script.proofs.print.status.Goals as goal

pub returns : goal.returns
unfolding status_text
returns c = let a = c.args in
    let f : SFits w16 a.s.delete_times = search rules in
    let wide : to_z w32 (of_z w32 c.from.result) ≡ a.s.delete_times = to_z-of_z {w = w32} (record { sfits = c.from.type_inv }) ∙ c.from.ensures ∙ to_z-of_z {w = w16} f in
    puts_then a.at (future_text a.s.future) (int_text a.s.delete_times) a.out.now c.future-at.ensures (rw wide at c.put_signed.ensures)
