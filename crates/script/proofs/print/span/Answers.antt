use Rattle.text.proofs.PutsLaws.{puts_then}
use Rattle.script.specs.Print.{number_text, opt_id_text, status_text, opt_status_text, chunk_text, span_text}
use Rattle.script.proofs.print.span.Goals as goal

pub returns : goal.returns
unfolding span_text
returns c = let x = c.args.x in
    let lamport = puts_then _ _ (number_text x.lamport) _ c.id-at.ensures (rw c.from.ensures at c.number-at.ensures) in
    let real = puts_then _ _ (opt_id_text x.real_id) _ lamport c.opt_id-at.ensures in
    let status = puts_then _ _ (status_text x.status) _ real c.status-at.ensures in
    let diff = puts_then _ _ (opt_status_text x.diff_status) _ status c.opt_status-at.ensures in
    let left = puts_then _ _ (opt_id_text x.origin_left) _ diff c.opt_id-at-2.ensures in
    let right = puts_then _ _ (opt_id_text x.origin_right) _ left c.opt_id-at-3.ensures in
    puts_then _ _ (chunk_text x.content) _ right c.chunk.ensures
