use Rattle.std.proofs.Common.{length, ap, ◌∙◌, List, ℕ}
use Rattle.session.proofs.InputLaws.{next_reader}
use Rattle.session.proofs.input.next_line.Goals as goal

pub returns : goal.returns
returns c = next_reader c.args.bytes.now c.args.r c.unread-held.ensures (ap (λ (l : List ℕ). length l) c.before-line.ensures) c.past.ensures
