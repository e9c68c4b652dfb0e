use Rattle.std.proofs.Common.{arith}
use Rattle.session.proofs.InputLaws.{refill_kept, refill_full}
use Rattle.session.proofs.input.fill.Goals as goal

pub returns-then-held-bytes : goal.returns-then-held-bytes
returns-then-held-bytes c = let f = c.to_front-held.ensures in refill_kept _ _ _ f.1 f.0 (omega arith) c.read_behind.ensures

pub returns-else-held-bytes : goal.returns-else-held-bytes
returns-else-held-bytes c = let f = c.to_front-held.ensures in refill_full _ _ _ f.1 (omega arith) c.read_behind-else-held-bytes.ensures
