use Rattle.session.proofs.InputLaws.{between_get}
use Rattle.session.proofs.input.unread.Goals as goal

pub returns : goal.returns
returns c = between_get _ _ _ _ _ c.get.ensures.lookup c.unwrap_or_default.ensures
