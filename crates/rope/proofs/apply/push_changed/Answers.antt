use Rattle.rope.specs.Applies.{Grown}
use Rattle.span.specs.declared.span.FugueSpan.{FugueSpan}
use mathlib.Core.List.{List, [], ◌∷◌}
use mathlib.Core.Path.{sym, ap, subst, ◌∙◌}
use Rattle.rope.specs.Pieces.{change_span}
use Rattle.span.proofs.Unique.{in_range_lem}
use Rattle.rope.proofs.Queue.{changed_some, changed_none, grown_one, grown_none}
use Rattle.rope.proofs.apply.push_changed.Goals as goal

pub piece-requires : goal.piece-requires
piece-requires c = let a = c.args in in_range_lem a.row a.from a.to c.requires.2 c.if-from-to.true c.requires.3

pub returns-then-from-to : goal.returns-then-from-to
returns-then-from-to c = let a = c.args in let p = c.changed in subst (λ (l : List FugueSpan). Grown a.m l c.push.result a.q.now c.push.new.s) (ap (λ (x : FugueSpan). x ∷ []) (p.ensures ∙ ap (change_span a.e) c.piece.ensures) ∙ sym (changed_some a.row a.from a.to a.e c.if-from-to.true)) (grown_one a.m c.push.result p.result a.q.now c.push.new.s c.push.ensures)

pub returns-else-from-to : goal.returns-else-from-to
returns-else-from-to c = let a = c.args in subst (λ (l : List FugueSpan). Grown a.m l a.m a.q.now a.q.now) (sym (changed_none a.row a.from a.to a.e c.if-from-to.false)) (grown_none a.m a.q.now c.requires.0.joined)
