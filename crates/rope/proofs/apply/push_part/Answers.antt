use Rattle.rope.specs.Applies.{Grown}
use Rattle.span.specs.Span.{span_code}
use Rattle.span.specs.declared.span.FugueSpan.{FugueSpan}
use mathlib.Core.List.{List, [], ◌∷◌}
use mathlib.Core.Path.{◌≡◌, sym, ap, subst, ◌∙◌}
use Rattle.span.proofs.UnitLaws.{part_ok}
use Rattle.span.proofs.Unique.{in_range_lem}
use Rattle.rope.proofs.Queue.{part_some, part_none, grown_one, grown_none}
use Rattle.rope.proofs.apply.push_part.Goals as goal

pub piece-requires : goal.piece-requires
piece-requires c = let a = c.args in in_range_lem a.row a.from a.to c.requires.2 c.if-from-to.true c.requires.3

pub push-requires : goal.push-requires
push-requires c = let a = c.args in record { room = c.requires.1; joined = c.requires.0.joined; fine = subst (λ (x : FugueSpan). span_code x ≡ 0) (sym c.piece.ensures) (part_ok a.row a.from a.to (in_range_lem a.row a.from a.to c.requires.2 c.if-from-to.true c.requires.3)) }

pub returns-then-from-to : goal.returns-then-from-to
returns-then-from-to c = let a = c.args in let p = c.piece in subst (λ (l : List FugueSpan). Grown a.m l c.push.result a.q.now c.push.new.s) (ap (λ (x : FugueSpan). x ∷ []) p.ensures ∙ sym (part_some a.row a.from a.to c.if-from-to.true)) (grown_one a.m c.push.result p.result a.q.now c.push.new.s c.push.ensures)

pub returns-else-from-to : goal.returns-else-from-to
returns-else-from-to c = let a = c.args in subst (λ (l : List FugueSpan). Grown a.m l a.m a.q.now a.q.now) (sym (part_none a.row a.from a.to c.if-from-to.false)) (grown_none a.m a.q.now c.requires.0.joined)
