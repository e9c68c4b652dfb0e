use mathlib.Core.List.{List}
use mathlib.Core.Path.{ap, ◌∙◌}
use native.Mathlib.Omega.{arith}
use Rattle.span.specs.declared.span.FugueSpan.{FugueSpan}
use Rattle.span.specs.Units.{expand}
use Rattle.store.specs.Row.{rows}
use Rattle.units.specs.Place.{shown}
use Rattle.rope.proofs.Readers.{stored_few}
use Rattle.apply.proofs.Shown.{shown_full, shown_fits, shown_done}
use Rattle.apply.proofs.visible.visible_rows.Goals as goal

pub returns-then-out-many : goal.returns-then-out-many
returns-then-out-many c = shown_full _ c.args.out.now _ (c.visible-many.ensures ∙ ap (λ (l : List FugueSpan). shown (expand l)) c.rows-list.ensures.list) c.if-out-many.true

pub returns : goal.returns
returns c = shown_done _ c.args.out.now _ (c.visible-many.ensures ∙ ap (λ (l : List FugueSpan). shown (expand l)) c.rows-list.ensures.list) c.if-out-many.false _ c.write_shown.ensures

pub visible-many-requires : goal.visible-many-requires
visible-many-requires c = omega (arith, c.rows-list.ensures.len, stored_few c.args.n c.args.s.now c.requires)

pub write_shown-requires : goal.write_shown-requires
write_shown-requires c = (c.requires, shown_fits (rows c.args.n c.args.s.now) c.args.out.now _ (c.visible-many.ensures ∙ ap (λ (l : List FugueSpan). shown (expand l)) c.rows-list.ensures.list) c.if-out-many.false)
