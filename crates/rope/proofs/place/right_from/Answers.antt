use mathlib.Core.List.{List}
use mathlib.Core.Path.{sym, ap, subst, ◌∙◌}
use Rattle.span.specs.declared.span.FugueSpan.{FugueSpan}
use Rattle.span.specs.Units.{expand}
use Rattle.units.specs.Place.{first_past}
use Rattle.store.specs.Listed.{spans}
use Rattle.rope.specs.Spans.{AllOk}
use Rattle.rope.proofs.Readers.{cut_behind}
use Rattle.rope.proofs.Whole.{ok_drop}
use Rattle.rope.proofs.place.right_from.Goals as goal

pub first_past-requires : goal.first_past-requires
first_past-requires c =
    let r = c.args.rows.now in
    subst AllOk (sym (cut_behind r c.args.at)) (ok_drop c.args.at (spans r) c.requires.0)

pub returns : goal.returns
returns c = c.first_past.ensures ∙ ap (λ (l : List FugueSpan). first_past (expand l)) (cut_behind c.args.rows.now c.args.at)
