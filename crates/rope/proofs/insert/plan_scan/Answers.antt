use Rattle.rope.proofs.Planning.{scan_low, scan_border, scan_plan}
use mathlib.Core.List.{List}
use mathlib.Core.Path.{ap, subst, sym, ◌∙◌}
use lib.ListN.{drop}
use Rattle.span.specs.declared.span.FugueSpan.{FugueSpan}
use Rattle.span.specs.Units.{expand}
use Rattle.units.specs.Place.{first_past}
use Rattle.rope.specs.Spans.{AllOk}
use native.Mathlib.Omega.{arith}
use Rattle.rope.proofs.insert.plan_scan.Goals as goal

pub rows-list-requires : goal.rows-list-requires
rows-list-requires c = c.requires.good.held.long

pub right_from-right-requires : goal.right_from-right-requires
right_from-right-requires c = (subst AllOk (sym c.rows-list.ensures.list) c.requires.good.held.each, omega (arith, c.rows-list.ensures.len, c.requires.low))

pub overflow_add-at : goal.overflow_add-at
overflow_add-at c =
    let a = c.args in
    omega (arith, scan_low a.n a.units a.at a.left a.x a.s.now c.requires c.right_from-right.result c.scan_from-r.result (c.right_from-right.ensures ∙ ap (λ (l : List FugueSpan). first_past (expand (drop c.args.at l))) c.rows-list.ensures.list) c.scan_from-r.ensures, c.ranges.n)

pub plan_border-requires : goal.plan_border-requires
plan_border-requires c =
    let a = c.args in
    scan_border a.n a.units a.at a.left a.x a.s.now c.requires c.right_from-right.result c.scan_from-r.result (c.right_from-right.ensures ∙ ap (λ (l : List FugueSpan). first_past (expand (drop c.args.at l))) c.rows-list.ensures.list) c.scan_from-r.ensures c.with_origins.result c.with_origins.ensures

pub returns : goal.returns
returns c =
    let a = c.args in
    scan_plan a.n a.units a.at a.left a.x a.s.now c.requires c.right_from-right.result c.scan_from-r.result (c.right_from-right.ensures ∙ ap (λ (l : List FugueSpan). first_past (expand (drop c.args.at l))) c.rows-list.ensures.list) c.scan_from-r.ensures c.with_origins.result c.with_origins.ensures c.plan_border.result c.plan_border.ensures
