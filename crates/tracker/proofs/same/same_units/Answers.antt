use Rattle.tracker.proofs.MadeLaws.{fine_of, same_less, same_as}
use Rattle.tracker.proofs.TakenLaws.{stored_ok, stored_few, stored_units}
use Rattle.store.specs.Row.{rows}
use Rattle.span.specs.Units.{expand}
use mathlib.Core.Bool.{true≢false}
use borrow.Author.Tests.{eq-eqb, eqb-true, lt-leb}
use native.Mathlib.Omega.{arith}
use mathlib.Core.List.{List, []}
use lib.ListN.{length}
use Rattle.span.specs.declared.span.FugueSpan.{FugueSpan}
use mathlib.Core.Path.{sym, ap, ◌∙◌}
use Prim.Native.Nat.{ℕ, ◌+◌}
use Rattle.tracker.proofs.same.same_units.Goals.{then-placeholder, else-placeholder}
use Rattle.tracker.proofs.same.same_units.Goals as goal

pub rows-list-requires : goal.rows-list-requires
rows-list-requires c = c.requires.0.long

pub units-requires : goal.units-requires
units-requires c = omega (arith, c.rows-list.ensures.len, stored_few c.args.n c.args.s.now c.requires.0)

pub rows_made-requires : goal.rows_made-requires
rows_made-requires c = let a = c.args in let v = c.if-units-placeholder.true in (
  c.requires.0.long,
  stored_ok a.n a.s.now c.requires.0,
  c.requires.1,
  fine_of a.h a.e.now [] [] (c.requires.3 []),
  elim c.if-placeholder.branch [ then-placeholder w ↦ omega (arith, w.if-placeholder.true) | else-placeholder w ↦ absurd (true≢false (sym v ∙ (w.value-is ∙ lt-leb a.placeholder 65536 w.if-placeholder.false))) ],
)

pub returns-then-units-placeholder : goal.returns-then-units-placeholder
returns-then-units-placeholder c = let a = c.args in let v = c.if-units-placeholder.true in λ t.
    elim c.if-placeholder.branch [
      | then-placeholder w ↦ same_as (expand (rows a.n a.s.now)) a.placeholder a.h a.e.now t (sym (w.units.ensures ∙ ap (λ (l : List FugueSpan). length (expand l)) c.rows-list.ensures.list) ∙ (eqb-true _ _ (sym w.value-is ∙ v) ∙ ap (λ (k : ℕ). a.placeholder + k) w.sum_made.ensures.0)) _ c.rows_made.ensures
      | else-placeholder w ↦ absurd (true≢false (sym v ∙ (w.value-is ∙ lt-leb a.placeholder 65536 w.if-placeholder.false)))
    ]

pub returns-else-units-placeholder : goal.returns-else-units-placeholder
returns-else-units-placeholder c = let a = c.args in let v = c.if-units-placeholder.false in λ t.
    v ∙ same_less (expand (rows a.n a.s.now)) a.placeholder a.h a.e.now t (λ z.
    elim c.if-placeholder.branch [
      | then-placeholder w ↦ (let q = eq-eqb _ _ (w.units.ensures ∙ (ap (λ (l : List FugueSpan). length (expand l)) c.rows-list.ensures.list ∙ z ∙ ap (λ (k : ℕ). a.placeholder + k) (sym w.sum_made.ensures.0))) in true≢false (sym (w.value-is ∙ q) ∙ v))
      | else-placeholder w ↦ omega (arith, z, w.if-placeholder.false, stored_units a.n a.s.now c.requires.0)
    ])
