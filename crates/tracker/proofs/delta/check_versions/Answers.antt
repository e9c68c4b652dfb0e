use mathlib.Core.Path.{◌≡◌, refl, sym, ◌∙◌}
use mathlib.Core.Bool.{true, false, true≢false}
use Rattle.history.specs.Version.{named}
use Rattle.tracker.specs.Rows.{pairs, held}
use Rattle.tracker.proofs.Betweens.{versions_by}
use Rattle.tracker.proofs.delta.check_versions.Goals.{then-named, else-named, then-closed, else-closed}
use Rattle.tracker.proofs.delta.check_versions.Goals as goal

pub returns-then-not-named : goal.returns-then-not-named
returns-then-not-named c =
    let x = c.args in let v = c.if-not-named.true in λ t.
    let l = held x.h x.e.now t in let a = pairs x.ka x.a.now in let b = pairs x.kb x.b.now in
    elim c.if-named.branch [
      | then-named w ↦ versions_by l a b true false _ _ (sym (c.named.ensures t) ∙ w.if-named.true) (sym (w.named-then-named.ensures t) ∙ (sym w.value-is ∙ v)) refl refl
      | else-named w ↦ versions_by l a b false _ _ _ (sym (c.named.ensures t) ∙ w.if-named.false) refl refl refl
    ]

pub returns-then-not-closed : goal.returns-then-not-closed
returns-then-not-closed c =
    let x = c.args in let v = c.if-not-named.false in let z = c.if-not-closed.true in λ t.
    let l = held x.h x.e.now t in let a = pairs x.ka x.a.now in let b = pairs x.kb x.b.now in
    let n : (named l a ≡ true) × (named l b ≡ true) = elim c.if-named.branch [
      | then-named w ↦ (sym (c.named.ensures t) ∙ w.if-named.true, sym (w.named-then-named.ensures t) ∙ (sym w.value-is ∙ v))
      | else-named w ↦ absurd (true≢false (sym v ∙ (w.value-is ∙ w.if-named.false)))
    ] in
    elim c.if-closed.branch [
      | then-closed w ↦ versions_by l a b true true true false n.0 n.1 (sym (c.closed.ensures t) ∙ w.if-closed.true) (sym (w.closed-then-closed.ensures t) ∙ (sym w.value-is ∙ z))
      | else-closed w ↦ versions_by l a b true true false _ n.0 n.1 (sym (c.closed.ensures t) ∙ w.if-closed.false) refl
    ]

pub returns : goal.returns
returns c =
    let x = c.args in let v = c.if-not-named.false in let z = c.if-not-closed.false in λ t.
    let l = held x.h x.e.now t in let a = pairs x.ka x.a.now in let b = pairs x.kb x.b.now in
    let n : (named l a ≡ true) × (named l b ≡ true) = elim c.if-named.branch [
      | then-named w ↦ (sym (c.named.ensures t) ∙ w.if-named.true, sym (w.named-then-named.ensures t) ∙ (sym w.value-is ∙ v))
      | else-named w ↦ absurd (true≢false (sym v ∙ (w.value-is ∙ w.if-named.false)))
    ] in
    elim c.if-closed.branch [
      | then-closed w ↦ versions_by l a b true true true true n.0 n.1 (sym (c.closed.ensures t) ∙ w.if-closed.true) (sym (w.closed-then-closed.ensures t) ∙ (sym w.value-is ∙ z))
      | else-closed w ↦ absurd (true≢false (sym z ∙ (w.value-is ∙ w.if-closed.false)))
    ]
