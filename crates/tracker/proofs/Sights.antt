-- units as a version shows them: what they were before is not asked, they join where they join without statuses at the most, and so each bare row
-- gives a row at the least
use Prim.Native.Nat.{ℕ, zero, suc, ◌+◌, ◌<◌, ◌≤◌}
use mathlib.Core.Path.{◌≡◌, refl, sym, ap, ap₂, ◌∙◌}
use mathlib.Core.Bool.{Bool, true, false, cond, true≢false}
use mathlib.Core.List.{List, [], ◌∷◌, ◌++◌, append_assoc, append-nil}
use native.Mathlib.Omega.{arith}
use lib.ListN.{length}
use Rattle.span.specs.declared.chunk.RichtextChunk.{RichtextChunk}
use Rattle.span.specs.declared.span.FugueSpan.{FugueSpan}
use Rattle.span.specs.Span.{len_span, span_code, ids_ok, shift, left_of, joins_span, merged_span}
use Rattle.span.specs.Units.{units_of, expand, Apart, Joined, join_on, join}
use Rattle.span.proofs.SpanLaws.{span_ok}
use Rattle.span.proofs.Views.{len_pos}
use Rattle.span.proofs.UnitLaws.{run_eq, run_joins, run_of, join_of, join_to}
use Rattle.span.proofs.Unique.{AllUnits, join-expand}
use Rattle.span.proofs.ForRope.{units_length}
use Rattle.units.specs.Change.{with_state}
use Rattle.history.specs.Edit.{Version, Held}
use Rattle.history.specs.Checkout.{unit_at, unit_between}
use Rattle.tracker.specs.Looks.{unit_seen, seen}
use Rattle.tracker.specs.Restate.{bare_span, bare_units, AllBare}
use Rattle.tracker.proofs.Bares.{bare_ok, bare_append, bare_span_lem}
use Rattle.tracker.proofs.Cuts.{breaks, cuts, join-cuts, cuts_mid}
use Rattle.tracker.proofs.Nexts.{seen-append}

-- ---- without statuses

shift_bare : (s : FugueSpan) (n : ℕ) (c : RichtextChunk) → shift (bare_span s) n c ≡ bare_span (shift s n c)
unfolding bare_span with_state shift left_of
shift_bare s zero c = refl
shift_bare s (suc n) c = refl

-- two that join, join without statuses
joins_bare : (s t : FugueSpan) → joins_span s t ≡ true → joins_span (bare_span s) (bare_span t) ≡ true
unfolding bare_span with_state
joins_bare s t e =
    let k = join_to s t e in
    join_of (bare_span s) (bare_span t) (bare_ok s k.left) (bare_ok t k.right)
    (run_of (bare_span s) (bare_span t) (shift_bare s (len_span s) t.content ∙ ap bare_span (run_eq s t k.on)) (run_joins s t k.on))

merged_bare : (u s : FugueSpan) → bare_span (merged_span u s) ≡ merged_span (bare_span u) s
unfolding bare_span with_state merged_span
merged_bare u s = refl

bare_on : (u : FugueSpan) (l : List FugueSpan) → bare_span u ≡ u → AllBare l → AllBare (join_on u l)
unfolding AllBare join_on
bare_on u [] e b = (e, tt)
bare_on u (s ∷ l) e b = go (joins_span u s)
  where
    go : (t : Bool) → AllBare (cond t (merged_span u s ∷ l) (u ∷ (s ∷ l)))
    go true = (merged_bare u s ∙ ap (λ (v : FugueSpan). merged_span v s) e, b.1)
    go false = (e, b)

bare_twice : (u : FugueSpan) → bare_span (bare_span u) ≡ bare_span u
unfolding bare_span with_state
bare_twice u = refl

pub bare_join : (us : List FugueSpan) → AllBare (join (bare_units us))
unfolding AllBare join bare_units
bare_join [] = tt
bare_join (u ∷ us) = bare_on (bare_span u) (join (bare_units us)) (bare_twice u) (bare_join us)

-- the units of bare rows are bare
bare_all : (l : List FugueSpan) → AllBare l → bare_units (expand l) ≡ expand l
unfolding AllBare expand
bare_all [] b = unfold bare_units in refl
bare_all (s ∷ l) b = bare_append (units_of s) (expand l) ∙ ap₂ (λ (x y : List FugueSpan). x ++ y) (bare_span_lem s ∙ ap units_of b.0) (bare_all l b.1)

tail : List FugueSpan → List FugueSpan
tail [] = []
tail (u ∷ us) = us

bare_tail : (A B : List FugueSpan) → bare_units (A ++ B) ≡ A ++ B → bare_units B ≡ B
unfolding bare_units tail
bare_tail [] B e = e
bare_tail (u ∷ A) B e = bare_tail A B (ap tail e)

-- ---- a last unit

record Ends (us : List FugueSpan) : Type 0 where
  init : List FugueSpan
  last : FugueSpan
  is : us ≡ init ++ last ∷ []

ends_of : (u : FugueSpan) (us : List FugueSpan) → Ends (u ∷ us)
ends_of u [] = record { init = []; last = u; is = refl }
ends_of u (v ∷ us) = let r = ends_of v us in record { init = u ∷ r.init; last = r.last; is = ap (λ (l : List FugueSpan). u ∷ l) r.is }

ends : (us : List FugueSpan) → 0 < length us → Ends us
ends [] h = absurd (omega arith)
ends (u ∷ us) h = ends_of u us

-- ---- at a version

module _ (both : Bool) (a b : Version) (held : List Held) where
  ok_seen : (u : FugueSpan) → span_code u ≡ 0 → span_code (unit_seen both a b held u) ≡ 0
  unfolding unit_seen
  ok_seen u e = go both
    where
      go : (t : Bool) → span_code (cond t (unit_between a b held u) (unit_at a held u)) ≡ 0
      go true = unfold unit_between with_state span_code ids_ok in e
      go false = unfold unit_at with_state span_code ids_ok in e

  len_seen : (u : FugueSpan) → len_span (unit_seen both a b held u) ≡ len_span u
  unfolding unit_seen
  len_seen u = go both
    where
      go : (t : Bool) → len_span (cond t (unit_between a b held u) (unit_at a held u)) ≡ len_span u
      go true = unfold unit_between with_state in refl
      go false = unfold unit_at with_state in refl

  pub units_seen : (us : List FugueSpan) → AllUnits us → AllUnits (seen both a b held us)
  unfolding AllUnits seen
  units_seen [] h = tt
  units_seen (u ∷ us) h = (ok_seen u h.0, (len_seen u ∙ h.1.0, units_seen us h.1.1))

  -- the old statuses are not asked
  of_bare : (u : FugueSpan) → unit_seen both a b held (bare_span u) ≡ unit_seen both a b held u
  unfolding unit_seen
  of_bare u = go both
    where
      go : (t : Bool) → cond t (unit_between a b held (bare_span u)) (unit_at a held (bare_span u)) ≡ cond t (unit_between a b held u) (unit_at a held u)
      go true = unfold unit_between bare_span with_state in refl
      go false = unfold unit_at bare_span with_state in refl

  pub seen_bare : (us : List FugueSpan) → seen both a b held (bare_units us) ≡ seen both a b held us
  unfolding seen bare_units
  seen_bare [] = refl
  seen_bare (u ∷ us) = ap₂ (λ (v : FugueSpan) (l : List FugueSpan). v ∷ l) (of_bare u) (seen_bare us)

  bare_of : (u : FugueSpan) → bare_span (unit_seen both a b held u) ≡ bare_span u
  unfolding unit_seen
  bare_of u = go both
    where
      go : (t : Bool) → bare_span (cond t (unit_between a b held u) (unit_at a held u)) ≡ bare_span u
      go true = unfold unit_between bare_span with_state in refl
      go false = unfold unit_at bare_span with_state in refl

  -- what joins at a version joins without statuses
  joins_seen : (u v : FugueSpan) → joins_span (unit_seen both a b held u) (unit_seen both a b held v) ≡ true → joins_span (bare_span u) (bare_span v) ≡ true
  joins_seen u v e =
      ap₂ joins_span (sym (bare_of u)) (sym (bare_of v)) ∙ joins_bare (unit_seen both a b held u) (unit_seen both a b held v) e

  breaks-seen : (u : FugueSpan) (us : List FugueSpan) → breaks (bare_span u) (bare_units us) ≤ breaks (unit_seen both a b held u) (seen both a b held us)
  unfolding breaks bare_units seen
  breaks-seen u [] = omega arith
  breaks-seen u (v ∷ us) = go (joins_span (unit_seen both a b held u) (unit_seen both a b held v)) (joins_span (bare_span u) (bare_span v)) refl refl (breaks-seen v us)
    where
      go : (s t : Bool) → joins_span (unit_seen both a b held u) (unit_seen both a b held v) ≡ s → joins_span (bare_span u) (bare_span v) ≡ t
          → breaks (bare_span v) (bare_units us) ≤ breaks (unit_seen both a b held v) (seen both a b held us)
          → cond t (breaks (bare_span v) (bare_units us)) (suc (breaks (bare_span v) (bare_units us))) ≤ cond s (breaks (unit_seen both a b held v) (seen both a b held us)) (suc (breaks (unit_seen both a b held v) (seen both a b held us)))
      go true true p q h = h
      go true false p q h = absurd (true≢false (sym (joins_seen u v p) ∙ q))
      go false true p q h = omega arith
      go false false p q h = omega arith

  cuts-seen : (us : List FugueSpan) → cuts (bare_units us) ≤ cuts (seen both a b held us)
  unfolding cuts bare_units seen
  cuts-seen [] = omega arith
  cuts-seen (u ∷ us) = let h = breaks-seen u us in omega (arith, h)

  -- bare rows give at least as many
  pub bare_few : (l : List FugueSpan) → Joined l → AllBare l → length l ≤ length (join (seen both a b held (expand l)))
  bare_few l j e =
      let p : length l ≡ cuts (expand l) = ap length (sym (join-expand l j)) ∙ join-cuts (expand l) in
      let q : cuts (bare_units (expand l)) ≡ cuts (expand l) = ap cuts (bare_all l e) in
      omega (arith, p, q, cuts-seen (expand l), join-cuts (seen both a b held (expand l)))

  -- after units that are seen comes a bare row, and after it others: what they are up to it and the rows after it are no more rows than all
  module _ (P : List FugueSpan) (r : FugueSpan) (D : List FugueSpan) (j : Joined (r ∷ D)) (e : AllBare (r ∷ D)) where
    abbrev S : List FugueSpan → List FugueSpan
    S us = seen both a b held us

    fine : span_code r ≡ 0
    unfolding Joined
    fine = j.0

    split : Ends (units_of r)
    split = ends (units_of r) (let h = len_pos r.content (span_ok r fine).form in omega (arith, h, units_length r))

    abbrev A : List FugueSpan
    A = split.init

    abbrev z : FugueSpan
    z = split.last

    whole : expand (r ∷ D) ≡ A ++ z ∷ expand D
    unfolding expand
    whole = ap (λ (us : List FugueSpan). us ++ expand D) split.is ∙ append_assoc A (z ∷ []) (expand D)

    all : cuts (A ++ z ∷ expand D) ≡ suc (length D)
    all = sym (join-cuts (A ++ z ∷ expand D)) ∙ (ap (λ (us : List FugueSpan). length (join us)) (sym whole) ∙ ap length (join-expand (r ∷ D) j))

    one : cuts (A ++ z ∷ []) ≡ 1
    unfolding expand Joined Apart
    one =
        sym (join-cuts (A ++ z ∷ [])) ∙
        (ap (λ (us : List FugueSpan). length (join us)) (sym split.is) ∙
        (ap (λ (us : List FugueSpan). length (join us)) (sym (append-nil (units_of r))) ∙ ap length (join-expand (r ∷ []) (fine, (tt, tt)))))

    z_bare : bare_units (z ∷ expand D) ≡ z ∷ expand D
    z_bare = bare_tail A (z ∷ expand D) (ap bare_units (sym whole) ∙ (bare_all (r ∷ D) e ∙ whole))

    later : suc (length D) ≤ cuts (S (z ∷ expand D))
    later = omega (arith, cuts_mid A z (expand D), all, one, ap cuts z_bare, cuts-seen (z ∷ expand D))

    up_to_lem : P ++ S (units_of r) ≡ (P ++ S A) ++ unit_seen both a b held z ∷ []
    unfolding seen
    up_to_lem = ap (λ (us : List FugueSpan). P ++ us) (ap S split.is ∙ seen-append both a b held A (z ∷ [])) ∙ sym (append_assoc P (S A) (unit_seen both a b held z ∷ []))

    together : P ++ S (expand (r ∷ D)) ≡ (P ++ S A) ++ unit_seen both a b held z ∷ S (expand D)
    unfolding seen
    together = ap (λ (us : List FugueSpan). P ++ us) (ap S whole ∙ seen-append both a b held A (z ∷ expand D)) ∙ sym (append_assoc P (S A) (unit_seen both a b held z ∷ S (expand D)))

    pub row_bound : length (join (P ++ S (units_of r))) + length D ≤ length (join (P ++ S (expand (r ∷ D))))
    unfolding seen
    row_bound =
        let p : length (join (P ++ S (units_of r))) ≡ cuts ((P ++ S A) ++ unit_seen both a b held z ∷ []) = join-cuts (P ++ S (units_of r)) ∙ ap cuts up_to_lem in
        let q : length (join (P ++ S (expand (r ∷ D)))) ≡ cuts ((P ++ S A) ++ unit_seen both a b held z ∷ S (expand D)) = join-cuts (P ++ S (expand (r ∷ D))) ∙ ap cuts together in
        omega (arith, p, q, cuts_mid (P ++ S A) (unit_seen both a b held z) (S (expand D)), later)
