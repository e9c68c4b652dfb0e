-- a list has no more rows than units, and a delete no more target ranges than it takes units: with room for these nothing needs to be counted
use Prim.Native.Nat.{ℕ, ◌+◌, ◌≤◌}
use mathlib.Core.Path.{◌≡◌, sym, ap₂}
use mathlib.Core.Bool.{true, false, ◌&&◌}
use mathlib.Core.List.{List, []}
use native.Mathlib.Omega.{arith}
use lib.Dec.{leb}
use lib.ListN.{length}
use borrow.Author.Tests.{le-leb}
use Rattle.span.specs.declared.span.FugueSpan.{FugueSpan}
use Rattle.span.specs.Span.{len_span}
use Rattle.span.specs.Units.{units_of, join}
use Rattle.span.proofs.ForRope.{units_length}
use Rattle.rope.specs.declared.change.Delete.{Delete}
use Rattle.units.specs.Limits.{fits}
use Rattle.units.specs.Place.{origin_left, origin_right, with_origins, insert_units}
use Rattle.units.specs.Change.{delete_units}
use Rattle.fugue.proofs.Splices.{insert_splice, splice_length}
use Rattle.history.specs.Edit.{Edit, Delete as Deleting}
use Rattle.history.specs.Arrive.{act_list, act_took}
use Rattle.history.specs.Codes.{made}
use Rattle.history.proofs.WellUnits.{join-length}
use Rattle.history.proofs.Stored.{act_length_lem}
use Rattle.history.proofs.Targets.{took_few}
use Rattle.tracker.specs.Targets.{targets_of}
use Rattle.tracker.specs.Arrivals.{insert_fits, delete_fits}

pub insert_roomy : (most : ℕ) (us : List FugueSpan) (at : ℕ) (x : FugueSpan) → length us + len_span x ≤ most → true ≡ insert_fits most us at x
unfolding insert_fits fits
insert_roomy most us at x h =
    ap₂ ◌&&◌ (sym (le-leb (length (join us)) most (omega (arith, join-length us))))
    (sym (le-leb (length (join (insert_units at x us))) most (omega (arith, join-length (insert_units at x us), splice_length (insert_splice at x us), made))))
  where
    made : length (units_of (with_origins x (origin_left at us) (origin_right at us))) ≡ len_span x
    made = unfold with_origins in units_length (with_origins x (origin_left at us) (origin_right at us))

module _ (us : List FugueSpan) (d : Delete) where
  -- a delete as an edit: what it does to a list does not depend on the rest
  abbrev edit : Edit
  edit = record { id = d.start; at = d.at; act = Deleting d.len false d.start; context = [] }

  same : length (delete_units d.at d.len d.start us) ≡ length us + 0
  unfolding act_list made
  same = act_length_lem edit.act edit us

  pub delete_roomy : (most : ℕ) → length us ≤ most → true ≡ delete_fits most us d
  unfolding delete_fits fits
  delete_roomy most h =
      ap₂ ◌&&◌ (sym (le-leb (length (join us)) most (omega (arith, join-length us))))
      (sym (le-leb (length (join (delete_units d.at d.len d.start us))) most (omega (arith, join-length (delete_units d.at d.len d.start us), same))))

  pub targets_roomy : (free : ℕ) → d.len ≤ free → true ≡ leb (length (targets_of d us)) free
  unfolding act_took
  targets_roomy free h = sym (le-leb (length (targets_of d us)) free (omega (arith, took_few edit.act edit us)))
