-- what refuses an edit at its context, test by test
use Prim.Native.Nat.{ℕ, ◌+◌, ◌<◌, ◌≤◌}
use mathlib.Core.Path.{◌≡◌, refl, sym, ap, ap₂, ◌∙◌}
use mathlib.Core.Bool.{Bool, true, false, ◌&&◌}
use mathlib.Core.List.{List}
use native.Mathlib.Omega.{arith}
use lib.Dec.{leb, ltb}
use lib.ListN.{length, length-map}
use borrow.Author.Tests.{le-leb, lt-leb, lt-ltb, le-ltb}
use Rattle.span.specs.declared.span.FugueSpan.{FugueSpan}
use Rattle.span.specs.Span.{len_span}
use Rattle.span.specs.Units.{expand, join}
use Rattle.rope.specs.declared.change.Delete.{Delete}
use Rattle.units.specs.Limits.{UNITS, EDITS, fits}
use Rattle.units.specs.Place.{shown, insert_units}
use Rattle.units.specs.Change.{delete_units}
use Rattle.units.specs.Codes.{unless}
use Rattle.store.specs.Row.{rows}
use Rattle.tracker.specs.Rows.{pairs, held}
use Rattle.tracker.specs.Looks.{unit_seen, seen}
use Rattle.tracker.specs.Arrivals.{units_seen, insert_fits, insert_rest, delete_fits, delete_rest, Deleting}
use Rattle.rope.specs.Pieces.{CanDelete}
use Rattle.rope.proofs.WellFormed.{formed_of}
use Rattle.tracker.specs.Targets.{targets_of}
use Rattle.history.proofs.Arriving.{shown_most}

-- as many units are seen as there are
pub seen_length : (n : ℕ) (s : List ℕ) (h : ℕ) (e t : List ℕ) (m : ℕ) (v : List ℕ) → length (units_seen n s h e t m v) ≡ length (expand (rows n s))
unfolding seen
seen_length n s h e t m v = length-map (expand (rows n s)) (unit_seen false (pairs m v) (pairs m v) (held h e t))

-- an insert
module _ (most h : ℕ) (us : List FugueSpan) (at : ℕ) (x : FugueSpan) where
  insert_by : (a b c d f : Bool) → leb at (shown us) ≡ a → ltb h EDITS ≡ b → leb (length us + len_span x) UNITS ≡ c → leb (length (join us)) most ≡ d → leb (length (join (insert_units at x us))) most ≡ f
      → insert_rest most h us at x ≡ unless a 8 (unless b 9 (unless (c && (d && f)) 10 0))
  unfolding insert_rest fits
  insert_by a b c d f ea eb ec ed ef = rw (ea, eb, ec, ed, ef)

  pub insert_8 : shown us < at → 8 ≡ insert_rest most h us at x
  insert_8 l = sym (insert_by false _ _ _ _ (lt-leb at (shown us) l) refl refl refl refl)

  pub insert_9 : at ≤ shown us → EDITS ≤ h → 9 ≡ insert_rest most h us at x
  insert_9 l k = sym (insert_by true false _ _ _ (le-leb at (shown us) l) (le-ltb h EDITS k) refl refl refl)

  module _ (l : at ≤ shown us) (k : h < EDITS) where
    pub insert_units_lem : UNITS < length us + len_span x → 10 ≡ insert_rest most h us at x
    insert_units_lem m = sym (insert_by true true false _ _ (le-leb at (shown us) l) (lt-ltb h EDITS k) (lt-leb (length us + len_span x) UNITS m) refl refl)

    -- what is left is whether it fits the rows
    pub insert_rows : length us + len_span x ≤ UNITS → (f : Bool) → insert_fits most us at x ≡ f → insert_rest most h us at x ≡ unless f 10 0
    unfolding insert_fits fits
    insert_rows m f e =
        insert_by true true true _ _ (le-leb at (shown us) l) (lt-ltb h EDITS k) (le-leb (length us + len_span x) UNITS m) refl refl
        ∙ ap (λ (b : Bool). unless b 10 0) e

-- a delete within the visible list can be made
pub can_delete : (n : ℕ) (s : List ℕ) (h : ℕ) (e t : List ℕ) (m : ℕ) (v : List ℕ) (d : Delete) → Deleting n s h e t m v d → d.at + d.len ≤ shown (units_seen n s h e t m v) → CanDelete d
can_delete n s h e t m v d w l =
    record {
      fits = omega (arith, l, shown_most (units_seen n s h e t m v), seen_length n s h e t m v, (formed_of (rows n s) w.sees.stored.formed).units);
      room = w.ids;
    }

-- a delete
module _ (most places h had : ℕ) (us : List FugueSpan) (d : Delete) where
  abbrev gone : List FugueSpan
  gone = join (delete_units d.at d.len d.start us)

  delete_by : (a b c f g : Bool) → leb (d.at + d.len) (shown us) ≡ a → ltb h EDITS ≡ b → leb (length (join us)) most ≡ c → leb (length gone) most ≡ f → leb (had + length (targets_of d us)) places ≡ g
      → delete_rest most places h had us d ≡ unless a 8 (unless b 9 (unless (c && (f && g)) 10 0))
  unfolding delete_rest fits
  delete_by a b c f g ea eb ec ef eg = rw (ea, eb, ec, ef, eg)

  pub delete_8 : shown us < d.at + d.len → 8 ≡ delete_rest most places h had us d
  delete_8 l = sym (delete_by false _ _ _ _ (lt-leb (d.at + d.len) (shown us) l) refl refl refl refl)

  pub delete_9 : d.at + d.len ≤ shown us → EDITS ≤ h → 9 ≡ delete_rest most places h had us d
  delete_9 l k = sym (delete_by true false _ _ _ (le-leb (d.at + d.len) (shown us) l) (le-ltb h EDITS k) refl refl refl)

  module _ (l : d.at + d.len ≤ shown us) (k : h < EDITS) where
    rows_by : (b c g : Bool) → (b && (c && g)) ≡ ((b && c) && g)
    rows_by true c g = refl
    rows_by false c g = refl

    -- what is left is whether it fits the rows, and its target ranges the targets
    pub delete_rows : (f g : Bool) → delete_fits most us d ≡ f → leb (had + length (targets_of d us)) places ≡ g → delete_rest most places h had us d ≡ unless (f && g) 10 0
    unfolding delete_fits fits
    delete_rows f g ef eg =
        delete_by true true _ _ _ (le-leb (d.at + d.len) (shown us) l) (lt-ltb h EDITS k) refl refl refl
        ∙ ap (λ (b : Bool). unless b 10 0) (rows_by (leb (length (join us)) most) (leb (length gone) most) (leb (had + length (targets_of d us)) places) ∙ ap₂ ◌&&◌ ef eg)
