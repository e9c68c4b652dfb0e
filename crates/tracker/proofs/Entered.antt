-- the entries' contracts are the calls of which demand 3 speaks: an opening, and a delta
use Prim.Native.Nat.{ℕ}
use mathlib.Core.Path.{◌≡◌, refl, sym, ap, ◌∙◌}
use mathlib.Core.List.{List}
use lib.ListN.{length}
use Rattle.store.specs.Header.{room}
use Rattle.units.specs.declared.diff.Entry.{Entry}
use Rattle.rope.specs.Maybe.{DiffAnswer}
use Rattle.units.specs.Codes.{unless, kept}
use Rattle.history.specs.Edit.{Version}
use Rattle.history.specs.Codes.{delta_code}
use Rattle.tracker.specs.Rows.{target_room, history_in, is_history}
use Rattle.tracker.specs.Entries.{checked_out}
use Rattle.tracker.specs.Between.{delta_number, Deltas}
use Rattle.rope.specs.Columns.{diff_number}
use Rattle.tracker.proofs.Leaving.{leaves_as}
use Rattle.tracker.proofs.Betweens.{delta_code_lem}
use Rattle.tracker.specs.Opens.{open_number, open_with_number, Opened}
use Rattle.tracker.specs.Calls.{Lent, Long, SameLengths, Opens, Compares}
use Rattle.tracker.proofs.Opening.{open_is, open_with_is}

module _ (s t e s' e' : List ℕ) (ls : length s' ≡ length s) (le : length e' ≡ length e) (r : ℕ) where
  abbrev before : Lent
  before = record { spans = s; targets = t; edits = e }

  abbrev after : Lent
  after = record { spans = s'; targets = t; edits = e' }

  same : SameLengths before after
  same = record { spans = ls; targets = refl; edits = le }

  -- `open` opens without a placeholder
  pub open_opens : Opened (open_number s e) 0 r s t e s' e' → Opens 0 r before after
  open_opens o =
      record {
        number = λ (k : Long before). o.number ∙ open_is s e k.spans k.edits;
        history = λ (z : r ≡ 0). o.history (sym o.number ∙ z);
        well = λ (z : r ≡ 0). o.well (sym o.number ∙ z);
        lengths = same;
      }

  -- `open_with` opens with one of n units
  pub open_with_opens : (n : ℕ) → (n ≡ 0 → ⊥) → Opened (open_with_number n s e) n r s t e s' e' → Opens n r before after
  open_with_opens n some o =
      record {
        number = λ (k : Long before). o.number ∙ open_with_is s e n some k.edits;
        history = λ (z : r ≡ 0). o.history (sym o.number ∙ z);
        well = λ (z : r ≡ 0). o.well (sym o.number ∙ z);
        lengths = same;
      }

-- `delta` compares two versions, into an output as long as its shortest column
module _ (s t e s' : List ℕ) (ls : length s' ≡ length s) (v w : Version) (out : List Entry) where
  number_is : delta_number s t e (length out) v w ≡ unless (is_history s t e) 15 (delta_code (room s) (target_room t) out (history_in s t e) v w)
  unfolding delta_number
  number_is = ap (unless (is_history s t e) 15) (sym (delta_code_lem (room s) (target_room t) out (history_in s t e) v w))

  pub delta_compares : (r : DiffAnswer) (k x y p c l k2 x2 y2 p2 c2 l2 : List ℕ) → Deltas s t e v w (length out) r s' k x y p c l k2 x2 y2 p2 c2 l2
      → Compares out v w (diff_number r) (record { spans = s; targets = t; edits = e }) (record { spans = s'; targets = t; edits = e })
  delta_compares r k x y p c l k2 x2 y2 p2 c2 l2 d =
      record {
        leaves = leaves_as (delta_number s t e (length out) v w) _ (checked_out s t e v) (checked_out s t e v) (diff_number r) s t e s' t e number_is (ap (λ (n : ℕ). kept n (checked_out s t e v) (history_in s t e)) number_is) d.leaves;
        lengths = record { spans = ls; targets = refl; edits = refl };
      }
