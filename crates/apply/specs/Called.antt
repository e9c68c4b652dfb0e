-- What the applier's calls answer, and what they leave in the output. Assumes nothing.
use Rattle.std.specs.Prelude.{ℕ, ◌*◌, ◌≤◌, ◌≡◌, List, length, nat_le}
use Rattle.words.specs.Le.{put}
use Rattle.span.specs.Answer.{answer}
use Rattle.span.specs.declared.span.FugueSpan.{FugueSpan}
use Rattle.span.specs.Units.{expand}
use Rattle.units.specs.Store.{spans_of, is_state}
use Rattle.units.specs.Codes.{unless, kept}
use Rattle.apply.specs.declared.item.Item.{Item}
use Rattle.apply.specs.Maybe.{ApplyAnswer}
use Rattle.std.specs.Prelude.{Ok}
use Rattle.span.specs.Refusal.{refused}
use Rattle.apply.specs.Apply.{Given, items, used, applied, apply_code}
use Rattle.apply.specs.Items.{items_in, items_bytes}
use Rattle.apply.specs.Given.{givens, given_code, lowest}

-- entries that nothing refuses on these old units, with room for the new list: what the writer may ask
pub record Allowed (es : List Given) (old : List Item) (room : ℕ) : Type 0 where
  pub each : lowest given_code es ≡ 0
  pub fits : used es ≤ length old
  pub holds : length (applied es old) * 24 ≤ room

-- a call with this number that writes these items: how many there are, or the refusal; the output has them from its front on and keeps
-- the rest, or if the call is refused is what it was
pub record Called (code : ℕ) (new : List Item) (out : List ℕ) (r : ApplyAnswer) (out2 : List ℕ) : Type 0 where
  pub said : r ≡ answer Ok refused code (length new)
  pub left : out2 ≡ kept code (put 0 (items_bytes new) out) out

-- apply: the entries in the columns, on the items in old
module _ (k a b p c l old : List ℕ) where
  unfoldable pub delta_items : List Item
  delta_items = applied (givens k a b p c l) (items_in old)

  unfoldable pub delta_code : List ℕ → ℕ
  delta_code out = apply_code (items_in out) (givens k a b p c l) (items_in old)

-- visible_items: the visible units of a store as items
unfoldable pub shown_items : List FugueSpan → List Item
shown_items spans = items (expand spans)

unfoldable pub shown_code : List FugueSpan → List ℕ → ℕ
shown_code spans out = unless (nat_le (length (shown_items spans)) (length (items_in out))) 13 0

unfoldable pub visible_code : List ℕ → List ℕ → ℕ
visible_code s out = unless (is_state s) 15 (shown_code (spans_of s) out)
