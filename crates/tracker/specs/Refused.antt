-- What refuses an edit, in the parts in which the code asks it. Assumes nothing.
use Rattle.std.specs.Prelude.{ℕ, ◌-◌, ◌*◌, ◌&&◌, List, pos, drop, Some}
use Rattle.span.specs.declared.ids.Id.{Id}
use Rattle.span.specs.Ids.{room_opt}
use Rattle.span.specs.Status.{eq_z}
use Rattle.units.specs.Codes.{unless}
use Rattle.history.specs.Edit.{Version, Act, size_of, Held}
use Rattle.history.specs.Version.{count_of, named, closed}
use Rattle.history.specs.Valid.{act_formed, act_ids}
use Rattle.tracker.specs.Rows.{held, used}

-- the edits from row i on, of h
abbrev pub from : ℕ → List ℕ → List ℕ → ℕ → List Held
from h e t i = held (h - i) (drop (i * 256) e) (drop (used i e * 16) t)

-- 1 and 2
unfoldable pub act_code : Id → Act → ℕ
act_code i a = unless (act_formed a) 1 (unless (room_opt (Some i) (size_of a) && act_ids a) 2 0)

-- 6 and 7
unfoldable pub context_code : List Held → Version → Id → ℕ
context_code l v i =
    unless (named l v) 6
    (unless (closed l v && eq_z (pos (count_of v i.peer)) i.counter) 7 0)
