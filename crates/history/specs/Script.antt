-- Writing edits as 01's rows have them, and running them. Assumes nothing.
use Rattle.std.specs.Prelude.{ℕ, Bool, List, [], ◌∷◌, map, pos}
use Rattle.span.specs.declared.ids.Id.{Id}
use Rattle.span.specs.declared.span.FugueSpan.{FugueSpan}
use Rattle.span.specs.Chunk.{chunk}
use Rattle.span.specs.Ids.{id}
use Rattle.span.specs.Units.{expand}
use Rattle.units.specs.Query.{visibles}
use Rattle.history.specs.Edit.{Count, Version, Insert, Delete, Edit, History}
use Rattle.history.specs.Arrive.{start}
use Rattle.history.specs.Codes.{stored, arrive_of}

infixl 90 ◌∶◌
-- the pair p:n of a version; the id p.c
abbrev pub ◌∶◌ : ℕ → ℕ → Count
p ∶ n = record { peer = p; many = pos n }

abbrev pub u : ℕ → ℕ → Id
u p c = id p (pos c)

-- n units of text by peer p from counter c on, at a position, with a context; one unit; a delete with target start t.s
abbrev pub text : ℕ → ℕ → ℕ → ℕ → Version → Edit
text n p c at v = record { id = u p c; at = at; act = Insert 0 (chunk 0 n); context = v }

abbrev pub one : ℕ → ℕ → ℕ → Version → Edit
one p c at v = text 1 p c at v

abbrev pub del : ℕ → ℕ → ℕ → ℕ → Bool → Id → Version → Edit
del n p c at reversed t v = record { id = u p c; at = at; act = Delete n reversed t; context = v }

-- an edit arrives in full rooms; one after another
abbrev pub accept : History → Edit → History
accept h e = (arrive_of 65536 65536 h e).1

abbrev pub run : History → List Edit → History
run h [] = h
run h (e ∷ es) = run (accept h e) es

-- the stored start
abbrev pub new : ℕ → History
new n = stored (start n)

-- the ids in list order, of all units and of the visible ones
abbrev pub ids : History → List Id
ids h = map (λ (v : FugueSpan). v.id) (expand h.list)

abbrev pub shown_ids : History → List Id
shown_ids h = map (λ (v : FugueSpan). v.id) (visibles (expand h.list))
