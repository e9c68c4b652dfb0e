-- the search by id, row by row, and what it says of the units
use Prim.Native.Nat.{ℕ, ◌+◌}
use mathlib.Core.Path.{◌≡◌, refl, sym, ap, ◌∙◌}
use mathlib.Core.Bool.{Bool, ◌||◌}
use mathlib.Core.List.{List, [], ◌∷◌}
use Rattle.span.specs.Maybe.{OptId}
use Rattle.span.specs.declared.span.FugueSpan.{FugueSpan}
use Rattle.span.specs.Span.{span_code}
use Rattle.span.specs.Units.{units_of, expand}
use Rattle.rope.specs.Maybe.{Offset}
use Rattle.std.specs.Option.{is_some}
use Rattle.std.specs.Prelude.{Some, None}
use Rattle.units.specs.Place.{mem_id}
use Rattle.rope.specs.Spans.{offset_of, is_at, covered, find_by, find_in, AllOk}
use Rattle.rope.proofs.Offsets.{covers_units}
use Rattle.rope.proofs.Lists.{mem_append}

-- ---- the loop

-- ---- the units

-- an id of one of the spans is one of the units'
pub mem_span : (s : FugueSpan) (l : List FugueSpan) (o : OptId) → span_code s ≡ 0 → mem_id o (expand (s ∷ l)) ≡ (covered s o || mem_id o (expand l))
unfolding expand
mem_span s l o ok = mem_append o (units_of s) (expand l) ∙ ap (λ (t : Bool). t || mem_id o (expand l)) (covers_units s ok o)

pub found_has : (l : List FugueSpan) (o : OptId) (i : ℕ) → AllOk l → is_some (find_in l o i) ≡ mem_id o (expand l)
unfolding find_in AllOk expand mem_id covered
found_has [] o i ok = refl
found_has (s ∷ l) o i ok = go (offset_of s o) refl (found_has l o (i + 1) ok.1) ∙ sym (mem_span s l o ok.0)
  where
    go : (f : Offset) → offset_of s o ≡ f → is_some (find_in l o (i + 1)) ≡ mem_id o (expand l) → is_some (find_by f i (find_in l o (i + 1))) ≡ (covered s o || mem_id o (expand l))
    go (Some k) e rec = sym (ap (λ (g : Offset). is_at g || mem_id o (expand l)) e)
    go None e rec = rec ∙ sym (ap (λ (g : Offset). is_at g || mem_id o (expand l)) e)
