-- the units of a span without its statuses, and the loop that drops them row by row
use Prim.Native.Nat.{ℕ, zero, suc, ◌+◌, ◌*◌, ◌<◌}
use mathlib.Core.Path.{◌≡◌, refl, sym, ap, ap₂, ◌∙◌}
use mathlib.Core.List.{List, [], ◌∷◌, ◌++◌}
use lib.ListN.{length, drop}
use Rattle.span.specs.declared.span.FugueSpan.{FugueSpan}
use Rattle.span.specs.Span.{len_span, span_code, ids_ok, shift, left_of}
use Rattle.span.specs.Units.{tab, unit_at, units_of, expand}
use Rattle.store.specs.Row.{row_at}
use Rattle.units.specs.Change.{with_state}
use Rattle.rope.specs.Spans.{AllOk}
use Rattle.rope.specs.Streams.{Pushable, Pushed, Stream}
use Rattle.rope.proofs.Streaming.{stream_row, stream_ok, stream_room, stream_next}
use Rattle.tracker.specs.Restate.{bare_span, bare_units}

pub bare_ok : (s : FugueSpan) → span_code s ≡ 0 → span_code (bare_span s) ≡ 0
unfolding bare_span with_state span_code ids_ok
bare_ok s e = e

bare_unit : (s : FugueSpan) (k : ℕ) → bare_span (unit_at s k) ≡ unit_at (bare_span s) k
unfolding bare_span with_state shift left_of
bare_unit s zero = refl
bare_unit s (suc k) = refl

bare_tab : (s : FugueSpan) (j n : ℕ) → bare_units (tab (unit_at s) j n) ≡ tab (unit_at (bare_span s)) j n
unfolding bare_units tab
bare_tab s j zero = refl
bare_tab s j (suc n) = ap₂ (λ (u : FugueSpan) (l : List FugueSpan). u ∷ l) (bare_unit s j) (bare_tab s (suc j) n)

pub bare_append : (a b : List FugueSpan) → bare_units (a ++ b) ≡ bare_units a ++ bare_units b
unfolding bare_units
bare_append [] b = refl
bare_append (u ∷ a) b = ap (λ (l : List FugueSpan). bare_span u ∷ l) (bare_append a b)

pub bare_span_lem : (s : FugueSpan) → bare_units (units_of s) ≡ units_of (bare_span s)
unfolding units_of bare_span with_state
bare_span_lem s = bare_tab s 0 (len_span s)

-- what the rows to come still give
abbrev pub baring : List FugueSpan → List FugueSpan
baring l = bare_units (expand l)

bare_on : (v : FugueSpan) (l : List FugueSpan) → baring (v ∷ l) ≡ units_of (bare_span v) ++ baring l
unfolding expand
bare_on v l = bare_append (units_of v) (expand l) ∙ ap (λ (r : List FugueSpan). r ++ baring l) (bare_span_lem v)

module _ (n w i : ℕ) (l goal : List FugueSpan) (s : List ℕ) (v : Stream n w i l goal baring s) (ok : AllOk l) (h : i < n) (y : FugueSpan) (e : y ≡ bare_span (row_at s (i * 72))) where
  fine : span_code y ≡ 0
  fine = ap span_code e ∙ bare_ok (row_at s (i * 72)) (stream_ok n w i l goal baring s v h ok)

  pub bare_room : Pushable w y s
  bare_room = stream_room n w i l goal baring s v h y fine

  pub bare_next : (k : ℕ) (t : List ℕ) → length t ≡ length s → Pushed w y k s t → Stream n k (i + 1) l goal baring t
  bare_next k t len p =
      stream_next n w i l goal baring s v k y t len h fine
      (ap baring (stream_row n w i l goal baring s v h) ∙
      (bare_on (row_at s (i * 72)) (drop (i + 1) l) ∙
      ap (λ (x : FugueSpan). units_of x ++ baring (drop (i + 1) l)) (sym e)))
      p

pub bare_none : baring [] ≡ []
unfolding expand bare_units
bare_none = refl
