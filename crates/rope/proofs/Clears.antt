-- the units of a span without its diff_status, and the loop that drops it row by row
use Prim.Native.Nat.{ℕ, zero, suc, ◌+◌, ◌*◌, ◌<◌}
use mathlib.Core.Path.{◌≡◌, refl, sym, ap, ap₂, ◌∙◌}
use mathlib.Core.List.{List, [], ◌∷◌, ◌++◌}
use lib.ListN.{length, drop}
use Rattle.std.specs.Prelude as Opt
use Rattle.span.specs.declared.span.FugueSpan.{FugueSpan}
use Rattle.span.specs.Span.{len_span, span_code, ids_ok, shift, left_of}
use Rattle.span.specs.Units.{tab, unit_at, units_of, expand}
use Rattle.store.specs.Row.{row_at}
use Rattle.units.specs.Change.{with_state, clear_units}
use Rattle.rope.specs.Spans.{AllOk, clear_span}
use Rattle.rope.specs.Streams.{Pushable, Pushed, Stream}
use Rattle.rope.proofs.Streaming.{stream_row, stream_ok, stream_room, stream_next}

pub clear_ok : (s : FugueSpan) → span_code s ≡ 0 → span_code (clear_span s) ≡ 0
unfolding clear_span with_state span_code ids_ok
clear_ok s e = e

clear_unit : (s : FugueSpan) (k : ℕ) → clear_span (unit_at s k) ≡ unit_at (clear_span s) k
unfolding clear_span with_state shift left_of
clear_unit s zero = refl
clear_unit s (suc k) = refl

clear_tab : (s : FugueSpan) (j n : ℕ) → clear_units (tab (unit_at s) j n) ≡ tab (unit_at (clear_span s)) j n
unfolding clear_units tab clear_span
clear_tab s j zero = refl
clear_tab s j (suc n) = ap₂ (λ (u : FugueSpan) (l : List FugueSpan). u ∷ l) (clear_unit s j) (clear_tab s (suc j) n)

clear_append : (a b : List FugueSpan) → clear_units (a ++ b) ≡ clear_units a ++ clear_units b
unfolding clear_units
clear_append [] b = refl
clear_append (u ∷ a) b = ap (λ (l : List FugueSpan). with_state u u.status Opt.None u.real_id ∷ l) (clear_append a b)

clear_span_lem : (s : FugueSpan) → clear_units (units_of s) ≡ units_of (clear_span s)
unfolding units_of clear_span with_state
clear_span_lem s = clear_tab s 0 (len_span s)

-- what the rows to come still give
abbrev pub clearing : List FugueSpan → List FugueSpan
clearing l = clear_units (expand l)

pub clear_on : (v : FugueSpan) (l : List FugueSpan) → clearing (v ∷ l) ≡ units_of (clear_span v) ++ clearing l
unfolding expand
clear_on v l = clear_append (units_of v) (expand l) ∙ ap (λ (r : List FugueSpan). r ++ clearing l) (clear_span_lem v)

module _ (n w i : ℕ) (l goal : List FugueSpan) (s : List ℕ) (v : Stream n w i l goal clearing s) (ok : AllOk l) (h : i < n) (y : FugueSpan) (e : y ≡ clear_span (row_at s (i * 72))) where
  fine : span_code y ≡ 0
  fine = ap span_code e ∙ clear_ok (row_at s (i * 72)) (stream_ok n w i l goal clearing s v h ok)

  pub clear_room : Pushable w y s
  clear_room = stream_room n w i l goal clearing s v h y fine

  pub clear_next : (k : ℕ) (t : List ℕ) → length t ≡ length s → Pushed w y k s t → Stream n k (i + 1) l goal clearing t
  clear_next k t len p =
      stream_next n w i l goal clearing s v k y t len h fine
      (ap clearing (stream_row n w i l goal clearing s v h) ∙
      (clear_on (row_at s (i * 72)) (drop (i + 1) l) ∙
      ap (λ (x : FugueSpan). units_of x ++ clearing (drop (i + 1) l)) (sym e)))
      p

pub clear_none : clearing [] ≡ []
unfolding expand clear_units
clear_none = refl
