-- the list put at a version in the rows that are lent: what each step may ask, and what is left
use Prim.Native.Nat.{ℕ, ◌+◌, ◌-◌, ◌*◌, ◌≤◌}
use mathlib.Core.Path.{◌≡◌, refl, sym, ap, subst, ◌∙◌}
use mathlib.Core.Bool.{Bool, true}
use mathlib.Core.List.{List}
use native.Mathlib.Omega.{arith}
use lib.ListN.{length, take, drop, length-drop}
use Rattle.words.specs.Le.{bytes_of, put}
use Rattle.span.specs.declared.span.FugueSpan.{FugueSpan}
use Rattle.span.specs.Units.{expand, join}
use Rattle.store.specs.Row.{rows}
use Rattle.store.specs.Header.{count, room, spans_of}
use Rattle.units.specs.Store.{well_formed}
use Rattle.rope.specs.Spans.{Stored}
use Rattle.rope.specs.Edits.{WrittenIn}
use Rattle.rope.proofs.Entering.{state_head, state_formed, state_fits, end_fits, lent, lent_long, lent-rows, lent_back}
use Rattle.rope.proofs.Editing.{back_in}
use Rattle.tracker.specs.Rows.{pairs, held}
use Rattle.tracker.specs.Looks.{Sees, seen}
use Rattle.tracker.specs.Entries.{Stands}

module _ (both : Bool) (n k : ℕ) (s : List ℕ) (h : ℕ) (e t : List ℕ) (ka : ℕ) (a : List ℕ) (kb : ℕ) (b : List ℕ) (w : Stands both n k s h e t ka a kb b) where
  pub stand_head : 72 ≤ length s
  stand_head = state_head s w.state

  abbrev goal : List FugueSpan → List FugueSpan
  goal l = join (seen both (pairs ka a) (pairs kb b) (held h e t) (expand l))

  module _ (d : ℕ) (ed : d ≡ 72 + room s * 72) where
    abbrev q0 : List ℕ
    q0 = lent s stand_head d ed

    spans_are : rows n q0 ≡ spans_of s
    unfolding spans_of
    spans_are = lent-rows s stand_head d ed n (state_fits s w.state n w.rows) ∙ ap (λ (m : ℕ). rows m (drop 72 s)) w.rows

    bytes : length q0 ≡ room s * 72
    bytes = omega (arith, lent_long s stand_head d ed, ed)

    pub stand_asks : Sees n q0 h e t ka a kb b × (k ≡ length (goal (rows n q0))) × (k * 72 ≤ length q0)
    stand_asks = (
      record {
        stored = record {
          long = omega (arith, bytes, state_fits s w.state n w.rows);
          formed = ap well_formed spans_are ∙ state_formed s w.state n w.rows;
        };
        first = w.first;
        second = w.second;
      },
      w.counted ∙ ap (λ (l : List FugueSpan). length (goal l)) (sym spans_are),
      omega (arith, bytes, w.room),
    )

    pub stand_done : (q u : List ℕ) → length q ≡ length q0 → rows k q ≡ goal (rows n q0) → u ≡ put 0 (bytes_of 8 k) (back_in s q (d - 72) stand_head) → WrittenIn (goal (spans_of s)) s u
    stand_done q u len f eu = lent_back s stand_head d ed q u k (goal (spans_of s)) len w.room eu (f ∙ ap goal spans_are)
