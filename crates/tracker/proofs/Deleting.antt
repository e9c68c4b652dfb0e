-- the rows of the list at a version after a delete, counted: the delete goes through the pieces, what is left of it goes on
use Prim.Native.Nat.{ℕ, ◌+◌, ◌-◌, ◌*◌, ◌<◌, ◌≤◌}
use mathlib.Core.Path.{◌≡◌, refl, sym, ap, subst, ◌∙◌}
use mathlib.Core.Bool.{Bool}
use mathlib.Core.List.{List, [], ◌∷◌, ◌++◌}
use native.Mathlib.Omega.{arith}
use lib.ListN.{length}
use Rattle.span.specs.declared.span.FugueSpan.{FugueSpan}
use Rattle.span.specs.Span.{span_code}
use Rattle.span.specs.Units.{units_of, expand, join}
use Rattle.store.specs.Row.{rows}
use Rattle.rope.specs.declared.change.Delete.{Delete}
use Rattle.rope.specs.declared.change.Change.TheVariants as Ch
use Rattle.units.specs.Place.{front, behind}
use Rattle.rope.specs.Spans.{Stored, AllOk}
use Rattle.units.specs.Change.{delete_first, delete_units}
use Rattle.rope.specs.Pieces.{delete_after, CanDelete, pieces_of}
use Rattle.rope.specs.Applies.{Fit, AllFit, Waiting, Grown, Kept}
use Rattle.rope.proofs.Cuts.{can_after}
use Rattle.rope.proofs.Queue.{pieces_fine, short}
use Rattle.rope.proofs.Working.{pieces_some}
use Rattle.rope.proofs.Deletes.{span_law, delete_fits}
use Rattle.rope.proofs.WellFormed.{few_rows}
use Rattle.history.specs.Edit.{Version, Held}
use Rattle.tracker.specs.declared.seen.Step.{Step}
use Rattle.tracker.specs.Looks.{seen}
use Rattle.tracker.specs.Ahead.{ahead, Place, Next}
use Rattle.tracker.proofs.Nexts.{ahead_start, ahead_end, ahead_few, place_start, next_length, still_self}
use Rattle.tracker.proofs.Tallies.{Tally, tally_start, tally_joined, tally_turn, tally_done}

-- a delete on units
abbrev pub deleted : Delete → List FugueSpan → List FugueSpan
deleted d us = delete_units d.at d.len d.start us

deleted_none : (d : Delete) → deleted d [] ≡ []
unfolding delete_units front behind delete_first
deleted_none d = refl

fit_one : (d : Delete) (x : FugueSpan) → CanDelete d → span_code x ≡ 0 → Fit (Ch.Delete d) x
unfolding AllFit AllOk
fit_one d x c ok = (delete_fits d (x ∷ []) c (ok, tt)).0

module _ (both : Bool) (a b : Version) (l : List Held) (n : ℕ) (s : List ℕ) (d : Delete) where
  abbrev goal : List FugueSpan
  goal = deleted d (seen both a b l (expand (rows n s)))

  pub record Deleting (i from : ℕ) (left : Delete) (gone m : ℕ) (q : List ℕ) : Type 0 where
    pub place : Place n s i from
    pub can : CanDelete left
    pub sum : gone + m + 3 * length (ahead n s i from) ≤ 196608
    pub tally : Tally goal (deleted left (seen both a b l (ahead n s i from))) gone m q

  module _ (w : Stored n s) where
    pub deleting_start : CanDelete d → (q : List ℕ) → Deleting 0 0 d 0 0 q
    deleting_start c q =
        record {
          place = place_start n s w;
          can = c;
          sum = omega (arith, ahead_few n s w 0 0);
          tally = subst (λ (u : List FugueSpan). Tally goal (deleted d (seen both a b l u)) 0 0 q) (sym (ahead_start n s)) (tally_start goal q);
        }

    module _ (i from : ℕ) (left : Delete) (gone m : ℕ) (q : List ℕ) (v : Deleting i from left gone m q) where
      abbrev still : List FugueSpan
      still = deleted left (seen both a b l (ahead n s i from))

      module _ (r : Step) (x : Next both a b l n s i from r) where
        fit : Fit (Ch.Delete left) r.piece
        fit = fit_one left r.piece v.can x.fine

        pub deleting_room : 288 ≤ length q → Waiting m q × (m * 72 + 216 ≤ length q) × Fit (Ch.Delete left) r.piece
        deleting_room h = (
          record { long = omega (arith, h, v.tally.one); joined = tally_joined goal still gone m q v.tally },
          omega (arith, h, v.tally.one),
          fit,
        )

        abbrev P : List FugueSpan
        P = pieces_of (Ch.Delete left) r.piece

        abbrev R : List FugueSpan
        R = seen both a b l (ahead n s r.row r.from)

        cut : still ≡ expand P ++ deleted (delete_after left r.piece) R
        cut =
            let e = still_self both a b l n s w i from r x in
            ap (deleted left) x.units ∙
            (ap (λ (u : List FugueSpan). deleted left (units_of r.piece ++ u)) (sym e) ∙
            (sym (span_law left r.piece x.fine R) ∙ ap (λ (u : List FugueSpan). expand P ++ deleted (delete_after left r.piece) u) e))

        some : 0 < length (expand P)
        some = omega (arith, few_rows P (pieces_fine (Ch.Delete left) r.piece fit), pieces_some (Ch.Delete left) r.piece x.fine)

        pub deleting_turn : (m2 k : ℕ) (q2 t : List ℕ) → Grown m P m2 q q2 → Kept m2 k q2 t → Deleting r.row r.from (delete_after left r.piece) (gone + k) (m2 - k) t
        deleting_turn m2 k q2 t g kp =
            record {
              place = x.place;
              can = can_after left r.piece v.can;
              sum = (let e = next_length both a b l n s w i from r x in let f = short (Ch.Delete left) r.piece in omega (arith, e, f, x.some, v.sum, g.few, kp.most));
              tally =
                  tally_turn goal still gone m q v.tally P (deleted (delete_after left r.piece) R) (pieces_fine (Ch.Delete left) r.piece fit) some cut m2
                  k
                  q2
                  t
                  g
                  kp;
            }

      pub deleting_done : n ≤ i → gone + m ≡ length (join goal)
      unfolding seen
      deleting_done h = tally_done goal still gone m q v.tally (ap (λ (u : List FugueSpan). deleted left (seen both a b l u)) (ahead_end n s i from h) ∙ deleted_none left)
