-- the loops of the tight case: the first row that a version has, and the scan that leaves the place where it is
use Prim.Native.Nat.{ℕ, zero, suc, ◌+◌, ◌*◌, ◌<◌, ◌≤◌}
use mathlib.Core.Path.{◌≡◌, refl, sym, ap, ap₂, ◌∙◌}
use mathlib.Core.Bool.{Bool, true, false, not, cond}
use mathlib.Core.List.{List, [], ◌∷◌, ◌++◌}
use native.Mathlib.Omega.{arith}
use lib.ListN.{take, drop}
use Rattle.span.specs.declared.ids.Id.{Id}
use Rattle.span.specs.Maybe.{OptId}
use Rattle.std.specs.Prelude.{None as Nothing, Some as At}
use Rattle.span.specs.declared.status.Status.{Status}
use Rattle.span.specs.declared.span.FugueSpan.{FugueSpan}
use Rattle.span.specs.Ids.{room_of, same_opt}
use Rattle.span.specs.Span.{span_code}
use Rattle.span.specs.Units.{expand}
use Rattle.span.proofs.IdsLaws.{inc_zero, room_less}
use Rattle.span.proofs.SpanLaws.{span_ok}
use Rattle.span.proofs.Views.{len_pos}
use Rattle.store.specs.Row.{rows, row_at}
use Rattle.units.specs.declared.place.Verdict.{Verdict}
use Rattle.units.specs.declared.place.Verdict.TheVariants.{Stop, Keep}
use Rattle.units.specs.Place.{mem_id, sibling, verdict, is_stop, after}
use Rattle.rope.specs.Spans.{AllOk}
use Rattle.rope.proofs.Rights.{row_drop, row_take, row_none}
use Rattle.history.specs.Edit.{Version, Held}
use Rattle.history.specs.Version.{in_version}
use Rattle.history.specs.Checkout.{status_at}
use Rattle.tracker.specs.declared.look.Reach.{Reach}
use Rattle.tracker.specs.Looks.{Reaches}
use Rattle.tracker.specs.Fits.{future, first_in, stays_at}

-- ---- one id

pub future_of : (v : Version) (l : List Held) (i : Id) (most : ℕ) (r : Reach) → Reaches v l i most r → r.status.future ≡ not (in_version v i)
unfolding status_at
future_of v l i most r w =
    ap (λ (s : Status). s.future) (sym (w.same 0 w.some)) ∙ ap (λ (j : Id). not (in_version v j)) (inc_zero i)

pub first_room : (s : FugueSpan) → span_code s ≡ 0 → room_of s.id 1 ≡ true
first_room s ok = room_less s.id.counter 1 _ (len_pos s.content (span_ok s ok).form) (span_ok s ok).own

-- ---- the first row that the version has

module _ (v : Version) (n : ℕ) (s : List ℕ) (i : ℕ) where
  pub first_turn : i < n → (t : Bool) → not (in_version v (row_at s (i * 72)).id) ≡ t → first_in v (drop i (rows n s)) ≡ cond t (first_in v (drop (i + 1) (rows n s))) (At (row_at s (i * 72)).id)
  unfolding first_in
  first_turn h t e = ap (first_in v) (row_drop n s i h) ∙ ap (λ (b : Bool). cond b (first_in v (drop (i + 1) (rows n s))) (At (row_at s (i * 72)).id)) e

  pub first_done : n ≤ i → first_in v (drop i (rows n s)) ≡ Nothing
  unfolding first_in
  first_done h = ap (first_in v) (row_none n s i h)

-- ---- a verdict

module _ (all : List FugueSpan) (x o : OptId) (p q : ℕ) (S : List FugueSpan) (v : FugueSpan) where
  pub weigh_same : same_opt v.origin_left x ≡ true → verdict all x o p q S v ≡ sibling all o p q v
  unfolding verdict
  weigh_same e = ap (λ (t : Bool). cond t (sibling all o p q v) (cond (mem_id v.origin_left S) Keep Stop)) e

  pub weigh_other : (t : Bool) → same_opt v.origin_left x ≡ false → mem_id v.origin_left S ≡ t → verdict all x o p q S v ≡ cond t Keep Stop
  unfolding verdict
  weigh_other t e g =
      ap (λ (b : Bool). cond b (sibling all o p q v) (cond (mem_id v.origin_left S) Keep Stop)) e ∙ ap (λ (b : Bool). cond b Keep Stop) g

-- ---- the scan

pub rows_take : (i n : ℕ) (s : List ℕ) → i ≤ n → take i (rows n s) ≡ rows i s
unfolding rows
rows_take zero n s h = refl
rows_take (suc i) zero s h = absurd (omega arith)
rows_take (suc i) (suc n) s h = ap (λ (l : List FugueSpan). row_at s 0 ∷ l) (rows_take i n (drop 72 s) (omega arith))

pub ok_take : (i : ℕ) (l : List FugueSpan) → AllOk l → AllOk (take i l)
unfolding AllOk
ok_take zero l a = tt
ok_take (suc i) [] a = tt
ok_take (suc i) (s ∷ l) a = (a.0, ok_take i l a.1)

module _ (v : Version) (f : List FugueSpan → FugueSpan → Verdict) (k : ℕ) (s : List ℕ) where
  pub record Stay (h : Bool) (i : ℕ) : Type 0 where
    pub low : i ≤ k
    pub is : stays_at v f [] false (rows k s) ≡ stays_at v f (take i (rows k s)) h (drop i (rows k s))

  pub stay_start : Stay false 0
  stay_start = record { low = omega arith; is = refl }

  module _ (h : Bool) (i : ℕ) (w : Stay h i) where
    pub stay_done : k ≤ i → true ≡ stays_at v f [] false (rows k s)
    unfolding stays_at
    stay_done g = sym (w.is ∙ ap (stays_at v f (take i (rows k s)) h) (row_none k s i g))

    module _ (g : i < k) where
      abbrev row : FugueSpan
      row = row_at s (i * 72)

      abbrev Vd : Verdict
      Vd = f (expand (rows i s)) row

      step : (t : Bool) → not (in_version v row.id) ≡ t
          → stays_at v f [] false (rows k s) ≡ cond t (cond (is_stop Vd) true (cond (after Vd h) (stays_at v f (take (i + 1) (rows k s)) (after Vd h) (drop (i + 1) (rows k s))) false)) true
      unfolding stays_at
      step t e =
          w.is ∙
          (ap (stays_at v f (take i (rows k s)) h) (row_drop k s i g) ∙
          (ap₂ (λ (b : Bool) (S : List FugueSpan). cond b (cond (is_stop (f (expand S) row)) true (cond (after (f (expand S) row) h) (stays_at v f (take i (rows k s) ++ (row ∷ [])) (after (f (expand S) row) h) (drop (i + 1) (rows k s))) false)) true) e (rows_take i k s (omega (arith, g))) ∙
          ap (λ (S : List FugueSpan). cond t (cond (is_stop Vd) true (cond (after Vd h) (stays_at v f S (after Vd h) (drop (i + 1) (rows k s))) false)) true) (sym (row_take k s i g))))

      pub stay_past : not (in_version v row.id) ≡ false → true ≡ stays_at v f [] false (rows k s)
      stay_past e = sym (step false e)

      module _ (d : Verdict) (e : not (in_version v row.id) ≡ true) (is : d ≡ Vd) where
        told : stays_at v f [] false (rows k s) ≡ cond (is_stop d) true (cond (after d h) (stays_at v f (take (i + 1) (rows k s)) (after d h) (drop (i + 1) (rows k s))) false)
        told = step true e ∙ ap (λ (c : Verdict). cond (is_stop c) true (cond (after c h) (stays_at v f (take (i + 1) (rows k s)) (after c h) (drop (i + 1) (rows k s))) false)) (sym is)

        pub stay_stop : is_stop d ≡ true → true ≡ stays_at v f [] false (rows k s)
        stay_stop z = sym (told ∙ ap (λ (b : Bool). cond b true (cond (after d h) (stays_at v f (take (i + 1) (rows k s)) (after d h) (drop (i + 1) (rows k s))) false)) z)

        pub stay_moved : is_stop d ≡ false → after d h ≡ false → false ≡ stays_at v f [] false (rows k s)
        stay_moved z y = sym (told ∙ ap₂ (λ (b c : Bool). cond b true (cond c (stays_at v f (take (i + 1) (rows k s)) (after d h) (drop (i + 1) (rows k s))) false)) z y)

        pub stay_on : is_stop d ≡ false → after d h ≡ true → Stay (after d h) (i + 1)
        stay_on z y =
            record {
              low = omega (arith, g);
              is = told ∙ ap₂ (λ (b c : Bool). cond b true (cond c (stays_at v f (take (i + 1) (rows k s)) (after d h) (drop (i + 1) (rows k s))) false)) z y;
            }
