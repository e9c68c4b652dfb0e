-- Joining gives the shortest list with its units; so the list at one version is no longer than the list with the statuses of two.
use Prim.Native.Nat.{ℕ, zero, suc, ◌≤◌}
use mathlib.Core.Path.{◌≡◌, refl, sym, ap, ap₂, subst, ◌∙◌}
use mathlib.Core.Logic.{◌⊎◌, inl, inr}
use mathlib.Core.Bool.{Bool, true, false, cond}
use mathlib.Core.List.Memᴰ
use mathlib.Core.List.{List, [], ◌∷◌, ◌++◌, map, append_assoc}
use lib.ListN.{length, length-map}
use Rattle.std.specs.Prelude.{None}
use Rattle.span.specs.Maybe.{OptId}
use Rattle.span.specs.declared.span.FugueSpan.{FugueSpan}
use Rattle.span.specs.Span.{len_span, ids_ok, span_code, joins_span, merged_span, shift, left_of}
use Rattle.span.proofs.UnitLaws.{merge_units}
use Rattle.span.specs.Units.{tab, units_of, expand, Apart, Joined, join_on, join}
use Rattle.span.specs.Units as Units
use Rattle.span.proofs.Unique.{merged_ok, apart_merged, join_joined, expand-join}
use Rattle.span.proofs.ForRope.{joined_is}
use Rattle.units.specs.Place.{with_origins}
use Rattle.units.specs.Change.{with_state}
use Rattle.fugue.proofs.ScanPlace.{Mem}
use Rattle.history.specs.Edit.{Version, Held, History}
use Rattle.history.specs.Checkout.{units_at, units_between}
use Rattle.history.specs.Checkout as Co
use Rattle.history.specs.Deltas.{spans_between}
use Rattle.history.proofs.WellUnits.{Units1, all_of, join-length}

abbrev Ok : List FugueSpan → Type 0
Ok l = (s : FugueSpan) → Mem s l → span_code s ≡ 0

-- ---- joining spans, not only units

joined_on : (u : FugueSpan) (l : List FugueSpan) → span_code u ≡ 0 → Joined l → Joined (join_on u l)
unfolding Joined join_on Apart
joined_on u [] ok j = (ok, (tt, tt))
joined_on u (s ∷ l) ok j = go (joins_span u s) refl
  where
    go : (t : Bool) → joins_span u s ≡ t → Joined (cond t (merged_span u s ∷ l) (u ∷ (s ∷ l)))
    go true e = (merged_ok u s e, (apart_merged u s l e j.1.0, j.1.1))
    go false e = (ok, (e, j))

expand_on : (u : FugueSpan) (l : List FugueSpan) → expand (join_on u l) ≡ units_of u ++ expand l
unfolding expand join_on
expand_on u [] = refl
expand_on u (s ∷ l) = go (joins_span u s) refl
  where
    go : (t : Bool) → joins_span u s ≡ t → expand (cond t (merged_span u s ∷ l) (u ∷ (s ∷ l))) ≡ units_of u ++ (units_of s ++ expand l)
    go true e = ap (λ (z : List FugueSpan). z ++ expand l) (merge_units u s e) ∙ append_assoc (units_of u) (units_of s) (expand l)
    go false e = refl

joined_all : (l : List FugueSpan) → Ok l → Joined (join l)
unfolding join Joined
joined_all [] f = tt
joined_all (s ∷ l) f = joined_on s (join l) (f s (Memᴰ.head refl)) (joined_all l (λ (t : FugueSpan) (m : Mem t l). f t (Memᴰ.tail m)))

expand_all : (l : List FugueSpan) → expand (join l) ≡ expand l
unfolding join expand
expand_all [] = refl
expand_all (s ∷ l) = expand_on s (join l) ∙ ap (λ (z : List FugueSpan). units_of s ++ z) (expand_all l)

-- no list of well formed spans with these units is shorter
pub shortest : (l us : List FugueSpan) → Ok l → expand l ≡ us → length (join us) ≤ length l
shortest l us f e =
    let q : join l ≡ join us = joined_is (join l) us (joined_all l f) (expand_all l ∙ e) in
    subst (λ (z : List FugueSpan). length z ≤ length l) q (join-length l)

-- ---- without diff_status

drop_diff : FugueSpan → FugueSpan
drop_diff u = with_state u u.status None u.real_id

left_drop : (s : FugueSpan) (i : ℕ) → left_of (drop_diff s) i ≡ left_of s i
unfolding left_of drop_diff with_state
left_drop s zero = refl
left_drop s (suc i) = refl

unit_drop : (s : FugueSpan) (i : ℕ) → Units.unit_at (drop_diff s) i ≡ drop_diff (Units.unit_at s i)
unfolding drop_diff with_state shift with_origins
unit_drop s i = ap (λ (x : OptId). with_origins (drop_diff (Units.unit_at s i)) x s.origin_right) (left_drop s i)

drop_units : (s : FugueSpan) (i n : ℕ) → tab (Units.unit_at (drop_diff s)) i n ≡ map drop_diff (tab (Units.unit_at s) i n)
unfolding tab
drop_units s i zero = refl
drop_units s i (suc n) = ap₂ ◌∷◌ (unit_drop s i) (drop_units s (suc i) n)

map-app : (A B : List FugueSpan) → map drop_diff (A ++ B) ≡ map drop_diff A ++ map drop_diff B
map-app [] B = refl
map-app (v ∷ A) B = ap (λ (z : List FugueSpan). drop_diff v ∷ z) (map-app A B)

same_length : (s : FugueSpan) → len_span (drop_diff s) ≡ len_span s
unfolding drop_diff with_state
same_length s = refl

drop_expand : (l : List FugueSpan) → expand (map drop_diff l) ≡ map drop_diff (expand l)
unfolding expand units_of
drop_expand [] = refl
drop_expand (s ∷ l) =
    ap₂ (λ (a b : List FugueSpan). a ++ b) (ap (tab (Units.unit_at (drop_diff s)) 0) (same_length s) ∙ drop_units s 0 (len_span s)) (drop_expand l) ∙ sym (map-app (tab (Units.unit_at s) 0 (len_span s)) (expand l))

drop_code : (s : FugueSpan) → span_code (drop_diff s) ≡ span_code s
unfolding span_code ids_ok drop_diff with_state
drop_code s = refl

drop_between : (a b : Version) (held : List Held) (l : List FugueSpan) → map drop_diff (map (Co.unit_between a b held) l) ≡ map (Co.unit_at a held) l
unfolding Co.unit_between Co.unit_at drop_diff with_state
drop_between a b held [] = refl
drop_between a b held (u ∷ l) = ap (λ (z : List FugueSpan). Co.unit_at a held u ∷ z) (drop_between a b held l)

joined_ok : (l : List FugueSpan) → Joined l → Ok l
unfolding Joined
joined_ok [] j s m = absurd (Memᴰ.not-nil m)
joined_ok (t ∷ l) j s m = go (Memᴰ.cases_cons m) (joined_ok l j.1.1 s)
  where
    go : (s ≡ t) ⊎ Mem s l → (Mem s l → span_code s ≡ 0) → span_code s ≡ 0
    go (inl d) ih = ap span_code d ∙ j.0
    go (inr k) ih = ih k

-- the list at A is no longer than the list with both statuses
pub one_version : (a b : Version) (h : History) → Units1 (units_between a b h) → length (join (units_at a h)) ≤ length (spans_between a b h)
unfolding spans_between units_at
one_version a b h f =
    subst (λ (k : ℕ). length (join (map (Co.unit_at a h.held) h.list)) ≤ k) (length-map (join (units_between a b h)) drop_diff)
    (shortest (map drop_diff (join (units_between a b h))) (map (Co.unit_at a h.held) h.list)
    (λ (s : FugueSpan) (m : Mem s (map drop_diff (join (units_between a b h)))). one s (Memᴰ.of_map drop_diff (join (units_between a b h)) m))
    (drop_expand (join (units_between a b h)) ∙ (ap (map drop_diff) (expand-join (units_between a b h) (all_of (units_between a b h) f)) ∙ (unfold units_between in drop_between a b h.held h.list))))
  where
    one : (s : FugueSpan) → (t : FugueSpan) × Mem t (join (units_between a b h)) × (drop_diff t ≡ s) → span_code s ≡ 0
    one s q = ap span_code (sym q.2) ∙ (drop_code q.0 ∙ joined_ok (join (units_between a b h)) (join_joined (units_between a b h) (all_of (units_between a b h) f)) q.0 q.1)
