-- what a change of statuses and real ids keeps: ids and origins stay, so the list stays well formed; and joining a list makes it no longer
use Prim.Native.Nat.{ℕ, suc, ◌≤◌}
use mathlib.Core.Path.{◌≡◌, refl, sym, ap, ap₂, ◌∙◌}
use mathlib.Core.Bool.{Bool, true, false, ◌&&◌, ◌||◌, cond}
use mathlib.Core.List.{List, [], ◌∷◌, ◌++◌, append_assoc}
use native.Mathlib.Omega.{arith}
use lib.ListN.{length}
use Rattle.span.specs.declared.ids.Id.{Id}
use Rattle.span.specs.Maybe.{OptId}
use Rattle.std.specs.Prelude.{Some as At}
use Rattle.span.specs.declared.span.FugueSpan.{FugueSpan}
use Rattle.span.specs.Ids.{same_opt}
use Rattle.span.specs.Span.{span_code, ids_ok, joins_span, merged_span}
use Rattle.span.specs.Units.{units_of, expand, Apart, Joined, join_on, join}
use Rattle.span.proofs.UnitLaws.{merge_units}
use Rattle.span.proofs.Unique.{AllUnits, merged_ok, apart_merged, join_joined, expand-join}
use Rattle.span.proofs.ForRope.{span_units, joined_is}
use Rattle.units.specs.Place.{mem_id, Distinct}
use Rattle.units.specs.Store.{count, spans_of, named, origins_named, well_formed, is_state, state_code}
use Rattle.units.specs.Change.{with_state, clear_units}
use Rattle.rope.specs.Spans.{AllOk, clear_span}
use Rattle.rope.specs.Edits.{Edited}
use Rattle.rope.proofs.Lists.{and-true}
use Rattle.rope.proofs.WellFormed.{formed_of}
use Rattle.rope.proofs.States.{state_of}
use Rattle.rope.proofs.Streaming.{units_append}
use Rattle.rope.proofs.Clears.{clearing, clear_ok, clear_on, clear_none}
use Rattle.rope.proofs.Entering.{state_formed}
use Rattle.rope.proofs.Keeps.{UnitsOk, units_ok, join_formed, both, origins_more, count_spans, edited_state}

-- units with the same ids and origins
unfoldable pub Alike : List FugueSpan → List FugueSpan → Type 0
Alike [] [] = Unit {0}
Alike [] (v ∷ vs) = ⊥
Alike (u ∷ us) [] = ⊥
Alike (u ∷ us) (v ∷ vs) = ((u.id ≡ v.id) × ((u.origin_left ≡ v.origin_left) × (u.origin_right ≡ v.origin_right))) × Alike us vs

alike_mem : (us vs : List FugueSpan) → Alike us vs → (o : OptId) → mem_id o us ≡ mem_id o vs
unfolding Alike mem_id
alike_mem [] [] a o = refl
alike_mem [] (v ∷ vs) a o = absurd a
alike_mem (u ∷ us) [] a o = absurd a
alike_mem (u ∷ us) (v ∷ vs) a o = ap₂ (λ (i : Id) (t : Bool). same_opt o (At i) || t) a.0.0 (alike_mem us vs a.1 o)

alike_distinct : (us vs : List FugueSpan) → Alike us vs → Distinct us → Distinct vs
unfolding Alike Distinct
alike_distinct [] [] a d = tt
alike_distinct [] (v ∷ vs) a d = absurd a
alike_distinct (u ∷ us) [] a d = absurd a
alike_distinct (u ∷ us) (v ∷ vs) a d = (sym (alike_mem us vs a.1 (At v.id)) ∙ (ap (λ (i : Id). mem_id (At i) us) (sym a.0.0) ∙ d.0), alike_distinct us vs a.1 d.1)

alike_origins : (l m us : List FugueSpan) → Alike l m → origins_named l us ≡ true → origins_named m us ≡ true
unfolding Alike origins_named
alike_origins [] [] us a e = refl
alike_origins [] (v ∷ m) us a e = absurd a
alike_origins (u ∷ l) [] us a e = absurd a
alike_origins (u ∷ l) (v ∷ m) us a e =
    let p = and-true (named u.origin_left us && named u.origin_right us) (origins_named l us) e in
    let q = and-true (named u.origin_left us) (named u.origin_right us) p.0 in
    both (named v.origin_left us) (named v.origin_right us) (origins_named m us)
    (ap (λ (o : OptId). named o us) (sym a.0.1.0) ∙ q.0) (ap (λ (o : OptId). named o us) (sym a.0.1.1) ∙ q.1) (alike_origins l m us a.1 p.1)

alike_length : (us vs : List FugueSpan) → Alike us vs → length us ≡ length vs
unfolding Alike
alike_length [] [] a = refl
alike_length [] (v ∷ vs) a = absurd a
alike_length (u ∷ us) [] a = absurd a
alike_length (u ∷ us) (v ∷ vs) a = ap suc (alike_length us vs a.1)

-- well formed units whose statuses and real ids alone have changed
pub alike_ok : (us vs : List FugueSpan) → UnitsOk us → Alike us vs → AllUnits vs → UnitsOk vs
alike_ok us vs w a each =
    record {
      each = each;
      few = omega (arith, w.few, alike_length us vs a);
      distinct = alike_distinct us vs a w.distinct;
      origins = origins_more vs us vs (λ o m. sym (alike_mem us vs a o) ∙ m) (alike_origins us vs us a w.origins);
    }

-- ---- a list joined is no longer

module _ (s : FugueSpan) (r : List FugueSpan) (ok : span_code s ≡ 0) (each : AllUnits r) where
  on_joined : (l : List FugueSpan) → Joined l → Joined (join_on s l)
  unfolding Joined join_on Apart
  on_joined [] j = (ok, (tt, tt))
  on_joined (t ∷ l) j = go (joins_span s t) refl
    where
      go : (b : Bool) → joins_span s t ≡ b → Joined (cond b (merged_span s t ∷ l) (s ∷ (t ∷ l)))
      go true e = (merged_ok s t e, (apart_merged s t l e j.1.0, j.1.1))
      go false e = (ok, (e, j))

  on_expand : (l : List FugueSpan) → expand (join_on s l) ≡ units_of s ++ expand l
  unfolding expand join_on
  on_expand [] = refl
  on_expand (t ∷ l) = go (joins_span s t) refl
    where
      go : (b : Bool) → joins_span s t ≡ b → expand (cond b (merged_span s t ∷ l) (s ∷ (t ∷ l))) ≡ units_of s ++ (units_of t ++ expand l)
      go true e = ap (λ (u : List FugueSpan). u ++ expand l) (merge_units s t e) ∙ append_assoc (units_of s) (units_of t) (expand l)
      go false e = refl

  -- a span's units before others are joined as the span is
  pub join_on_lem : join (units_of s ++ r) ≡ join_on s (join r)
  join_on_lem =
      sym (joined_is (join_on s (join r)) (units_of s ++ r) (on_joined (join r) (join_joined r each))
      (on_expand (join r) ∙ ap (λ (u : List FugueSpan). units_of s ++ u) (expand-join r each)))

  on_length : (l : List FugueSpan) → length (join_on s l) ≤ suc (length l)
  unfolding join_on
  on_length [] = omega arith
  on_length (t ∷ l) = go (joins_span s t)
    where
      go : (b : Bool) → length (cond b (merged_span s t ∷ l) (s ∷ (t ∷ l))) ≤ suc (suc (length l))
      go true = omega arith
      go false = omega arith

pub list_ok : (l : List FugueSpan) → AllOk l → AllUnits (expand l)
unfolding AllOk expand AllUnits
list_ok [] ok = tt
list_ok (s ∷ l) ok = units_append (units_of s) (expand l) (span_units s ok.0) (list_ok l ok.1)

pub join-length : (l : List FugueSpan) → AllOk l → length (join (expand l)) ≤ length l
unfolding AllOk expand join
join-length [] ok = omega arith
join-length (s ∷ l) ok =
    omega (arith, ap length (join_on_lem s (expand l) ok.0 (list_ok l ok.1)), on_length s (expand l) ok.0 (list_ok l ok.1) (join (expand l)), join-length l ok.1)

-- ---- clear_diff_status

clear_alike : (us : List FugueSpan) → Alike us (clear_units us)
unfolding Alike clear_units with_state
clear_alike [] = tt
clear_alike (u ∷ us) = ((refl, (refl, refl)), clear_alike us)

clear_units_lem : (us : List FugueSpan) → AllUnits us → AllUnits (clear_units us)
unfolding AllUnits clear_units with_state span_code ids_ok
clear_units_lem [] a = tt
clear_units_lem (u ∷ us) a = (a.0, (a.1.0, clear_units_lem us a.1.1))

pub clear_keeps : (l : List FugueSpan) → well_formed l ≡ true → well_formed (join (clear_units (expand l))) ≡ true
clear_keeps l e =
    let w = units_ok l e in
    join_formed (clear_units (expand l)) (alike_ok (expand l) (clear_units (expand l)) w (clear_alike (expand l)) (clear_units_lem (expand l) w.each))

-- the spans without diff_status
clear_all : List FugueSpan → List FugueSpan
clear_all [] = []
clear_all (s ∷ l) = clear_span s ∷ clear_all l

all_ok : (l : List FugueSpan) → AllOk l → AllOk (clear_all l)
unfolding clear_all AllOk
all_ok [] ok = tt
all_ok (s ∷ l) ok = (clear_ok s ok.0, all_ok l ok.1)

all_units : (l : List FugueSpan) → clearing l ≡ expand (clear_all l)
unfolding clear_all expand
all_units [] = clear_none
all_units (s ∷ l) = clear_on s l ∙ ap (λ (u : List FugueSpan). units_of (clear_span s) ++ u) (all_units l)

all_length : (l : List FugueSpan) → length (clear_all l) ≡ length l
unfolding clear_all
all_length [] = refl
all_length (s ∷ l) = ap suc (all_length l)

pub clear_length : (l : List FugueSpan) → AllOk l → length (join (clear_units (expand l))) ≤ length l
clear_length l ok = omega (arith, ap (λ (u : List FugueSpan). length (join u)) (all_units l), join-length (clear_all l) (all_ok l ok), all_length l)

pub clear_state : (s t : List ℕ) (r : ℕ) → is_state s ≡ true → length t ≡ length s → Edited (state_code s) (join (clear_units (expand (spans_of s)))) r s t → is_state t ≡ true
clear_state s t r st len v =
    let f = state_formed s st (count s) refl in
    edited_state (state_code s) (join (clear_units (expand (spans_of s)))) r s t st len
    (λ e. (clear_keeps (spans_of s) f, omega (arith, clear_length (spans_of s) (formed_of (spans_of s) f).each, count_spans s, (state_of s st).fits))) v
