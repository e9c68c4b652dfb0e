-- an accepted call leaves a well formed store: the units are well formed, their ids distinct and their origins named, and joining keeps that
use Prim.Native.Nat.{ℕ, zero, suc, ◌+◌, ◌-◌, ◌/◌, ◌≤◌, min}
use mathlib.Core.Path.{◌≡◌, refl, sym, ap, ap₂, subst, ◌∙◌}
use mathlib.Core.Bool.{Bool, true, false, ◌&&◌, ◌||◌, cond, true≢false, false≢true}
use mathlib.Core.List.{List, [], ◌∷◌, ◌++◌, append_assoc, append-nil}
use mathlib.Core.Logic.{◌⊎◌, inl, inr}
use native.Mathlib.Omega.{arith}
use native.Mathlib.Nat.{zero-add}
use lib.Dec.{eqb}
use lib.ListN.{length, take, drop, length-append, take-append-drop}
use borrow.Author.Tests.{eqb-true, eqb-false}
use Rattle.span.specs.declared.ids.Id.{Id}
use Rattle.span.specs.Maybe.{OptId}
use Rattle.std.specs.Prelude.{None as Nothing, Some as At}
use Rattle.span.specs.declared.span.FugueSpan.{FugueSpan}
use Rattle.span.specs.Ids.{inc_id, same_opt}
use Rattle.span.proofs.Same.{same_opt-true, same_opt_refl}
use Rattle.span.specs.Status.{activated}
use Rattle.span.specs.Span.{len_span, span_code, ids_ok, shift, left_of, joins_span, merged_span}
use Rattle.span.specs.Units.{tab, unit_at, units_of, expand, Joined, join_on, join}
use Rattle.span.proofs.Unique.{AllUnits, join_joined, expand-join}
use Rattle.span.proofs.ForRope.{units_length, span_units, list_units}
use Rattle.store.proofs.Laws.{length-rows}
use Rattle.units.specs.Place.{mem_id, Distinct, front, behind, last_id, first_past, put_at, scan_place, with_origins, origin_left, origin_right, insert_units}
use Rattle.units.specs.Store.{count, room, spans_of, named, origins_named, well_formed, is_state}
use Rattle.units.specs.Codes.{insert_code}
use Rattle.rope.specs.Spans.{AllOk, Fresh}
use Rattle.rope.specs.Edits.{insert_number, insert_list, Edited}
use Rattle.rope.proofs.Lists.{or_left, or_right, or-false, and-true, mem_append}
use Rattle.rope.proofs.Offsets.{tab_has}
use Rattle.rope.proofs.Twice.{distinct_append, units_distinct, disjoint}
use Rattle.rope.proofs.WellFormed.{formed_of, formed_back, few_rows}
use Rattle.rope.proofs.Steps.{joined_ok}
use Rattle.rope.proofs.States.{state_of, state_rows}
use Rattle.rope.proofs.Streaming.{units_append}
use Rattle.rope.proofs.Admits.{admitted, formed_code, fine_code, rest_code}
use Rattle.rope.proofs.Entering.{number_state}

-- what a well formed list is on units
pub record UnitsOk (us : List FugueSpan) : Type 0 where
  pub each : AllUnits us
  pub few : length us ≤ 65536
  pub distinct : Distinct us
  pub origins : origins_named us us ≡ true

-- ---- origins, over two lists and with more units to name

-- every id of the one is one of the other
abbrev Within : List FugueSpan → List FugueSpan → Type 0
Within us vs = (o : OptId) → mem_id o us ≡ true → mem_id o vs ≡ true

within_left : (us vs : List FugueSpan) → Within us (us ++ vs)
within_left us vs o m = mem_append o us vs ∙ or_left (mem_id o us) (mem_id o vs) m

within_right : (us vs : List FugueSpan) → Within vs (us ++ vs)
within_right us vs o m = mem_append o us vs ∙ or_right (mem_id o us) (mem_id o vs) m

named_more : (o : OptId) (us vs : List FugueSpan) → Within us vs → named o us ≡ true → named o vs ≡ true
unfolding named
named_more Nothing us vs w e = refl
named_more (At i) us vs w e = w (At i) e

named_has : (i : Id) (us : List FugueSpan) → mem_id (At i) us ≡ true → named (At i) us ≡ true
unfolding named
named_has i us m = m

pub both : (a b c : Bool) → a ≡ true → b ≡ true → c ≡ true → ((a && b) && c) ≡ true
both a b c p q r = rw (p, q, r)

pub origins_more : (l us vs : List FugueSpan) → Within us vs → origins_named l us ≡ true → origins_named l vs ≡ true
unfolding origins_named
origins_more [] us vs w e = refl
origins_more (s ∷ l) us vs w e =
    let a = and-true (named s.origin_left us && named s.origin_right us) (origins_named l us) e in
    let b = and-true (named s.origin_left us) (named s.origin_right us) a.0 in
    both (named s.origin_left vs) (named s.origin_right vs) (origins_named l vs)
    (named_more s.origin_left us vs w b.0) (named_more s.origin_right us vs w b.1) (origins_more l us vs w a.1)

origins_append : (l m us : List FugueSpan) → origins_named l us ≡ true → origins_named m us ≡ true → origins_named (l ++ m) us ≡ true
unfolding origins_named
origins_append [] m us e f = f
origins_append (s ∷ l) m us e f =
    let a = and-true (named s.origin_left us && named s.origin_right us) (origins_named l us) e in
    let b = and-true (named s.origin_left us) (named s.origin_right us) a.0 in
    both (named s.origin_left us) (named s.origin_right us) (origins_named (l ++ m) us) b.0 b.1 (origins_append l m us a.1 f)

origins_split : (l m us : List FugueSpan) → origins_named (l ++ m) us ≡ true → (origins_named l us ≡ true) × (origins_named m us ≡ true)
unfolding origins_named
origins_split [] m us e = (refl, e)
origins_split (s ∷ l) m us e =
    let a = and-true (named s.origin_left us && named s.origin_right us) (origins_named (l ++ m) us) e in
    let b = and-true (named s.origin_left us) (named s.origin_right us) a.0 in
    let r = origins_split l m us a.1 in
    (both (named s.origin_left us) (named s.origin_right us) (origins_named l us) b.0 b.1 r.0, r.1)

-- ---- from spans to units

module _ (s : FugueSpan) (ok : span_code s ≡ 0) (us : List FugueSpan) (w : Within (units_of s) us) (l : named s.origin_left us ≡ true) (r : named s.origin_right us ≡ true) where
  left_named : (k : ℕ) → k ≤ len_span s → named (left_of s k) us ≡ true
  unfolding left_of units_of
  left_named zero h = l
  left_named (suc k) h = named_has (inc_id s.id k) us (w (At (inc_id s.id k)) (ap (λ (m : ℕ). mem_id (At (inc_id s.id m)) (units_of s)) (sym (zero-add k)) ∙ tab_has s ok 0 (len_span s) k (omega arith)))

  tab_origins : (j n : ℕ) → j + n ≤ len_span s → origins_named (tab (unit_at s) j n) us ≡ true
  unfolding origins_named tab shift
  tab_origins j zero h = refl
  tab_origins j (suc n) h =
      both (named (left_of s j) us) (named s.origin_right us) (origins_named (tab (unit_at s) (suc j) n) us)
      (left_named j (omega arith)) r (tab_origins (suc j) n (omega arith))

  span_origins : origins_named (units_of s) us ≡ true
  unfolding units_of
  span_origins = tab_origins 0 (len_span s) (omega arith)

expand_origins : (l us : List FugueSpan) → AllOk l → Within (expand l) us → origins_named l us ≡ true → origins_named (expand l) us ≡ true
unfolding origins_named expand AllOk
expand_origins [] us ok w e = refl
expand_origins (s ∷ l) us ok w e =
    let a = and-true (named s.origin_left us && named s.origin_right us) (origins_named l us) e in
    let b = and-true (named s.origin_left us) (named s.origin_right us) a.0 in
    origins_append (units_of s) (expand l) us
    (span_origins s ok.0 us (λ o m. w o (within_left (units_of s) (expand l) o m)) b.0 b.1)
    (expand_origins l us ok.1 (λ o m. w o (within_right (units_of s) (expand l) o m)) a.1)

pub units_ok : (l : List FugueSpan) → well_formed l ≡ true → UnitsOk (expand l)
units_ok l e =
    let f = formed_of l e in
    record {
      each = list_units l f.joined;
      few = f.units;
      distinct = f.distinct;
      origins = expand_origins l (expand l) f.each (λ o m. m) f.origins;
    }

-- ---- from units to the joined list

on_origins : (u : FugueSpan) (l us : List FugueSpan) → named u.origin_left us ≡ true → named u.origin_right us ≡ true → origins_named l us ≡ true → origins_named (join_on u l) us ≡ true
unfolding origins_named join_on merged_span
on_origins u [] us p q e = both (named u.origin_left us) (named u.origin_right us) true p q refl
on_origins u (s ∷ l) us p q e = go (joins_span u s)
  where
    go : (t : Bool) → origins_named (cond t (merged_span u s ∷ l) (u ∷ (s ∷ l))) us ≡ true
    go true = both (named u.origin_left us) (named u.origin_right us) (origins_named l us) p q (and-true (named s.origin_left us && named s.origin_right us) (origins_named l us) e).1
    go false = both (named u.origin_left us) (named u.origin_right us) (origins_named (s ∷ l) us) p q e

join_origins : (l us : List FugueSpan) → origins_named l us ≡ true → origins_named (join l) us ≡ true
unfolding origins_named join
join_origins [] us e = refl
join_origins (u ∷ l) us e =
    let a = and-true (named u.origin_left us && named u.origin_right us) (origins_named l us) e in
    let b = and-true (named u.origin_left us) (named u.origin_right us) a.0 in
    on_origins u (join l) us b.0 b.1 (join_origins l us a.1)

pub join_formed : (us : List FugueSpan) → UnitsOk us → well_formed (join us) ≡ true
join_formed us w =
    let x : expand (join us) ≡ us = expand-join us w.each in
    let j : Joined (join us) = join_joined us w.each in
    formed_back (join us)
    (record {
      joined = j;
      each = joined_ok (join us) j;
      units = omega (arith, ap length x, w.few);
      few = omega (arith, few_rows (join us) (joined_ok (join us) j), ap length x, w.few);
      distinct = subst Distinct (sym x) w.distinct;
      origins = ap (origins_named (join us)) x ∙ join_origins us us w.origins;
    })

-- ---- new units in the list

module _ (A new B : List FugueSpan) where
  mid_mem : (o : OptId) → mem_id o (A ++ (new ++ B)) ≡ true → (mem_id o new ≡ true) ⊎ (mem_id o (A ++ B) ≡ true)
  mid_mem o m = go (mem_id o A) refl (mem_id o new) refl (mem_id o B) refl (sym (mem_append o A (new ++ B) ∙ ap (λ (t : Bool). mem_id o A || t) (mem_append o new B)) ∙ m)
    where
      go : (a : Bool) → mem_id o A ≡ a → (b : Bool) → mem_id o new ≡ b → (c : Bool) → mem_id o B ≡ c → (mem_id o A || (mem_id o new || mem_id o B)) ≡ true → (mem_id o new ≡ true) ⊎ (mem_id o (A ++ B) ≡ true)
      go true p b q c r e = inr (mem_append o A B ∙ or_left (mem_id o A) (mem_id o B) p)
      go false p true q c r e = inl q
      go false p false q true r e = inr (mem_append o A B ∙ or_right (mem_id o A) (mem_id o B) r)
      go false p false q false r e = absurd (false≢true (sym (ap₂ (λ (x y : Bool). x || y) p (ap₂ (λ (x y : Bool). x || y) q r)) ∙ e))

  old_within : Within (A ++ B) (A ++ (new ++ B))
  old_within o m = go (mem_id o A) refl
    where
      go : (t : Bool) → mem_id o A ≡ t → mem_id o (A ++ (new ++ B)) ≡ true
      go true p = within_left A (new ++ B) o p
      go false p = within_right A (new ++ B) o (within_right new B o (sym (ap (λ (t : Bool). t || mem_id o B) p) ∙ (sym (mem_append o A B) ∙ m)))

distinct_parts : (A B : List FugueSpan) → Distinct (A ++ B) → Distinct A × (Distinct B × ((o : OptId) → mem_id o A ≡ true → mem_id o B ≡ false))
unfolding Distinct mem_id
distinct_parts [] B d = (tt, (d, λ o m. absurd (false≢true m)))
distinct_parts (v ∷ A) B d =
    let r = distinct_parts A B d.1 in
    let w = or-false (mem_id (At v.id) A) (mem_id (At v.id) B) (sym (mem_append (At v.id) A B) ∙ d.0) in
    ((w.0, r.0), (r.1.0, λ o m. go r.1.1 o (same_opt o (At v.id)) refl m w.1))
  where
    go : ((o : OptId) → mem_id o A ≡ true → mem_id o B ≡ false) → (o : OptId) (t : Bool) → same_opt o (At v.id) ≡ t → (t || mem_id o A) ≡ true → mem_id (At v.id) B ≡ false → mem_id o B ≡ false
    go f o true p q z = ap (λ (i : OptId). mem_id i B) (same_opt-true o (At v.id) p) ∙ z
    go f o false p q z = f o q

units_split : (A B : List FugueSpan) → AllUnits (A ++ B) → AllUnits A × AllUnits B
unfolding AllUnits
units_split [] B a = (tt, a)
units_split (u ∷ A) B a = let q = units_split A B a.1.1 in ((a.0, (a.1.0, q.0)), q.1)

none_of : (a : Bool) → (a ≡ true → ⊥) → a ≡ false
none_of true f = absurd (f refl)
none_of false f = refl

module _ (A B : List FugueSpan) (y : FugueSpan) (ok : span_code y ≡ 0) (w : UnitsOk (A ++ B)) (new : Fresh y (A ++ B)) (few : length (A ++ B) + len_span y ≤ 65536)
    (l : named y.origin_left (A ++ B) ≡ true) (r : named y.origin_right (A ++ B) ≡ true) where
  parts : AllUnits A × AllUnits B
  parts = units_split A B w.each

  after_distinct : Distinct (A ++ (units_of y ++ B))
  after_distinct =
      let d = distinct_parts A B w.distinct in
      distinct_append A (units_of y ++ B) d.0
      (distinct_append (units_of y) B (units_distinct y ok) d.1.0 (λ o m. none_of (mem_id o B) (λ z. true≢false (sym m ∙ disjoint y ok (A ++ B) new o (within_right A B o z)))))
      (λ o m. mem_append o (units_of y) B ∙ ap₂ (λ (a b : Bool). a || b) (disjoint y ok (A ++ B) new o (within_left A B o m)) (d.1.1 o m))

  after_origins : origins_named (A ++ (units_of y ++ B)) (A ++ (units_of y ++ B)) ≡ true
  after_origins =
      let t = A ++ (units_of y ++ B) in
      let o = origins_split A B (A ++ B) w.origins in
      let more : Within (A ++ B) t = old_within A (units_of y) B in
      origins_append A (units_of y ++ B) t (origins_more A (A ++ B) t more o.0)
      (origins_append (units_of y) B t
      (span_origins y ok t (λ i m. within_right A (units_of y ++ B) i (within_left (units_of y) B i m)) (named_more y.origin_left (A ++ B) t more l) (named_more y.origin_right (A ++ B) t more r))
      (origins_more B (A ++ B) t more o.1))

  pub more_ok : UnitsOk (A ++ (units_of y ++ B))
  more_ok =
      record {
        each = units_append A (units_of y ++ B) parts.0 (units_append (units_of y) B (span_units y ok) parts.1);
        few = omega (arith, few, length-append A B, length-append A (units_of y ++ B), length-append (units_of y) B, units_length y);
        distinct = after_distinct;
        origins = after_origins;
      }

-- ---- insert

front-behind : (l : List FugueSpan) (n : ℕ) → front l n ++ behind l n ≡ l
unfolding front behind
front-behind [] n = refl
front-behind (v ∷ l) zero = refl
front-behind (v ∷ l) (suc n) = ap (λ (k : List FugueSpan). v ∷ k) (front-behind l (cond (activated v.status) n (suc n)))

put_split : (n : ℕ) (new l : List FugueSpan) → put_at n new l ≡ take n l ++ (new ++ drop n l)
unfolding put_at
put_split zero new l = refl
put_split (suc n) new [] = sym (append-nil new)
put_split (suc n) new (v ∷ l) = ap (λ (k : List FugueSpan). v ∷ k) (put_split n new l)

last_named : (A us : List FugueSpan) (r : OptId) → Within A us → named r us ≡ true → named (last_id r A) us ≡ true
unfolding last_id mem_id
last_named [] us r w e = e
last_named (v ∷ A) us r w e =
    last_named A us (At v.id) (λ o m. w o (or_right (same_opt o (At v.id)) (mem_id o A) m))
    (named_has v.id us (w (At v.id) (or_left (same_opt (At v.id) (At v.id)) (mem_id (At v.id) A) (same_opt_refl (At v.id)))))

past_named : (B us : List FugueSpan) → Within B us → named (first_past B) us ≡ true
unfolding first_past mem_id named
past_named [] us w = refl
past_named (v ∷ B) us w = go v.status.future (past_named B us (λ o m. w o (or_right (same_opt o (At v.id)) (mem_id o B) m)))
  where
    go : (t : Bool) → named (first_past B) us ≡ true → named (cond t (first_past B) (At v.id)) us ≡ true
    go true e = e
    go false e = w (At v.id) (or_left (same_opt (At v.id) (At v.id)) (mem_id (At v.id) B) (same_opt_refl (At v.id)))

none_named : (us : List FugueSpan) → named Nothing us ≡ true
unfolding named
none_named us = refl

module _ (at : ℕ) (x : FugueSpan) (us : List FugueSpan) (w : UnitsOk us) (ok : span_code x ≡ 0) (new : Fresh x us) (few : length us + len_span x ≤ 65536) where
  abbrev y : FugueSpan
  y = with_origins x (origin_left at us) (origin_right at us)

  abbrev k : ℕ
  k = scan_place us (behind us at) (origin_left at us) (origin_right at us) x.id.peer

  abbrev A : List FugueSpan
  A = front us at ++ take k (behind us at)

  abbrev B : List FugueSpan
  B = drop k (behind us at)

  whole : A ++ B ≡ us
  whole =
      append_assoc (front us at) (take k (behind us at)) B ∙
      (ap (λ (l : List FugueSpan). front us at ++ l) (take-append-drop k (behind us at)) ∙ front-behind us at)

  result : insert_units at x us ≡ A ++ (units_of y ++ B)
  unfolding insert_units
  result =
      ap (λ (l : List FugueSpan). front us at ++ l) (put_split k (units_of y) (behind us at)) ∙
      sym (append_assoc (front us at) (take k (behind us at)) (units_of y ++ B))

  pub insert_ok : UnitsOk (insert_units at x us)
  unfolding origin_left origin_right with_origins Fresh span_code ids_ok
  insert_ok =
      let e = sym whole in
      let in_front : Within (front us at) us = (λ o m. ap (mem_id o) (sym (front-behind us at)) ∙ within_left (front us at) (behind us at) o m) in
      let in-behind : Within (behind us at) us = (λ o m. ap (mem_id o) (sym (front-behind us at)) ∙ within_right (front us at) (behind us at) o m) in
      subst UnitsOk (sym result)
      (more_ok A B y ok
      (subst UnitsOk e w)
      (subst (λ (l : List FugueSpan). Fresh y l) e new)
      (subst (λ (l : List FugueSpan). length l + len_span y ≤ 65536) e few)
      (subst (λ (l : List FugueSpan). named y.origin_left l ≡ true) e (last_named (front us at) us Nothing in_front (none_named us)))
      (subst (λ (l : List FugueSpan). named y.origin_right l ≡ true) e (past_named (behind us at) us in-behind)))

pub insert_keeps : (room : ℕ) (l : List FugueSpan) (at : ℕ) (x : FugueSpan) → insert_code room l at x ≡ 0 → (well_formed (join (insert_units at x (expand l))) ≡ true) × (length (join (insert_units at x (expand l))) ≤ room)
insert_keeps room l at x e =
    let f = formed_code room l at x e in
    let s : span_code x ≡ 0 = fine_code room l at x e f in
    let r = rest_code room l at x e f s in
    let w = admitted l at x r.0 in
    (join_formed (insert_units at x (expand l)) (insert_ok at x (expand l) (units_ok l f) s w.new w.few), r.1)

-- ---- the bytes

-- room is a matter of length
pub room_same : (s t : List ℕ) → length t ≡ length s → room t ≡ room s
unfolding room
room_same s t e = ap (λ (n : ℕ). min 65536 ((n - 72) / 72)) e

pub count_spans : (t : List ℕ) → length (spans_of t) ≡ count t
unfolding spans_of
count_spans t = length-rows (count t) (drop 72 t)

-- a store stays one, where the call's list is well formed and fits
pub edited_state : (code : ℕ) (l : List FugueSpan) (r : ℕ) (s t : List ℕ) → is_state s ≡ true → length t ≡ length s → (code ≡ 0 → (well_formed l ≡ true) × (length l ≤ room s)) → Edited code l r s t → is_state t ≡ true
edited_state code l r s t st len new v = go (eqb code 0) refl
  where
    go : (b : Bool) → eqb code 0 ≡ b → is_state t ≡ true
    go false q = ap is_state (v.bytes (eqb-false code 0 q)) ∙ st
    go true q =
        let w = new (eqb-true code 0 q) in
        let e : spans_of t ≡ l = v.list ∙ ap (λ (b : Bool). cond b l (spans_of s)) q in
        let h : 72 ≤ length t = omega (arith, (state_of s st).head, len) in
        let k : count t ≤ room t = omega (arith, count_spans t, ap length e, w.1, room_same s t len) in
        state_rows t h k ∙ (ap well_formed e ∙ w.0)

pub insert_state : (s t : List ℕ) (at : ℕ) (x : FugueSpan) (r : ℕ) → is_state s ≡ true → length t ≡ length s → Edited (insert_number s at x) (insert_list s at x) r s t → is_state t ≡ true
insert_state s t at x r st len v =
    edited_state (insert_number s at x) (insert_list s at x) r s t st len (λ e. insert_keeps (room s) (spans_of s) at x (number_state s at x st ∙ e)) v
