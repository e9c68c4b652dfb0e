-- how many rows an insert adds to the joined list: two inside a row, none where the new span joins its left neighbour, else one
use Prim.Native.Nat.{ℕ, zero, suc, ◌+◌, ◌-◌, ◌<◌, ◌≤◌}
use mathlib.Core.Path.{◌≡◌, refl, sym, ap, ap₂, subst, ◌∙◌}
use mathlib.Core.Logic.{◌⊎◌, inl, inr}
use mathlib.Core.Bool.{Bool, true, false, not, ◌&&◌, ◌||◌, cond, true≢false, false≢true}
use mathlib.Core.List.{List, [], ◌∷◌, ◌++◌, append_assoc, append-nil}
use native.Mathlib.Omega.{arith}
use lib.ListN.{length, get_or, take, drop, take-append-drop, length-append, length-take}
use lib.IntN.{pos}
use Rattle.span.specs.declared.ids.Id.{Id}
use Rattle.span.specs.Maybe.{OptId}
use Rattle.std.specs.Prelude.{None as Nothing, Some as At}
use Rattle.span.specs.declared.status.Status.{Status}
use Rattle.span.specs.declared.span.FugueSpan.{FugueSpan}
use Rattle.span.specs.Status.{activated, eq_z}
use Rattle.span.specs.Ids.{inc_id, same_opt}
use Rattle.span.specs.Span.{len_span, span_code, shift, left_of, part_span, joins_span, merged_span}
use Rattle.span.specs.Units.{tab, unit_at, units_of, expand, Apart, Joined, join_on, join}
use Rattle.span.proofs.IdsLaws.{inc_zero}
use Rattle.span.proofs.Same.{same_opt_refl}
use Rattle.span.proofs.SpanLaws.{span_ok}
use Rattle.span.proofs.Views.{len_pos}
use Rattle.span.proofs.UnitLaws.{run_eq, join_to, unit_id}
use Rattle.span.proofs.Unique.{AllUnits, join_joined, expand-join, join-expand, cut_merge, cut_join, one_unit}
use Rattle.span.proofs.ForRope.{unit_is, span_units, list_units, expand-append}
use Rattle.units.specs.Place.{mem_id, Distinct, front, behind, shown, last_id, first_past, up_to, run, put_at, verdict, pr_pos, scan_place, with_origins, origin_left, origin_right, insert_units}
use Rattle.rope.specs.Spans.{Fresh, Named, AllNamed, width, run_s}
use Rattle.units.specs.Store.{named, origins_named}
use Rattle.rope.proofs.Lists.{or_left, or_right, and-true, mem_append, mem_none, distinct_right, distinct_apart}
use Rattle.rope.proofs.Edges.{left_of_merged, part_to_whole, joined_right, no_join}
use Rattle.rope.proofs.Steps.{joined_ok}
use Rattle.rope.proofs.Scanned.{futures, up_to_lem, scan_law}
use Rattle.rope.proofs.Seeks.{front_zero}
use Rattle.rope.proofs.Whole.{with_ok, with_fresh}
use Rattle.rope.proofs.Keeps.{UnitsOk}
use Rattle.rope.proofs.Streaming.{units_append}
use Rattle.tracker.specs.Fits.{meets, meet, bit}
use Rattle.tracker.proofs.Meets.{both_ways, meet_count}

-- ---- two that join

left_run : (u w : FugueSpan) → joins_span u w ≡ true → w.origin_left ≡ left_of u (len_span u)
unfolding shift
left_run u w e = sym (ap (λ (s : FugueSpan). s.origin_left) (run_eq u w (join_to u w e).on))

id_run : (u w : FugueSpan) → joins_span u w ≡ true → inc_id u.id (len_span u) ≡ w.id
unfolding shift
id_run u w e = ap (λ (s : FugueSpan). s.id) (run_eq u w (join_to u w e).on)

status_run : (u w : FugueSpan) → joins_span u w ≡ true → u.status ≡ w.status
unfolding shift
status_run u w e = ap (λ (s : FugueSpan). s.status) (run_eq u w (join_to u w e).on)

unit_left : (u w : FugueSpan) → len_span u ≡ 1 → joins_span u w ≡ true → w.origin_left ≡ At u.id
unfolding left_of
unit_left u w n e = left_run u w e ∙ (ap (left_of u) n ∙ ap At (inc_zero u.id))

only : (y : FugueSpan) → span_code y ≡ 0 → len_span y ≡ 1 → unit_at y 0 ≡ y
only y ok e = sym (unit_is y 0 y (omega (arith, e))) ∙ ap (λ (l : List FugueSpan). get_or l 0 y) (one_unit y ok e)

-- a unit joins a span if it joins its first unit
pub first_join : (u y : FugueSpan) → span_code y ≡ 0 → joins_span u (unit_at y 0) ≡ joins_span u y
first_join u y ok = both_ways (joins_span u (unit_at y 0)) (joins_span u y) (part_to_whole u y 1 ok) (back (len_span y) refl)
  where
    back : (n : ℕ) → len_span y ≡ n → joins_span u y ≡ true → joins_span u (unit_at y 0) ≡ true
    back zero e h = absurd (let p = len_pos y.content (span_ok y ok).form in omega (arith, p, e))
    back (suc zero) e h = ap (joins_span u) (only y ok e) ∙ h
    back (suc (suc n)) e h =
        let z : 0 < 1 = omega arith in
        let k : 1 < len_span y = omega (arith, e) in
        left_of_merged u (part_span y 0 1) (part_span y 1 (len_span y)) (cut_join y 1 ok z k) (ap (joins_span u) (cut_merge y 1 ok z k) ∙ h)

-- ---- meeting

pub meet_right : (A : List FugueSpan) (u : FugueSpan) (E Z : List FugueSpan) → meet (A ++ (u ∷ E)) Z ≡ meet (u ∷ E) Z
unfolding meet
meet_right [] u E Z = refl
meet_right (a ∷ []) u E Z = refl
meet_right (a ∷ (b ∷ A)) u E Z = meet_right (b ∷ A) u E Z

pub meet_last : (A : List FugueSpan) (u : FugueSpan) (Z : List FugueSpan) → meet (A ++ (u ∷ [])) Z ≡ meets u Z
unfolding meet
meet_last A u Z = meet_right A u [] Z

pub meet-nil : (E : List FugueSpan) → meet E [] ≡ false
unfolding meet meets
meet-nil [] = refl
meet-nil (u ∷ []) = refl
meet-nil (u ∷ (v ∷ E)) = meet-nil (v ∷ E)

-- what the last one joins has it as origin left
left_in : (E : List FugueSpan) (w : FugueSpan) (Z : List FugueSpan) → AllUnits E → meet E (w ∷ Z) ≡ true → mem_id w.origin_left E ≡ true
unfolding meet meets mem_id AllUnits
left_in [] w Z a e = absurd (false≢true e)
left_in (u ∷ []) w Z a e =
    or_left (same_opt w.origin_left (At u.id)) false (ap (λ (o : OptId). same_opt o (At u.id)) (unit_left u w a.1.0 e) ∙ same_opt_refl (At u.id))
left_in (u ∷ (v ∷ E)) w Z a e = or_right (same_opt w.origin_left (At u.id)) (mem_id w.origin_left (v ∷ E)) (left_in (v ∷ E) w Z a.1.1 e)

-- what it joins has the next id
two_ids : (E : List FugueSpan) (v w : FugueSpan) (Y Z : List FugueSpan) → meet E (v ∷ Y) ≡ true → meet E (w ∷ Z) ≡ true → v.id ≡ w.id
unfolding meet meets
two_ids [] v w Y Z e f = absurd (false≢true e)
two_ids (u ∷ []) v w Y Z e f = sym (id_run u v e) ∙ id_run u w f
two_ids (u ∷ (t ∷ E)) v w Y Z e f = two_ids (t ∷ E) v w Y Z e f

-- ---- the cursor

pub front-behind : (l : List FugueSpan) (n : ℕ) → front l n ++ behind l n ≡ l
unfolding front behind
front-behind [] n = refl
front-behind (v ∷ l) zero = refl
front-behind (v ∷ l) (suc n) = ap (λ (k : List FugueSpan). v ∷ k) (front-behind l (cond (activated v.status) n (suc n)))

put_split : (n : ℕ) (new l : List FugueSpan) → put_at n new l ≡ take n l ++ (new ++ drop n l)
unfolding put_at
put_split zero new l = refl
put_split (suc n) new [] = sym (append-nil new)
put_split (suc n) new (v ∷ l) = ap (λ (k : List FugueSpan). v ∷ k) (put_split n new l)

act_future : (st : Status) → activated st ≡ true → st.future ≡ false
unfolding activated
act_future st e = go st.future refl e
  where
    go : (t : Bool) → st.future ≡ t → (not t && eq_z st.delete_times (pos 0)) ≡ true → st.future ≡ false
    go true p q = absurd (false≢true q)
    go false p q = p

front_some : (l : List FugueSpan) (a : ℕ) → suc a ≤ shown l → front l (suc a) ≡ [] → ⊥
unfolding front shown
front_some [] a h e = omega arith
front_some (v ∷ l) a h e = let z : suc (length (front l (cond (activated v.status) a (suc a)))) ≡ 0 = ap length e in omega (arith, z)

-- the unit before the cursor is visible, so one that it joins is not future
last_seen : (l : List FugueSpan) (a : ℕ) (n : FugueSpan) (Z : List FugueSpan) → a ≤ shown l → meet (front l a) (n ∷ Z) ≡ true → n.status.future ≡ false
unfolding front shown meet
last_seen [] a n Z h e = absurd (false≢true e)
last_seen (v ∷ l) zero n Z h e = absurd (false≢true e)
last_seen (v ∷ l) (suc a) n Z h e = go (λ b k f. last_seen l b n Z k f) (activated v.status) refl h e
  where
    pick : (F : List FugueSpan) → (F ≡ [] → n.status.future ≡ false) → (meet F (n ∷ Z) ≡ true → n.status.future ≡ false) → meet (v ∷ F) (n ∷ Z) ≡ true → n.status.future ≡ false
    pick [] f g q = f refl
    pick (b ∷ F) f g q = g q

    go : ((b : ℕ) → b ≤ shown l → meet (front l b) (n ∷ Z) ≡ true → n.status.future ≡ false) → (t : Bool) → activated v.status ≡ t
        → suc a ≤ cond t (suc (shown l)) (shown l) → meet (v ∷ front l (cond t a (suc a))) (n ∷ Z) ≡ true → n.status.future ≡ false
    go rec true p k q =
        pick (front l a)
        (λ z. let j : joins_span v n ≡ true = (unfold meets in sym (ap (λ (F : List FugueSpan). meet (v ∷ F) (n ∷ Z)) z) ∙ q) in
        ap (λ (s : Status). s.future) (sym (status_run v n j)) ∙ act_future v.status p)
        (rec a (omega arith)) q
    go rec false p k q = pick (front l (suc a)) (λ z. absurd (front_some l a k z)) (rec (suc a) k) q

-- ---- a new span between two lists

units_split : (A B : List FugueSpan) → AllUnits (A ++ B) → AllUnits A × AllUnits B
unfolding AllUnits
units_split [] B a = (tt, a)
units_split (u ∷ A) B a = let q = units_split A B a.1.1 in ((a.0, (a.1.0, q.0)), q.1)

apart_on : (y d : FugueSpan) (us r : List FugueSpan) → span_code y ≡ 0 → Fresh y us → Named d us → Apart y (join_on d r)
unfolding Apart join_on
apart_on y d us [] ok new n = no_join y d us ok new n
apart_on y d us (t ∷ r) ok new n = go (joins_span d t)
  where
    go : (b : Bool) → Apart y (cond b (merged_span d t ∷ r) (d ∷ (t ∷ r)))
    go true = no_join y (merged_span d t) us ok new (unfold Named merged_span in n)
    go false = no_join y d us ok new n

apart_join : (y : FugueSpan) (us D : List FugueSpan) → span_code y ≡ 0 → Fresh y us → AllNamed D us → Apart y (join D)
unfolding AllNamed join Apart
apart_join y us [] ok new n = tt
apart_join y us (d ∷ D) ok new n = apart_on y d us (join D) ok new n.0

module _ (y : FugueSpan) (us C D : List FugueSpan) (ok : span_code y ≡ 0) (each : AllUnits (C ++ D)) (fresh : Fresh y us) (names : AllNamed D us) (fine : AllUnits (units_of y)) where
  parts : AllUnits C × AllUnits D
  parts = units_split C D each

  after : join (units_of y ++ D) ≡ y ∷ join D
  unfolding Joined expand
  after =
      ap (λ (l : List FugueSpan). join (units_of y ++ l)) (sym (expand-join D parts.1)) ∙
      join-expand (y ∷ join D) (ok, (apart_join y us D ok fresh names, join_joined D parts.1))

  pub splice_count : length (join (C ++ (units_of y ++ D))) + bit (meet C (units_of y ++ D)) ≡ length (join (C ++ D)) + bit (meet C D) + 1
  splice_count =
      let a = meet_count C (units_of y ++ D) parts.0 (units_append (units_of y) D fine parts.1) (units_append C (units_of y ++ D) parts.0 (units_append (units_of y) D fine parts.1)) in
      let b = meet_count C D parts.0 parts.1 each in
      let e : length (join (units_of y ++ D)) ≡ suc (length (join D)) = ap length after in
      omega (arith, a, b, e)

-- ---- the insert

pub last_snoc : (r : OptId) (A : List FugueSpan) (u : FugueSpan) → last_id r (A ++ (u ∷ [])) ≡ At u.id
unfolding last_id
last_snoc r [] u = refl
last_snoc r (a ∷ A) u = last_snoc (At a.id) A u

lefts_named : (l us : List FugueSpan) → origins_named l us ≡ true → AllNamed l us
unfolding origins_named AllNamed Named named
lefts_named [] us e = tt
lefts_named (s ∷ l) us e =
    let a = and-true (named s.origin_left us && named s.origin_right us) (origins_named l us) e in
    let b = and-true (named s.origin_left us) (named s.origin_right us) a.0 in
    ((λ i f. ap (λ (o : OptId). named o us) (sym f) ∙ b.0), lefts_named l us a.1)

named_suffix : (C D us : List FugueSpan) → AllNamed (C ++ D) us → AllNamed D us
unfolding AllNamed
named_suffix [] D us a = a
named_suffix (c ∷ C) D us a = named_suffix C D us a.1

joined_take : (r : ℕ) (l : List FugueSpan) → Joined l → Joined (take r l)
unfolding Joined Apart
joined_take zero l j = tt
joined_take (suc r) [] j = tt
joined_take (suc r) (s ∷ l) j = (j.0, (near r l j.1.0, joined_take r l j.1.1))
  where
    near : (k : ℕ) (m : List FugueSpan) → Apart s m → Apart s (take k m)
    near zero m a = tt
    near (suc k) [] a = tt
    near (suc k) (t ∷ m) a = a

bit_none : (b : Bool) → bit b ≡ 0 → b ≡ false
bit_none true e = absurd (omega (arith, e))
bit_none false e = refl

-- no join crosses the border of two rows
rows_apart : (R : List FugueSpan) (r : ℕ) → Joined R → meet (expand (take r R)) (expand (drop r R)) ≡ false
rows_apart R r j =
    let T = take r R in
    let U = drop r R in
    let jt : Joined T = joined_take r R j in
    let ju : Joined U = joined_right T U (subst Joined (sym (take-append-drop r R)) j) in
    let e : expand T ++ expand U ≡ expand R = sym (expand-append T U) ∙ ap expand (take-append-drop r R) in
    let m = meet_count (expand T) (expand U) (list_units T jt) (list_units U ju) (subst AllUnits (sym e) (list_units R j)) in
    let a : length (join (expand T ++ expand U)) ≡ length R = ap (λ (l : List FugueSpan). length (join l)) e ∙ ap length (join-expand R j) in
    let b : length (join (expand T)) ≡ length T = ap length (join-expand T jt) in
    let c : length (join (expand U)) ≡ length U = ap length (join-expand U ju) in
    let d : length R ≡ length T + length U = ap length (sym (take-append-drop r R)) ∙ length-append T U in
    bit_none (meet (expand T) (expand U)) (let z : bit (meet (expand T) (expand U)) ≡ 0 = omega (arith, m, a, b, c, d) in z)

last_mem : (r : OptId) (F : List FugueSpan) → (last_id r F ≡ r) ⊎ (mem_id (last_id r F) F ≡ true)
unfolding last_id mem_id
last_mem r [] = inl refl
last_mem r (v ∷ F) = go (last_mem (At v.id) F)
  where
    go : (last_id (At v.id) F ≡ At v.id) ⊎ (mem_id (last_id (At v.id) F) F ≡ true) → (last_id (At v.id) F ≡ r) ⊎ ((same_opt (last_id (At v.id) F) (At v.id) || mem_id (last_id (At v.id) F) F) ≡ true)
    go (inl e) = inr (or_left (same_opt (last_id (At v.id) F) (At v.id)) (mem_id (last_id (At v.id) F) F) (ap (λ (o : OptId). same_opt o (At v.id)) e ∙ same_opt_refl (At v.id)))
    go (inr e) = inr (or_right (same_opt (last_id (At v.id) F) (At v.id)) (mem_id (last_id (At v.id) F) F) e)

split_at : (A B T : List FugueSpan) → T ≡ A ++ B → (take (length A) T ≡ A) × (drop (length A) T ≡ B)
split_at [] B T e = (refl, e)
split_at (a ∷ A) B T e = let q = split_at A B (A ++ B) refl in (ap (take (suc (length A))) e ∙ ap (λ (l : List FugueSpan). a ∷ l) q.0, ap (drop (suc (length A))) e ∙ q.1)

module _ (at : ℕ) (x : FugueSpan) (us : List FugueSpan) (w : UnitsOk us) (ok : span_code x ≡ 0) (new : Fresh x us) where
  abbrev F : List FugueSpan
  F = front us at

  abbrev B : List FugueSpan
  B = behind us at

  abbrev l : OptId
  l = origin_left at us

  abbrev o : OptId
  o = origin_right at us

  abbrev y : FugueSpan
  y = with_origins x l o

  abbrev p : ℕ
  p = scan_place us B l o x.id.peer

  abbrev C : List FugueSpan
  C = F ++ take p B

  abbrev D : List FugueSpan
  D = drop p B

  abbrev more : ℕ
  more = length (join (insert_units at x us))

  abbrev k : ℕ
  k = length (join us)

  whole : C ++ D ≡ us
  whole = append_assoc F (take p B) D ∙ (ap (λ (m : List FugueSpan). F ++ m) (take-append-drop p B) ∙ front-behind us at)

  result : insert_units at x us ≡ C ++ (units_of y ++ D)
  unfolding insert_units
  result = ap (λ (m : List FugueSpan). F ++ m) (put_split p (units_of y) B) ∙ sym (append_assoc F (take p B) (units_of y ++ D))

  pub fine_y : span_code y ≡ 0
  fine_y = with_ok x l o ok

  pub new_y : Fresh y us
  new_y = with_fresh x l o us new

  count : more + bit (meet C (units_of y ++ D)) ≡ k + bit (meet C D) + 1
  count =
      ap (λ (m : List FugueSpan). length (join m) + bit (meet C (units_of y ++ D))) result ∙
      (splice_count y us C D fine_y (subst AllUnits (sym whole) w.each) new_y
      (named_suffix C D us (subst (λ (m : List FugueSpan). AllNamed m us) (sym whole) (lefts_named us us w.origins))) (span_units y fine_y) ∙
      ap (λ (m : List FugueSpan). length (join m) + bit (meet C D) + 1) whole)

  bit_most : (b : Bool) → bit b ≤ 1
  bit_most true = omega arith
  bit_most false = omega arith

  -- at most two rows more
  pub at_most : more ≤ k + 2
  at_most = omega (arith, count, bit_most (meet C D))

  pub apart : mem_id l B ≡ false
  unfolding origin_left
  apart = go (last_mem Nothing F)
    where
      go : (last_id Nothing F ≡ Nothing) ⊎ (mem_id (last_id Nothing F) F ≡ true) → mem_id (last_id Nothing F) B ≡ false
      go (inl e) = ap (λ (i : OptId). mem_id i B) e ∙ mem_none B
      go (inr e) = distinct_apart (last_id Nothing F) F B (subst Distinct (sym (front-behind us at)) w.distinct) e

  each_b : AllUnits B
  each_b = (units_split F B (subst AllUnits (sym (front-behind us at)) w.each)).1

  -- the place is the border of a row, if the cursor is
  place : p ≡ width (run_s (verdict us l o (pr_pos us l o) x.id.peer) [] false 0 0 (join B)) (join B)
  unfolding scan_place width expand origin_right
  place =
      ap (λ (m : List FugueSpan). run (verdict us l o (pr_pos us l o) x.id.peer) [] false 0 0 m)
      (up_to_lem B (distinct_right F B (subst Distinct (sym (front-behind us at)) w.distinct)) ∙ ap futures (sym (expand-join B each_b))) ∙
      scan_law us l o (pr_pos us l o) x.id.peer [] (join B) (join B) false 0 refl (joined_ok (join B) (join_joined B each_b))
      (ap (mem_id l) (expand-join B each_b) ∙ apart)

  parted : meet (take p B) D ≡ false
  unfolding width
  parted =
      let R = join B in
      let r = run_s (verdict us l o (pr_pos us l o) x.id.peer) [] false 0 0 R in
      let e : B ≡ expand (take r R) ++ expand (drop r R) = sym (expand-join B each_b) ∙ (ap expand (sym (take-append-drop r R)) ∙ expand-append (take r R) (drop r R)) in
      let q = split_at (expand (take r R)) (expand (drop r R)) B e in
      ap₂ meet (ap (λ (n : ℕ). take n B) place ∙ q.0) (ap (λ (n : ℕ). drop n B) place ∙ q.1) ∙ rows_apart R r (join_joined B each_b)

  first_of : units_of y ≡ unit_at y 0 ∷ tab (unit_at y) 1 (len_span y - 1)
  unfolding units_of tab
  first_of = let h = len_pos y.content (span_ok y fine_y).form in ap (tab (unit_at y) 0) (let e : len_span y ≡ suc (len_span y - 1) = omega (arith, h) in e)

  first_left : (unit_at y 0).origin_left ≡ l
  unfolding shift left_of with_origins
  first_left = refl

  -- past the cursor nothing joins the new span
  alone : meet (take p B) (units_of y ++ D) ≡ false
  alone = go (meet (take p B) (units_of y ++ D)) refl
    where
      go : (b : Bool) → meet (take p B) (units_of y ++ D) ≡ b → meet (take p B) (units_of y ++ D) ≡ false
      go false e = e
      go true e =
          let q : meet (take p B) (unit_at y 0 ∷ (tab (unit_at y) 1 (len_span y - 1) ++ D)) ≡ true = ap (λ (m : List FugueSpan). meet (take p B) (m ++ D)) (sym first_of) ∙ e in
          let a : AllUnits (take p B) = (units_split (take p B) D (subst AllUnits (sym (take-append-drop p B)) each_b)).0 in
          let m : mem_id l (take p B) ≡ true = ap (λ (i : OptId). mem_id i (take p B)) (sym first_left) ∙ left_in (take p B) (unit_at y 0) (tab (unit_at y) 1 (len_span y - 1) ++ D) a q in
          let z : mem_id l B ≡ true = ap (mem_id l) (sym (take-append-drop p B)) ∙ (mem_append l (take p B) D ∙ or_left (mem_id l (take p B)) (mem_id l D) m) in
          absurd (true≢false (sym z ∙ apart))

  -- the place is past the cursor: one row more
  pub one_past : 0 < p → 0 < length B → more ≡ k + 1
  one_past h b = go (take p B) refl
    where
      go : (E : List FugueSpan) → take p B ≡ E → more ≡ k + 1
      go [] e = absurd (let z : length (take p B) ≡ 0 = ap length e in let q = length-take p B in omega (arith, z, q, h, b))
      go (u ∷ E) e =
          let a : meet C (units_of y ++ D) ≡ false = ap (λ (m : List FugueSpan). meet (F ++ m) (units_of y ++ D)) e ∙ (meet_right F u E (units_of y ++ D) ∙ (ap (λ (m : List FugueSpan). meet m (units_of y ++ D)) (sym e) ∙ alone)) in
          let c : meet C D ≡ false = ap (λ (m : List FugueSpan). meet (F ++ m) D) e ∙ (meet_right F u E D ∙ (ap (λ (m : List FugueSpan). meet m D) (sym e) ∙ parted)) in
          let q : more + bit false ≡ k + bit false + 1 = ap (λ (t : Bool). more + bit t) (sym a) ∙ (count ∙ ap (λ (t : Bool). k + bit t + 1) c) in
          omega (arith, q)

  -- the place is the cursor
  at_cursor : p ≡ 0 → more + bit (meet F (units_of y ++ B)) ≡ k + bit (meet F B) + 1
  at_cursor e =
      let c : C ≡ F = ap (λ (n : ℕ). F ++ take n B) e ∙ append-nil F in
      let d : D ≡ B = ap (λ (n : ℕ). drop n B) e in
      ap₂ (λ (m n : List FugueSpan). more + bit (meet m (units_of y ++ n))) (sym c) (sym d) ∙ (count ∙ ap₂ (λ (m n : List FugueSpan). k + bit (meet m n) + 1) c d)

  empty_none : B ≡ [] → p ≡ 0
  unfolding scan_place run up_to
  empty_none e = ap (λ (m : List FugueSpan). run (verdict us l o (pr_pos us l o) x.id.peer) [] false 0 0 (up_to o m)) e

  zero_or : (n : ℕ) → (n ≡ 0) ⊎ (0 < n)
  zero_or zero = inl refl
  zero_or (suc n) = inr (omega arith)

  -- a cursor that no join crosses, and a span that joins nothing: one row more
  pub one_more : meet F B ≡ false → (p ≡ 0 → meet F (units_of y ++ B) ≡ false) → more ≡ k + 1
  one_more a f = go (zero_or p)
    where
      none : p ≡ 0 → more ≡ k + 1
      none e =
          let q : more + bit false ≡ k + bit false + 1 = ap (λ (t : Bool). more + bit t) (sym (f e)) ∙ (at_cursor e ∙ ap (λ (t : Bool). k + bit t + 1) a) in
          omega (arith, q)

      go : (p ≡ 0) ⊎ (0 < p) → more ≡ k + 1
      go (inl e) = none e
      go (inr h) = pick B refl
        where
          pick : (m : List FugueSpan) → B ≡ m → more ≡ k + 1
          pick [] e = none (empty_none e)
          pick (b ∷ m) e = one_past h (let z : length B ≡ suc (length m) = ap length e in omega (arith, z))

  clash : (b : FugueSpan) (m : List FugueSpan) → B ≡ b ∷ m → b.id ≡ inc_id y.id 0 → ⊥
  unfolding Fresh mem_id
  clash b m e i =
      let h : 0 < len_span y = len_pos y.content (span_ok y fine_y).form in
      let q : mem_id (At b.id) (b ∷ m) ≡ true = or_left (same_opt (At b.id) (At b.id)) (mem_id (At b.id) m) (same_opt_refl (At b.id)) in
      let z : mem_id (At b.id) us ≡ true = ap (mem_id (At b.id)) (sym (front-behind us at)) ∙ (mem_append (At b.id) F B ∙ or_right (mem_id (At b.id) F) (mem_id (At b.id) B) (ap (mem_id (At b.id)) e ∙ q)) in
      true≢false (sym z ∙ (ap (λ (j : Id). mem_id (At j) us) i ∙ new_y 0 h))

  -- new ids join nothing where another unit has the next id
  not_both : meet F B ≡ true → meet F (units_of y ++ B) ≡ false
  not_both a = pick B refl
    where
      pick : (m : List FugueSpan) → B ≡ m → meet F (units_of y ++ B) ≡ false
      pick [] e = absurd (false≢true (sym (meet-nil F) ∙ (ap (meet F) (sym e) ∙ a)))
      pick (b ∷ m) e = go (meet F (units_of y ++ B)) refl
        where
          go : (t : Bool) → meet F (units_of y ++ B) ≡ t → meet F (units_of y ++ B) ≡ false
          go false q = q
          go true q =
              let i : b.id ≡ (unit_at y 0).id = two_ids F b (unit_at y 0) m (tab (unit_at y) 1 (len_span y - 1) ++ B) (ap (meet F) (sym e) ∙ a) (ap (λ (n : List FugueSpan). meet F (n ++ B)) (sym first_of) ∙ q) in
              absurd (clash b m e (i ∙ unit_id y 0))

  -- a unit that is not future ends the scan before it starts
  past_none : (b : FugueSpan) (m : List FugueSpan) → B ≡ b ∷ m → b.status.future ≡ false → p ≡ 0
  unfolding scan_place run up_to origin_right first_past
  past_none b m e f =
      let c : o ≡ At b.id = ap first_past e ∙ ap (λ (t : Bool). cond t (first_past m) (At b.id)) f in
      let u : up_to o B ≡ [] = ap₂ up_to c e ∙ ap (λ (t : Bool). cond t [] (b ∷ up_to (At b.id) m)) (same_opt_refl (At b.id)) in
      ap (λ (n : List FugueSpan). run (verdict us l o (pr_pos us l o) x.id.peer) [] false 0 0 n) u

  -- the cursor is inside a row: two rows more
  pub two_more : meet F B ≡ true → at ≤ shown us → more ≡ k + 2
  two_more a h = pick B refl
    where
      pick : (m : List FugueSpan) → B ≡ m → more ≡ k + 2
      pick [] e = absurd (false≢true (sym (meet-nil F) ∙ (ap (meet F) (sym e) ∙ a)))
      pick (b ∷ m) e =
          let z : p ≡ 0 = past_none b m e (last_seen us at b m h (ap (meet F) (sym e) ∙ a)) in
          let q : more + bit false ≡ k + bit true + 1 = ap (λ (t : Bool). more + bit t) (sym (not_both a)) ∙ (at_cursor z ∙ ap (λ (t : Bool). k + bit t + 1) a) in
          omega (arith, q)

  -- the new span joins the unit before the cursor: no row more
  pub none_more : p ≡ 0 → meet F (units_of y ++ B) ≡ true → more ≡ k
  none_more z j = go (meet F B) refl
    where
      go : (t : Bool) → meet F B ≡ t → more ≡ k
      go true a = absurd (true≢false (sym j ∙ not_both a))
      go false a =
          let q : more + bit true ≡ k + bit false + 1 = ap (λ (t : Bool). more + bit t) (sym j) ∙ (at_cursor z ∙ ap (λ (t : Bool). k + bit t + 1) a) in
          omega (arith, q)

  -- no join crosses the cursor: one row more at the most
  pub one_most : meet F B ≡ false → more ≤ k + 1
  one_most a = go (meet F (units_of y ++ B)) refl (zero_or p)
    where
      go : (t : Bool) → meet F (units_of y ++ B) ≡ t → (p ≡ 0) ⊎ (0 < p) → more ≤ k + 1
      go false e z = omega (arith, one_more a (λ q. e))
      go true e (inl z) = omega (arith, none_more z e)
      go true e (inr z) = omega (arith, one_more a (λ q. absurd (omega (arith, z, q))))

  -- the span joins nothing: one row more at least
  pub some_more : at ≤ shown us → (p ≡ 0 → meet F (units_of y ++ B) ≡ false) → k + 1 ≤ more
  some_more h f = go (meet F B) refl
    where
      go : (t : Bool) → meet F B ≡ t → k + 1 ≤ more
      go true e = omega (arith, two_more e h)
      go false e = omega (arith, one_more e f)

  -- at the start
  pub start_more : at ≡ 0 → more ≡ k + 1
  unfolding meet
  start_more e =
      let f : F ≡ [] = ap (front us) e ∙ front_zero us in
      one_more (ap (λ (m : List FugueSpan). meet m B) f) (λ z. ap (λ (m : List FugueSpan). meet m (units_of y ++ B)) f)

  -- the test on the unit before the cursor
  pub joins_last : (A : List FugueSpan) (u : FugueSpan) → F ≡ A ++ (u ∷ []) → meet F (units_of y ++ B) ≡ joins_span u y
  unfolding meets
  joins_last A u e =
      ap₂ (λ (m n : List FugueSpan). meet m (n ++ B)) e first_of ∙
      (meet_last A u (unit_at y 0 ∷ (tab (unit_at y) 1 (len_span y - 1) ++ B)) ∙ first_join u y fine_y)
