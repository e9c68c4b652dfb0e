-- the target ranges of a delete, taken from left to right: ids in a row make one range, and a delete takes the ids of a part of each span
use Prim.Native.Nat.{ℕ, zero, suc, ◌+◌, ◌-◌, ◌<◌, ◌≤◌, min}
use mathlib.Core.Path.{◌≡◌, refl, sym, ap, ap₂, subst, ◌∙◌}
use mathlib.Core.Bool.{Bool, true, false, cond}
use mathlib.Core.List.{List, [], ◌∷◌, ◌++◌, map, map-append, append_assoc}
use mathlib.Core.Logic.{◌⊎◌, inl, inr}
use native.Mathlib.Omega.{arith}
use native.Mathlib.Nat.{add-zero, zero-add}
use lib.ListN.{length}
use Rattle.span.specs.declared.ids.Id.{Id}
use Rattle.span.specs.declared.span.FugueSpan.{FugueSpan}
use Rattle.span.specs.Ids.{room_of, inc_id, same_id}
use Rattle.span.specs.Status.{activated}
use Rattle.span.specs.Span.{len_span, shift, active_len}
use Rattle.span.specs.Units.{tab, unit_at, units_of, expand}
use Rattle.span.proofs.IdsLaws.{inc_zero, inc_inc}
use Rattle.span.proofs.Same.{same_id-true, same_id_refl}
use Rattle.span.proofs.UnitLaws.{room_join}
use Rattle.store.specs.Row.{rows}
use Rattle.rope.specs.declared.change.Delete.{Delete}
use Rattle.rope.specs.declared.change.Part.{Part}
use Rattle.units.specs.Place.{behind}
use Rattle.rope.specs.Spans.{Stored}
use Rattle.units.specs.Change.{first_shown, taken}
use Rattle.rope.specs.Pieces.{delete_cut, took_of, delete_after, CanDelete}
use Rattle.rope.proofs.Offsets.{unit_status}
use Rattle.rope.proofs.Seeks.{behind_zero, behind_in, behind_vis, behind_inv, active_is}
use Rattle.rope.proofs.Cuts.{can_after, delete_most}
use Rattle.rope.proofs.Queue.{lt-or}
use Rattle.history.specs.Edit.{Version, Range, Held}
use Rattle.history.specs.Checkout.{range, range_on, ranges_of}
use Rattle.tracker.specs.declared.row.Target.{Target}
use Rattle.tracker.specs.Maybe.{OptTarget}
use Rattle.std.specs.Prelude.{None as Nothing, Some as Is}
use Rattle.tracker.specs.declared.range.Taken.{Taken}
use Rattle.tracker.specs.declared.seen.Step.{Step}
use Rattle.tracker.specs.Looks.{seen}
use Rattle.tracker.specs.Ahead.{ahead, Place, Next}
use Rattle.tracker.specs.Takes.{ids_from, last_ids, last_len, LastOk, ids_most, ranges_with, TakesOn, ids_taken}
use Rattle.tracker.proofs.Nexts.{ahead_start, ahead_end, ahead_few, place_start, next_length, still_self}

-- ---- ids in a row

inc_suc : (i : Id) (n : ℕ) → inc_id (inc_id i 1) n ≡ inc_id i (suc n)
inc_suc i n = inc_inc i 1 n ∙ ap (inc_id i) (let e : 1 + n ≡ suc n = omega arith in e)

ids_append : (m n : ℕ) (i : Id) → ids_from i (m + n) ≡ ids_from i m ++ ids_from (inc_id i m) n
unfolding ids_from
ids_append zero n i = ap₂ ids_from (sym (inc_zero i)) (zero-add n)
ids_append (suc m) n i =
    ap (ids_from i) (let e : suc m + n ≡ suc (m + n) = omega arith in e) ∙
    ap (λ (l : List Id). i ∷ l) (ids_append m n (inc_id i 1) ∙ ap (λ (j : Id). ids_from (inc_id i 1) m ++ ids_from j n) (inc_suc i m))

-- the first range does not begin at k
Off : Id → List Range → Type 0
Off k [] = Unit {0}
Off k (r ∷ rs) = same_id k r.id ≡ false

off_head : (k j : Id) (is : List Id) → same_id k j ≡ false → Off k (ranges_of (j ∷ is))
unfolding Off ranges_of range_on
off_head k j is e = go (ranges_of is)
  where
    go : (rs : List Range) → Off k (range_on j rs)
    go [] = e
    go (r ∷ rs) = pick (same_id (inc_id j 1) r.id)
      where
        pick : (t : Bool) → Off k (cond t (range j (suc r.len) ∷ rs) (range j 1 ∷ (r ∷ rs)))
        pick true = e
        pick false = e

on_off : (i : Id) (rs : List Range) → Off (inc_id i 1) rs → range_on i rs ≡ range i 1 ∷ rs
unfolding Off range_on
on_off i [] o = refl
on_off i (r ∷ rs) o = ap (λ (t : Bool). cond t (range i (suc r.len) ∷ rs) (range i 1 ∷ (r ∷ rs))) o

on_next : (i : Id) (n : ℕ) (rs : List Range) → range_on i (range (inc_id i 1) n ∷ rs) ≡ range i (suc n) ∷ rs
unfolding range_on
on_next i n rs = ap (λ (t : Bool). cond t (range i (suc n) ∷ rs) (range i 1 ∷ (range (inc_id i 1) n ∷ rs))) (same_id_refl (inc_id i 1))

-- ids in a row that what comes after does not follow make one range
run : (n : ℕ) (i : Id) (is : List Id) → Off (inc_id i (suc n)) (ranges_of is) → ranges_of (ids_from i (suc n) ++ is) ≡ range i (suc n) ∷ ranges_of is
unfolding ids_from ranges_of
run zero i is o = on_off i (ranges_of is) o
run (suc n) i is o =
    ap (range_on i) (run n (inc_id i 1) is (subst (λ (k : Id). Off k (ranges_of is)) (sym (inc_suc i (suc n))) o)) ∙ on_next i (suc n) (ranges_of is)

run_some : (n : ℕ) (i : Id) (is : List Id) → 0 < n → Off (inc_id i n) (ranges_of is) → length (ranges_of (ids_from i n ++ is)) ≡ suc (length (ranges_of is))
run_some zero i is h o = absurd (omega arith)
run_some (suc n) i is h o = ap length (run n i is o)

-- ---- one more range

ranges_at : (b : ℕ) (o p : List Id) → o ≡ p → b + length (ranges_of o) ≡ b + length (ranges_of p)
ranges_at b o p e = ap (λ (l : List Id). b + length (ranges_of l)) e

module _ (t : Taken) (next : Target) (some : 0 < next.len) (room : room_of next.id next.len ≡ true) where
  pub on_first : (b : ℕ) → b ≡ t.before → t.last ≡ Nothing → TakesOn t next.id next.len (record { before = b; last = Is next })
  unfolding ids_most ranges_with
  on_first b eb e =
      let z : last_len t.last ≡ 0 = ap last_len e in
      record {
        last = (some, room);
        few = omega (arith, eb, z);
        ranges = λ is. ap₂ (λ (k : ℕ) (o : OptTarget). k + length (ranges_of (last_ids o ++ (ids_from next.id next.len ++ is)))) eb (sym e);
      }

  module _ (l : Target) (e : t.last ≡ Is l) (ok : LastOk t.last) where
    last_ok : (0 < l.len) × (room_of l.id l.len ≡ true)
    last_ok = subst LastOk e ok

    long : last_len t.last ≡ l.len
    long = ap last_len e

    pub last_room : room_of l.id l.len ≡ true
    last_room = last_ok.1

    pub last_most : ids_most t ≡ t.before + l.len
    unfolding ids_most
    last_most = ap (λ (k : ℕ). t.before + k) long

    pub on_both : (b : ℕ) → b ≡ t.before → same_id (inc_id l.id l.len) next.id ≡ true → TakesOn t next.id next.len (record { before = b; last = Is (record { id = l.id; len = l.len + next.len }) })
    unfolding ids_most ranges_with inc_id
    on_both b eb f =
        let at : inc_id l.id l.len ≡ next.id = same_id-true (inc_id l.id l.len) next.id f in
        record {
          last = (
            omega (arith, some),
            room_join l.id.counter l.len next.len last_ok.1 (subst (λ (j : Id). room_of j next.len ≡ true) (sym at) room),
          );
          few = omega (arith, eb, long);
          ranges = λ is.
              ap₂ (λ (k : ℕ) (o : List Id). k + length (ranges_of (o ++ is))) eb (ids_append l.len next.len l.id ∙ ap (λ (j : Id). ids_from l.id l.len ++ ids_from j next.len) at) ∙
              (ranges_at t.before ((ids_from l.id l.len ++ ids_from next.id next.len) ++ is) (ids_from l.id l.len ++ (ids_from next.id next.len ++ is)) (append_assoc (ids_from l.id l.len) (ids_from next.id next.len) is) ∙
              ap (λ (o : OptTarget). t.before + length (ranges_of (last_ids o ++ (ids_from next.id next.len ++ is)))) (sym e));
        }

    off : same_id (inc_id l.id l.len) next.id ≡ false → (n : ℕ) → 0 < n → (is : List Id) → Off (inc_id l.id l.len) (ranges_of (ids_from next.id n ++ is))
    unfolding ids_from
    off f zero h is = absurd (omega arith)
    off f (suc n) h is = off_head (inc_id l.id l.len) next.id (ids_from (inc_id next.id 1) n ++ is) f

    pub on_own : (b : ℕ) → b ≡ t.before + 1 → same_id (inc_id l.id l.len) next.id ≡ false → TakesOn t next.id next.len (record { before = b; last = Is next })
    unfolding ids_most ranges_with
    on_own b eb f =
        record {
          last = (some, room);
          few = omega (arith, eb, long, last_ok.0);
          ranges = λ is.
              (let z = run_some l.len l.id (ids_from next.id next.len ++ is) last_ok.0 (off f next.len some is) in
              let y : b + length (ranges_of (ids_from next.id next.len ++ is)) ≡ t.before + length (ranges_of (ids_from l.id l.len ++ (ids_from next.id next.len ++ is))) = omega (arith, z, eb) in
              y) ∙
              ap (λ (o : OptTarget). t.before + length (ranges_of (last_ids o ++ (ids_from next.id next.len ++ is)))) (sym e);
        }

pub before_most : (t : Taken) → t.before ≤ ids_most t
unfolding ids_most
before_most t = omega arith

-- no id is taken
pub on_none : (t : Taken) (i : Id) (k : ℕ) → LastOk t.last → k ≡ 0 → TakesOn t i k t
unfolding ids_most ranges_with ids_from
on_none t i k ok e =
    record { last = ok; few = omega arith; ranges = λ is. ap (λ (n : ℕ). t.before + length (ranges_of (last_ids t.last ++ (ids_from i n ++ is)))) (sym e) }

module _ (t : Taken) where
  pub many_none : t.last ≡ Nothing → t.before ≡ ranges_with t []
  unfolding ranges_with ranges_of
  many_none e = sym (add-zero t.before) ∙ ap (λ (o : OptTarget). t.before + length (ranges_of (last_ids o ++ []))) (sym e)

  pub many_some : (l : Target) → t.last ≡ Is l → LastOk t.last → t.before + 1 ≡ ranges_with t []
  unfolding ranges_with ranges_of Off
  many_some l e ok =
      let z = run_some l.len l.id [] (subst LastOk e ok).0 tt in
      ap (λ (k : ℕ). t.before + k) (sym z) ∙ ap (λ (o : OptTarget). t.before + length (ranges_of (last_ids o ++ []))) (sym e)

-- ---- the units that a delete takes of a span

first_none : (l : List FugueSpan) → first_shown l 0 ≡ []
unfolding first_shown
first_none [] = refl
first_none (u ∷ l) = refl

first_on : (u : FugueSpan) (l : List FugueSpan) (n : ℕ) (t : Bool) → activated u.status ≡ t → first_shown (u ∷ l) (suc n) ≡ cond t (u ∷ first_shown l n) (first_shown l (suc n))
unfolding first_shown
first_on u l n t e = ap (λ (b : Bool). cond b (u ∷ first_shown l n) (first_shown l (suc n))) e

module _ (s : FugueSpan) (X : List FugueSpan) where
  first_vis : activated s.status ≡ true → (n j k : ℕ) → first_shown (tab (unit_at s) j n ++ X) k ≡ tab (unit_at s) j (min k n) ++ first_shown X (k - n)
  unfolding tab
  first_vis v zero j k = ap₂ (λ (a b : ℕ). tab (unit_at s) j a ++ first_shown X b) (let e : 0 ≡ min k 0 = omega arith in e) (let e : k ≡ k - 0 = omega arith in e)
  first_vis v (suc n) j zero =
      first_none (unit_at s j ∷ (tab (unit_at s) (suc j) n ++ X)) ∙
      (sym (first_none X) ∙ ap₂ (λ (a b : ℕ). tab (unit_at s) j a ++ first_shown X b) (let e : 0 ≡ min 0 (suc n) = omega arith in e) (let e : 0 ≡ 0 - suc n = omega arith in e))
  first_vis v (suc n) j (suc k) =
      first_on (unit_at s j) (tab (unit_at s) (suc j) n ++ X) k true (ap activated (unit_status s j) ∙ v) ∙
      (ap (λ (l : List FugueSpan). unit_at s j ∷ l) (first_vis v n (suc j) k) ∙
      ap₂ (λ (a b : ℕ). tab (unit_at s) j a ++ first_shown X b) (let e : suc (min k n) ≡ min (suc k) (suc n) = omega arith in e) (let e : k - n ≡ suc k - suc n = omega arith in e))

  first_hid : activated s.status ≡ false → (n j k : ℕ) → first_shown (tab (unit_at s) j n ++ X) k ≡ first_shown X k
  unfolding tab
  first_hid v zero j k = refl
  first_hid v (suc n) j zero = first_none (unit_at s j ∷ (tab (unit_at s) (suc j) n ++ X)) ∙ sym (first_none X)
  first_hid v (suc n) j (suc k) = first_on (unit_at s j) (tab (unit_at s) (suc j) n ++ X) k false (ap activated (unit_status s j) ∙ v) ∙ first_hid v n (suc j) (suc k)

module _ (s : FugueSpan) (l : List FugueSpan) (at len : ℕ) where
  abbrev X : List FugueSpan
  X = expand l

  abbrev L : ℕ
  L = len_span s

  -- v of its units are visible, all or none
  abbrev law : ℕ → Type 0
  law v = taken at len (units_of s ++ X) ≡ tab (unit_at s) (min at v) (min (at + len) v - min at v) ++ taken (at - min at v) (len - (min (at + len) v - min at v)) X

  law_vis : activated s.status ≡ true → law L
  unfolding taken units_of tab
  law_vis v = go (lt-or at L)
    where
      go : (at < L) ⊎ (L ≤ at) → law L
      go (inl h) =
          ap (λ (u : List FugueSpan). first_shown u len) (behind_in s X v L 0 at (omega arith) ∙ ap (λ (k : ℕ). tab (unit_at s) k (L - at) ++ X) (zero-add at)) ∙
          (first_vis s X v (L - at) at len ∙
          (ap₂ (λ (a b : ℕ). tab (unit_at s) at a ++ first_shown X b) (let e : min len (L - at) ≡ min (at + len) L - min at L = omega arith in e) (let e : len - (L - at) ≡ len - (min (at + len) L - min at L) = omega arith in e) ∙
          (ap (λ (u : List FugueSpan). tab (unit_at s) at (min (at + len) L - min at L) ++ first_shown u (len - (min (at + len) L - min at L))) (sym (behind_zero X)) ∙
          ap₂ (λ (a b : ℕ). tab (unit_at s) a (min (at + len) L - min at L) ++ first_shown (behind X b) (len - (min (at + len) L - min at L))) (let e : at ≡ min at L = omega arith in e) (let e : 0 ≡ at - min at L = omega arith in e))))
      go (inr h) =
          ap (λ (k : ℕ). first_shown (behind (units_of s ++ X) k) len) (let e : at ≡ L + (at - L) = omega arith in e) ∙
          (ap (λ (u : List FugueSpan). first_shown u len) (behind_vis s l v (at - L)) ∙
          (ap₂ (λ (a b : ℕ). first_shown (behind X a) b) (let e : at - L ≡ at - min at L = omega arith in e) (let e : len ≡ len - (min (at + len) L - min at L) = omega arith in e) ∙
          ap (λ (k : ℕ). tab (unit_at s) (min at L) k ++ first_shown (behind X (at - min at L)) (len - (min (at + len) L - min at L))) (let e : 0 ≡ min (at + len) L - min at L = omega arith in e)))

  hid_at : activated s.status ≡ false → (k : ℕ) → first_shown (behind (units_of s ++ X) k) len ≡ first_shown (behind X k) len
  unfolding units_of
  hid_at v zero =
      ap (λ (u : List FugueSpan). first_shown u len) (behind_zero (units_of s ++ X)) ∙
      (first_hid s X v L 0 len ∙ ap (λ (u : List FugueSpan). first_shown u len) (sym (behind_zero X)))
  hid_at v (suc k) = ap (λ (u : List FugueSpan). first_shown u len) (behind_inv s l v k)

  law_hid : activated s.status ≡ false → law 0
  unfolding taken tab
  law_hid v =
      hid_at v at ∙
      (ap₂ (λ (a b : ℕ). first_shown (behind X a) b) (let e : at ≡ at - min at 0 = omega arith in e) (let e : len ≡ len - (min (at + len) 0 - min at 0) = omega arith in e) ∙
      ap (λ (k : ℕ). tab (unit_at s) (min at 0) k ++ first_shown (behind X (at - min at 0)) (len - (min (at + len) 0 - min at 0))) (let e : 0 ≡ min (at + len) 0 - min at 0 = omega arith in e))

  law_span : law (active_len s)
  law_span = go (activated s.status) refl
    where
      go : (t : Bool) → activated s.status ≡ t → law (active_len s)
      go true v = subst law (sym (active_is s true v)) (law_vis v)
      go false v = subst law (sym (active_is s false v)) (law_hid v)

tab_ids : (s : FugueSpan) (n j : ℕ) → map (λ (u : FugueSpan). u.id) (tab (unit_at s) j n) ≡ ids_from (inc_id s.id j) n
unfolding tab ids_from shift
tab_ids s zero j = refl
tab_ids s (suc n) j =
    ap (λ (l : List Id). inc_id s.id j ∷ l)
    (tab_ids s n (suc j) ∙ ap (λ (i : Id). ids_from i n) (sym (inc_inc s.id j 1 ∙ ap (inc_id s.id) (let e : j + 1 ≡ suc j = omega arith in e))))

-- the ids that a delete takes of a span and the units after it
pub ids_span : (d : Delete) (s : FugueSpan) (l : List FugueSpan) (p : Part) → p ≡ delete_cut d s → ids_taken d (units_of s ++ expand l) ≡ ids_from (inc_id s.id p.from) (p.to - p.from) ++ ids_taken (delete_after d s) (expand l)
unfolding delete_cut delete_after took_of
ids_span d s l p e =
    subst
    (λ (z : Part). ids_taken d (units_of s ++ expand l) ≡ ids_from (inc_id s.id z.from) (z.to - z.from) ++ ids_taken (delete_after d s) (expand l))
    (sym e)
    (ap (map (λ (u : FugueSpan). u.id)) (law_span s l d.at d.len) ∙
    (map-append (λ (u : FugueSpan). u.id) (tab (unit_at s) (delete_cut d s).from ((delete_cut d s).to - (delete_cut d s).from)) (taken (delete_after d s).at (delete_after d s).len (expand l)) ∙
    ap (λ (is : List Id). is ++ ids_taken (delete_after d s) (expand l)) (tab_ids s ((delete_cut d s).to - (delete_cut d s).from) (delete_cut d s).from)))

none_taken : (both : Bool) (a b : Version) (l : List Held) (d : Delete) → ids_taken d (seen both a b l []) ≡ []
unfolding seen taken behind first_shown
none_taken both a b l d = refl

-- ---- the list at a version

module _ (both : Bool) (a b : Version) (l : List Held) (n : ℕ) (s : List ℕ) (d : Delete) where
  abbrev goal : ℕ
  goal = length (ranges_of (ids_taken d (seen both a b l (expand (rows n s)))))

  pub record Taking (i from : ℕ) (left : Delete) (t : Taken) : Type 0 where
    pub place : Place n s i from
    pub can : CanDelete left
    pub last : LastOk t.last
    pub few : ids_most t + length (ahead n s i from) ≤ 65536
    pub is : ranges_with t (ids_taken left (seen both a b l (ahead n s i from))) ≡ goal

  module _ (w : Stored n s) where
    pub taking_start : CanDelete d → Taking 0 0 d (record { before = 0; last = Nothing })
    unfolding ids_most ranges_with
    taking_start c =
        record {
          place = place_start n s w;
          can = c;
          last = tt;
          few = omega (arith, ahead_few n s w 0 0);
          is = zero-add (length (ranges_of (ids_taken d (seen both a b l (ahead n s 0 0))))) ∙ ap (λ (u : List FugueSpan). length (ranges_of (ids_taken d (seen both a b l u)))) (ahead_start n s);
        }

    module _ (i from : ℕ) (left : Delete) (t : Taken) (v : Taking i from left t) where
      module _ (r : Step) (x : Next both a b l n s i from r) (p : Part) (cut : p ≡ delete_cut left r.piece) where
        pub part_most : p.to ≤ len_span r.piece
        part_most = subst (λ (z : Part). z.to ≤ len_span r.piece) (sym cut) (delete_most left r.piece)

        pub taking_room : ids_most t + len_span r.piece ≤ 65536
        taking_room = let e = next_length both a b l n s w i from r x in omega (arith, e, v.few)

        abbrev R : List FugueSpan
        R = seen both a b l (ahead n s r.row r.from)

        on : ids_taken left (seen both a b l (ahead n s i from)) ≡ ids_from (inc_id r.piece.id p.from) (p.to - p.from) ++ ids_taken (delete_after left r.piece) R
        on =
            let e = still_self both a b l n s w i from r x in
            ap (ids_taken left) x.units ∙
            (ap (λ (u : List FugueSpan). ids_taken left (units_of r.piece ++ u)) (sym e) ∙
            (ids_span left r.piece R p cut ∙
            ap (λ (u : List FugueSpan). ids_from (inc_id r.piece.id p.from) (p.to - p.from) ++ ids_taken (delete_after left r.piece) u) e))

        pub taking_turn : (z : Taken) → TakesOn t (inc_id r.piece.id p.from) (p.to - p.from) z → Taking r.row r.from (delete_after left r.piece) z
        taking_turn z y =
            record {
              place = x.place;
              can = can_after left r.piece v.can;
              last = y.last;
              few = (let e = next_length both a b l n s w i from r x in omega (arith, e, v.few, y.few, part_most));
              is = y.ranges (ids_taken (delete_after left r.piece) R) ∙ (ap (ranges_with t) (sym on) ∙ v.is);
            }

      pub taking_done : n ≤ i → ranges_with t [] ≡ goal
      taking_done h =
          ap (ranges_with t) (sym (ap (λ (u : List FugueSpan). ids_taken left (seen both a b l u)) (ahead_end n s i from h) ∙ none_taken both a b l left)) ∙ v.is
