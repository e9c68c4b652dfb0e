-- the entries of a delta, counted row by row; and the rows of a joined list as they go by
use Prim.Native.Nat.{ℕ, ◌+◌, ◌-◌, ◌*◌, ◌<◌, ◌≤◌}
use mathlib.Core.Path.{◌≡◌, refl, sym, ap, subst, ◌∙◌}
use mathlib.Core.Bool.{Bool, true, false, cond, ◌&&◌, and_assoc, true≢false}
use Rattle.std.specs.Option.{is_some}
use Rattle.std.specs.Prelude.{None as Nothing, Some as At}
use Rattle.span.specs.Maybe.{OptId}
use mathlib.Core.List.{List, [], ◌∷◌, ◌++◌, append_assoc, append-nil}
use mathlib.Core.Logic.{◌⊎◌, inl, inr}
use native.Mathlib.Omega.{arith}
use lib.Dec.{eqb}
use lib.ListN.{length, take, drop, take-append-drop, length-append}
use Rattle.span.specs.declared.span.FugueSpan.{FugueSpan}
use Rattle.span.specs.declared.span.DiffStatus.{DiffStatus}
use Rattle.span.specs.declared.span.DiffStatus.TheVariants.{NotChanged, Created, Deleted}
use Rattle.span.specs.Span.{span_code, len_span, active_len, diff_of}
use Rattle.span.specs.Units.{units_of, expand, Joined, join}
use Rattle.span.proofs.ForRope.{units_length, expand-append, joined_is}
use Rattle.store.specs.Row.{rows, row_at}
use Rattle.store.proofs.Laws.{length-rows}
use Rattle.units.specs.Lists.{every}
use Rattle.units.specs.declared.diff.Entry.{Entry}
use Rattle.units.specs.declared.diff.Entry.TheVariants.{Retain, Delete}
use Rattle.units.specs.Delta.{retain, entry_by, entries_from, entries, is_real, real_if_created, insertable, insert_of_span}
use Rattle.rope.specs.Spans.{Stored, AllOk}
use Rattle.rope.specs.Streams.{Pushable, Pushed}
use Rattle.rope.specs.Applies.{Kept}
use Rattle.rope.proofs.Edges.{joined_right}
use Rattle.rope.proofs.Steps.{joined_ok}
use Rattle.rope.proofs.Seeks.{active_most}
use Rattle.rope.proofs.Queue.{lt-or, grown_units}
use Rattle.rope.proofs.Twice.{rows_take}
use Rattle.rope.proofs.Working.{joined_grow}
use Rattle.rope.proofs.WellFormed.{few_rows}
use Rattle.history.specs.Edit.{Version, Held}
use Rattle.tracker.specs.declared.seen.Step.{Step}
use Rattle.tracker.specs.declared.measure.Measure.{Measure}
use Rattle.tracker.specs.Looks.{seen}
use Rattle.tracker.specs.Ahead.{ahead, Place, Next}
use Rattle.tracker.specs.Measures.{nothing, changed, measure_by, measured, measured_all, Measures}
use Rattle.tracker.proofs.Nexts.{ahead_start, ahead_end, place_start, seen_few}

-- ---- one change, one row

pub and_true : (a b : Bool) → a ≡ true → b ≡ (a && b)
and_true true b e = refl
and_true false b e = absurd (true≢false (sym e))

pub and_false : (a b : Bool) → a ≡ false → false ≡ (a && b)
and_false true b e = absurd (true≢false e)
and_false false b e = refl

-- a real id that is there
pub some_real : (o : OptId) → is_some o ≡ is_real o
some_real Nothing = refl
some_real (At i) = refl

pub changed_by : (x : Measure) (real : Bool) (b : Bool) → eqb x.gap 0 ≡ b → (f : Bool) → f ≡ (x.fine && real) → ◌≡◌ {A = Measure} (record { fine = f; rows = x.rows + 1; entries = x.entries + cond b 1 2; gap = 0 }) (changed x real)
unfolding changed
changed_by x real b e f p = rw (e, p)

pub measured_by : (x : Measure) (s : FugueSpan) (d : DiffStatus) → diff_of s ≡ d → measure_by d x s ≡ measured x s
unfolding measured
measured_by x s d e = rw e

-- ---- the rows that have gone by

pub all_append : (x : Measure) (A B : List FugueSpan) → measured_all x (A ++ B) ≡ measured_all (measured_all x A) B
unfolding measured_all
all_append x [] B = refl
all_append x (s ∷ A) B = all_append (measured x s) A B

-- few entries and a small gap
record Few (x r : Measure) (k u : ℕ) : Type 0 where
  pub entries : r.entries ≤ x.entries + 2 * k
  pub gap : r.gap ≤ x.gap + u

change_few : (x : Measure) (real : Bool) (u : ℕ) → Few x (changed x real) 1 u
unfolding changed
change_few x real u = go (eqb x.gap 0)
  where
    go : (b : Bool) → Few x (record { fine = x.fine && real; rows = x.rows + 1; entries = x.entries + cond b 1 2; gap = 0 }) 1 u
    go true = record { entries = omega arith; gap = omega arith }
    go false = record { entries = omega arith; gap = omega arith }

measured_few : (x : Measure) (s : FugueSpan) → Few x (measured x s) 1 (len_span s)
unfolding measured
measured_few x s = go (diff_of s)
  where
    go : (d : DiffStatus) → Few x (measure_by d x s) 1 (len_span s)
    go NotChanged = record { entries = omega arith; gap = omega (arith, active_most s) }
    go Created = change_few x (is_real s.real_id) (len_span s)
    go Deleted = change_few x true (len_span s)

pub all_few : (x : Measure) (l : List FugueSpan) → ((measured_all x l).entries ≤ x.entries + 2 * length l) × ((measured_all x l).gap ≤ x.gap + length (expand l))
unfolding measured_all expand
all_few x [] = (omega arith, omega arith)
all_few x (s ∷ l) =
    let a = measured_few x s in
    let b = all_few (measured x s) l in
    let e = length-append (units_of s) (expand l) in
    let f = units_length s in
    (omega (arith, a.entries, b.0), omega (arith, a.gap, b.1, e, f))

-- ---- their number

measured-rows : (x : Measure) (s : FugueSpan) → (measured x s).rows ≡ x.rows + 1
unfolding measured changed
measured-rows x s = go (diff_of s)
  where
    go : (d : DiffStatus) → (measure_by d x s).rows ≡ x.rows + 1
    go NotChanged = refl
    go Created = refl
    go Deleted = refl

pub all_rows : (x : Measure) (l : List FugueSpan) → (measured_all x l).rows ≡ x.rows + length l
unfolding measured_all
all_rows x [] = omega arith
all_rows x (s ∷ l) = let a = measured-rows x s in let b = all_rows (measured x s) l in omega (arith, a, b)

-- ---- their entries

change_entries : (x : Measure) (real : Bool) (e : Entry) (l : List Entry) → (changed x real).entries + length l ≡ x.entries + length (retain x.gap (e ∷ l))
unfolding changed retain
change_entries x real e l = go (eqb x.gap 0)
  where
    go : (b : Bool) → x.entries + cond b 1 2 + length l ≡ x.entries + length (cond b (e ∷ l) (Retain x.gap ∷ (e ∷ l)))
    go true = omega arith
    go false = omega arith

measured-entries : (x : Measure) (s : FugueSpan) (l : List FugueSpan) → (measured x s).entries + length (entries_from l (measured x s).gap) ≡ x.entries + length (entries_from (s ∷ l) x.gap)
unfolding measured entries_from changed
measured-entries x s l = go (diff_of s)
  where
    go : (d : DiffStatus) → (measure_by d x s).entries + length (entries_from l (measure_by d x s).gap) ≡ x.entries + length (entry_by d x.gap s (entries_from l (x.gap + active_len s)) (entries_from l 0))
    go NotChanged = refl
    go Created = change_entries x (is_real s.real_id) (insert_of_span s) (entries_from l 0)
    go Deleted = change_entries x true (Delete (len_span s)) (entries_from l 0)

pub all_entries : (x : Measure) (l : List FugueSpan) → (measured_all x l).entries ≡ x.entries + length (entries_from l x.gap)
unfolding measured_all entries_from
all_entries x [] = omega arith
all_entries x (s ∷ l) = all_entries (measured x s) l ∙ measured-entries x s l

-- ---- and their real ids

and_right : (b : Bool) → (b && true) ≡ b
and_right true = refl
and_right false = refl

measured-fine : (x : Measure) (s : FugueSpan) → (measured x s).fine ≡ (x.fine && insertable s)
unfolding measured insertable changed
measured-fine x s = go (diff_of s)
  where
    go : (d : DiffStatus) → (measure_by d x s).fine ≡ (x.fine && real_if_created d s.real_id)
    go NotChanged = sym (and_right x.fine)
    go Created = refl
    go Deleted = refl

pub all_fine : (x : Measure) (l : List FugueSpan) → (measured_all x l).fine ≡ (x.fine && every insertable l)
unfolding measured_all every
all_fine x [] = sym (and_right x.fine)
all_fine x (s ∷ l) = all_fine (measured x s) l ∙ (ap (λ (b : Bool). b && every insertable l) (measured-fine x s) ∙ and_assoc x.fine (insertable s) (every insertable l))

pub all_measures : (l : List FugueSpan) → Measures l (measured_all nothing l)
unfolding entries
all_measures l = let e : (k : ℕ) → 0 + k ≡ k = λ k. omega arith in record { fine = all_fine nothing l; rows = all_rows nothing l ∙ e (length l); entries = all_entries nothing l ∙ e (length (entries_from l 0)) }

-- ---- the rows of a queue of at most two, but the last

pub pass_one : (m : ℕ) (q : List ℕ) (x r : Measure) (s : FugueSpan) → 1 < m → m ≤ 2 → s ≡ row_at q (0 * 72) → r ≡ measured x s → r ≡ measured_all x (rows (m - 1) q)
unfolding rows measured_all
pass_one m q x r s h k e p =
    let two : m ≡ 2 = omega (arith, h, k) in
    p ∙ (ap (measured x) e ∙ ap (λ (j : ℕ). measured_all x (rows (j - 1) q)) (sym two))

pub pass_room : (m : ℕ) (q : List ℕ) (x : Measure) (s : FugueSpan) → 1 < m → m ≤ 2 → s ≡ row_at q (0 * 72) → x.gap + length (expand (rows (m - 1) q)) ≤ 1000000 → x.gap + len_span s ≤ 1000000
unfolding rows expand
pass_room m q x s h k e f =
    let two : m ≡ 2 = omega (arith, h, k) in
    let a : length (expand (rows (m - 1) q)) ≡ len_span s = ap (λ (j : ℕ). length (expand (rows (j - 1) q))) two ∙ (length-append (units_of (row_at q 0)) [] ∙ ((let z = units_length (row_at q 0) in let y : length (units_of (row_at q 0)) + 0 ≡ len_span (row_at q 0) = omega (arith, z) in y) ∙ ap len_span (sym e))) in
    omega (arith, a, f)

pub pass_none : (m : ℕ) (q : List ℕ) (x : Measure) → m ≤ 1 → x ≡ measured_all x (rows (m - 1) q)
unfolding rows measured_all
pass_none m q x h = let z : m - 1 ≡ 0 = omega (arith, h) in sym (ap (λ (j : ℕ). measured_all x (rows j q)) z)

-- ---- the rows `front` have gone by, m wait in q, and what is `still` to come has not been read: the units of all are `goal`

pub record Passed (goal still front : List FugueSpan) (m : ℕ) (q : List ℕ) : Type 0 where
  pub one : m ≤ 1
  pub some : (0 < m) ⊎ (front ≡ [])
  pub joined : Joined (front ++ rows m q)
  pub all : expand (front ++ rows m q) ++ still ≡ goal

none : (n : ℕ) (s : List ℕ) → n ≡ 0 → length (expand (rows n s)) ≡ 0
unfolding rows expand
none n s e = ap (λ (j : ℕ). length (expand (rows j s))) e

pub passed_start : (goal : List FugueSpan) (q : List ℕ) → Passed goal goal [] 0 q
unfolding rows Joined expand
passed_start goal q = record { one = omega arith; some = inr refl; joined = tt; all = refl }

module _ (goal still front : List FugueSpan) (m : ℕ) (q : List ℕ) (v : Passed goal still front m q) where
  pub passed_joined : Joined (rows m q)
  passed_joined = joined_right front (rows m q) v.joined

  pub passed_few : (length front + m ≤ length goal) × (length (expand front) + length (expand (rows m q)) ≤ length goal)
  passed_few =
      let F = front ++ rows m q in
      let a = few_rows F (joined_ok F v.joined) in
      let b : length goal ≡ length (expand F) + length still = ap length (sym v.all) ∙ length-append (expand F) still in
      let d : length F ≡ length front + m = length-append front (rows m q) ∙ ap (λ (y : ℕ). length front + y) (length-rows m q) in
      let f : length (expand F) ≡ length (expand front) + length (expand (rows m q)) = ap length (expand-append front (rows m q)) ∙ length-append (expand front) (expand (rows m q)) in
      (omega (arith, a, b, d), omega (arith, b, f))

  -- a piece of the units still to come is pushed on, and only the last row is kept
  module _ (y : FugueSpan) (rest : List FugueSpan) (fine : span_code y ≡ 0) (some : 0 < len_span y) (cut : still ≡ units_of y ++ rest) (m2 : ℕ) (q2 : List ℕ) (p : Pushed m y m2 q q2) where
    units : expand (join (expand (rows m q) ++ units_of y)) ≡ expand (rows m q) ++ units_of y
    unfolding expand AllOk
    units =
        let z : units_of y ++ [] ≡ units_of y = append-nil (units_of y) in
        ap (λ (u : List FugueSpan). expand (join (expand (rows m q) ++ u))) (sym z) ∙ (grown_units (rows m q) (y ∷ []) passed_joined (fine, tt) ∙ ap (λ (u : List FugueSpan). expand (rows m q) ++ u) z)

    count : length (expand (rows m2 q2)) ≡ length (expand (rows m q)) + len_span y
    count = ap (λ (l : List FugueSpan). length (expand l)) p.list ∙ (ap length units ∙ (length-append (expand (rows m q)) (units_of y) ∙ ap (λ (k : ℕ). length (expand (rows m q)) + k) (units_length y)))

    waits : 0 < m2
    waits = go (lt-or 0 m2)
      where
        go : (0 < m2) ⊎ (m2 ≤ 0) → 0 < m2
        go (inl h) = h
        go (inr h) = let a : length (expand (rows m2 q2)) ≡ 0 = none m2 q2 (omega (arith, h)) in absurd (omega (arith, a, count, some))

    pub pushed_two : m2 ≤ 2
    pushed_two = omega (arith, p.few, v.one)

    -- what goes by has few units
    pub pushed_few : length (expand front) + length (expand (rows (m2 - 1) q2)) ≤ length goal
    pushed_few =
        let l = rows m2 q2 in
        let j = m2 - 1 in
        let e : length (expand l) ≡ length (expand (take j l)) + length (expand (drop j l)) = ap (λ (u : List FugueSpan). length (expand u)) (sym (take-append-drop j l)) ∙ (ap length (expand-append (take j l) (drop j l)) ∙ length-append (expand (take j l)) (expand (drop j l))) in
        let f : length (expand (rows j q2)) ≡ length (expand (take j l)) = ap (λ (u : List FugueSpan). length (expand u)) (rows_take j m2 q2 (omega arith)) in
        let g : length goal ≡ length (expand (front ++ rows m q)) + length still = ap length (sym v.all) ∙ length-append (expand (front ++ rows m q)) still in
        let h : length (expand (front ++ rows m q)) ≡ length (expand front) + length (expand (rows m q)) = ap length (expand-append front (rows m q)) ∙ length-append (expand front) (expand (rows m q)) in
        let i : length still ≡ len_span y + length rest = ap length cut ∙ (length-append (units_of y) rest ∙ ap (λ (k : ℕ). k + length rest) (units_length y)) in
        omega (arith, e, f, g, h, i, count)

    module _ (k : ℕ) (r : List ℕ) (kp : Kept m2 k q2 r) where
      gone : k ≡ m2 - 1
      gone = let a = kp.last waits in omega (arith, kp.few, kp.most, a)

      list : (front ++ rows (m2 - 1) q2) ++ rows (m2 - k) r ≡ front ++ join (expand (rows m q) ++ units_of y)
      list =
          append_assoc front (rows (m2 - 1) q2) (rows (m2 - k) r) ∙
          ap (λ (l : List FugueSpan). front ++ l) (ap (λ (l : List FugueSpan). l ++ rows (m2 - k) r) (ap (λ (j : ℕ). rows j q2) (sym gone) ∙ rows_take k m2 q2 kp.most) ∙ (sym kp.list ∙ p.list))

      joins : Joined (front ++ join (expand (rows m q) ++ units_of y))
      unfolding expand AllOk
      joins = subst (λ (u : List FugueSpan). Joined (front ++ join (expand (rows m q) ++ u))) (append-nil (units_of y)) (joined_grow front (y ∷ []) m q v.joined (fine, tt) v.some)

      pub passed_turn : Passed goal rest (front ++ rows (m2 - 1) q2) (m2 - k) r
      passed_turn =
          record {
            one = kp.few;
            some = inl (kp.last waits);
            joined = subst Joined (sym list) joins;
            all = ap (λ (l : List FugueSpan). expand l ++ rest) list ∙
                (ap (λ (u : List FugueSpan). u ++ rest)
                (expand-append front (join (expand (rows m q) ++ units_of y)) ∙
                (ap (λ (u : List FugueSpan). expand front ++ u) units ∙
                (sym (append_assoc (expand front) (expand (rows m q)) (units_of y)) ∙
                ap (λ (u : List FugueSpan). u ++ units_of y) (sym (expand-append front (rows m q)))))) ∙
                (append_assoc (expand (front ++ rows m q)) (units_of y) rest ∙
                (ap (λ (u : List FugueSpan). expand (front ++ rows m q) ++ u) (sym cut) ∙ v.all)));
          }

  pub passed_done : still ≡ [] → front ++ rows m q ≡ join goal
  passed_done e =
      joined_is (front ++ rows m q) goal v.joined
      (sym (append-nil (expand (front ++ rows m q))) ∙ (ap (λ (l : List FugueSpan). expand (front ++ rows m q) ++ l) (sym e) ∙ v.all))

-- ---- the list with both statuses

module _ (a b : Version) (l : List Held) (n : ℕ) (s : List ℕ) where
  abbrev pub goal_both : List FugueSpan
  goal_both = seen true a b l (expand (rows n s))

  pub record Measuring (i from m : ℕ) (x : Measure) (q : List ℕ) : Type 0 where
    pub place : Place n s i from
    pub front : List FugueSpan
    pub passed : Passed goal_both (seen true a b l (ahead n s i from)) front m q
    pub is : x ≡ measured_all nothing front

  pub measuring_start : Stored n s → (q : List ℕ) → Measuring 0 0 0 nothing q
  unfolding measured_all
  measuring_start w q =
      record {
        place = place_start n s w;
        front = [];
        passed = subst (λ (u : List FugueSpan). Passed goal_both (seen true a b l u) [] 0 q) (sym (ahead_start n s)) (passed_start goal_both q);
        is = refl;
      }

  module _ (w : Stored n s) (i from m : ℕ) (x : Measure) (q : List ℕ) (v : Measuring i from m x q) where
    abbrev R : List FugueSpan
    R = seen true a b l (ahead n s i from)

    -- what has gone by has few entries, and few units
    low : (x.rows ≤ 65536) × (x.entries ≤ 131072) × (x.gap ≤ length (expand v.front))
    low =
        let f = all_few nothing v.front in
        let g = passed_few goal_both R v.front m q v.passed in
        let e : x.entries ≡ (measured_all nothing v.front).entries = ap (λ (z : Measure). z.entries) v.is in
        let h : x.gap ≡ (measured_all nothing v.front).gap = ap (λ (z : Measure). z.gap) v.is in
        let k = seen_few n s w true a b l in
        let r : x.rows ≡ (measured_all nothing v.front).rows = ap (λ (z : Measure). z.rows) v.is in
        let j = all_rows nothing v.front in
        (omega (arith, r, j, g.0, k), omega (arith, f.0, g.0, e, k), omega (arith, f.1, h))

    module _ (r : Step) (y : Next true a b l n s i from r) where
      pub measuring_room : 144 ≤ length q → Pushable m r.piece q
      measuring_room h = record { room = omega (arith, v.passed.one, h); joined = passed_joined goal_both R v.front m q v.passed; fine = y.fine }

      module _ (m2 : ℕ) (q2 : List ℕ) (p : Pushed m r.piece m2 q q2) where
        abbrev T : List FugueSpan
        T = seen true a b l (ahead n s r.row r.from)

        pub measuring_two : m2 ≤ 2
        measuring_two = pushed_two goal_both R v.front m q v.passed r.piece T y.fine y.some y.units m2 q2 p

        pub measuring_pass : 144 ≤ length q2 → (m2 ≤ 2) × (m2 * 72 ≤ length q2) × (x.rows ≤ 1000000) × (x.entries ≤ 1000000) × (x.gap + length (expand (rows (m2 - 1) q2)) ≤ 1000000)
        measuring_pass h =
            let f = pushed_few goal_both R v.front m q v.passed r.piece T y.fine y.some y.units m2 q2 p in
            let k = seen_few n s w true a b l in
            (measuring_two, omega (arith, h, measuring_two), omega (arith, low.0), omega (arith, low.1), omega (arith, low.2, f, k))

        pub measuring_turn : (z : Measure) → z ≡ measured_all x (rows (m2 - 1) q2) → (k : ℕ) (u : List ℕ) → Kept m2 k q2 u → Measuring r.row r.from (m2 - k) z u
        measuring_turn z e k u kp =
            record {
              place = y.place;
              front = v.front ++ rows (m2 - 1) q2;
              passed = passed_turn goal_both R v.front m q v.passed r.piece T y.fine y.some y.units m2 q2 p k u kp;
              is = e ∙ (ap (λ (c : Measure). measured_all c (rows (m2 - 1) q2)) v.is ∙ sym (all_append nothing v.front (rows (m2 - 1) q2)));
            }

    pub measuring_last : 144 ≤ length q → (m + 1 ≤ 2) × ((m + 1) * 72 ≤ length q) × (x.rows ≤ 1000000) × (x.entries ≤ 1000000) × (x.gap + length (expand (rows (m + 1 - 1) q)) ≤ 1000000)
    measuring_last h =
        let g = passed_few goal_both R v.front m q v.passed in
        let k = seen_few n s w true a b l in
        let j : m + 1 - 1 ≡ m = omega arith in
        let f : length (expand (rows (m + 1 - 1) q)) ≡ length (expand (rows m q)) = ap (λ (c : ℕ). length (expand (rows c q))) j in
        (omega (arith, v.passed.one), omega (arith, v.passed.one, h), omega (arith, low.0), omega (arith, low.1), omega (arith, low.2, g.1, f, k))

    pub measuring_done : n ≤ i → (z : Measure) → z ≡ measured_all x (rows (m + 1 - 1) q) → Measures (join goal_both) z
    unfolding seen
    measuring_done h z e =
        let j : m + 1 - 1 ≡ m = omega arith in
        let all : v.front ++ rows m q ≡ join goal_both = passed_done goal_both R v.front m q v.passed (ap (seen true a b l) (ahead_end n s i from h)) in
        let is : measured_all nothing (join goal_both) ≡ z = ap (measured_all nothing) (sym all) ∙ (all_append nothing v.front (rows m q) ∙ (ap (λ (c : Measure). measured_all c (rows m q)) (sym v.is) ∙ (ap (λ (c : ℕ). measured_all x (rows c q)) (sym j) ∙ sym e))) in
        subst (Measures (join goal_both)) is (all_measures (join goal_both))
