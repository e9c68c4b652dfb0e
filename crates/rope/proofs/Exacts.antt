-- the rows of a joined list, counted piece by piece; and pieces whose count stands apart join as they are
use Prim.Native.Nat.{ℕ, zero, suc, ◌+◌, ◌*◌, ◌<◌, ◌≤◌}
use mathlib.Core.Path.{◌≡◌, refl, sym, ap, ap₂, subst, ◌∙◌}
use mathlib.Core.Bool.{Bool, true, false, ◌&&◌, cond, beq}
use mathlib.Core.List.{List, [], ◌∷◌, ◌++◌}
use native.Mathlib.Omega.{arith}
use native.Mathlib.Nat.{add-zero, zero-add}
use lib.Dec.{ltb, eqb}
use lib.IntN.{ℤ, pos, ◌+ℤ◌}
use lib.ListN.{length, drop}
use borrow.Author.Tests.{lt-ltb}
use Rattle.span.specs.Maybe.{OptId}
use Rattle.span.specs.declared.status.Status.{Status}
use Rattle.span.specs.Maybe.{OptStatus}
use Rattle.std.specs.Prelude as Opt
use Rattle.span.specs.declared.span.FugueSpan.{FugueSpan}
use Rattle.span.specs.Answer.{lower}
use Rattle.span.specs.Ids.{same_opt}
use Rattle.span.specs.Status.{status, eq_z, same_status}
use Rattle.span.specs.Chunk.{joins}
use Rattle.span.specs.Span.{len_span, ids_ok, span_code, left_of, shift, part_span, same_diff, same_place, same_state, same_origins, same_head, runs_on, merge_span_code, joins_span, merged_span}
use Rattle.span.specs.Units.{expand, join_on, join}
use Rattle.store.specs.Row.{rows, row_at}
use Rattle.span.proofs.SpanLaws.{span_ok}
use Rattle.span.proofs.UnitLaws.{shift_zero, shift_merged, merged_content, join_to, both}
use Rattle.span.proofs.JoinLaws.{merged_left_lem}
use Rattle.span.proofs.Views.{part_whole}
use Rattle.span.proofs.Unique.{merged_ok}
use Rattle.units.specs.declared.change.SetFuture.{SetFuture}
use Rattle.rope.specs.declared.change.Part.{Part}
use Rattle.rope.specs.declared.change.Update.{Update}
use Rattle.rope.specs.declared.change.Change.TheVariants as Ch
use Rattle.rope.specs.declared.exact.Exact.{Exact}
use Rattle.rope.specs.declared.exact.Tail.{Tail}
use Rattle.rope.specs.Spans.{AllOk}
use Rattle.units.specs.Change.{with_state, diff_or, base_of, set_future, change_status, update_unit, update_units}
use Rattle.rope.specs.Pieces.{update_cut, cut_of, after_of, change_span, CanCut, part_of, changed_of, pieces_of, all_pieces}
use Rattle.rope.specs.Exact.{uncounted, uncounted_diff, bare, exact_of, joins_exact, follows, step_of, tail_of}
use Rattle.rope.proofs.Edges.{left_of_merged, part_to_whole}
use Rattle.rope.proofs.Alikes.{join_on_lem, list_ok}
use Rattle.rope.proofs.Rights.{row_drop, row_none}
use Rattle.rope.proofs.Cuts.{update_most, cut_most}
use Rattle.rope.proofs.Queue.{ok_append, part_some, part_none, changed_some, changed_none, changed_short, changed_fine, changed_ok, part_fine, part_short, short}
use Rattle.rope.proofs.Updating.{update_law}

-- ---- the rows of a joined list: the first piece, and each that does not join the one before

more : FugueSpan → List FugueSpan → ℕ
more x [] = 0
more x (y ∷ l) = cond (joins_span x y) 0 1 + more y l

-- two spans as one begin as the left one
front_merged : (a b : FugueSpan) → joins_span a b ≡ true → part_span (merged_span a b) 0 (len_span a) ≡ a
front_merged a b e =
    ap (λ (c : _). shift (merged_span a b) 0 c)
    (rw (merged_content a b) (merged_left_lem a.content b.content (both a b e) 0 (len_span a)) ∙ part_whole a.content (span_ok a (join_to a b e).left).form) ∙
    (shift_merged a b 0 a.content ∙ shift_zero a)

both_ways : (a b : Bool) → (a ≡ true → b ≡ true) → (b ≡ true → a ≡ true) → a ≡ b
both_ways true true f g = refl
both_ways true false f g = sym (f refl)
both_ways false true f g = g refl
both_ways false false f g = refl

joins_front : (x a b : FugueSpan) → joins_span a b ≡ true → joins_span x (merged_span a b) ≡ joins_span x a
joins_front x a b e =
    both_ways (joins_span x (merged_span a b)) (joins_span x a) (left_of_merged x a b e)
    (λ h. part_to_whole x (merged_span a b) (len_span a) (merged_ok a b e) (subst (λ (s : FugueSpan). joins_span x s ≡ true) (sym (front_merged a b e)) h))

module _ (x y : FugueSpan) where
  on_by : (s : FugueSpan) (l : List FugueSpan) (t : Bool) → joins_span x s ≡ t → length (join_on x (s ∷ l)) ≡ cond t 0 1 + suc (length l)
  unfolding join_on
  on_by s l true e = ap (λ (b : Bool). length (cond b (merged_span x s ∷ l) (x ∷ (s ∷ l)))) e ∙ sym (zero-add (suc (length l)))
  on_by s l false e = ap (λ (b : Bool). length (cond b (merged_span x s ∷ l) (x ∷ (s ∷ l)))) e ∙ (let q : suc (suc (length l)) ≡ 1 + suc (length l) = omega arith in q)

  on_on : (l : List FugueSpan) → length (join_on x (join_on y l)) ≡ cond (joins_span x y) 0 1 + length (join_on y l)
  unfolding join_on
  on_on [] = on_by y [] (joins_span x y) refl
  on_on (z ∷ l) = go (joins_span y z) refl
    where
      go : (t : Bool) → joins_span y z ≡ t → length (join_on x (cond t (merged_span y z ∷ l) (y ∷ (z ∷ l)))) ≡ cond (joins_span x y) 0 1 + length (cond t (merged_span y z ∷ l) (y ∷ (z ∷ l)))
      go true e = on_by (merged_span y z) l (joins_span x y) (joins_front x y z e)
      go false e = on_by y (z ∷ l) (joins_span x y) refl

rows_law : (x : FugueSpan) (l : List FugueSpan) → AllOk (x ∷ l) → length (join (expand (x ∷ l))) ≡ 1 + more x l
unfolding AllOk expand join join_on more
rows_law x [] ok = ap length (join_on_lem x [] ok.0 (list_ok [] tt))
rows_law x (y ∷ l) ok =
    let a : length (join (expand (x ∷ (y ∷ l)))) ≡ length (join_on x (join (expand (y ∷ l)))) = ap length (join_on_lem x (expand (y ∷ l)) ok.0 (list_ok (y ∷ l) ok.1)) in
    let b : join (expand (y ∷ l)) ≡ join_on y (join (expand l)) = join_on_lem y (expand l) ok.1.0 (list_ok l ok.1.1) in
    let d : length (join_on x (join (expand (y ∷ l)))) ≡ cond (joins_span x y) 0 1 + length (join (expand (y ∷ l))) = ap (λ (m : List FugueSpan). length (join_on x m)) b ∙ (on_on x y (join (expand l)) ∙ ap (λ (m : List FugueSpan). cond (joins_span x y) 0 1 + length m) (sym b)) in
    let r : length (join (expand (y ∷ l))) ≡ 1 + more y l = rows_law y l ok.1 in
    omega (arith, a, d, r)

-- ---- the count apart

and_swap : (p s o j e : Bool) → ((p && ((e && s) && o)) && j) ≡ (e && ((p && (s && o)) && j))
and_swap true s o j true = refl
and_swap true s o j false = refl
and_swap false s o j true = refl
and_swap false s o j false = refl

same_1 : (b e d : Bool) → ((b && e) && d) ≡ (e && ((b && true) && d))
same_1 true true d = refl
same_1 true false d = refl
same_1 false true d = refl
same_1 false false d = refl

same_2 : (b e : Bool) → ((b && e) && true) ≡ (e && ((b && e) && true))
same_2 true true = refl
same_2 true false = refl
same_2 false true = refl
same_2 false false = refl

same_3 : (s e : Bool) → (s && false) ≡ (e && (s && false))
same_3 true true = refl
same_3 true false = refl
same_3 false true = refl
same_3 false false = refl

same_4 : (s b e : Bool) → (s && (b && e)) ≡ (e && (s && (b && true)))
same_4 true true true = refl
same_4 true true false = refl
same_4 true false true = refl
same_4 true false false = refl
same_4 false b true = refl
same_4 false b false = refl

same_diffs : (s t : Status) (d e : OptStatus) → (same_status s t && same_diff d e) ≡ (eq_z (diff_or d s).delete_times (diff_or e t).delete_times && (same_status s t && same_diff (uncounted_diff d) (uncounted_diff e)))
unfolding same_diff same_status
same_diffs s t Opt.None Opt.None = same_2 (beq s.future t.future) (eq_z s.delete_times t.delete_times)
same_diffs s t Opt.None (Opt.Some e) = same_3 (beq s.future t.future && eq_z s.delete_times t.delete_times) (eq_z s.delete_times e.delete_times)
same_diffs s t (Opt.Some d) Opt.None = same_3 (beq s.future t.future && eq_z s.delete_times t.delete_times) (eq_z d.delete_times t.delete_times)
same_diffs s t (Opt.Some d) (Opt.Some e) = same_4 (beq s.future t.future && eq_z s.delete_times t.delete_times) (beq d.future e.future) (eq_z d.delete_times e.delete_times)

-- the two statuses of a span, in a span that runs on
state_bare : (diff : Bool) (x y : FugueSpan) → same_state x y ≡ (eq_z (base_of diff x).delete_times (base_of diff y).delete_times && same_state (bare diff x) (bare diff y))
unfolding same_state same_status bare with_state base_of
state_bare true x y = same_diffs x.status y.status x.diff_status y.diff_status
state_bare false x y = same_1 (beq x.status.future y.status.future) (eq_z x.status.delete_times y.status.delete_times) (same_diff x.diff_status y.diff_status)

module _ (diff : Bool) where
  left_bare : (x : FugueSpan) (n : ℕ) → left_of (bare diff x) n ≡ left_of x n
  unfolding left_of bare with_state
  left_bare x zero = refl
  left_bare x (suc n) = refl

  module _ (x y : FugueSpan) where
    abbrev same : Bool
    same = eq_z (base_of diff x).delete_times (base_of diff y).delete_times

    runs_bare : runs_on x y ≡ (same && runs_on (bare diff x) (bare diff y))
    unfolding runs_on same_head same_state same_place same_origins shift bare with_state
    runs_bare =
        ap (λ (t : Bool). (same_place (shift x (len_span x) y.content) y && (t && same_origins (shift x (len_span x) y.content) y)) && joins x.content y.content) (state_bare diff x y) ∙
        (and_swap (same_place (shift x (len_span x) y.content) y) (same_state (bare diff x) (bare diff y)) (same_origins (shift x (len_span x) y.content) y) (joins x.content y.content) same ∙
        ap (λ (o : OptId). same && ((same_place (shift x (len_span x) y.content) y && (same_state (bare diff x) (bare diff y) && (same_opt o y.origin_left && same_opt x.origin_right y.origin_right))) && joins x.content y.content)) (sym (left_bare x (len_span x))))

    code_bare : (l : ℕ) (e r : Bool) → eqb (cond (eqb l 0) (cond (e && r) 0 14) l) 0 ≡ (e && eqb (cond (eqb l 0) (cond r 0 14) l) 0)
    code_bare l true r = refl
    code_bare l false r = go (eqb l 0) refl
      where
        go : (t : Bool) → eqb l 0 ≡ t → eqb (cond t 14 l) 0 ≡ false
        go true q = refl
        go false q = q

    pub joins_exact_lem : joins_span x y ≡ joins_exact (exact_of diff x) (exact_of diff y)
    unfolding joins_exact exact_of merge_span_code span_code ids_ok bare with_state
    joins_exact_lem =
        ap (λ (t : Bool). eqb (cond (eqb (lower (span_code x) (span_code y)) 0) (cond t 0 14) (lower (span_code x) (span_code y))) 0) runs_bare ∙
        code_bare (lower (span_code x) (span_code y)) same (runs_on (bare diff x) (bare diff y))

-- ---- the count of the rows

module _ (diff : Bool) where
  next : (t : Tail) (x y : FugueSpan) → 0 < t.rows → t.last ≡ exact_of diff x → (step_of t (exact_of diff y)).rows ≡ t.rows + cond (joins_span x y) 0 1
  unfolding step_of follows
  next t x y h e =
      ap₂ (λ (a b : Bool). cond (a && b) t.rows (t.rows + 1)) (lt-ltb 0 t.rows h) (ap (λ (z : Exact). joins_exact z (exact_of diff y)) e ∙ sym (joins_exact_lem diff x y)) ∙ go (joins_span x y)
    where
      go : (b : Bool) → cond b t.rows (t.rows + 1) ≡ t.rows + cond b 0 1
      go true = sym (add-zero t.rows)
      go false = refl

  tail_more : (l : List FugueSpan) (t : Tail) (x : FugueSpan) → 0 < t.rows → t.last ≡ exact_of diff x → (tail_of diff t l).rows ≡ t.rows + more x l
  unfolding tail_of more step_of
  tail_more [] t x h e = sym (add-zero t.rows)
  tail_more (y ∷ l) t x h e =
      let n : (step_of t (exact_of diff y)).rows ≡ t.rows + cond (joins_span x y) 0 1 = next t x y h e in
      let r : (tail_of diff (step_of t (exact_of diff y)) l).rows ≡ (step_of t (exact_of diff y)).rows + more y l = tail_more l (step_of t (exact_of diff y)) y (omega (arith, n, h)) refl in
      omega (arith, n, r)

  -- from no row on
  pub tail_law : (l : List FugueSpan) (t : Tail) → t.rows ≡ 0 → AllOk l → (tail_of diff t l).rows ≡ length (join (expand l))
  unfolding tail_of expand join step_of follows
  tail_law [] t z ok = z
  tail_law (x ∷ l) t z ok =
      let n : (step_of t (exact_of diff x)).rows ≡ 1 = ap (λ (k : ℕ). cond (ltb 0 k && joins_exact t.last (exact_of diff x)) k (k + 1)) z in
      let r : (tail_of diff (step_of t (exact_of diff x)) l).rows ≡ (step_of t (exact_of diff x)).rows + more x l = tail_more l (step_of t (exact_of diff x)) x (omega (arith, n)) refl in
      let w = rows_law x l ok in
      omega (arith, n, r, w)

  pub tail_most : (l : List FugueSpan) (t : Tail) → (tail_of diff t l).rows ≤ t.rows + length l
  unfolding tail_of step_of
  tail_most [] t = omega arith
  tail_most (x ∷ l) t =
      let r = tail_most l (step_of t (exact_of diff x)) in
      omega (arith, r, one (follows t (exact_of diff x)))
    where
      one : (b : Bool) → cond b t.rows (t.rows + 1) ≤ t.rows + 1
      one true = omega arith
      one false = omega arith

  pub tail_append : (a b : List FugueSpan) (t : Tail) → tail_of diff t (a ++ b) ≡ tail_of diff (tail_of diff t a) b
  unfolding tail_of
  tail_append [] b t = refl
  tail_append (x ∷ a) b t = tail_append a b (step_of t (exact_of diff x))

-- ---- what the steps of the count leave

module _ (f : SetFuture) (k : ℤ) (u : FugueSpan) (base : Status) (now : Bool) (diff : Bool) (e : base ≡ base_of diff u) (g : now ≡ set_future f base.future) where
  fresh : status now (pos 0) ≡ uncounted (change_status f k (base_of diff u))
  unfolding change_status
  fresh = ap (λ (b : Bool). status b (pos 0)) (g ∙ ap (λ (s : Status). set_future f s.future) e)

-- the count of a changed piece
pub times_changed : (f : SetFuture) (k : ℤ) (diff : Bool) (u : FugueSpan) → (base_of diff u).delete_times +ℤ k ≡ (base_of diff (update_unit f k diff u)).delete_times
unfolding base_of update_unit with_state change_status
times_changed f k true u = refl
times_changed f k false u = refl

pub exact_by : (diff : Bool) (x : FugueSpan) (z : ℤ) (r : FugueSpan) → z ≡ (base_of diff x).delete_times → r ≡ bare diff x → record { times = z; rest = r } ≡ exact_of diff x
unfolding exact_of
exact_by diff x z r e f = ap₂ (λ (a : ℤ) (b : FugueSpan). record { times = a; rest = b }) e f

pub joins_by : (a b : Exact) (t u : Bool) → eq_z a.times b.times ≡ t → joins_span a.rest b.rest ≡ u → (t && u) ≡ joins_exact a b
unfolding joins_exact
joins_by a b t u p q = rw (p, q)

pub step_by_lem : (t : Tail) (x : Exact) (b : Bool) → follows t x ≡ b → record { rows = cond b t.rows (t.rows + 1); last = x } ≡ step_of t x
unfolding step_of
step_by_lem t x b p = rw p

-- the pieces of a row
module _ (u : Update) (t : Tail) (s : FugueSpan) (i j : ℕ) where
  one_more : (x : FugueSpan) → step_of t (exact_of u.diff x) ≡ tail_of u.diff t (x ∷ [])
  unfolding tail_of
  one_more x = refl

  no_more : t ≡ tail_of u.diff t []
  unfolding tail_of
  no_more = refl

  pub part_step : i < j → (p : FugueSpan) (y : Exact) → p ≡ part_span s i j → y ≡ exact_of u.diff p → step_of t y ≡ tail_of u.diff t (part_of s i j)
  part_step h p y e f = ap (step_of t) (f ∙ ap (exact_of u.diff) e) ∙ (one_more (part_span s i j) ∙ ap (tail_of u.diff t) (sym (part_some s i j h)))

  pub part_stay : j ≤ i → t ≡ tail_of u.diff t (part_of s i j)
  part_stay h = no_more ∙ ap (tail_of u.diff t) (sym (part_none s i j h))

  pub changed_step : i < j → (p : FugueSpan) (y : Exact) → p ≡ part_span s i j → y ≡ exact_of u.diff (update_unit u.set u.change u.diff p) → step_of t y ≡ tail_of u.diff t (changed_of (Ch.Update u) s i j)
  unfolding change_span
  changed_step h p y e f =
      ap (step_of t) (f ∙ ap (λ (q : FugueSpan). exact_of u.diff (update_unit u.set u.change u.diff q)) e) ∙
      (one_more (update_unit u.set u.change u.diff (part_span s i j)) ∙ ap (tail_of u.diff t) (sym (changed_some s i j (Ch.Update u) h)))

  pub changed_stay : j ≤ i → t ≡ tail_of u.diff t (changed_of (Ch.Update u) s i j)
  changed_stay h = no_more ∙ ap (tail_of u.diff t) (sym (changed_none s i j (Ch.Update u) h))

module _ (u : Update) (s : FugueSpan) (p : Part) (cut : p ≡ update_cut u s) where
  pub from_most : p.from ≤ len_span s
  from_most = subst (λ (q : Part). q.from ≤ len_span s) (sym cut) (update_most u s).0

  pub to_most : p.to ≤ len_span s
  to_most = subst (λ (q : Part). q.to ≤ len_span s) (sym cut) (update_most u s).1

module _ (u : Update) (s : FugueSpan) (p : Part) (cut : p ≡ update_cut u s) (t a : Tail) (ea : a ≡ tail_of u.diff t (part_of s 0 p.from)) where
  pub first_most : a.rows ≤ t.rows + 1
  first_most =
      let m = tail_most u.diff (part_of s 0 p.from) t in
      let e = ap (λ (z : Tail). z.rows) ea in
      omega (arith, m, e, part_short s 0 p.from)

  module _ (b : Tail) (eb : b ≡ tail_of u.diff a (changed_of (Ch.Update u) s p.from p.to)) where
    pub second_most : b.rows ≤ t.rows + 2
    second_most =
        let m = tail_most u.diff (changed_of (Ch.Update u) s p.from p.to) a in
        let e = ap (λ (z : Tail). z.rows) eb in
        omega (arith, m, e, first_most, changed_short s p.from p.to (Ch.Update u))

    pub row_tail : (r : Tail) (len : ℕ) → len ≡ len_span s → r ≡ tail_of u.diff b (part_of s p.to len) → r ≡ tail_of u.diff t (pieces_of (Ch.Update u) s)
    unfolding pieces_of cut_of
    row_tail r len el er =
        er ∙
        (ap₂ (λ (z : Tail) (k : ℕ). tail_of u.diff z (part_of s p.to k)) (eb ∙ ap (λ (z : Tail). tail_of u.diff z (changed_of (Ch.Update u) s p.from p.to)) ea) el ∙
        (sym (tail_append u.diff (changed_of (Ch.Update u) s p.from p.to) (part_of s p.to (len_span s)) (tail_of u.diff t (part_of s 0 p.from))) ∙
        (sym (tail_append u.diff (part_of s 0 p.from) (changed_of (Ch.Update u) s p.from p.to ++ part_of s p.to (len_span s)) t) ∙
        ap (λ (q : Part). tail_of u.diff t (part_of s 0 q.from ++ (changed_of (Ch.Update u) s q.from q.to ++ part_of s q.to (len_span s)))) cut)))

-- ---- the loop over the rows

row_ok : (u : Update) (s : FugueSpan) → span_code s ≡ 0 → AllOk (pieces_of (Ch.Update u) s)
unfolding pieces_of CanCut
row_ok u s ok =
    let m = cut_most (Ch.Update u) s in
    let e = Ch.Update u in
    ok_append (part_of s 0 (cut_of e s).from) (changed_of e s (cut_of e s).from (cut_of e s).to ++ part_of s (cut_of e s).to (len_span s))
    (part_fine s 0 (cut_of e s).from ok m.0)
    (ok_append (changed_of e s (cut_of e s).from (cut_of e s).to) (part_of s (cut_of e s).to (len_span s))
    (changed_fine s (cut_of e s).from (cut_of e s).to e (changed_ok e s tt ok))
    (part_fine s (cut_of e s).to (len_span s) ok (omega arith)))

all_ok : (u : Update) (l : List FugueSpan) → AllOk l → AllOk (all_pieces (Ch.Update u) l)
unfolding all_pieces after_of AllOk
all_ok u [] ok = tt
all_ok u (s ∷ l) ok = ok_append (pieces_of (Ch.Update u) s) (all_pieces (Ch.Update u) l) (row_ok u s ok.0) (all_ok u l ok.1)

abbrev pub after : Update → List FugueSpan → ℕ
after u l = length (join (update_units u.peer (pos u.from) (pos u.to) u.set u.change u.diff (expand l)))

pub record Going (n : ℕ) (u : Update) (s : List ℕ) (t : Tail) (i : ℕ) : Type 0 where
  pub low : i ≤ n
  pub small : t.rows ≤ i * 3
  pub is : (tail_of u.diff t (all_pieces (Ch.Update u) (drop i (rows n s)))).rows ≡ after u (rows n s)

pub going_none : (n : ℕ) (u : Update) (s : List ℕ) → n ≡ 0 → 0 ≡ after u (rows n s)
unfolding rows expand update_units join
going_none n u s z = sym (ap (λ (k : ℕ). after u (rows k s)) z)

pub going_start : (n : ℕ) (u : Update) (s : List ℕ) (t : Tail) → AllOk (rows n s) → u.from ≤ u.to → t.rows ≡ 0 → Going n u s t 0
going_start n u s t ok order z =
    record {
      low = omega arith;
      small = omega (arith, z);
      is = tail_law u.diff (all_pieces (Ch.Update u) (rows n s)) t z (all_ok u (rows n s) ok) ∙ ap (λ (l : List FugueSpan). length (join l)) (update_law u (rows n s) ok order);
    }

module _ (n : ℕ) (u : Update) (s : List ℕ) (t : Tail) (i : ℕ) (v : Going n u s t i) where
  pub going_turn : i < n → (x : FugueSpan) (r : Tail) → x ≡ row_at s (i * 72) → r ≡ tail_of u.diff t (pieces_of (Ch.Update u) x) → Going n u s r (i + 1)
  unfolding all_pieces after_of
  going_turn h x r ex er =
      let D = drop (i + 1) (rows n s) in
      let y = row_at s (i * 72) in
      let e : r ≡ tail_of u.diff t (pieces_of (Ch.Update u) y) = er ∙ ap (λ (z : FugueSpan). tail_of u.diff t (pieces_of (Ch.Update u) z)) ex in
      let m = tail_most u.diff (pieces_of (Ch.Update u) y) t in
      let k : r.rows ≡ (tail_of u.diff t (pieces_of (Ch.Update u) y)).rows = ap (λ (z : Tail). z.rows) e in
      record {
        low = omega arith;
        small = omega (arith, m, k, short (Ch.Update u) y, v.small);
        is =
            ap (λ (z : Tail). (tail_of u.diff z (all_pieces (Ch.Update u) D)).rows) e ∙
            (ap (λ (z : Tail). z.rows) (sym (tail_append u.diff (pieces_of (Ch.Update u) y) (all_pieces (Ch.Update u) D) t)) ∙
            (ap (λ (l : List FugueSpan). (tail_of u.diff t (all_pieces (Ch.Update u) l)).rows) (sym (row_drop n s i h)) ∙ v.is));
      }

  pub going_done : n ≤ i → t.rows ≡ after u (rows n s)
  unfolding all_pieces tail_of
  going_done h = sym (ap (λ (l : List FugueSpan). (tail_of u.diff t (all_pieces (Ch.Update u) l)).rows) (row_none n s i h)) ∙ v.is
