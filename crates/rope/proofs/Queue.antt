-- pieces pushed on to a few joined rows, and rows that go from there to the list
use Prim.Native.Nat.{ℕ, zero, suc, ◌+◌, ◌-◌, ◌*◌, ◌<◌, ◌≤◌}
use mathlib.Core.Path.{◌≡◌, refl, sym, ap, ap₂, subst, ◌∙◌}
use mathlib.Core.Bool.{Bool, true, false, cond}
use mathlib.Core.List.{List, [], ◌∷◌, ◌++◌, append_assoc, append-nil}
use mathlib.Core.Logic.{◌⊎◌, inl, inr}
use native.Mathlib.Omega.{arith}
use native.Mathlib.Nat.{add-zero}
use lib.Dec.{ltb}
use lib.IntN.{ℤ}
use lib.ListN.{length, set, take, drop, length-append}
use lib.Seq.{drop-set-lt, take_all}
use borrow.Author.Tests.{lt-ltb, le-ltb}
use Rattle.span.specs.declared.ids.Id.{Id}
use Rattle.span.specs.Maybe.{OptId}
use Rattle.std.specs.Prelude.{None as Nothing, Some as At}
use Rattle.span.specs.declared.span.FugueSpan.{FugueSpan}
use Rattle.span.specs.Ids.{room_opt}
use Rattle.span.specs.Span.{len_span, ids_ok, span_code, part_span}
use Rattle.span.proofs.SpanLaws.{span_ok}
use Rattle.span.proofs.UnitLaws.{span_of_lem, part_ok, part_length}
use Rattle.span.specs.Units.{units_of, expand, Joined, join}
use Rattle.span.proofs.Unique.{AllUnits, in_range_lem, join_joined, expand-join}
use Rattle.span.proofs.ForRope.{span_units, list_units, expand-append, joined_is}
use Rattle.store.specs.Row.{rows, row_at, PutRow}
use Rattle.store.proofs.Laws.{length-rows}
use Rattle.units.specs.declared.change.SetFuture.{SetFuture}
use Rattle.rope.specs.declared.change.Delete.{Delete}
use Rattle.rope.specs.declared.change.Change.{Change}
use Rattle.rope.specs.declared.change.Change.TheVariants as Ch
use Rattle.rope.specs.declared.change.Part.{Part}
use Rattle.rope.specs.Spans.{AllOk}
use Rattle.units.specs.Change.{with_state, or_real, delete_unit, update_unit}
use Rattle.rope.specs.Pieces.{delete_cut, took_of, cut_of, change_span, CanCut, part_of, changed_of, pieces_of}
use Rattle.rope.specs.Streams.{Pushed}
use Rattle.rope.specs.Applies.{Fit, Waiting, Grown, Moved}
use Rattle.rope.proofs.Lists.{le-or}
use Rattle.rope.proofs.Rights.{row_drop, row_take, row_none}
use Rattle.rope.proofs.Borders.{set_row}
use Rattle.rope.proofs.Twice.{rows_take}
use Rattle.rope.proofs.Streaming.{units_append}
use Rattle.rope.proofs.Cuts.{less_room, took_most, cut_most}

pub lt-or : (i j : ℕ) → (i < j) ⊎ (j ≤ i)
lt-or i zero = inr (omega arith)
lt-or zero (suc j) = inl (omega arith)
lt-or (suc i) (suc j) = up (lt-or i j)
  where
    up : (i < j) ⊎ (j ≤ i) → (suc i < suc j) ⊎ (suc j ≤ suc i)
    up (inl h) = inl (omega arith)
    up (inr h) = inr (omega arith)

-- ---- well formed pieces

pub ok_append : (l m : List FugueSpan) → AllOk l → AllOk m → AllOk (l ++ m)
unfolding AllOk
ok_append [] m a b = b
ok_append (s ∷ l) m a b = (a.0, ok_append l m a.1 b)

ok_units : (l : List FugueSpan) → AllOk l → AllUnits (expand l)
unfolding AllOk expand AllUnits
ok_units [] ok = tt
ok_units (s ∷ l) ok = units_append (units_of s) (expand l) (span_units s ok.0) (ok_units l ok.1)

module _ (s : FugueSpan) (i j : ℕ) where
  pub part_some : i < j → part_of s i j ≡ part_span s i j ∷ []
  unfolding part_of
  part_some h = rw (lt-ltb i j h)

  pub part_none : j ≤ i → part_of s i j ≡ []
  unfolding part_of
  part_none h = rw (le-ltb i j h)

  module _ (e : Change) where
    pub changed_some : i < j → changed_of e s i j ≡ change_span e (part_span s i j) ∷ []
    unfolding changed_of
    changed_some h = rw (lt-ltb i j h)

    pub changed_none : j ≤ i → changed_of e s i j ≡ []
    unfolding changed_of
    changed_none h = rw (le-ltb i j h)

    pub changed_short : length (changed_of e s i j) ≤ 1
    unfolding changed_of
    changed_short = go (ltb i j)
      where
        go : (t : Bool) → length (cond t (change_span e (part_span s i j) ∷ []) []) ≤ 1
        go true = omega arith
        go false = omega arith

    pub changed_fine : (i < j → span_code (change_span e (part_span s i j)) ≡ 0) → AllOk (changed_of e s i j)
    unfolding AllOk
    changed_fine f = go (lt-or i j)
      where
        go : (i < j) ⊎ (j ≤ i) → AllOk (changed_of e s i j)
        go (inl h) = subst AllOk (sym (changed_some h)) (f h, tt)
        go (inr h) = subst AllOk (sym (changed_none h)) tt

  pub part_fine : span_code s ≡ 0 → j ≤ len_span s → AllOk (part_of s i j)
  unfolding AllOk
  part_fine ok k = go (lt-or i j)
    where
      go : (i < j) ⊎ (j ≤ i) → AllOk (part_of s i j)
      go (inl h) = subst AllOk (sym (part_some h)) (part_ok s i j (in_range_lem s i j ok h k), tt)
      go (inr h) = subst AllOk (sym (part_none h)) tt

  pub part_short : length (part_of s i j) ≤ 1
  unfolding part_of
  part_short = go (ltb i j)
    where
      go : (t : Bool) → length (cond t (part_span s i j ∷ []) []) ≤ 1
      go true = omega arith
      go false = omega arith

took_is : (d : Delete) (s : FugueSpan) → (delete_cut d s).to - (delete_cut d s).from ≤ d.len
unfolding took_of
took_is d s = took_most d s

-- a deleted piece, an updated piece
real_room : (r : OptId) (i : Id) (n : ℕ) → room_opt r n ≡ true → room_opt (At i) n ≡ true → room_opt (or_real r i) n ≡ true
real_room Nothing i n e f = f
real_room (At r) i n e f = e

pub deleted_ok : (i : Id) (p : FugueSpan) → span_code p ≡ 0 → room_opt (At i) (len_span p) ≡ true → span_code (delete_unit i p) ≡ 0
unfolding delete_unit with_state
deleted_ok i p ok r =
    let k = span_ok p ok in
    span_of_lem (delete_unit i p) (len_span p) refl k.form k.own k.lam (real_room p.real_id i (len_span p) k.real r)

pub updated_ok : (f : SetFuture) (k : ℤ) (diff : Bool) (p : FugueSpan) → span_code p ≡ 0 → span_code (update_unit f k diff p) ≡ 0
unfolding update_unit with_state span_code ids_ok
updated_ok f k true p ok = ok
updated_ok f k false p ok = ok

pub changed_ok : (e : Change) (s : FugueSpan) → CanCut e → span_code s ≡ 0 → (cut_of e s).from < (cut_of e s).to → span_code (change_span e (part_span s (cut_of e s).from (cut_of e s).to)) ≡ 0
unfolding CanCut cut_of change_span
changed_ok (Ch.Delete d) s can ok h =
    let m = cut_most (Ch.Delete d) s in
    let r = in_range_lem s (delete_cut d s).from (delete_cut d s).to ok h m.1 in
    deleted_ok d.start (part_span s (delete_cut d s).from (delete_cut d s).to) (part_ok s (delete_cut d s).from (delete_cut d s).to r)
    (rw (part_length s (delete_cut d s).from (delete_cut d s).to r) (less_room d.start d.len can.room ((delete_cut d s).to - (delete_cut d s).from) (took_is d s)))
changed_ok (Ch.Update u) s can ok h =
    updated_ok u.set u.change u.diff (part_span s (cut_of (Ch.Update u) s).from (cut_of (Ch.Update u) s).to)
    (part_ok s (cut_of (Ch.Update u) s).from (cut_of (Ch.Update u) s).to (in_range_lem s (cut_of (Ch.Update u) s).from (cut_of (Ch.Update u) s).to ok h (cut_most (Ch.Update u) s).1))

module _ (e : Change) (s : FugueSpan) (f : Fit e s) where
  pub pieces_fine : AllOk (pieces_of e s)
  unfolding pieces_of
  pieces_fine =
      let m = cut_most e s in
      ok_append (part_of s 0 (cut_of e s).from) (changed_of e s (cut_of e s).from (cut_of e s).to ++ part_of s (cut_of e s).to (len_span s))
      (part_fine s 0 (cut_of e s).from f.fine m.0)
      (ok_append (changed_of e s (cut_of e s).from (cut_of e s).to) (part_of s (cut_of e s).to (len_span s))
      (changed_fine s (cut_of e s).from (cut_of e s).to e (changed_ok e s f.can f.fine))
      (part_fine s (cut_of e s).to (len_span s) f.fine (omega arith)))

-- a row has at most three pieces
pub short : (e : Change) (s : FugueSpan) → length (pieces_of e s) ≤ 3
unfolding pieces_of
short e s =
    let a = part_short s 0 (cut_of e s).from in
    let b = changed_short s (cut_of e s).from (cut_of e s).to e in
    let d = part_short s (cut_of e s).to (len_span s) in
    omega (arith, a, b, d, length-append (part_of s 0 (cut_of e s).from) (changed_of e s (cut_of e s).from (cut_of e s).to ++ part_of s (cut_of e s).to (len_span s)), length-append (changed_of e s (cut_of e s).from (cut_of e s).to) (part_of s (cut_of e s).to (len_span s)))

-- ---- pieces pushed on

module _ (A l : List FugueSpan) (j : Joined A) (ok : AllOk l) where
  more : AllUnits (expand A ++ expand l)
  more = units_append (expand A) (expand l) (list_units A j) (ok_units l ok)

  pub grown_joined : Joined (join (expand A ++ expand l))
  grown_joined = join_joined (expand A ++ expand l) more

  pub grown_units : expand (join (expand A ++ expand l)) ≡ expand A ++ expand l
  grown_units = expand-join (expand A ++ expand l) more

pub grown_none : (m : ℕ) (q : List ℕ) → Joined (rows m q) → Grown m [] m q q
unfolding expand
grown_none m q j = record { few = omega arith; list = joined_is (rows m q) (expand (rows m q) ++ []) j (sym (append-nil (expand (rows m q)))) }

pub grown_one : (m k : ℕ) (y : FugueSpan) (s t : List ℕ) → Pushed m y k s t → Grown m (y ∷ []) k s t
unfolding expand
grown_one m k y s t p =
    record { few = p.few; list = p.list ∙ ap (λ (u : List FugueSpan). join (expand (rows m s) ++ u)) (sym (append-nil (units_of y))) }

module _ (m k : ℕ) (l : List FugueSpan) (s t : List ℕ) (j : Joined (rows m s)) (ok : AllOk l) (g : Grown m l k s t) where
  pub grown_waits : k * 72 ≤ length t → Waiting k t
  grown_waits h = record { long = h; joined = subst Joined (sym g.list) (grown_joined (rows m s) l j ok) }

  pub grown_more : (l2 : List FugueSpan) (k2 : ℕ) (r : List ℕ) → Grown k l2 k2 t r → Grown m (l ++ l2) k2 s r
  grown_more l2 k2 r g2 =
      record {
        few = (let e : length (l ++ l2) ≡ length l + length l2 = length-append l l2 in omega (arith, e, g.few, g2.few));
        list = g2.list ∙
            (ap (λ (u : List FugueSpan). join (expand u ++ expand l2)) g.list ∙
            (ap (λ (u : List FugueSpan). join (u ++ expand l2)) (grown_units (rows m s) l j ok) ∙
            (ap join (append_assoc (expand (rows m s)) (expand l) (expand l2)) ∙
            ap (λ (u : List FugueSpan). join (expand (rows m s) ++ u)) (sym (expand-append l l2)))));
      }

-- the three pieces of a row
module _ (e : Change) (x : FugueSpan) (f : Fit e x) (m a b k : ℕ) (q q1 q2 q3 : List ℕ) (j : Joined (rows m q)) (p : Part) (is : p ≡ cut_of e x) (len : ℕ) (long : len ≡ len_span x)
    (g1 : Grown m (part_of x 0 p.from) a q q1) (g2 : Grown a (changed_of e x p.from p.to) b q1 q2) where
  fine1 : AllOk (part_of x 0 p.from)
  fine1 = part_fine x 0 p.from f.fine (subst (λ (r : Part). r.from ≤ len_span x) (sym is) (cut_most e x).0)

  fine2 : AllOk (changed_of e x p.from p.to)
  fine2 = subst (λ (r : Part). AllOk (changed_of e x r.from r.to)) (sym is) (changed_fine x (cut_of e x).from (cut_of e x).to e (changed_ok e x f.can f.fine))

  j1 : Joined (rows a q1)
  j1 = subst Joined (sym g1.list) (grown_joined (rows m q) (part_of x 0 p.from) j fine1)

  pub row_waits : b * 72 ≤ length q2 → Waiting b q2
  row_waits h = grown_waits a b (changed_of e x p.from p.to) q1 q2 j1 fine2 g2 h

  pub row_grown : Grown b (part_of x p.to len) k q2 q3 → Grown m (pieces_of e x) k q q3
  unfolding pieces_of
  row_grown g3 =
      subst (λ (r : Part). Grown m (part_of x 0 r.from ++ (changed_of e x r.from r.to ++ part_of x r.to (len_span x))) k q q3) is
      (grown_more m a (part_of x 0 p.from) q q1 j fine1 g1 (changed_of e x p.from p.to ++ part_of x p.to (len_span x)) k q3
      (grown_more a b (changed_of e x p.from p.to) q1 q2 j1 fine2 g2 (part_of x p.to (len_span x)) k q3
      (subst (λ (n : ℕ). Grown b (part_of x p.to n) k q2 q3) long g3)))

-- ---- rows that move

pub rows_on : (w : ℕ) (s : List ℕ) (y : FugueSpan) → set (rows (w + 1) s) w y ≡ rows w s ++ y ∷ []
rows_on w s y =
    set_row (w + 1) s w (omega arith) y ∙
    ap₂ (λ (a b : List FugueSpan). a ++ y ∷ b) (sym (rows_take w (w + 1) s (omega arith))) (row_none (w + 1) s (w + 1) (omega arith))

pub moved_one : (w m : ℕ) (s q t r : List ℕ) (x : FugueSpan) → 1 < m → w * 72 + 72 ≤ length s → x ≡ row_at q (0 * 72) → PutRow w x s t → rows (m - 1) r ≡ take 0 (rows m q) ++ drop (0 + 1) (rows m q) → Moved w m 1 s q t r
moved_one w m s q t r x h room e put gone =
    record {
      one = omega arith;
      most = omega arith;
      next = λ k. refl;
      last = λ k. omega arith;
      list = ap₂ (λ (a b : List FugueSpan). a ++ b) (put.list (w + 1) (omega arith) (omega arith) ∙ rows_on w s x) gone ∙
          (append_assoc (rows w s) (x ∷ []) (drop 1 (rows m q)) ∙
          ap (λ (l : List FugueSpan). rows w s ++ l) (ap (λ (z : FugueSpan). z ∷ drop 1 (rows m q)) e ∙ sym (row_drop m q 0 (omega arith))));
      rest = kept;
    }
  where
    kept : (n i : ℕ) → n * 72 ≤ length s → w < i → drop i (rows n t) ≡ drop i (rows n s)
    kept n i l k = go (le-or n i)
      where
        go : (n ≤ i) ⊎ (i ≤ n) → drop i (rows n t) ≡ drop i (rows n s)
        go (inl z) = row_none n t i z ∙ sym (row_none n s i z)
        go (inr z) = ap (drop i) (put.list n l (omega arith)) ∙ drop-set-lt i (rows n s) w x (omega arith)

pub moved_none : (w m : ℕ) (s q : List ℕ) → m ≤ 1 → Moved w m 0 s q s q
moved_none w m s q h =
    record {
      one = omega arith;
      most = omega arith;
      next = λ k. omega arith;
      last = λ k. omega arith;
      list = ap₂ (λ (a b : ℕ). rows a s ++ rows b q) (add-zero w) (let e : m - 0 ≡ m = omega arith in e);
      rest = λ n i l k. refl;
    }

-- all that wait go
module _ (w m : ℕ) (s0 q s : List ℕ) (j : ℕ) (v : rows (w + j) s ≡ rows w s0 ++ take j (rows m q)) where
  pub all_turn : (x : FugueSpan) (t : List ℕ) → j < m → (w + j) * 72 + 72 ≤ length s → x ≡ row_at q (j * 72) → PutRow (w + j) x s t → rows (w + (j + 1)) t ≡ rows w s0 ++ take (j + 1) (rows m q)
  all_turn x t h room e put =
      ap (λ (k : ℕ). rows k t) (let k : w + (j + 1) ≡ w + j + 1 = omega arith in k) ∙
      (put.list (w + j + 1) (omega arith) (omega arith) ∙
      (rows_on (w + j) s x ∙
      (ap₂ (λ (l : List FugueSpan) (z : FugueSpan). l ++ z ∷ []) v e ∙
      (append_assoc (rows w s0) (take j (rows m q)) (row_at q (j * 72) ∷ []) ∙
      ap (λ (l : List FugueSpan). rows w s0 ++ l) (sym (row_take m q j h))))))

  pub all_done : m ≤ j → j ≤ m → rows (w + m) s ≡ rows w s0 ++ rows m q
  all_done h k =
      let e : m ≡ j = omega arith in
      ap (λ (n : ℕ). rows (w + n) s) e ∙ (v ∙ ap (λ (l : List FugueSpan). rows w s0 ++ l) (take_all j (rows m q) (rw (length-rows m q) (omega arith))))

pub all_start : (w m : ℕ) (s q : List ℕ) → rows (w + 0) s ≡ rows w s ++ take 0 (rows m q)
all_start w m s q = ap (λ (k : ℕ). rows k s) (add-zero w) ∙ sym (append-nil (rows w s))
