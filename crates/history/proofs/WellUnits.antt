-- Units stay well formed by inserts, deletes and checkouts; joined they are a well formed list (no 15), no longer than they are many.
use Prim.Native.Nat.{ℕ, zero, suc, ◌+◌, ◌≤◌}
use mathlib.Core.Path.{◌≡◌, refl, sym, ap, ap₂, subst, ◌∙◌}
use mathlib.Core.Logic.{◌⊎◌, inl, inr}
use mathlib.Core.Bool.{Bool, true, false, not, ◌&&◌, cond, and-eq-true_iff}
use mathlib.Core.List.Memᴰ
use mathlib.Core.List.{List, [], ◌∷◌, ◌++◌}
use native.Mathlib.Omega.{arith}
use lib.Dec.{eqb, leb}
use lib.IntN.{ℤ, pos, ◌+ℤ◌}
use lib.ListN.{length}
use borrow.Author.Tests.{eq-eqb, le-leb, ne_eqb}
use Rattle.std.specs.Prelude.{None, Some}
use Rattle.span.specs.declared.chunk.RichtextChunk.{RichtextChunk}
use Rattle.span.specs.declared.ids.Id.{Id}
use Rattle.span.specs.Maybe.{OptId}
use Rattle.span.specs.declared.status.Status.{Status}
use Rattle.span.specs.Maybe.{OptStatus}
use Rattle.span.specs.declared.span.FugueSpan.{FugueSpan}
use Rattle.span.specs.Chunk.{formed, len_of}
use Rattle.span.specs.Ids.{UNKNOWN_PEER, room, room_of, room_opt, inc_id}
use Rattle.span.proofs.IdsLaws.{Room, roomy, room_opt_less}
use Rattle.span.specs.Status.{status, activated}
use Rattle.span.specs.Span.{len_span, ids_ok, span_code, joins_span, merged_span, new_span, real_new, shift, left_of}
use Rattle.span.proofs.SpanLaws.{SpanOk, span_ok}
use Rattle.span.proofs.UnitLaws.{span_of_lem}
use Rattle.span.proofs.Views.{len_pos}
use Rattle.span.specs.Units.{units_of, expand, Apart, Joined, join_on, join}
use Rattle.span.specs.Units as Units
use Rattle.span.proofs.Unique.{AllUnits, join_joined, expand-join}
use Rattle.span.proofs.ForRope.{span_units}
use Rattle.units.specs.Limits.{UNITS}
use Rattle.units.specs.Place.{mem_id, front, behind, with_origins, insert_units, origin_left, origin_right}
use Rattle.units.specs.Change.{with_state, or_real, delete_unit, delete_first, delete_units}
use Rattle.units.specs.Store.{touching, joined_rows, distinct_ids, named, origins_named, well_formed}
use Rattle.fugue.specs.Tree.{ref, ol, or}
use Rattle.fugue.proofs.Keys.{Key, Lt-irrefl, Lt}
use Rattle.fugue.proofs.ScanPlace.{Mem, Sorted}
use Rattle.fugue.proofs.Tests.{Test, pass, fail, mem_id_test}
use Rattle.fugue.proofs.Insert.{In, Good}
use Rattle.fugue.proofs.Cursor.{front-behind}
use Rattle.fugue.proofs.Splices.{insert_splice, splice_from, unit_in}
use Rattle.history.specs.Edit.{Version, Held, History}
use Rattle.history.specs.Checkout.{units_at, units_between}
use Rattle.history.specs.Checkout as Co
use Rattle.fugue.proofs.Hang.{none≢at}

-- a well formed unit
abbrev pub Unit1 : FugueSpan → Type 0
Unit1 u = (span_code u ≡ 0) × (len_span u ≡ 1)

abbrev pub Units1 : List FugueSpan → Type 0
Units1 us = (u : FugueSpan) → Mem u us → Unit1 u

pub all_of : (us : List FugueSpan) → Units1 us → AllUnits us
unfolding AllUnits
all_of [] f = tt
all_of (u ∷ us) f = ((f u (Memᴰ.head refl)).0, ((f u (Memᴰ.head refl)).1, all_of us (λ (w : FugueSpan) (m : Mem w us). f w (Memᴰ.tail m))))

pub of_all : (us : List FugueSpan) → AllUnits us → Units1 us
unfolding AllUnits
of_all [] a u m = absurd (Memᴰ.not-nil m)
of_all (v ∷ us) a u m = go (Memᴰ.cases_cons m) (of_all us a.1.1 u)
  where
    go : (u ≡ v) ⊎ Mem u us → (Mem u us → Unit1 u) → Unit1 u
    go (inl e) ih = subst Unit1 (sym e) (a.0, a.1.0)
    go (inr k) ih = ih k

-- ---- checkouts

unit_at : (v : Version) (held : List Held) (u : FugueSpan) → Unit1 u → Unit1 (Co.unit_at v held u)
unfolding span_code ids_ok Co.unit_at with_state
unit_at v held u k = k

pub units_at_lem : (v : Version) (h : History) → Units1 h.list → Units1 (units_at v h)
unfolding units_at
units_at_lem v h f u m = go (Memᴰ.of_map (Co.unit_at v h.held) h.list m)
  where
    go : (a : FugueSpan) × Mem a h.list × (Co.unit_at v h.held a ≡ u) → Unit1 u
    go t = subst Unit1 t.2 (unit_at v h.held t.0 (f t.0 t.1))

unit_between : (a b : Version) (held : List Held) (u : FugueSpan) → Unit1 u → Unit1 (Co.unit_between a b held u)
unfolding span_code ids_ok Co.unit_between with_state
unit_between a b held u k = k

pub units_between_lem : (a b : Version) (h : History) → Units1 h.list → Units1 (units_between a b h)
unfolding units_between
units_between_lem a b h f u m = go (Memᴰ.of_map (Co.unit_between a b h.held) h.list m)
  where
    go : (w : FugueSpan) × Mem w h.list × (Co.unit_between a b h.held w ≡ u) → Unit1 u
    go t = subst Unit1 t.2 (unit_between a b h.held t.0 (f t.0 t.1))

-- ---- inserts

pub span_new : (i : Id) (lam : ℕ) (c : RichtextChunk) (x o : OptId) → ¬ (i.peer ≡ UNKNOWN_PEER) → formed c ≡ true → room_opt (Some i) (len_of c) ≡ true → lam + len_of c ≤ 4294967295
    → span_code (with_origins (new_span i lam c) x o) ≡ 0
unfolding with_origins new_span real_new room_opt
span_new i lam c x o k f r b = span_of_lem (with_origins (new_span i lam c) x o) (len_of c) refl f ((and-eq-true_iff (not (eqb i.peer UNKNOWN_PEER)) (room_of i (len_of c))).0 r).1 b
    (ap (λ (z : Bool). room_opt (cond z None (Some i)) (len_of c)) (ne_eqb i.peer UNKNOWN_PEER k) ∙ r)

pub units_insert : (at : ℕ) (s : FugueSpan) (l : List FugueSpan) → span_code (with_origins s (origin_left at l) (origin_right at l)) ≡ 0 → Units1 l → Units1 (insert_units at s l)
units_insert at s l ok f u m = go (splice_from (insert_splice at s l) u m)
  where
    go : Mem u l ⊎ Mem u (units_of (with_origins s (origin_left at l) (origin_right at l))) → Unit1 u
    go (inl k) = f u k
    go (inr k) = of_all (units_of (with_origins s (origin_left at l) (origin_right at l))) (span_units (with_origins s (origin_left at l) (origin_right at l)) ok) u k

-- ---- deletes

room_next : (i : Id) (n : ℕ) → room_opt (Some i) (suc n) ≡ true → room_opt (Some (inc_id i 1)) n ≡ true
unfolding room_opt inc_id
room_next i n e =
    let t = (and-eq-true_iff (not (eqb i.peer UNKNOWN_PEER)) (room_of i (suc n))).0 e in
    let r : Room i.counter (suc n) = roomy i.counter (suc n) t.1 in
    let b : r.at + suc n ≤ 2147483647 = r.ends in
    (and-eq-true_iff (not (eqb i.peer UNKNOWN_PEER)) (room (i.counter +ℤ pos 1) n)).1
    (t.0, ap (λ (z : ℤ). room (z +ℤ pos 1) n) r.is ∙ (unfold room in le-leb (r.at + 1 + n) 2147483647 (omega arith)))

unit_real : (u : FugueSpan) (s : Status) (d : OptStatus) (r : OptId) → Unit1 u → room_opt r 1 ≡ true → Unit1 (with_state u s d r)
unfolding with_state
unit_real u s d r k e =
    let o : SpanOk u = span_ok u k.0 in
    (span_of_lem (with_state u s d r) 1 k.1 o.form (subst (λ (z : ℕ). room_of u.id z ≡ true) k.1 o.own) (subst (λ (z : ℕ). u.lamport + z ≤ 4294967295) k.1 o.lam) e, k.1)

unit_delete : (i : Id) (u : FugueSpan) → Unit1 u → room_opt (Some i) 1 ≡ true → Unit1 (delete_unit i u)
unfolding delete_unit
unit_delete i u k e = unit_real u (status u.status.future (u.status.delete_times +ℤ pos 1)) u.diff_status (or_real u.real_id i) k (go u.real_id (subst (λ (z : ℕ). room_opt u.real_id z ≡ true) k.1 (span_ok u k.0).real))
  where
    go : (r : OptId) → room_opt r 1 ≡ true → room_opt (or_real r i) 1 ≡ true
    go None h = e
    go (Some j) h = h

units_first : (l : List FugueSpan) (n : ℕ) (i : Id) → room_opt (Some i) n ≡ true → Units1 l → Units1 (delete_first l n i)
unfolding delete_first
units_first [] n i e f u m = absurd (Memᴰ.not-nil m)
units_first (v ∷ l) zero i e f u m = f u m
units_first (v ∷ l) (suc n) i e f u m = go (activated v.status) m
    (units_first l n (inc_id i 1) (room_next i n e) (λ (w : FugueSpan) (k : Mem w l). f w (Memᴰ.tail k)) u) (units_first l (suc n) i e (λ (w : FugueSpan) (k : Mem w l). f w (Memᴰ.tail k)) u)
  where
    fv : Unit1 v
    fv = f v (Memᴰ.head refl)

    two : (w : FugueSpan) (r : List FugueSpan) → Unit1 w → (Mem u r → Unit1 u) → (u ≡ w) ⊎ Mem u r → Unit1 u
    two w r k ih (inl d) = subst Unit1 (sym d) k
    two w r k ih (inr j) = ih j

    go : (b : Bool) → Mem u (cond b (delete_unit i v ∷ delete_first l n (inc_id i 1)) (v ∷ delete_first l (suc n) i)) → (Mem u (delete_first l n (inc_id i 1)) → Unit1 u) → (Mem u (delete_first l (suc n) i) → Unit1 u) → Unit1 u
    go true k yes-ih no-ih = two (delete_unit i v) (delete_first l n (inc_id i 1)) (unit_delete i v fv (room_opt_less (Some i) 1 (suc n) (omega arith) e)) yes-ih (Memᴰ.cases_cons k)
    go false k yes-ih no-ih = two v (delete_first l (suc n) i) fv no-ih (Memᴰ.cases_cons k)

pub units_delete : (at n : ℕ) (i : Id) (l : List FugueSpan) → room_opt (Some i) n ≡ true → Units1 l → Units1 (delete_units at n i l)
unfolding delete_units
units_delete at n i l e f u m = go (Memᴰ.append_cases (front l at) m)
  where
    in_l : (w : FugueSpan) → Mem w (front l at ++ behind l at) → Mem w l
    in_l w k = subst (λ (z : List FugueSpan). Mem w z) (front-behind l at) k

    go : Mem u (front l at) ⊎ Mem u (delete_first (behind l at) n i) → Unit1 u
    go (inl k) = f u (in_l u (Memᴰ.append_left (behind l at) k))
    go (inr k) = units_first (behind l at) n i e (λ (w : FugueSpan) (j : Mem w (behind l at)). f w (in_l w (Memᴰ.append_right (front l at) j))) u k

-- ---- joined

on_length : (u : FugueSpan) (l : List FugueSpan) → length (join_on u l) ≤ suc (length l)
unfolding join_on
on_length u [] = omega arith
on_length u (s ∷ l) = go (joins_span u s)
  where
    go : (b : Bool) → length (cond b (merged_span u s ∷ l) (u ∷ (s ∷ l))) ≤ suc (suc (length l))
    go true = omega arith
    go false = omega arith

pub join-length : (us : List FugueSpan) → length (join us) ≤ length us
unfolding join
join-length [] = omega arith
join-length (u ∷ us) = omega (arith, on_length u (join us), join-length us)

joined_rows_lem : (l : List FugueSpan) → Joined l → joined_rows l ≡ true
unfolding Joined joined_rows
joined_rows_lem [] j = refl
joined_rows_lem (s ∷ l) j = ap₂ (λ (a b : Bool). cond a (cond b false (joined_rows l)) false) (eq-eqb (span_code s) 0 j.0) (touch l j.1.0) ∙ joined_rows_lem l j.1.1
  where
    touch : (l : List FugueSpan) → Apart s l → touching s l ≡ false
    touch [] p = unfold touching in refl
    touch (t ∷ l) p = unfold touching Apart in p

distinct_of : (key : OptId → Key) (us : List FugueSpan) → Sorted key us → distinct_ids us ≡ true
unfolding distinct_ids
distinct_of key [] s = refl
distinct_of key (u ∷ us) s = go (mem_id_test (Some u.id) us) (distinct_of key us s.1)
  where
    go : Test (mem_id (Some u.id) us) ((w : FugueSpan) × Mem w us × (ref w ≡ Some u.id)) → distinct_ids us ≡ true → (not (mem_id (Some u.id) us) && distinct_ids us) ≡ true
    go (pass e t) ih = absurd (Lt-irrefl (key (ref u)) (subst (λ (z : OptId). Lt (key (ref u)) (key z)) t.2 (s.0 t.0 t.1)))
    go (fail e t) ih = ap (λ (b : Bool). not b && distinct_ids us) e ∙ ih

named_of : (r : OptId) (us : List FugueSpan) → In r us → named r us ≡ true
unfolding named
named_of None us i = refl
named_of (Some j) us (inl e) = absurd (none≢at (sym e))
named_of (Some j) us (inr t) = go (mem_id_test (Some j) us)
  where
    go : Test (mem_id (Some j) us) ((w : FugueSpan) × Mem w us × (ref w ≡ Some j)) → mem_id (Some j) us ≡ true
    go (pass e k) = e
    go (fail e k) = absurd (k t)

first_left : (s : FugueSpan) → ol (Units.unit_at s 0) ≡ ol s
unfolding shift left_of
first_left s = refl

first_right : (s : FugueSpan) → or (Units.unit_at s 0) ≡ or s
unfolding shift
first_right s = refl

origins_of : (l us : List FugueSpan) → Joined l → ((u : FugueSpan) → Mem u (expand l) → (named (ol u) us ≡ true) × (named (or u) us ≡ true)) → origins_named l us ≡ true
unfolding origins_named Joined expand
origins_of [] us j f = refl
origins_of (s ∷ l) us j f =
    let k : (named (ol (Units.unit_at s 0)) us ≡ true) × (named (or (Units.unit_at s 0)) us ≡ true) = f (Units.unit_at s 0) (Memᴰ.append_left (expand l) (unit_in s 0 (len_pos s.content (span_ok s j.0).form))) in
    ap₂ ◌&&◌ (ap₂ ◌&&◌ (ap (λ (r : OptId). named r us) (sym (first_left s)) ∙ k.0) (ap (λ (r : OptId). named r us) (sym (first_right s)) ∙ k.1))
    (origins_of l us j.1.1 (λ (u : FugueSpan) (m : Mem u (expand l)). f u (Memᴰ.append_right (units_of s) m)))

-- a good list of units, joined, is well formed
pub well_joined : (key : OptId → Key) (us : List FugueSpan) → Good key us → Units1 us → length us ≤ UNITS → well_formed (join us) ≡ true
unfolding well_formed
well_joined key us g f b = ap₂ ◌&&◌ (joined_rows_lem (join us) (join_joined us (all_of us f)))
    (ap (λ (z : List FugueSpan). leb (length z) UNITS && (distinct_ids z && origins_named (join us) z)) (expand-join us (all_of us f))
    ∙ ap₂ ◌&&◌ (le-leb (length us) UNITS b) (ap₂ ◌&&◌ (distinct_of key us g.sorted) (origins_of (join us) us (join_joined us (all_of us f))
    (λ (u : FugueSpan) (m : Mem u (expand (join us))). go u (subst (λ (z : List FugueSpan). Mem u z) (expand-join us (all_of us f)) m)))))
  where
    go : (u : FugueSpan) → Mem u us → (named (ol u) us ≡ true) × (named (or u) us ≡ true)
    go u m = (named_of (ol u) us (g.ol_in u m), named_of (or u) us (g.or_in u m))
