-- The start, empty or a placeholder, is a history: the placeholder's units are those of an edit that came before all.
use Prim.Native.Nat.{ℕ, zero, suc, ◌+◌, ◌<◌, ◌≤◌}
use mathlib.Core.Path.{◌≡◌, refl, sym, ap, subst, ◌∙◌}
use mathlib.Core.Logic.{inl}
use mathlib.Core.Bool.{Bool, true, cond}
use mathlib.Core.List.Memᴰ
use mathlib.Core.List.{List, [], ◌∷◌, append-nil}
use lib.ListN.{length}
use lib.IntN.{pos}
use native.Mathlib.Omega.{arith}
use borrow.Author.Tests.{le-leb, lt-ltb, ne_eqb}
use Rattle.std.specs.Prelude.{None, Some}
use Rattle.span.specs.declared.chunk.RichtextChunk.{RichtextChunk}
use Rattle.span.specs.declared.ids.Id.{Id}
use Rattle.span.specs.Maybe.{OptId}
use Rattle.span.specs.declared.span.FugueSpan.{FugueSpan}
use Rattle.span.specs.Chunk.{UNKNOWN, chunk, formed, len_of, shape_of}
use Rattle.span.specs.Ids.{UNKNOWN_PEER, id, inc_id, room, room_opt}
use Rattle.span.specs.Span.{span_code, new_span, real_new, shift}
use Rattle.span.specs.Units.{units_of}
use Rattle.span.specs.Units as Units
use Rattle.span.proofs.UnitLaws.{span_of_lem}
use Rattle.span.proofs.ForRope.{units_length, span_units}
use Rattle.units.specs.Limits.{UNITS}
use Rattle.units.specs.Place.{parent_right, front, behind, last_id, first_past, origin_left, origin_right, with_origins, put_at, scan_place, run, up_to, insert_units, shown}
use Rattle.units.specs.Query.{placeholder}
use Rattle.fugue.specs.Tree.{ref}
use Rattle.fugue.proofs.Order.{Older}
use Rattle.fugue.proofs.Keys.{Key}
use Rattle.fugue.proofs.ScanPlace.{Mem}
use Rattle.fugue.proofs.Insert.{In, Good}
use Rattle.fugue.proofs.InsertGood.{insert_good}
use Rattle.fugue.proofs.NewKeys.{span_key, span_key-length, first_key, first_key-length, key_of, key_of_new, good_new, hung_new, hungs_new}
use Rattle.fugue.proofs.Splices.{unit_from, unit_in}
use Rattle.fugue.proofs.Clocks.{cnt, Fits, Causal}
use Rattle.history.specs.Edit.{Insert, Edit, size_of, Held}
use Rattle.history.specs.Arrive.{start}
use Rattle.history.specs.Codes.{inside}
use Rattle.history.proofs.Plain.{plain}
use Rattle.history.proofs.Context.{holds, clock, Known, before, before_unknown, Natural, holder, base, holder_size}
use Rattle.history.proofs.Run.{MemE, MemH, Made, Run, span_of}
use Rattle.history.proofs.WellUnits.{Units1, of_all}

abbrev no_keys : OptId → Key
no_keys r = []

good_nil : Good no_keys []
good_nil = record {
  none_key = refl;
  sorted = tt;
  wf = λ (v : FugueSpan) (m : Mem v []). absurd (Memᴰ.not-nil m);
  ol_in = λ (v : FugueSpan) (m : Mem v []). absurd (Memᴰ.not-nil m);
  or_in = λ (v : FugueSpan) (m : Mem v []). absurd (Memᴰ.not-nil m);
  rooted = λ (v : FugueSpan) (m : Mem v []). absurd (Memᴰ.not-nil m);
}

run_empty : Run 0 [] (start 0) no_keys
unfolding start cnt Causal
run_empty = record {
  causal = tt;
  natural = λ (e : Edit) (m : MemE e []). absurd (Memᴰ.not-nil m);
  base = refl;
  holding = λ (e : Edit) (m : MemE e []). absurd (Memᴰ.not-nil m);
  fit = λ (e : Edit) (m : MemE e []). absurd (Memᴰ.not-nil m);
  good = good_nil;
  deep = λ (v : FugueSpan) (m : Mem v []). absurd (Memᴰ.not-nil m);
  src = λ (v : FugueSpan) (m : Mem v []). absurd (Memᴰ.not-nil m);
  has = λ (e : Edit) (lam : ℕ) (c : RichtextChunk) (m : MemE e []). absurd (Memᴰ.not-nil m);
  no_twice = tt;
  tooks = λ (x : Held) (m : MemH x []). absurd (Memᴰ.not-nil m);
  has_t = λ (e : Edit) (m : MemE e []). absurd (Memᴰ.not-nil m);
}

-- ---- a placeholder of m + 1 units

module _ (m : ℕ) where
  abbrev i0 : Id
  i0 = id UNKNOWN_PEER (pos 0)

  abbrev s : FugueSpan
  s = placeholder (suc m)

  no_old : (w : FugueSpan) → Mem w [] → Older w.id (id UNKNOWN_PEER (pos 0))
  no_old w k = absurd (Memᴰ.not-nil k)

  in_none : In None []
  in_none = inl refl

  key0 : OptId → Key
  key0 = key_of no_keys [] good_nil (id UNKNOWN_PEER (pos 0)) m None None in_none no_old

  -- it is what an insert into nothing leaves
  as_insert : insert_units 0 (placeholder (suc m)) [] ≡ units_of (placeholder (suc m))
  unfolding insert_units front behind put_at scan_place run up_to origin_left origin_right last_id first_past with_origins placeholder new_span
  as_insert = append-nil (units_of (placeholder (suc m)))

  good0 : Good key0 (units_of (placeholder (suc m)))
  unfolding key0 placeholder new_span len_of shape_of origin_left origin_right front behind last_id first_past
  good0 = subst (Good key0) as_insert (insert_good key0 [] (good_new no_keys [] good_nil i0 m None None in_none no_old) 0 s
      (λ (v : FugueSpan) (k : Mem v []). absurd (Memᴰ.not-nil k)) no_old (hung_new no_keys [] good_nil i0 m None None in_none no_old)
      (λ (j : ℕ) (b : suc j < suc m). hungs_new no_keys [] good_nil i0 m None None in_none no_old j b) (omega arith))

  unit0 : (w : FugueSpan) → Mem w (units_of (placeholder (suc m))) → (k : ℕ) × (k < suc m) × (w ≡ Units.unit_at (placeholder (suc m)) k) × (w.id ≡ inc_id (id UNKNOWN_PEER (pos 0)) k)
  unfolding placeholder new_span len_of shape_of shift
  unit0 w k =
      let t : (i : ℕ) × (i < suc m) × (w ≡ Units.unit_at (placeholder (suc m)) i) = unit_from (placeholder (suc m)) w k in
      (t.0, t.1, t.2, ap (λ (z : FugueSpan). z.id) t.2)

  length0 : length (units_of (placeholder (suc m))) ≡ suc m
  unfolding placeholder new_span len_of shape_of
  length0 = units_length (placeholder (suc m))

  deep0 : (w : FugueSpan) → Mem w (units_of (placeholder (suc m))) → length (key0 (ref w)) ≤ length (units_of (placeholder (suc m)))
  unfolding key0
  deep0 w k =
      let t : (i : ℕ) × (i < suc m) × (w ≡ Units.unit_at (placeholder (suc m)) i) × (w.id ≡ inc_id (id UNKNOWN_PEER (pos 0)) i) = unit0 w k in
      let b : t.0 < suc m = t.1 in
      let f : Key = first_key no_keys i0 None (parent_right [] None None) in
      let q : length (key_of no_keys [] good_nil i0 m None None in_none no_old (ref w)) ≡ length (span_key i0 (first_key no_keys i0 None (parent_right [] None None)) t.0)
      = ap length (ap (λ (z : Id). key_of no_keys [] good_nil i0 m None None in_none no_old (Some z)) t.3 ∙ key_of_new no_keys [] good_nil i0 m None None in_none no_old t.0 t.1) in
      omega (arith, q, span_key-length i0 (first_key no_keys i0 None (parent_right [] None None)) t.0, first_key-length no_keys i0 None (parent_right [] None None) 0 (omega arith) (omega arith), length0)

  list0 : (start (suc m)).list ≡ units_of (placeholder (suc m))
  unfolding start
  list0 = ap (λ (b : Bool). cond b [] (units_of (placeholder (suc m)))) (ne_eqb (suc m) 0 (λ (d : suc m ≡ 0). omega arith))

  made0 : (w : FugueSpan) → Mem w (units_of (placeholder (suc m))) → Made (start (suc m)) (holder (suc m)) w
  unfolding placeholder
  made0 w k =
      let t : (i : ℕ) × (i < suc m) × (w ≡ Units.unit_at (placeholder (suc m)) i) × (w.id ≡ inc_id (id UNKNOWN_PEER (pos 0)) i) = unit0 w k in
      record {
        lam = 0;
        c = chunk UNKNOWN (suc m);
        act = refl;
        k = t.0;
        small = subst (λ (z : ℕ). t.0 < z) (sym (holder_size (suc m))) t.1;
        is = ap plain t.2 ∙ (same t.0 ∙ ap (λ (l : List FugueSpan). plain (Units.unit_at (span_of (holder (suc m)) 0 (chunk UNKNOWN (suc m)) l) t.0)) (sym (before_unknown (holder (suc m)) (start (suc m)) refl)));
      }
    where
      same : (i : ℕ) → plain (Units.unit_at (placeholder (suc m)) i) ≡ plain (Units.unit_at (span_of (holder (suc m)) 0 (chunk UNKNOWN (suc m)) []) i)
      same i = unfold origin_left origin_right front behind last_id first_past with_origins placeholder new_span in refl

  fits0 : Fits (clock (suc m)) [] (holder (suc m))
  unfolding cnt holds
  fits0 = record { own = refl; held = λ (p : ℕ). omega arith; closed = λ (f : Edit) (k : MemE f []). absurd (Memᴰ.not-nil k) }

  run_holder : Run (suc m) (holder (suc m) ∷ []) (start (suc m)) key0
  unfolding start Causal cnt holds inside size_of len_of shape_of
  run_holder = record {
    causal = (fits0, omega arith, tt);
    natural = λ (e : Edit) (k : MemE e (holder (suc m) ∷ [])). nat e (Memᴰ.eq_of_singleton k);
    base = omega arith;
    holding = λ (e : Edit) (k : MemE e (holder (suc m) ∷ [])) (p : ℕ). hold e (Memᴰ.eq_of_singleton k) p;
    fit = λ (e : Edit) (k : MemE e (holder (suc m) ∷ [])). fit0 e (Memᴰ.eq_of_singleton k);
    good = subst (Good key0) (sym list0) good0;
    deep = λ (w : FugueSpan) (k : Mem w (start (suc m)).list). deep1 w k;
    src = λ (w : FugueSpan) (k : Mem w (start (suc m)).list). record { e = holder (suc m); is_in = Memᴰ.head refl; made = made0 w (subst (λ (z : List FugueSpan). Mem w z) list0 k) };
    has = λ (e : Edit) (lam : ℕ) (c : RichtextChunk) (k : MemE e (holder (suc m) ∷ [])) (a : e.act ≡ Insert lam c) (i : ℕ) (b : i < len_of c). has0 e lam c (Memᴰ.eq_of_singleton k) a i b;
    no_twice = tt;
    tooks = λ (x : Held) (k : MemH x []). absurd (Memᴰ.not-nil k);
    has_t = λ (e : Edit) (k : MemE e (holder (suc m) ∷ [])) (kn : Known e). absurd (kn (ap (λ (z : Edit). z.id.peer) (Memᴰ.eq_of_singleton k)));
  }
    where
      nat : (e : Edit) → e ≡ holder (suc m) → Natural e.id
      nat e d = subst (λ (z : Edit). Natural z.id) (sym d) refl

      hold : (e : Edit) → e ≡ holder (suc m) → (p : ℕ) → holds (suc m) e p ≤ cnt (clock (suc m)) (holder (suc m) ∷ []) p
      hold e d p = subst (λ (z : Edit). holds (suc m) z p ≤ cnt (clock (suc m)) (holder (suc m) ∷ []) p) (sym d) (unfold holds in omega arith)

      fit0 : (e : Edit) → e ≡ holder (suc m) → inside e.act e.at (before e (start (suc m))) ≡ true
      fit0 e d = subst (λ (z : Edit). inside z.act z.at (before z (start (suc m))) ≡ true) (sym d) (unfold inside in le-leb 0 (shown (before (holder (suc m)) (start (suc m)))) (omega arith))

      deep1 : (w : FugueSpan) → Mem w (start (suc m)).list → length (key0 (ref w)) ≤ length (start (suc m)).list
      deep1 w k = subst (λ (l : List FugueSpan). length (key0 (ref w)) ≤ length l) (sym list0) (deep0 w (subst (λ (z : List FugueSpan). Mem w z) list0 k))

      has0 : (e : Edit) (lam : ℕ) (c : RichtextChunk) → e ≡ holder (suc m) → e.act ≡ Insert lam c → (i : ℕ) → i < len_of c → (w : FugueSpan) × Mem w (start (suc m)).list × (w.id ≡ inc_id e.id i)
      has0 e lam c d a i b =
          let q : Insert 0 (chunk UNKNOWN (suc m)) ≡ Insert lam c = ap (λ (z : Edit). z.act) (sym d) ∙ a in
          let ec : chunk UNKNOWN (suc m) ≡ c = cc in
          let b2 : i < len_of (chunk UNKNOWN (suc m)) = subst (λ (z : RichtextChunk). i < len_of z) (sym ec) b in
          (Units.unit_at (placeholder (suc m)) i, subst (λ (z : List FugueSpan). Mem (Units.unit_at (placeholder (suc m)) i) z) (sym list0) (in0 i b2), id0 i ∙ ap (λ (z : Edit). inc_id z.id i) (sym d))
        where
          in0 : (i : ℕ) → i < len_of (chunk UNKNOWN (suc m)) → Mem (Units.unit_at (placeholder (suc m)) i) (units_of (placeholder (suc m)))
          in0 i b = unfold placeholder new_span in unit_in (placeholder (suc m)) i b

          id0 : (i : ℕ) → (Units.unit_at (placeholder (suc m)) i).id ≡ inc_id (id UNKNOWN_PEER (pos 0)) i
          id0 i = unfold placeholder new_span shift in refl

pub run_start : (n : ℕ) → (key : OptId → Key) × Run n (base n) (start n) key
run_start zero = (no_keys, run_empty)
run_start (suc m) = (key0 m, run_holder m)

-- its list: n units, those of the placeholder
pub start-list : (n : ℕ) → (length (start n).list ≡ n) × (1 ≤ n → (w : FugueSpan) → Mem w (units_of (placeholder n)) → Mem w (start n).list)
start-list zero = ((unfold start in refl), λ (b : 1 ≤ 0). absurd (let z : ⊥ = omega arith in z))
start-list (suc m) = (ap length (list0 m) ∙ length0 m, λ (b : 1 ≤ suc m) (w : FugueSpan) (k : Mem w (units_of (placeholder (suc m)))). subst (λ (z : List FugueSpan). Mem w z) (sym (list0 m)) k)

-- they are well formed units
pub holder_code : (m : ℕ) → suc m ≤ UNITS → span_code (placeholder (suc m)) ≡ 0
unfolding placeholder new_span real_new formed len_of shape_of room_opt room
holder_code m b = span_of_lem (placeholder (suc m)) (suc m) refl (lt-ltb 0 (suc m) (omega arith)) (le-leb (0 + suc m) 2147483647 (omega arith)) (omega arith) refl

pub start_units : (n : ℕ) → n ≤ UNITS → Units1 (start n).list
start_units zero b u m = let e : (start 0).list ≡ [] = (unfold start in refl) in absurd (Memᴰ.not-nil (subst (λ (z : List FugueSpan). Mem u z) e m))
start_units (suc m) b u k = of_all (units_of (placeholder (suc m))) (span_units (placeholder (suc m)) (holder_code m b)) u (subst (λ (z : List FugueSpan). Mem u z) (list0 m) k)

pub start_is : (m : ℕ) → (start (suc m)).list ≡ units_of (placeholder (suc m))
start_is = list0
