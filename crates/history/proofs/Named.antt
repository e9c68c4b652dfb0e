-- The units that ranges name, among units with no id twice: what a delete takes is what its ranges name, and units that come in between change nothing.
use Prim.Native.Nat.{ℕ, zero, suc, ◌+◌, ◌<◌, ◌≤◌}
use mathlib.Core.Path.{◌≡◌, refl, sym, ap, ap₂, ◌∙◌}
use mathlib.Core.Logic.{◌⊎◌, inl, inr}
use mathlib.Core.Bool.{Bool, true, false, ◌&&◌, ◌||◌, cond, true≢false, and-eq-true_iff}
use mathlib.Core.List.Memᴰ
use mathlib.Core.List.{List, [], ◌∷◌, ◌++◌, map}
use native.Mathlib.Omega.{arith}
use lib.Dec.{eqb}
use lib.ListN.{length, length-map}
use borrow.Author.Tests.{eqb-true}
use Rattle.std.specs.Prelude.{Some}
use Rattle.span.specs.declared.ids.Id.{Id}
use Rattle.span.specs.Maybe.{OptId}
use Rattle.span.specs.declared.span.FugueSpan.{FugueSpan}
use Rattle.span.specs.Ids.{inc_id, same_id, same_opt}
use Rattle.span.specs.Status.{activated}
use Rattle.span.specs.Span.{len_span}
use Rattle.span.specs.Units.{units_of}
use Rattle.span.specs.Units as Units
use Rattle.span.proofs.Same.{same_id-true}
use Rattle.span.proofs.UnitLaws.{unit_id}
use Rattle.units.specs.Lists.{some, keep_if}
use Rattle.units.specs.Place.{mem_id, behind, shown, Distinct}
use Rattle.units.specs.Change.{first_shown, taken}
use Rattle.rope.specs.Spans.{Fresh}
use Rattle.fugue.specs.Tree.{ref}
use Rattle.fugue.proofs.ScanPlace.{Mem}
use Rattle.fugue.proofs.Tests.{Test, pass, fail, same_opt_test, mem_id_test}
use Rattle.fugue.proofs.Rising.{keep_if_in}
use Rattle.fugue.proofs.Sorts.{Splice}
use Rattle.fugue.proofs.Splices.{unit_from}
use Rattle.history.specs.Edit.{Range}
use Rattle.history.specs.Checkout.{range, in_ranges, ranges_of}
use Rattle.history.specs.Valid.{same_ranges, total, ranges_in}
use Rattle.history.proofs.Context.{Natural, natural_inc}
use Rattle.history.proofs.Targets.{shown-behind}
use Rattle.history.proofs.Ranges.{AllNatural, ranges_from, ranges_to, ranges_total}

abbrev id_of : FugueSpan → Id
id_of u = u.id

abbrev pub Naturals : List FugueSpan → Type 0
Naturals us = (u : FugueSpan) → Mem u us → Natural u.id

all_natural : (l : List FugueSpan) → Naturals l → AllNatural (map id_of l)
all_natural [] f = tt
all_natural (u ∷ l) f = (f u (Memᴰ.head refl), all_natural l (λ (w : FugueSpan) (m : Mem w l). f w (Memᴰ.tail m)))

-- a unit's id is one of the units'
mem_of : (us : List FugueSpan) (i : Id) (w : FugueSpan) → Mem w us → w.id ≡ i → mem_id (Some i) us ≡ true
mem_of us i w m d = go (mem_id_test (Some i) us)
  where
    go : Test (mem_id (Some i) us) ((w : FugueSpan) × Mem w us × (ref w ≡ Some i)) → mem_id (Some i) us ≡ true
    go (pass b t) = b
    go (fail b t) = absurd (t (w, m, ap Some d))

-- ---- some of the units, in list order

unfoldable pub Sub : List FugueSpan → List FugueSpan → Type 0
Sub [] us = Unit {0}
Sub (t ∷ T) [] = ⊥
Sub (t ∷ T) (u ∷ us) = ((t ≡ u) × Sub T us) ⊎ Sub (t ∷ T) us

sub_skip : (T us : List FugueSpan) (u : FugueSpan) → Sub T us → Sub T (u ∷ us)
unfolding Sub
sub_skip [] us u s = tt
sub_skip (t ∷ T) us u s = inr s

sub_in : (T us : List FugueSpan) → Sub T us → (w : FugueSpan) → Mem w T → Mem w us
unfolding Sub
sub_in [] us s w m = absurd (Memᴰ.not-nil m)
sub_in (t ∷ T) [] s w m = absurd s
sub_in (t ∷ T) (u ∷ us) s w m = go s (Memᴰ.cases_cons m) (λ (k : Sub T us) (j : Mem w T). sub_in T us k w j) (λ (k : Sub (t ∷ T) us). sub_in (t ∷ T) us k w m)
  where
    go : ((t ≡ u) × Sub T us) ⊎ Sub (t ∷ T) us → (w ≡ t) ⊎ Mem w T → (Sub T us → Mem w T → Mem w us) → (Sub (t ∷ T) us → Mem w us) → Mem w (u ∷ us)
    go (inl k) (inl d) ih ih2 = Memᴰ.head (d ∙ k.0)
    go (inl k) (inr j) ih ih2 = Memᴰ.tail (ih k.1 j)
    go (inr k) c ih ih2 = Memᴰ.tail (ih2 k)

first_sub : (us : List FugueSpan) (n : ℕ) → Sub (first_shown us n) us
unfolding Sub first_shown
first_sub [] n = tt
first_sub (u ∷ us) zero = tt
first_sub (u ∷ us) (suc n) = go (activated u.status) (first_sub us n) (first_sub us (suc n))
  where
    go : (b : Bool) → Sub (first_shown us n) us → Sub (first_shown us (suc n)) us → Sub (cond b (u ∷ first_shown us n) (first_shown us (suc n))) (u ∷ us)
    go true x y = inl (refl, x)
    go false x y = sub_skip (first_shown us (suc n)) us u y

behind_sub : (T us : List FugueSpan) (n : ℕ) → Sub T (behind us n) → Sub T us
unfolding behind
behind_sub T [] n s = s
behind_sub T (u ∷ us) zero s = s
behind_sub T (u ∷ us) (suc n) s = sub_skip T us u (behind_sub T us (cond (activated u.status) n (suc n)) s)

taken_sub : (at n : ℕ) (us : List FugueSpan) → Sub (taken at n us) us
unfolding taken
taken_sub at n us = behind_sub (first_shown (behind us at) n) us at (first_sub (behind us at) n)

-- those that a test picks, where it picks those by their ids
keep_sub : (t : FugueSpan → Bool) (us T : List FugueSpan) → Sub T us → Distinct us → ((u : FugueSpan) → Mem u us → t u ≡ true → mem_id (Some u.id) T ≡ true) → ((u : FugueSpan) → Mem u T → t u ≡ true) → keep_if t us ≡ T
unfolding Sub Distinct keep_if mem_id
keep_sub t [] [] s d f g = refl
keep_sub t [] (x ∷ T) s d f g = absurd s
keep_sub t (u ∷ us) [] s d f g = go (t u) refl (keep_sub t us [] tt d.1 (λ (v : FugueSpan) (m : Mem v us). f v (Memᴰ.tail m)) g)
  where
    go : (b : Bool) → t u ≡ b → keep_if t us ≡ [] → cond b (u ∷ keep_if t us) (keep_if t us) ≡ []
    go true q ih = absurd (true≢false (sym (f u (Memᴰ.head refl) q)))
    go false q ih = ih
keep_sub t (u ∷ us) (x ∷ T) s d f g =
    go s (t u) refl
    (λ (q : x ≡ u) (k : Sub T us). keep_sub t us T k d.1 (λ (v : FugueSpan) (m : Mem v us) (p : t v ≡ true). other q v m (same_opt_test (Some v.id) (Some x.id)) (f v (Memᴰ.tail m) p)) (λ (v : FugueSpan) (m : Mem v T). g v (Memᴰ.tail m)))
    (λ (k : Sub (x ∷ T) us). keep_sub t us (x ∷ T) k d.1 (λ (v : FugueSpan) (m : Mem v us). f v (Memᴰ.tail m)) g)
  where
    new : mem_id (Some u.id) us ≡ true → ⊥
    new e = true≢false (sym e ∙ d.0)

    other : x ≡ u → (v : FugueSpan) → Mem v us → Test (same_opt (Some v.id) (Some x.id)) (Some v.id ≡ Some x.id) → (same_opt (Some v.id) (Some x.id) || mem_id (Some v.id) T) ≡ true → mem_id (Some v.id) T ≡ true
    other q v m (pass b p) e = absurd (new (ap (λ (o : OptId). mem_id o us) (sym (p ∙ ap (λ (z : FugueSpan). Some z.id) q)) ∙ mem_of us v.id v m refl))
    other q v m (fail b p) e = ap (λ (z : Bool). z || mem_id (Some v.id) T) (sym b) ∙ e

    found : Sub (x ∷ T) us → Test (mem_id (Some u.id) (x ∷ T)) ((w : FugueSpan) × Mem w (x ∷ T) × (ref w ≡ Some u.id)) → mem_id (Some u.id) (x ∷ T) ≡ true → ⊥
    found k (pass b r) e = new (ap (λ (o : OptId). mem_id o us) (sym r.2) ∙ mem_of us r.0.id r.0 (sub_in (x ∷ T) us k r.0 r.1) refl)
    found k (fail b r) e = true≢false (sym e ∙ b)

    go : ((x ≡ u) × Sub T us) ⊎ Sub (x ∷ T) us → (b : Bool) → t u ≡ b → (x ≡ u → Sub T us → keep_if t us ≡ T) → (Sub (x ∷ T) us → keep_if t us ≡ x ∷ T) → cond b (u ∷ keep_if t us) (keep_if t us) ≡ x ∷ T
    go (inl k) true p ih ih2 = ap₂ ◌∷◌ (sym k.0) (ih k.0 k.1)
    go (inl k) false p ih ih2 = absurd (true≢false (sym (g x (Memᴰ.head refl)) ∙ (ap t k.0 ∙ p)))
    go (inr k) true p ih ih2 = absurd (found k (mem_id_test (Some u.id) (x ∷ T)) (f u (Memᴰ.head refl) p))
    go (inr k) false p ih ih2 = ih2 k

-- ---- what a delete takes

first_length : (l : List FugueSpan) (n : ℕ) → n ≤ shown l → length (first_shown l n) ≡ n
unfolding first_shown shown
first_length [] n h = omega arith
first_length (v ∷ l) zero h = refl
first_length (v ∷ l) (suc n) h = go (activated v.status) h (first_length l n) (first_length l (suc n))
  where
    go : (b : Bool) → suc n ≤ cond b (suc (shown l)) (shown l) → (n ≤ shown l → length (first_shown l n) ≡ n) → (suc n ≤ shown l → length (first_shown l (suc n)) ≡ suc n)
        → length (cond b (v ∷ first_shown l n) (first_shown l (suc n))) ≡ suc n
    go true k ih ih2 = ap suc (ih (omega arith))
    go false k ih ih2 = ih2 k

module _ (us : List FugueSpan) (d : Distinct us) (nat : Naturals us) (at n : ℕ) where
  abbrev T : List FugueSpan
  T = taken at n us

  abbrev R : List Range
  R = ranges_of (map (λ (u : FugueSpan). u.id) (taken at n us))

  nat_T : AllNatural (map id_of T)
  nat_T = all_natural T (λ (u : FugueSpan) (m : Mem u T). nat u (sub_in T us (taken_sub at n us) u m))

  -- its ranges name what it took, and are joined as they were made
  pub taken_named : ranges_in us R ≡ R
  unfolding ranges_in
  taken_named = ap (λ (l : List FugueSpan). ranges_of (map (λ (u : FugueSpan). u.id) l)) (keep_sub (λ (u : FugueSpan). in_ranges u.id R) us T (taken_sub at n us) d
      (λ (u : FugueSpan) (m : Mem u us) (e : in_ranges u.id R ≡ true). from u (Memᴰ.of_map id_of T (ranges_from (map id_of T) u.id nat_T (nat u m) e)))
      (λ (u : FugueSpan) (m : Mem u T). ranges_to (map id_of T) u.id nat_T (nat u (sub_in T us (taken_sub at n us) u m)) (Memᴰ.map id_of m)))
    where
      from : (u : FugueSpan) → (w : FugueSpan) × Mem w T × (id_of w ≡ u.id) → mem_id (Some u.id) T ≡ true
      from u t = mem_of T u.id t.0 t.1 t.2

  pub taken_total : at + n ≤ shown us → total R ≡ n
  taken_total h = ranges_total (map id_of T) ∙ (length-map T id_of ∙ (unfold taken in first_length (behind us at) n (omega (arith, shown-behind us at (omega arith)))))

-- ---- units that come in

keep_append : (t : FugueSpan → Bool) (A B : List FugueSpan) → keep_if t (A ++ B) ≡ keep_if t A ++ keep_if t B
unfolding keep_if
keep_append t [] B = refl
keep_append t (a ∷ A) B = go (t a) (keep_append t A B)
  where
    go : (b : Bool) → keep_if t (A ++ B) ≡ keep_if t A ++ keep_if t B → cond b (a ∷ keep_if t (A ++ B)) (keep_if t (A ++ B)) ≡ cond b (a ∷ keep_if t A) (keep_if t A) ++ keep_if t B
    go true ih = ap (λ (l : List FugueSpan). a ∷ l) ih
    go false ih = ih

keep_none : (t : FugueSpan → Bool) (l : List FugueSpan) → ((u : FugueSpan) → Mem u l → t u ≡ false) → keep_if t l ≡ []
unfolding keep_if
keep_none t [] f = refl
keep_none t (u ∷ l) f = ap (λ (b : Bool). cond b (u ∷ keep_if t l) (keep_if t l)) (f u (Memᴰ.head refl)) ∙ keep_none t l (λ (w : FugueSpan) (m : Mem w l). f w (Memᴰ.tail m))

-- no range names nothing
pub none_named : (us : List FugueSpan) → ranges_in us [] ≡ []
unfolding ranges_in in_ranges some ranges_of
none_named us = ap (λ (l : List FugueSpan). ranges_of (map (λ (u : FugueSpan). u.id) l)) (keep_none (λ (u : FugueSpan). false) us (λ (u : FugueSpan) (m : Mem u us). refl))

pub same_ranges-true : (rs ss : List Range) → same_ranges rs ss ≡ true → rs ≡ ss
unfolding same_ranges
same_ranges-true [] [] e = refl
same_ranges-true [] (s ∷ ss) e = absurd (true≢false (sym e))
same_ranges-true (r ∷ rs) [] e = absurd (true≢false (sym e))
same_ranges-true (r ∷ rs) (s ∷ ss) e =
    let a = (and-eq-true_iff (same_id r.id s.id && eqb r.len s.len) (same_ranges rs ss)).0 e in
    let b = (and-eq-true_iff (same_id r.id s.id) (eqb r.len s.len)).0 a.0 in
    ap₂ ◌∷◌ (ap₂ range (same_id-true r.id s.id b.0) (eqb-true r.len s.len b.1)) (same_ranges-true rs ss a.1)

-- ranges that name what they are made of name none of the new ids
module _ (us : List FugueSpan) (nat : Naturals us) (rs : List Range) (own : same_ranges rs (ranges_in us rs) ≡ true) where
  abbrev kept : List FugueSpan
  kept = keep_if (λ (u : FugueSpan). in_ranges u.id rs) us

  abbrev t : FugueSpan → Bool
  t u = in_ranges u.id rs

  in_us : (i : Id) → Natural i → in_ranges i rs ≡ true → mem_id (Some i) us ≡ true
  in_us i ni e = from (Memᴰ.of_map id_of kept (ranges_from (map id_of kept) i
      (all_natural kept (λ (u : FugueSpan) (m : Mem u kept). nat u (keep_if_in (λ (u : FugueSpan). in_ranges u.id rs) us u m).0)) ni
      (ap (in_ranges i) (sym is) ∙ e)))
    where
      is : rs ≡ ranges_of (map id_of kept)
      is = unfold ranges_in in same_ranges-true rs (ranges_of (map id_of kept)) own

      from : (w : FugueSpan) × Mem w kept × (id_of w ≡ i) → mem_id (Some i) us ≡ true
      from t = mem_of us i t.0 (keep_if_in (λ (u : FugueSpan). in_ranges u.id rs) us t.0 t.1).0 t.2

  pub splice_named : (y : FugueSpan) (us2 : List FugueSpan) → Natural y.id → Fresh y us → Splice us (units_of y) us2 → ranges_in us2 rs ≡ ranges_in us rs
  unfolding ranges_in Fresh
  splice_named y us2 ny new s = ap (λ (l : List FugueSpan). ranges_of (map (λ (u : FugueSpan). u.id) l))
      (ap (keep_if t) s.now ∙ (keep_append t s.before (units_of y ++ s.rest) ∙ (ap (λ (l : List FugueSpan). keep_if t s.before ++ l) (keep_append t (units_of y) s.rest ∙ ap (λ (l : List FugueSpan). l ++ keep_if t s.rest) none)
      ∙ (sym (keep_append t s.before s.rest) ∙ ap (keep_if t) (sym s.old)))))
    where
      none : keep_if (λ (u : FugueSpan). in_ranges u.id rs) (units_of y) ≡ []
      none = keep_none (λ (u : FugueSpan). in_ranges u.id rs) (units_of y) (λ (u : FugueSpan) (m : Mem u (units_of y)). out u (unit_from y u m))
        where
          out : (u : FugueSpan) → (k : ℕ) × (k < len_span y) × (u ≡ Units.unit_at y k) → in_ranges u.id rs ≡ false
          out u r = go (in_ranges (inc_id y.id r.0) rs) refl
            where
              i : u.id ≡ inc_id y.id r.0
              i = ap (λ (z : FugueSpan). z.id) r.2 ∙ unit_id y r.0

              go : (b : Bool) → in_ranges (inc_id y.id r.0) rs ≡ b → in_ranges u.id rs ≡ false
              go true e = absurd (true≢false (sym (in_us (inc_id y.id r.0) (natural_inc y.id r.0 ny).0 e) ∙ new r.0 r.1))
              go false e = ap (λ (z : Id). in_ranges z rs) i ∙ e
