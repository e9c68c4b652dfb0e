-- Id ranges joined while consecutive: they hold the ids that they were made of, and no more, and are no more than those.
use Prim.Native.Nat.{ℕ, suc, ◌+◌, ◌<◌, ◌≤◌}
use mathlib.Core.Path.{◌≡◌, refl, sym, ap, ap₂, ◌∙◌}
use mathlib.Core.Logic.{◌⊎◌, inl, inr}
use mathlib.Core.Bool.{Bool, true, false, ◌&&◌, ◌||◌, cond, true≢false, and-eq-true_iff}
use mathlib.Core.List.Memᴰ
use mathlib.Core.List.{List, [], ◌∷◌, Memᴰ}
use native.Mathlib.Omega.{arith}
use native.Mathlib.Decide.{dec_lt}
use lib.Dec.{eqb, leb, ltb}
use lib.IntN.{ℤ, pos, ◌+ℤ◌}
use lib.ListN.{length}
use lib.Signed.{le_z, lt_z}
use borrow.Author.Tests.{eq-eqb, le-leb, lt-ltb, eqb-true, leb-true, ltb-true}
use Rattle.span.specs.declared.ids.Id.{Id}
use Rattle.span.specs.Ids.{id, inc_id, same_id}
use Rattle.span.proofs.Same.{same_id-true, same_id_refl}
use Rattle.units.specs.Lists.{some}
use Rattle.history.specs.Edit.{Range}
use Rattle.history.specs.Version.{number}
use Rattle.history.specs.Checkout.{range, in_range, in_ranges, range_on, ranges_of}
use Rattle.history.specs.Valid.{same_ranges, total}
use Rattle.history.proofs.Context.{Natural, natural_inc}

abbrev at : Id → ℕ
at i = number i.counter

-- ids that are numbers are decided by them
same_id_lem : (i j : Id) → Natural i → Natural j → i.peer ≡ j.peer → at i ≡ at j → i ≡ j
same_id_lem i j ni nj p e = ap₂ id p (ni ∙ (ap pos e ∙ sym nj))

module _ (j : Id) (nj : Natural j) (r : Range) (nr : Natural r.id) where
  low : le_z r.id.counter j.counter ≡ leb (at r.id) (at j)
  low = ap₂ le_z nr nj

  high : lt_z j.counter (r.id.counter +ℤ pos r.len) ≡ ltb (at j) (at r.id + r.len)
  high = ap₂ (λ (a b : ℤ). lt_z a (b +ℤ pos r.len)) nj nr

  in_range_lem : j.peer ≡ r.id.peer → at r.id ≤ at j → at j < at r.id + r.len → in_range j r ≡ true
  unfolding in_range
  in_range_lem p a b = ap₂ ◌&&◌ (eq-eqb j.peer r.id.peer p) (ap₂ ◌&&◌ (low ∙ le-leb (at r.id) (at j) a) (high ∙ lt-ltb (at j) (at r.id + r.len) b))

  range_in_lem : in_range j r ≡ true → (j.peer ≡ r.id.peer) × (at r.id ≤ at j) × (at j < at r.id + r.len)
  unfolding in_range
  range_in_lem e =
      let t = (and-eq-true_iff (eqb j.peer r.id.peer) (le_z r.id.counter j.counter && lt_z j.counter (r.id.counter +ℤ pos r.len))).0 e in
      let u = (and-eq-true_iff (le_z r.id.counter j.counter) (lt_z j.counter (r.id.counter +ℤ pos r.len))).0 t.1 in
      (eqb-true j.peer r.id.peer t.0, leb-true (at r.id) (at j) (sym low ∙ u.0), ltb-true (at j) (at r.id + r.len) (sym high ∙ u.1))

or_cases : (a b : Bool) → a || b ≡ true → (a ≡ true) ⊎ (b ≡ true)
or_cases true b e = inl refl
or_cases false b e = inr e

or_left : (a b : Bool) → a ≡ true → a || b ≡ true
or_left a b e = ap (λ (z : Bool). z || b) e

or_right : (a b : Bool) → b ≡ true → a || b ≡ true
or_right true b e = refl
or_right false b e = e

abbrev AllNat : List Range → Type 0
AllNat [] = Unit {0}
AllNat (r ∷ rs) = Natural r.id × AllNat rs

on_nat : (i : Id) (rs : List Range) → Natural i → AllNat rs → AllNat (range_on i rs)
unfolding range_on
on_nat i [] ni n = (ni, tt)
on_nat i (r ∷ rs) ni n = go (same_id (inc_id i 1) r.id)
  where
    go : (b : Bool) → AllNat (cond b (range i (suc r.len) ∷ rs) (range i 1 ∷ (r ∷ rs)))
    go true = (ni, n.1)
    go false = (ni, n)

-- the range that begins one earlier
module _ (i : Id) (ni : Natural i) (r : Range) (rs : List Range) (nr : Natural r.id) (j : Id) (nj : Natural j) where
  next : inc_id i 1 ≡ r.id → (i.peer ≡ r.id.peer) × (at r.id ≡ at i + 1)
  next e = ((unfold inc_id in ap (λ (z : Id). z.peer) e), ap at (sym e) ∙ (natural_inc i 1 ni).1)

  join_from : inc_id i 1 ≡ r.id → in_range j (range i (suc r.len)) ≡ true → (j ≡ i) ⊎ (in_range j r ≡ true)
  join_from e h =
      let t : (j.peer ≡ i.peer) × (at i ≤ at j) × (at j < at i + suc r.len) = range_in_lem j nj (range i (suc r.len)) ni h in
      let q : (i.peer ≡ r.id.peer) × (at r.id ≡ at i + 1) = next e in
      let a : at i ≤ at j = t.1 in
      let b : at j < at i + suc r.len = t.2 in
      let c : at r.id ≡ at i + 1 = q.1 in
      go (dec_lt (at i) (at j)) t q a b c
    where
      go : Dec (at i < at j) → (j.peer ≡ i.peer) × (at i ≤ at j) × (at j < at i + suc r.len) → (i.peer ≡ r.id.peer) × (at r.id ≡ at i + 1) → at i ≤ at j → at j < at i + suc r.len → at r.id ≡ at i + 1 → (j ≡ i) ⊎ (in_range j r ≡ true)
      go (yes y) t q a b c = inr (in_range_lem j nj r nr (t.0 ∙ q.0) (omega arith) (omega arith))
      go (no y) t q a b c = inl (same_id_lem j i nj ni t.0 (omega arith))

  join_to : inc_id i 1 ≡ r.id → (j ≡ i) ⊎ (in_range j r ≡ true) → in_range j (range i (suc r.len)) ≡ true
  join_to e (inl d) = in_range_lem j nj (range i (suc r.len)) ni (ap (λ (z : Id). z.peer) d) (let q : at j ≡ at i = ap at d in omega arith) (let q : at j ≡ at i = ap at d in omega arith)
  join_to e (inr h) =
      let t : (j.peer ≡ r.id.peer) × (at r.id ≤ at j) × (at j < at r.id + r.len) = range_in_lem j nj r nr h in
      let q : (i.peer ≡ r.id.peer) × (at r.id ≡ at i + 1) = next e in
      let a : at r.id ≤ at j = t.1 in
      let b : at j < at r.id + r.len = t.2 in
      let c : at r.id ≡ at i + 1 = q.1 in
      in_range_lem j nj (range i (suc r.len)) ni (t.0 ∙ sym q.0) (omega arith) (omega arith)

-- a single id
one_from : (i j : Id) → Natural i → Natural j → in_range j (range i 1) ≡ true → j ≡ i
one_from i j ni nj h =
    let t : (j.peer ≡ i.peer) × (at i ≤ at j) × (at j < at i + 1) = range_in_lem j nj (range i 1) ni h in
    let a : at i ≤ at j = t.1 in
    let b : at j < at i + 1 = t.2 in
    same_id_lem j i nj ni t.0 (omega arith)

one_to : (i j : Id) → Natural i → Natural j → j ≡ i → in_range j (range i 1) ≡ true
one_to i j ni nj d = let q : at j ≡ at i = ap at d in in_range_lem j nj (range i 1) ni (ap (λ (z : Id). z.peer) d) (omega arith) (omega arith)

on_from : (i : Id) (rs : List Range) (j : Id) → Natural i → AllNat rs → Natural j → in_ranges j (range_on i rs) ≡ true → (j ≡ i) ⊎ (in_ranges j rs ≡ true)
unfolding range_on in_ranges some
on_from i [] j ni n nj e = go (or_cases (in_range j (range i 1)) false e)
  where
    go : (in_range j (range i 1) ≡ true) ⊎ (false ≡ true) → (j ≡ i) ⊎ (false ≡ true)
    go (inl h) = inl (one_from i j ni nj h)
    go (inr h) = inr h
on_from i (r ∷ rs) j ni n nj e = go (same_id (inc_id i 1) r.id) refl e
  where
    rest : (in_range j (range i (suc r.len)) ≡ true) ⊎ (some (in_range j) rs ≡ true) → inc_id i 1 ≡ r.id → (j ≡ i) ⊎ (in_range j r || some (in_range j) rs ≡ true)
    rest (inr h) d = inr (or_right (in_range j r) (some (in_range j) rs) h)
    rest (inl h) d = two (join_from i ni r rs n.0 j nj d h)
      where
        two : (j ≡ i) ⊎ (in_range j r ≡ true) → (j ≡ i) ⊎ (in_range j r || some (in_range j) rs ≡ true)
        two (inl k) = inl k
        two (inr k) = inr (or_left (in_range j r) (some (in_range j) rs) k)

    single : (in_range j (range i 1) ≡ true) ⊎ (in_range j r || some (in_range j) rs ≡ true) → (j ≡ i) ⊎ (in_range j r || some (in_range j) rs ≡ true)
    single (inl h) = inl (one_from i j ni nj h)
    single (inr h) = inr h

    go : (b : Bool) → same_id (inc_id i 1) r.id ≡ b → some (in_range j) (cond b (range i (suc r.len) ∷ rs) (range i 1 ∷ (r ∷ rs))) ≡ true → (j ≡ i) ⊎ (in_range j r || some (in_range j) rs ≡ true)
    go true d h = rest (or_cases (in_range j (range i (suc r.len))) (some (in_range j) rs) h) (same_id-true (inc_id i 1) r.id d)
    go false d h = single (or_cases (in_range j (range i 1)) (in_range j r || some (in_range j) rs) h)

on_to : (i : Id) (rs : List Range) (j : Id) → Natural i → AllNat rs → Natural j → (j ≡ i) ⊎ (in_ranges j rs ≡ true) → in_ranges j (range_on i rs) ≡ true
unfolding range_on in_ranges some
on_to i [] j ni n nj (inl d) = or_left (in_range j (range i 1)) false (one_to i j ni nj d)
on_to i [] j ni n nj (inr h) = absurd (true≢false (sym h))
on_to i (r ∷ rs) j ni n nj s = go (same_id (inc_id i 1) r.id) refl s
  where
    rest : inc_id i 1 ≡ r.id → (in_range j r ≡ true) ⊎ (some (in_range j) rs ≡ true) → in_range j (range i (suc r.len)) || some (in_range j) rs ≡ true
    rest d (inl h) = or_left (in_range j (range i (suc r.len))) (some (in_range j) rs) (join_to i ni r rs n.0 j nj d (inr h))
    rest d (inr h) = or_right (in_range j (range i (suc r.len))) (some (in_range j) rs) h

    go : (b : Bool) → same_id (inc_id i 1) r.id ≡ b → (j ≡ i) ⊎ (in_range j r || some (in_range j) rs ≡ true) → some (in_range j) (cond b (range i (suc r.len) ∷ rs) (range i 1 ∷ (r ∷ rs))) ≡ true
    go true d (inl k) = or_left (in_range j (range i (suc r.len))) (some (in_range j) rs) (join_to i ni r rs n.0 j nj (same_id-true (inc_id i 1) r.id d) (inl k))
    go true d (inr h) = rest (same_id-true (inc_id i 1) r.id d) (or_cases (in_range j r) (some (in_range j) rs) h)
    go false d (inl k) = or_left (in_range j (range i 1)) (in_range j r || some (in_range j) rs) (one_to i j ni nj k)
    go false d (inr h) = or_right (in_range j (range i 1)) (in_range j r || some (in_range j) rs) h

abbrev pub AllNatural : List Id → Type 0
AllNatural [] = Unit {0}
AllNatural (i ∷ is) = Natural i × AllNatural is

ranges_nat : (is : List Id) → AllNatural is → AllNat (ranges_of is)
unfolding ranges_of
ranges_nat [] n = tt
ranges_nat (i ∷ is) n = on_nat i (ranges_of is) n.0 (ranges_nat is n.1)

pub ranges_from : (is : List Id) (j : Id) → AllNatural is → Natural j → in_ranges j (ranges_of is) ≡ true → Memᴰ j is
unfolding ranges_of
ranges_from [] j n nj e = absurd (true≢false (sym e ∙ (unfold in_ranges some in refl)))
ranges_from (i ∷ is) j n nj e = go (on_from i (ranges_of is) j n.0 (ranges_nat is n.1) nj e) (ranges_from is j n.1 nj)
  where
    go : (j ≡ i) ⊎ (in_ranges j (ranges_of is) ≡ true) → (in_ranges j (ranges_of is) ≡ true → Memᴰ j is) → Memᴰ j (i ∷ is)
    go (inl d) ih = Memᴰ.head d
    go (inr h) ih = Memᴰ.tail (ih h)

pub ranges_to : (is : List Id) (j : Id) → AllNatural is → Natural j → Memᴰ j is → in_ranges j (ranges_of is) ≡ true
unfolding ranges_of
ranges_to [] j n nj m = absurd (Memᴰ.not-nil m)
ranges_to (i ∷ is) j n nj m = go (Memᴰ.cases_cons m) (ranges_to is j n.1 nj)
  where
    go : (j ≡ i) ⊎ Memᴰ j is → (Memᴰ j is → in_ranges j (ranges_of is) ≡ true) → in_ranges j (range_on i (ranges_of is)) ≡ true
    go (inl d) ih = on_to i (ranges_of is) j n.0 (ranges_nat is n.1) nj (inl d)
    go (inr k) ih = on_to i (ranges_of is) j n.0 (ranges_nat is n.1) nj (inr (ih k))

-- ---- how many

on_total : (i : Id) (rs : List Range) → total (range_on i rs) ≡ suc (total rs)
unfolding range_on total
on_total i [] = omega arith
on_total i (r ∷ rs) = go (same_id (inc_id i 1) r.id)
  where
    go : (b : Bool) → total (cond b (range i (suc r.len) ∷ rs) (range i 1 ∷ (r ∷ rs))) ≡ suc (r.len + total rs)
    go true = unfold total in omega arith
    go false = unfold total in omega arith

pub ranges_total : (is : List Id) → total (ranges_of is) ≡ length is
unfolding ranges_of
ranges_total [] = unfold total in refl
ranges_total (i ∷ is) = on_total i (ranges_of is) ∙ ap suc (ranges_total is)

on_length : (i : Id) (rs : List Range) → length (range_on i rs) ≤ suc (length rs)
unfolding range_on
on_length i [] = omega arith
on_length i (r ∷ rs) = go (same_id (inc_id i 1) r.id)
  where
    go : (b : Bool) → length (cond b (range i (suc r.len) ∷ rs) (range i 1 ∷ (r ∷ rs))) ≤ suc (suc (length rs))
    go true = omega arith
    go false = omega arith

pub ranges_length : (is : List Id) → length (ranges_of is) ≤ length is
unfolding ranges_of
ranges_length [] = omega arith
ranges_length (i ∷ is) = omega (arith, on_length i (ranges_of is), ranges_length is)

pub same_ranges_refl : (rs : List Range) → same_ranges rs rs ≡ true
unfolding same_ranges
same_ranges_refl [] = refl
same_ranges_refl (r ∷ rs) = ap₂ ◌&&◌ (ap₂ ◌&&◌ (same_id_refl r.id) (eq-eqb r.len r.len refl)) (same_ranges_refl rs)
