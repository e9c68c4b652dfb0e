-- ranges of ids: an empty one names no unit, and where no id is there twice no range has more units than ids
use Prim.Native.Nat.{ℕ, zero, suc, ◌+◌, ◌-◌, ◌<◌, ◌≤◌}
use mathlib.Core.Path.{◌≡◌, refl, sym, ap, ap₂, ◌∙◌}
use mathlib.Core.Bool.{Bool, true, false, ◌&&◌, cond, true≢false, false≢true}
use mathlib.Core.List.{List, [], ◌∷◌}
use mathlib.Core.Logic.{◌⊎◌, inl, inr}
use native.Mathlib.Omega.{arith}
use lib.Dec.{ltb, leb, eqb}
use lib.IntN.{ℤ, pos, negsuc, ◌-ℤ◌}
use lib.Signed.{le_z, lt_z}
use lib.ListN.{length}
use borrow.Author.Tests.{lt-ltb, le-ltb, le-leb, lt-leb, leb-true, ltb-true, eq-eqb, ne_eqb, eqb-true}
use Rattle.span.specs.declared.ids.Id.{Id}
use Rattle.span.specs.Maybe.{OptId}
use Rattle.std.specs.Prelude.{Some as At}
use Rattle.span.specs.Maybe.{Counter}
use Rattle.std.specs.Prelude.{Some, None}
use Rattle.span.specs.declared.span.FugueSpan.{FugueSpan}
use Rattle.span.specs.Ids.{id, same_opt}
use Rattle.span.specs.Status.{eq_z, counter_of}
use Rattle.span.specs.Span.{len_span, span_code}
use Rattle.span.proofs.IdsLaws.{roomy}
use Rattle.span.proofs.SpanLaws.{span_ok}
use Rattle.span.proofs.StatusLaws.{eq_z-true}
use Rattle.span.proofs.Same.{same_opt-true, same_opt_refl}
use Rattle.span.proofs.Unique.{AllUnits}
use Rattle.units.specs.Lists.{keep_if}
use Rattle.units.specs.Place.{mem_id, Distinct}
use Rattle.units.specs.declared.change.SetFuture.{SetFuture}
use Rattle.units.specs.Change.{in_range, update_unit, update_units}
use Rattle.units.specs.Codes.{holds_all}
use Rattle.rope.proofs.Lists.{or-false, and-true}
use Rattle.rope.proofs.Queue.{lt-or}
use Rattle.rope.proofs.Held.{kept_on}

and_no : (x : Bool) → (x && false) ≡ false
and_no true = refl
and_no false = refl

-- ---- an empty range

none_up : (a b c : ℕ) → leb b a ≡ true → (leb a c && ltb c b) ≡ false
none_up a b c h = go (lt-or c a)
  where
    go : (c < a) ⊎ (a ≤ c) → (leb a c && ltb c b) ≡ false
    go (inl k) = ap (λ (t : Bool). t && ltb c b) (lt-leb a c k)
    go (inr k) = ap (λ (t : Bool). leb a c && t) (le-ltb c b (omega (arith, k, leb-true b a h))) ∙ and_no (leb a c)

none_down : (a b c : ℕ) → leb a b ≡ true → (leb c a && ltb b c) ≡ false
none_down a b c h = go (lt-or a c)
  where
    go : (a < c) ⊎ (c ≤ a) → (leb c a && ltb b c) ≡ false
    go (inl k) = ap (λ (t : Bool). t && ltb b c) (lt-leb c a k)
    go (inr k) = ap (λ (t : Bool). leb c a && t) (le-ltb b c (omega (arith, k, leb-true a b h))) ∙ and_no (leb c a)

none_between : (a b c : ℤ) → le_z b a ≡ true → (le_z a c && lt_z c b) ≡ false
none_between (pos a) (pos b) (pos c) h = none_up a b c h
none_between (pos a) (pos b) (negsuc c) h = refl
none_between (pos a) (negsuc b) (pos c) h = and_no (leb a c)
none_between (pos a) (negsuc b) (negsuc c) h = refl
none_between (negsuc a) (pos b) c h = absurd (false≢true h)
none_between (negsuc a) (negsuc b) (pos c) h = refl
none_between (negsuc a) (negsuc b) (negsuc c) h = none_down a b c h

none_in : (p : ℕ) (a b : ℤ) → le_z b a ≡ true → (u : FugueSpan) → in_range p a b u ≡ false
unfolding in_range
none_in p a b h u = ap (λ (t : Bool). eqb u.id.peer p && t) (none_between a b u.id.counter h) ∙ and_no (eqb u.id.peer p)

pub empty_update : (p : ℕ) (a b : ℤ) (f : SetFuture) (k : ℤ) (diff : Bool) → le_z b a ≡ true → (l : List FugueSpan) → update_units p a b f k diff l ≡ l
unfolding update_units
empty_update p a b f k diff h [] = refl
empty_update p a b f k diff h (u ∷ l) =
    ap₂ (λ (x : FugueSpan) (m : List FugueSpan). x ∷ m) (ap (λ (t : Bool). cond t (update_unit f k diff u) u) (none_in p a b h u)) (empty_update p a b f k diff h l)

-- ---- no more units than ids

module _ (t : FugueSpan → Bool) where
  abbrev many : List FugueSpan → ℕ
  many l = length (keep_if t l)

  many_none : (l : List FugueSpan) → ((u : FugueSpan) → t u ≡ false) → many l ≡ 0
  unfolding keep_if
  many_none [] h = refl
  many_none (u ∷ l) h = kept_on t u l false (h u) ∙ many_none l h

  module _ (o : OptId) (has : (u : FugueSpan) → t u ≡ true → same_opt o (At u.id) ≡ true) where
    many_absent : (l : List FugueSpan) → mem_id o l ≡ false → many l ≡ 0
    unfolding keep_if mem_id
    many_absent [] e = refl
    many_absent (u ∷ l) e =
        let w = or-false (same_opt o (At u.id)) (mem_id o l) e in
        go (t u) refl w.0 (many_absent l w.1)
      where
        go : (b : Bool) → t u ≡ b → same_opt o (At u.id) ≡ false → many l ≡ 0 → many (u ∷ l) ≡ 0
        go true q n z = absurd (true≢false (sym (has u q) ∙ n))
        go false q n z = kept_on t u l false q ∙ z

    many_one : (l : List FugueSpan) → Distinct l → many l ≤ 1
    unfolding keep_if Distinct
    many_one [] d = omega arith
    many_one (u ∷ l) d = go (t u) refl d.0 (many_one l d.1)
      where
        go : (b : Bool) → t u ≡ b → mem_id (At u.id) l ≡ false → many l ≤ 1 → many (u ∷ l) ≤ 1
        go true q n z =
            let m : many (u ∷ l) ≡ suc (many l) = kept_on t u l true q in
            let k : many l ≡ 0 = many_absent l (ap (λ (x : OptId). mem_id x l) (same_opt-true o (At u.id) (has u q)) ∙ n) in
            omega (arith, m, k)
        go false q n z = let m : many (u ∷ l) ≡ many l = kept_on t u l false q in omega (arith, m, z)

-- a test that holds only where one of two does
many-sum : (t a b : FugueSpan → Bool) → ((u : FugueSpan) → t u ≡ true → (a u ≡ true) ⊎ (b u ≡ true)) → (l : List FugueSpan) → many t l ≤ many a l + many b l
unfolding keep_if
many-sum t a b h [] = omega arith
many-sum t a b h (u ∷ l) = go (t u) (a u) (b u) refl refl refl (many-sum t a b h l)
  where
    add : (x y z p q r : ℕ) → x ≤ y + z → p ≤ suc x → y ≤ q → z ≤ r → (suc y ≤ q) ⊎ (suc z ≤ r) → p ≤ q + r
    add x y z p q r h1 h2 h3 h4 (inl k) = omega arith
    add x y z p q r h1 h2 h3 h4 (inr k) = omega arith

    up : (s : FugueSpan → Bool) (c : Bool) → s u ≡ c → many s l ≤ many s (u ∷ l)
    up s true e = let m : many s (u ∷ l) ≡ suc (many s l) = kept_on s u l true e in omega (arith, m)
    up s false e = let m : many s (u ∷ l) ≡ many s l = kept_on s u l false e in omega (arith, m)

    yes : (s : FugueSpan → Bool) → s u ≡ true → suc (many s l) ≤ many s (u ∷ l)
    yes s e = let m : many s (u ∷ l) ≡ suc (many s l) = kept_on s u l true e in omega (arith, m)

    either : (a u ≡ true) ⊎ (b u ≡ true) → (suc (many a l) ≤ many a (u ∷ l)) ⊎ (suc (many b l) ≤ many b (u ∷ l))
    either (inl e) = inl (yes a e)
    either (inr e) = inr (yes b e)

    go : (x y z : Bool) → t u ≡ x → a u ≡ y → b u ≡ z → many t l ≤ many a l + many b l → many t (u ∷ l) ≤ many a (u ∷ l) + many b (u ∷ l)
    go true y z p q r k =
        let m : many t (u ∷ l) ≡ suc (many t l) = kept_on t u l true p in
        add (many t l) (many a l) (many b l) (many t (u ∷ l)) (many a (u ∷ l)) (many b (u ∷ l)) k (omega (arith, m)) (up a y q) (up b z r) (either (h u p))
    go false y z p q r k =
        let m : many t (u ∷ l) ≡ many t l = kept_on t u l false p in
        omega (arith, m, k, up a y q, up b z r)

-- a unit is the one with counter b of a peer
is_at : ℕ → ℕ → FugueSpan → Bool
is_at p b u = eqb u.id.peer p && eq_z u.id.counter (pos b)

at_id : (p b : ℕ) (u : FugueSpan) → is_at p b u ≡ true → same_opt (At (id p (pos b))) (At u.id) ≡ true
unfolding is_at
at_id p b u e =
    let w = and-true (eqb u.id.peer p) (eq_z u.id.counter (pos b)) e in
    let q : u.id ≡ id p (pos b) = ap₂ id (eqb-true u.id.peer p w.0) (eq_z-true u.id.counter (pos b) w.1) in
    ap (λ (i : Id). same_opt (At (id p (pos b))) (At i)) q ∙ same_opt_refl (At (id p (pos b)))

last_or : (p b : ℕ) (u : FugueSpan) → in_range p (pos 0) (pos (suc b)) u ≡ true → (in_range p (pos 0) (pos b) u ≡ true) ⊎ (is_at p b u ≡ true)
unfolding in_range is_at
last_or p b u e = go (eqb u.id.peer p) u.id.counter e
  where
    go : (t : Bool) (z : ℤ) → (t && (le_z (pos 0) z && lt_z z (pos (suc b)))) ≡ true → ((t && (le_z (pos 0) z && lt_z z (pos b))) ≡ true) ⊎ ((t && eq_z z (pos b)) ≡ true)
    go false z h = absurd (false≢true h)
    go true (negsuc c) h = absurd (false≢true h)
    go true (pos c) h = side (lt-or c b)
      where
        low : c < suc b
        low = ltb-true c (suc b) (and-true (leb 0 c) (ltb c (suc b)) h).1

        side : (c < b) ⊎ (b ≤ c) → ((leb 0 c && ltb c b) ≡ true) ⊎ (eqb c b ≡ true)
        side (inl k) = inl (ap₂ (λ (x y : Bool). x && y) (le-leb 0 c (omega arith)) (lt-ltb c b k))
        side (inr k) = inr (eq-eqb c b (omega (arith, k, low)))

zero_range : (p : ℕ) (u : FugueSpan) → in_range p (pos 0) (pos 0) u ≡ false
zero_range p u = none_in p (pos 0) (pos 0) refl u

pub few_in : (p b : ℕ) (l : List FugueSpan) → Distinct l → many (in_range p (pos 0) (pos b)) l ≤ b
few_in p zero l d = let z : many (in_range p (pos 0) (pos 0)) l ≡ 0 = many_none (in_range p (pos 0) (pos 0)) l (zero_range p) in omega (arith, z)
few_in p (suc b) l d =
    let m = many-sum (in_range p (pos 0) (pos (suc b))) (in_range p (pos 0) (pos b)) (is_at p b) (last_or p b) l in
    let k = few_in p b l d in
    let o = many_one (is_at p b) (At (id p (pos b))) (at_id p b) l d in
    omega (arith, m, k, o)

-- ---- a range that begins below zero

natural_range : (p m : ℕ) (b : ℤ) (u : FugueSpan) → span_code u ≡ 0 → in_range p (negsuc m) b u ≡ in_range p (pos 0) b u
unfolding in_range
natural_range p m b u ok =
    let r = roomy u.id.counter (len_span u) (span_ok u ok).own in
    ap (λ (z : ℤ). eqb u.id.peer p && (le_z (negsuc m) z && lt_z z b)) r.is ∙
    (ap (λ (t : Bool). eqb u.id.peer p && (t && lt_z (pos r.at) b)) (sym (le-leb 0 r.at (omega arith))) ∙
    ap (λ (z : ℤ). eqb u.id.peer p && (le_z (pos 0) z && lt_z z b)) (sym r.is))

natural_many : (p m : ℕ) (b : ℤ) (l : List FugueSpan) → AllUnits l → many (in_range p (negsuc m) b) l ≡ many (in_range p (pos 0) b) l
unfolding AllUnits keep_if
natural_many p m b [] a = refl
natural_many p m b (u ∷ l) a =
    kept_on (in_range p (negsuc m) b) u l (in_range p (pos 0) b u) (natural_range p m b u a.0) ∙
    (ap (λ (n : ℕ). cond (in_range p (pos 0) b u) (suc n) n) (natural_many p m b l a.1.1) ∙ sym (kept_on (in_range p (pos 0) b) u l (in_range p (pos 0) b u) refl))

differs : (k : ℕ) (z : ℤ) (n : ℕ) → z ≡ pos n → k < n → eq_z (pos k) z ≡ false
differs k z n e h = ap (eq_z (pos k)) e ∙ ne_eqb k n (λ q. omega (arith, q, h))

width_down : (m n : ℕ) → n < m → (negsuc n -ℤ negsuc m) ≡ pos (m - n)
width_down m n h = ap (λ (t : Bool). cond t (negsuc (suc n - suc (suc m))) (pos (suc m - suc n))) (le-ltb (suc m) (suc n) (omega arith)) ∙ ap pos (let q : suc m - suc n ≡ m - n = omega arith in q)

pub below_zero : (p : ℕ) (a b : ℤ) (l : List FugueSpan) → None ≡ counter_of a → le_z b a ≡ false → AllUnits l → Distinct l → holds_all p a b l ≡ false
unfolding holds_all
below_zero p (pos a) b l n h each d = absurd (true≢false (ap neg n))
  where
    neg : Counter → Bool
    neg None = true
    neg (Some k) = false
below_zero p (negsuc m) (pos b) l n h each d =
    let k = few_in p b l d in
    let e : many (in_range p (negsuc m) (pos b)) l ≡ many (in_range p (pos 0) (pos b)) l = natural_many p m (pos b) l each in
    differs (many (in_range p (negsuc m) (pos b)) l) (pos b -ℤ negsuc m) (b + suc m) refl (omega (arith, k, e))
below_zero p (negsuc m) (negsuc c) l n h each d =
    let e : many (in_range p (negsuc m) (negsuc c)) l ≡ 0 = natural_many p m (negsuc c) l each ∙ many_none (in_range p (pos 0) (negsuc c)) l (none_in p (pos 0) (negsuc c) refl) in
    let q : c < m = lower (lt-or c m) in
    differs (many (in_range p (negsuc m) (negsuc c)) l) (negsuc c -ℤ negsuc m) (m - c) (width_down m c q) (omega (arith, e, q))
  where
    lower : (c < m) ⊎ (m ≤ c) → c < m
    lower (inl k) = k
    lower (inr k) = absurd (true≢false (sym (le-leb m c k) ∙ h))
