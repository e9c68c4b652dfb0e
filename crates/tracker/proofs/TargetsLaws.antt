-- A delete's targets fit a list of distinct units exactly if its ranges are as wide as can be and their ids stand in the list in their order.
use Prim.Native.Nat.{ℕ, zero, suc, ◌+◌, ◌<◌}
use mathlib.Core.Path.{◌≡◌, refl, sym, ap, ap₂, ◌∙◌}
use mathlib.Core.Logic.{◌⊎◌, inl, inr}
use mathlib.Core.Bool.{Bool, true, false, ◌&&◌, ◌||◌, cond, true≢false, false≢true}
use mathlib.Core.List.Memᴰ
use mathlib.Core.List.{List, [], ◌∷◌, ◌++◌, Memᴰ}
use native.Mathlib.Omega.{arith}
use native.Mathlib.Nat.{zero-add}
use native.Mathlib.Numerals.{add-one}
use lib.Dec.{eqb}
use lib.IntN.{ℤ, pos, ◌+ℤ◌}
use borrow.Author.Tests.{eqb-true, ne_eqb}
use Rattle.span.specs.declared.ids.Id.{Id}
use Rattle.std.specs.Prelude.{Some as At}
use Rattle.span.specs.declared.span.FugueSpan.{FugueSpan}
use Rattle.span.specs.Ids.{inc_id, same_id, same_opt, room, room_of}
use Rattle.span.specs.Units.{tab}
use Rattle.span.proofs.IdsLaws.{roomy, inc_zero, inc_inc}
use Rattle.span.proofs.ListLaws.{tab_from}
use Rattle.span.proofs.Same.{same_id-true, same_id_refl}
use Rattle.span.proofs.UnitLaws.{room_join}
use Rattle.units.specs.Lists.{some, keep_if}
use Rattle.units.specs.Place.{mem_id, Distinct}
use Rattle.rope.proofs.Lists.{and-true, or_left, or_right, or-false}
use Rattle.history.specs.Edit.{Range}
use Rattle.history.specs.Version.{number}
use Rattle.history.specs.Checkout.{range, in_ranges, range_on, ranges_of}
use Rattle.history.specs.Valid.{same_ranges, ranges_in}
use Rattle.history.proofs.Context.{Natural, natural_inc}
use Rattle.history.proofs.Ranges.{AllNatural, ranges_from, ranges_to, same_ranges_refl}
use Rattle.tracker.specs.Follow.{ids_in, ids_of, in_order, runs_into, well_ranges}

-- ---------------------------------------------------------------- tests

-- two tests that are true together are one
pub iff : (a b : Bool) → (a ≡ true → b ≡ true) → (b ≡ true → a ≡ true) → a ≡ b
iff true true f g = refl
iff true false f g = absurd (true≢false (sym (f refl)))
iff false true f g = absurd (true≢false (sym (g refl)))
iff false false f g = refl

pub not_both : (a : Bool) → (a ≡ true → ⊥) → a ≡ false
not_both true f = absurd (f refl)
not_both false f = refl

-- ---------------------------------------------------------------- ids among ids

-- an id is one of the ids
abbrev pub memb : Id → List Id → Bool
memb i ts = some (same_id i) ts

memb_mem : (i : Id) (ts : List Id) → memb i ts ≡ true → Memᴰ i ts
unfolding some
memb_mem i [] e = absurd (false≢true e)
memb_mem i (t ∷ ts) e = go (memb_mem i ts) (same_id i t) refl e
  where
    go : (some (same_id i) ts ≡ true → Memᴰ i ts) → (b : Bool) → same_id i t ≡ b → (b || some (same_id i) ts) ≡ true → Memᴰ i (t ∷ ts)
    go ih true p q = Memᴰ.head (same_id-true i t p)
    go ih false p q = Memᴰ.tail (ih q)

mem_memb : (i : Id) (ts : List Id) → Memᴰ i ts → memb i ts ≡ true
unfolding some
mem_memb i [] m = absurd (Memᴰ.not-nil m)
mem_memb i (t ∷ ts) m = go (mem_memb i ts) (Memᴰ.cases_cons m)
  where
    go : (Memᴰ i ts → some (same_id i) ts ≡ true) → (i ≡ t) ⊎ Memᴰ i ts → (same_id i t || some (same_id i) ts) ≡ true
    go ih (inl e) = or_left (same_id i t) (some (same_id i) ts) (ap (same_id i) (sym e) ∙ same_id_refl i)
    go ih (inr k) = or_right (same_id i t) (some (same_id i) ts) (ih k)

-- an id of the units
pub memb_units : (i : Id) (us : List FugueSpan) → memb i (ids_of us) ≡ mem_id (At i) us
unfolding some mem_id ids_of same_opt
memb_units i [] = refl
memb_units i (u ∷ us) = ap (λ (b : Bool). same_id i u.id || b) (memb_units i us)

mem_keep : (p : FugueSpan → Bool) (i : Id) (us : List FugueSpan) → mem_id (At i) (keep_if p us) ≡ true → mem_id (At i) us ≡ true
unfolding keep_if mem_id
mem_keep p i [] e = e
mem_keep p i (u ∷ us) e = go (mem_keep p i us) (p u) e
  where
    two : (mem_id (At i) (keep_if p us) ≡ true → mem_id (At i) us ≡ true) → (c : Bool) → (c || mem_id (At i) (keep_if p us)) ≡ true → (c || mem_id (At i) us) ≡ true
    two ih true z = refl
    two ih false z = ih z

    go : (mem_id (At i) (keep_if p us) ≡ true → mem_id (At i) us ≡ true) → (b : Bool) → mem_id (At i) (cond b (u ∷ keep_if p us) (keep_if p us)) ≡ true → (same_opt (At i) (At u.id) || mem_id (At i) us) ≡ true
    go ih true q = two ih (same_opt (At i) (At u.id)) q
    go ih false q = or_right (same_opt (At i) (At u.id)) (mem_id (At i) us) (ih q)

same_sym : (i j : Id) → same_id i j ≡ true → same_id j i ≡ true
same_sym i j e = ap (λ (z : Id). same_id z i) (sym (same_id-true i j e)) ∙ same_id_refl i

-- ids that stand among others are some of them
order_mem : (ts is : List Id) (i : Id) → in_order ts is ≡ true → memb i ts ≡ true → memb i is ≡ true
unfolding in_order some
order_mem [] is i e m = absurd (false≢true m)
order_mem (t ∷ ts) [] i e m = absurd (false≢true e)
order_mem (t ∷ ts) (j ∷ is) i e m = go (order_mem ts is i) (λ (z : in_order (t ∷ ts) is ≡ true). order_mem (t ∷ ts) is i z m) (same_id t j) refl e
  where
    front : (in_order ts is ≡ true → some (same_id i) ts ≡ true → some (same_id i) is ≡ true) → t ≡ j → (b : Bool) → same_id i t ≡ b → in_order ts is ≡ true → (b || some (same_id i) ts) ≡ true → (same_id i j || some (same_id i) is) ≡ true
    front ih q true p z n = or_left (same_id i j) (some (same_id i) is) (ap (same_id i) (sym q) ∙ p)
    front ih q false p z n = or_right (same_id i j) (some (same_id i) is) (ih z n)

    go : (in_order ts is ≡ true → some (same_id i) ts ≡ true → some (same_id i) is ≡ true) → (in_order (t ∷ ts) is ≡ true → some (same_id i) is ≡ true) → (b : Bool) → same_id t j ≡ b → cond b (in_order ts is) (in_order (t ∷ ts) is) ≡ true → (same_id i j || some (same_id i) is) ≡ true
    go ih ih2 true p z = front ih (same_id-true t j p) (same_id i t) refl z m
    go ih ih2 false p z = or_right (same_id i j) (some (same_id i) is) (ih2 z)

-- one more id before the others
order_more : (ts is : List Id) (i : Id) → memb i ts ≡ false → in_order ts is ≡ true → in_order ts (i ∷ is) ≡ true
unfolding in_order some
order_more [] is i m e = refl
order_more (t ∷ ts) is i m e = ap (λ (b : Bool). cond b (in_order ts is) (in_order (t ∷ ts) is)) (not_both (same_id t i) (λ (z : same_id t i ≡ true). true≢false (sym (same_sym t i z) ∙ (or-false (same_id i t) (some (same_id i) ts) m).0))) ∙ e

-- ---------------------------------------------------------------- what is kept of distinct units stands among them in order; what stands so is what is kept

kept_order : (p : FugueSpan → Bool) (us : List FugueSpan) → Distinct us → in_order (ids_of (keep_if p us)) (ids_of us) ≡ true
unfolding keep_if ids_of in_order Distinct
kept_order p [] d = refl
kept_order p (u ∷ us) d = go (p u) (kept_order p us d.1)
  where
    none : memb u.id (ids_of (keep_if p us)) ≡ false
    none = not_both (memb u.id (ids_of (keep_if p us))) (λ (z : memb u.id (ids_of (keep_if p us)) ≡ true). true≢false (sym (mem_keep p u.id us (sym (memb_units u.id (keep_if p us)) ∙ z)) ∙ d.0))

    go : (b : Bool) → in_order (ids_of (keep_if p us)) (ids_of us) ≡ true → in_order (ids_of (cond b (u ∷ keep_if p us) (keep_if p us))) (u.id ∷ ids_of us) ≡ true
    go true ih = ap (λ (b : Bool). cond b (in_order (ids_of (keep_if p us)) (ids_of us)) (in_order (u.id ∷ ids_of (keep_if p us)) (ids_of us))) (same_id_refl u.id) ∙ ih
    go false ih = order_more (ids_of (keep_if p us)) (ids_of us) u.id none ih

order_kept : (p : Id → Bool) (us : List FugueSpan) (ts : List Id) → Distinct us → in_order ts (ids_of us) ≡ true → ((i : Id) → mem_id (At i) us ≡ true → p i ≡ memb i ts) → ids_of (keep_if (λ (u : FugueSpan). p u.id) us) ≡ ts
unfolding keep_if ids_of in_order Distinct mem_id some same_opt
order_kept p [] [] d e f = refl
order_kept p [] (t ∷ ts) d e f = absurd (false≢true e)
order_kept p (u ∷ us) [] d e f =
    ap (λ (b : Bool). ids_of (cond b (u ∷ keep_if (λ (v : FugueSpan). p v.id) us) (keep_if (λ (v : FugueSpan). p v.id) us))) (f u.id (or_left (same_id u.id u.id) (mem_id (At u.id) us) (same_id_refl u.id)))
    ∙ order_kept p us [] d.1 refl (λ (i : Id) (m : mem_id (At i) us ≡ true). f i (or_right (same_id i u.id) (mem_id (At i) us) m))
order_kept p (u ∷ us) (t ∷ ts) d e f = go (order_kept p us ts d.1) (λ (z : in_order (t ∷ ts) (ids_of us) ≡ true). order_kept p us (t ∷ ts) d.1 z (λ (i : Id) (m : mem_id (At i) us ≡ true). f i (or_right (same_id i u.id) (mem_id (At i) us) m))) (same_id t u.id) refl e
  where
    K : List FugueSpan
    K = keep_if (λ (v : FugueSpan). p v.id) us

    own : p u.id ≡ memb u.id (t ∷ ts)
    own = f u.id (or_left (same_id u.id u.id) (mem_id (At u.id) us) (same_id_refl u.id))

    go : (in_order ts (ids_of us) ≡ true → ((i : Id) → mem_id (At i) us ≡ true → p i ≡ memb i ts) → ids_of K ≡ ts) → (in_order (t ∷ ts) (ids_of us) ≡ true → ids_of K ≡ t ∷ ts)
        → (b : Bool) → same_id t u.id ≡ b → cond b (in_order ts (ids_of us)) (in_order (t ∷ ts) (ids_of us)) ≡ true → ids_of (cond (p u.id) (u ∷ K) K) ≡ t ∷ ts
    go ih ih2 true q z =
        ap (λ (b : Bool). ids_of (cond b (u ∷ K) K)) (own ∙ or_left (same_id u.id t) (some (same_id u.id) ts) (same_sym t u.id q))
        ∙ ap₂ ◌∷◌ (sym (same_id-true t u.id q)) (ih z later)
      where
        later : (i : Id) → mem_id (At i) us ≡ true → p i ≡ memb i ts
        later i m = f i (or_right (same_id i u.id) (mem_id (At i) us) m) ∙ ap (λ (b : Bool). b || some (same_id i) ts) (not_both (same_id i t) clash)
          where
            clash : same_id i t ≡ true → ⊥
            clash k = true≢false (sym (ap (λ (w : Id). mem_id (At w) us) (sym (same_id-true i t k ∙ same_id-true t u.id q)) ∙ m) ∙ d.0)
    go ih ih2 false q z = ap (λ (b : Bool). ids_of (cond b (u ∷ K) K)) (own ∙ not_both (memb u.id (t ∷ ts)) out) ∙ ih2 z
      where
        out : memb u.id (t ∷ ts) ≡ true → ⊥
        out k = true≢false (sym (sym (memb_units u.id us) ∙ order_mem (t ∷ ts) (ids_of us) u.id z k) ∙ d.0)

-- ---------------------------------------------------------------- ids as ranges, and back

ids_on : (i : Id) (rs : List Range) → ids_in (range_on i rs) ≡ i ∷ ids_in rs
unfolding ids_in range_on tab
ids_on i [] = ap (λ (z : Id). z ∷ []) (inc_zero i)
ids_on i (r ∷ rs) = go (same_id (inc_id i 1) r.id) refl
  where
    go : (b : Bool) → same_id (inc_id i 1) r.id ≡ b → ids_in (cond b (range i (suc r.len) ∷ rs) (range i 1 ∷ (r ∷ rs))) ≡ i ∷ (tab (inc_id r.id) 0 r.len ++ ids_in rs)
    go true e = ap₂ (λ (z : Id) (l : List Id). z ∷ (l ++ ids_in rs)) (inc_zero i) (tab_from (inc_id i) (inc_id r.id) 1 0 r.len (λ k. sym (inc_inc i 1 k) ∙ (ap (λ (z : Id). inc_id z k) (same_id-true (inc_id i 1) r.id e) ∙ ap (inc_id r.id) (sym (zero-add k)))))
    go false e = ap (λ (z : Id). z ∷ (tab (inc_id r.id) 0 r.len ++ ids_in rs)) (inc_zero i)

ids_ranges : (is : List Id) → ids_in (ranges_of is) ≡ is
unfolding ranges_of ids_in
ids_ranges [] = refl
ids_ranges (i ∷ is) = ids_on i (ranges_of is) ∙ ap (λ (l : List Id). i ∷ l) (ids_ranges is)

-- what well formed ranges are
pub record Well (r : Range) (rs : List Range) : Type 0 where
  pub some : 0 < r.len
  pub room : room_of r.id r.len ≡ true
  pub apart : runs_into r rs ≡ false
  pub rest : well_ranges rs ≡ true

pub well_cons : (r : Range) (rs : List Range) → well_ranges (r ∷ rs) ≡ true → Well r rs
unfolding well_ranges
well_cons r rs e = go (eqb r.len 0) refl (room_of r.id r.len) refl (runs_into r rs) refl e
  where
    above : (n : ℕ) → eqb n 0 ≡ false → 0 < n
    above zero p = absurd (true≢false p)
    above (suc n) p = omega arith

    go : (a : Bool) → eqb r.len 0 ≡ a → (b : Bool) → room_of r.id r.len ≡ b → (c : Bool) → runs_into r rs ≡ c → cond a false (cond b (cond c false (well_ranges rs)) false) ≡ true → Well r rs
    go true p b q c s z = absurd (false≢true z)
    go false p false q c s z = absurd (false≢true z)
    go false p true q true s z = absurd (false≢true z)
    go false p true q false s z = record { some = above r.len p; room = q; apart = s; rest = z }

cons_well : (r : Range) (rs : List Range) → 0 < r.len → room_of r.id r.len ≡ true → runs_into r rs ≡ false → well_ranges rs ≡ true → well_ranges (r ∷ rs) ≡ true
unfolding well_ranges
cons_well r rs h p q e = ap (λ (a : Bool). cond a false (cond (room_of r.id r.len) (cond (runs_into r rs) false (well_ranges rs)) false)) (ne_eqb r.len 0 (omega arith)) ∙ (ap₂ (λ (b c : Bool). cond b (cond c false (well_ranges rs)) false) p q ∙ e)

next_counter : (i j : Id) → inc_id i 1 ≡ j → i.counter +ℤ pos 1 ≡ j.counter
unfolding inc_id
next_counter i j e = ap (λ (z : Id). z.counter) e

well_on : (i : Id) (rs : List Range) → room_of i 1 ≡ true → well_ranges rs ≡ true → well_ranges (range_on i rs) ≡ true
unfolding range_on
well_on i [] h e = cons_well (range i 1) [] (omega arith) h (unfold runs_into in refl) e
well_on i (r ∷ rs) h e = go (same_id (inc_id i 1) r.id) refl
  where
    w : Well r rs
    w = well_cons r rs e

    on : inc_id i 1 ≡ r.id → (l : List Range) → runs_into (range i (suc r.len)) l ≡ runs_into r l
    on q [] = (unfold runs_into in refl)
    on q (s ∷ l) = (unfold runs_into in ap (λ (z : Id). same_id z s.id) (ap (inc_id i) (one r.len) ∙ (sym (inc_inc i 1 r.len) ∙ ap (λ (z : Id). inc_id z r.len) q)))
      where
        one : (n : ℕ) → suc n ≡ 1 + n
        one n = omega arith

    go : (b : Bool) → same_id (inc_id i 1) r.id ≡ b → well_ranges (cond b (range i (suc r.len) ∷ rs) (range i 1 ∷ (r ∷ rs))) ≡ true
    go true q =
        let p : inc_id i 1 ≡ r.id = same_id-true (inc_id i 1) r.id q in
        let cs : i.counter +ℤ pos 1 ≡ r.id.counter = next_counter i r.id p in
        let k : 1 + r.len ≡ suc r.len = omega arith in
        cons_well (range i (suc r.len)) rs (omega arith)
        (ap (room i.counter) (sym k) ∙ room_join i.counter 1 r.len h (ap (λ (z : ℤ). room z r.len) cs ∙ w.room))
        (on p rs ∙ w.apart) w.rest
    go false q = cons_well (range i 1) (r ∷ rs) (omega arith) h (unfold runs_into in q) e

well_ranges_lem : (is : List Id) → ((i : Id) → memb i is ≡ true → room_of i 1 ≡ true) → well_ranges (ranges_of is) ≡ true
unfolding ranges_of some
well_ranges_lem [] f = (unfold well_ranges in refl)
well_ranges_lem (i ∷ is) f = well_on i (ranges_of is) (f i (or_left (same_id i i) (some (same_id i) is) (same_id_refl i))) (well_ranges_lem is (λ (j : Id) (m : memb j is ≡ true). f j (or_right (same_id j i) (some (same_id j) is) m)))

on_apart : (i : Id) (rs : List Range) → runs_into (range i 1) rs ≡ false → range_on i rs ≡ range i 1 ∷ rs
unfolding range_on runs_into
on_apart i [] e = refl
on_apart i (r ∷ rs) e = ap (λ (b : Bool). cond b (range i (suc r.len) ∷ rs) (range i 1 ∷ (r ∷ rs))) e

run_ranges : (i : Id) (k n : ℕ) (is : List Id) (rs : List Range) → ranges_of is ≡ rs → runs_into (range (inc_id i k) (suc n)) rs ≡ false → ranges_of (tab (inc_id i) k (suc n) ++ is) ≡ range (inc_id i k) (suc n) ∷ rs
unfolding ranges_of tab
run_ranges i k zero is rs e a = ap (range_on (inc_id i k)) e ∙ on_apart (inc_id i k) rs a
run_ranges i k (suc n) is rs e a =
    ap (range_on (inc_id i k)) (run_ranges i (suc k) n is rs e (shifted rs ∙ a)) ∙ joined
  where
    next : inc_id (inc_id i k) 1 ≡ inc_id i (suc k)
    next = inc_inc i k 1 ∙ ap (inc_id i) (add-one k)

    far : inc_id (inc_id i (suc k)) (suc n) ≡ inc_id (inc_id i k) (suc (suc n))
    far = ap (λ (z : Id). inc_id z (suc n)) (sym next) ∙ (inc_inc (inc_id i k) 1 (suc n) ∙ ap (inc_id (inc_id i k)) (one (suc n)))
      where
        one : (m : ℕ) → 1 + m ≡ suc m
        one m = omega arith

    shifted : (l : List Range) → runs_into (range (inc_id i (suc k)) (suc n)) l ≡ runs_into (range (inc_id i k) (suc (suc n))) l
    shifted [] = (unfold runs_into in refl)
    shifted (s ∷ l) = (unfold runs_into in ap (λ (z : Id). same_id z s.id) far)

    joined : range_on (inc_id i k) (range (inc_id i (suc k)) (suc n) ∷ rs) ≡ range (inc_id i k) (suc (suc n)) ∷ rs
    joined = (unfold range_on in ap (λ (b : Bool). cond b (range (inc_id i k) (suc (suc n)) ∷ rs) (range (inc_id i k) 1 ∷ (range (inc_id i (suc k)) (suc n) ∷ rs))) (ap (λ (z : Id). same_id z (inc_id i (suc k))) next ∙ same_id_refl (inc_id i (suc k))))

ranges_ids : (rs : List Range) → well_ranges rs ≡ true → ranges_of (ids_in rs) ≡ rs
unfolding ids_in
ranges_ids [] e = (unfold ranges_of in refl)
ranges_ids (r ∷ rs) e = go (ranges_ids rs (well_cons r rs e).rest) r.len refl (well_cons r rs e).some
  where
    w : Well r rs
    w = well_cons r rs e

    go : ranges_of (ids_in rs) ≡ rs → (n : ℕ) → r.len ≡ n → 0 < n → ranges_of (tab (inc_id r.id) 0 r.len ++ ids_in rs) ≡ r ∷ rs
    go ih zero q h = absurd (omega arith)
    go ih (suc n) q h =
        let z : range (inc_id r.id 0) (suc n) ≡ r = ap₂ range (inc_zero r.id) (sym q) in
        ap (λ (m : ℕ). ranges_of (tab (inc_id r.id) 0 m ++ ids_in rs)) q ∙ (run_ranges r.id 0 n (ids_in rs) rs ih (ap (λ (t : Range). runs_into t rs) z ∙ w.apart) ∙ ap (λ (t : Range). t ∷ rs) z)

-- ---------------------------------------------------------------- the law

same_true : (a b : List Range) → same_ranges a b ≡ true → a ≡ b
unfolding same_ranges
same_true [] [] e = refl
same_true [] (s ∷ ss) e = absurd (false≢true e)
same_true (r ∷ rs) [] e = absurd (false≢true e)
same_true (r ∷ rs) (s ∷ ss) e =
    let t = and-true (same_id r.id s.id && eqb r.len s.len) (same_ranges rs ss) e in
    let u = and-true (same_id r.id s.id) (eqb r.len s.len) t.0 in
    ap₂ ◌∷◌ (ap₂ range (same_id-true r.id s.id u.0) (eqb-true r.len s.len u.1)) (same_true rs ss t.1)

natural_of : (i : Id) (n : ℕ) → room_of i n ≡ true → Natural i
natural_of i n h = let w = roomy i.counter n h in w.is ∙ ap (λ (z : ℤ). pos (number z)) (sym w.is)

tab_natural : (i : Id) → Natural i → (k n : ℕ) (is : List Id) → AllNatural is → AllNatural (tab (inc_id i) k n ++ is)
unfolding tab
tab_natural i h k zero is a = a
tab_natural i h k (suc n) is a = ((natural_inc i k h).0, tab_natural i h (suc k) n is a)

all_natural : (rs : List Range) → well_ranges rs ≡ true → AllNatural (ids_in rs)
unfolding ids_in
all_natural [] e = tt
all_natural (r ∷ rs) e = let w = well_cons r rs e in tab_natural r.id (natural_of r.id r.len w.room) 0 r.len (ids_in rs) (all_natural rs w.rest)

module _ (us : List FugueSpan) (d : Distinct us) (fine : (i : Id) → mem_id (At i) us ≡ true → room_of i 1 ≡ true) (took : List Range) where
  kept : List FugueSpan
  kept = keep_if (λ (u : FugueSpan). in_ranges u.id took) us

  to : same_ranges took (ranges_of (ids_of kept)) ≡ true → (well_ranges took && in_order (ids_in took) (ids_of us)) ≡ true
  unfolding kept
  to e =
      let q : took ≡ ranges_of (ids_of kept) = same_true took (ranges_of (ids_of kept)) e in
      ap₂ ◌&&◌
      (ap well_ranges q ∙ well_ranges_lem (ids_of kept) (λ (i : Id) (m : memb i (ids_of kept) ≡ true). fine i (mem_keep (λ (u : FugueSpan). in_ranges u.id took) i us (sym (memb_units i kept) ∙ m))))
      (ap (λ (l : List Id). in_order l (ids_of us)) (ap ids_in q ∙ ids_ranges (ids_of kept)) ∙ kept_order (λ (u : FugueSpan). in_ranges u.id took) us d)

  from : (well_ranges took && in_order (ids_in took) (ids_of us)) ≡ true → same_ranges took (ranges_of (ids_of kept)) ≡ true
  unfolding kept
  from e =
      let t = and-true (well_ranges took) (in_order (ids_in took) (ids_of us)) e in
      let back : ranges_of (ids_in took) ≡ took = ranges_ids took t.0 in
      let same : ids_of kept ≡ ids_in took = order_kept (λ (i : Id). in_ranges i took) us (ids_in took) d t.1 (λ (i : Id) (m : mem_id (At i) us ≡ true). test back t.0 i (natural_of i 1 (fine i m))) in
      ap (λ (l : List Id). same_ranges took (ranges_of l)) same ∙ (ap (same_ranges took) back ∙ same_ranges_refl took)
    where
      test : ranges_of (ids_in took) ≡ took → well_ranges took ≡ true → (i : Id) → Natural i → in_ranges i took ≡ memb i (ids_in took)
      test back w i n = iff (in_ranges i took) (memb i (ids_in took))
          (λ (z : in_ranges i took ≡ true). mem_memb i (ids_in took) (ranges_from (ids_in took) i (all_natural took w) n (ap (in_ranges i) back ∙ z)))
          (λ (z : memb i (ids_in took) ≡ true). sym (ap (in_ranges i) back) ∙ ranges_to (ids_in took) i (all_natural took w) n (memb_mem i (ids_in took) z))

  pub targets_law : same_ranges took (ranges_in us took) ≡ (well_ranges took && in_order (ids_in took) (ids_of us))
  unfolding ranges_in kept ids_of
  targets_law = iff (same_ranges took (ranges_in us took)) (well_ranges took && in_order (ids_in took) (ids_of us)) to from
