-- The premises can be met: a placeholder of two units; peer 1 inserts one unit at 1; then, not knowing of each other, peer 2 deletes two units at 0 and peer 3 inserts one
-- at 1. Both orders of the last two are accepted and end alike.
use Prim.Native.Nat.{ℕ, ◌<◌, ◌≤◌}
use mathlib.Core.Path.{◌≡◌, refl, sym, ap, subst, ◌∙◌}
use mathlib.Core.Logic.{◌⊎◌, inl, inr}
use mathlib.Core.Bool.{Bool, true, false, ◌&&◌, cond, true≢false}
use mathlib.Core.List.Memᴰ
use mathlib.Core.List.{List, [], ◌∷◌}
use native.Mathlib.Omega.{arith}
use lib.Dec.{eqb}
use lib.IntN.{pos}
use Rattle.std.specs.Prelude.{Some}
use Rattle.span.specs.Chunk.{chunk}
use Rattle.span.specs.Ids.{id, room_opt}
use Rattle.fugue.proofs.Tests.{Test, pass, fail, eqb_test}
use Rattle.history.specs.Edit.{Count, Insert, Delete, Edit, size}
use Rattle.history.specs.Version.{count_of, below, rising, closed_for}
use Rattle.history.specs.Arrive.{start}
use Rattle.history.specs.Tree.{sort_rank}
use Rattle.history.specs.Valid.{act_formed, act_ids}
use Rattle.history.specs.Open.{history_open}
use Rattle.history.specs.Demand.{InSet, first_of, Uses, IdOf, Once, counted, WellFormedSet, Inside, peers, sum, Limits, After, ArrivalOrder, Promise}
use Rattle.history.proofs.Demand.{demand3}

abbrev pair : ℕ → ℕ → Count
pair p m = record { peer = p; many = pos m }

abbrev one : Edit
one = record { id = id 1 (pos 0); at = 1; act = Insert 0 (chunk 7 8); context = [] }

abbrev two : Edit
two = record { id = id 2 (pos 0); at = 0; act = Delete 2 false (id 9 (pos 40)); context = pair 1 1 ∷ [] }

abbrev three : Edit
three = record { id = id 3 (pos 0); at = 1; act = Insert 5 (chunk 3 4); context = pair 1 1 ∷ [] }

abbrev pub set : List Edit
set = one ∷ two ∷ three ∷ []

-- ---- by cases

data Which (e : Edit) : Type 0 where
  is1 : e ≡ one → Which e
  is2 : e ≡ two → Which e
  is3 : e ≡ three → Which e

which : (e : Edit) → InSet e set → Which e
which e m = first (Memᴰ.cases_cons m)
  where
    third : (e ≡ three) ⊎ InSet e [] → Which e
    third (inl d) = is3 d
    third (inr k) = absurd (Memᴰ.not-nil k)

    second : (e ≡ two) ⊎ InSet e (three ∷ []) → Which e
    second (inl d) = is2 d
    second (inr k) = third (Memᴰ.cases_cons k)

    first : (e ≡ one) ⊎ InSet e (two ∷ three ∷ []) → Which e
    first (inl d) = is1 d
    first (inr k) = second (Memᴰ.cases_cons k)

by : (P : Edit → Type 0) → P one → P two → P three → (e : Edit) → Which e → P e
by P p1 p2 p3 e (is1 d) = subst P (sym d) p1
by P p1 p2 p3 e (is2 d) = subst P (sym d) p2
by P p1 p2 p3 e (is3 d) = subst P (sym d) p3

each : (P : Edit → Type 0) → P one → P two → P three → (e : Edit) → InSet e set → P e
each P p1 p2 p3 e m = by P p1 p2 p3 e (which e m)

in1 : InSet one set
in1 = Memᴰ.head refl

peer_of : (e f : Edit) → e ≡ f → e.id.peer ≡ f.id.peer
peer_of e f d = ap (λ (z : Edit). z.id.peer) d

-- one office, one edit
alone : (e f : Edit) → Which e → Which f → e.id.peer ≡ f.id.peer → e ≡ f
alone e f (is1 a) (is1 b) p = a ∙ sym b
alone e f (is2 a) (is2 b) p = a ∙ sym b
alone e f (is3 a) (is3 b) p = a ∙ sym b
alone e f (is1 a) (is2 b) p = absurd (let z : ⊥ = omega (arith, peer_of e one a, peer_of f two b) in z)
alone e f (is1 a) (is3 b) p = absurd (let z : ⊥ = omega (arith, peer_of e one a, peer_of f three b) in z)
alone e f (is2 a) (is1 b) p = absurd (let z : ⊥ = omega (arith, peer_of e two a, peer_of f one b) in z)
alone e f (is2 a) (is3 b) p = absurd (let z : ⊥ = omega (arith, peer_of e two a, peer_of f three b) in z)
alone e f (is3 a) (is1 b) p = absurd (let z : ⊥ = omega (arith, peer_of e three a, peer_of f one b) in z)
alone e f (is3 a) (is2 b) p = absurd (let z : ⊥ = omega (arith, peer_of e three a, peer_of f two b) in z)

-- ---- the set

covered : (p i : ℕ) → i < count_of (pair 1 1 ∷ []) p → IdOf set p i
unfolding history_open
covered p i h = go (eqb_test 1 p) h
  where
    go : Test (eqb 1 p) (1 ≡ p) → i < cond (eqb 1 p) 1 0 → IdOf set p i
    go (pass b d) h = let k : i < 1 = subst (λ (z : Bool). i < cond z 1 0) b h in record { edit = one; is_in = in1; uses = record { peer = d; from = omega arith; to = unfold history_open in omega arith } }
    go (fail b d) h = absurd (let k : i < 0 = subst (λ (z : Bool). i < cond z 1 0) b h in let z : ⊥ = omega arith in z)

closed : (e f : Edit) → Which e → Which f → closed_for e.context f ≡ true
unfolding history_open
closed e f we wf = by (λ (z : Edit). closed_for z.context f ≡ true) (by (λ (z : Edit). closed_for [] z ≡ true) refl refl refl f wf) (below1 f wf) (below1 f wf) e we
  where
    below1 : (f : Edit) → Which f → closed_for (pair 1 1 ∷ []) f ≡ true
    below1 = by (λ (z : Edit). closed_for (pair 1 1 ∷ []) z ≡ true) refl refl refl

distinct : Once set
distinct = (
  (λ (f : Edit) (m : InSet f (two ∷ three ∷ [])) (e : f ≡ one). after_one f e (Memᴰ.cases_cons m)),
  ((λ (f : Edit) (m : InSet f (three ∷ [])) (e : f ≡ two). after_two f e (Memᴰ.cases_cons m)), ((λ (f : Edit) (m : InSet f []) (e : f ≡ three). Memᴰ.not-nil m), tt)),
)
  where
    after_two : (f : Edit) → f ≡ two → (f ≡ three) ⊎ InSet f [] → ⊥
    after_two f e (inl d) = omega (arith, peer_of f two e, peer_of f three d)
    after_two f e (inr m) = Memᴰ.not-nil m

    after_one2 : (f : Edit) → f ≡ one → (f ≡ three) ⊎ InSet f [] → ⊥
    after_one2 f e (inl d) = omega (arith, peer_of f one e, peer_of f three d)
    after_one2 f e (inr m) = Memᴰ.not-nil m

    after_one : (f : Edit) → f ≡ one → (f ≡ two) ⊎ InSet f (three ∷ []) → ⊥
    after_one f e (inl d) = omega (arith, peer_of f one e, peer_of f two d)
    after_one f e (inr m) = after_one2 f e (Memᴰ.cases_cons m)

none_before : (e : Edit) (i : ℕ) → i < 0 → IdOf set e.id.peer i
none_before e i h = absurd (let z : ⊥ = omega arith in z)

well_formed : WellFormedSet set
unfolding history_open
well_formed = record {
  formed = each (λ (e : Edit). act_formed e.act ≡ true) refl refl refl;
  ids = each (λ (e : Edit). (room_opt (Some e.id) (size e) && act_ids e.act) ≡ true) refl refl refl;
  run_on = each (λ (e : Edit). (i : ℕ) → i < first_of e → IdOf set e.id.peer i) (none_before one) (none_before two) (none_before three);
  once = λ (e f : Edit) (me : InSet e set) (mf : InSet f set) (p i : ℕ) (a : Uses e p i) (b : Uses f p i). alone e f (which e me) (which f mf) (a.peer ∙ sym b.peer);
  no_twice = distinct;
  pairs = each (λ (e : Edit). (rising e.context && counted e.context) ≡ true) refl refl refl;
  within = each (λ (e : Edit). (p i : ℕ) → i < count_of e.context p → IdOf set p i) (λ (p i : ℕ) (h : i < 0). absurd (let z : ⊥ = omega arith in z)) covered covered;
  closed = λ (e f : Edit) (me : InSet e set) (mf : InSet f set). closed e f (which e me) (which f mf);
  earlier = each (λ (e : Edit). first_of e ≤ count_of e.context e.id.peer) (omega arith) (omega arith) (omega arith);
}

positions : Inside (start 2) (sort_rank set set)
unfolding history_open Inside
positions = (refl, (refl, (refl, tt)))

limits : Limits 2 65536 65536 set
unfolding history_open peers sum
limits = record { edits = omega arith; offices = omega arith; units = omega arith; span_room = omega arith; target_room = omega arith }

-- ---- two arrival orders

-- what a context that holds 1.0 alone covers
only_one : (f : Edit) → Which f → below (pair 1 1 ∷ []) f.id ≡ true → f ≡ one
unfolding history_open
only_one f (is1 d) h = d
only_one f (is2 d) h = absurd (true≢false (sym h ∙ ap (λ (z : Edit). below (pair 1 1 ∷ []) z.id) d))
only_one f (is3 d) h = absurd (true≢false (sym h ∙ ap (λ (z : Edit). below (pair 1 1 ∷ []) z.id) d))

nothing : (f : Edit) → Which f → below [] f.id ≡ true → ⊥
unfolding history_open
nothing f (is1 d) h = true≢false (sym h ∙ ap (λ (z : Edit). below [] z.id) d)
nothing f (is2 d) h = true≢false (sym h ∙ ap (λ (z : Edit). below [] z.id) d)
nothing f (is3 d) h = true≢false (sym h ∙ ap (λ (z : Edit). below [] z.id) d)

first_free : (f : Edit) → InSet f set → below [] f.id ≡ true → InSet f []
first_free f m h = absurd (nothing f (which f m) h)

order1 : ArrivalOrder set set
order1 = record {
  all = λ (e : Edit) (m : InSet e set). m;
  only = λ (e : Edit) (m : InSet e set). m;
  no_twice = distinct;
  after = unfold After in (
    first_free,
    (
      (λ (f : Edit) (m : InSet f set) (h : below (pair 1 1 ∷ []) f.id ≡ true). Memᴰ.head (only_one f (which f m) h)),
      ((λ (f : Edit) (m : InSet f set) (h : below (pair 1 1 ∷ []) f.id ≡ true). Memᴰ.tail (Memᴰ.head (only_one f (which f m) h))), tt),
    ),
  );
}

abbrev pub swapped : List Edit
swapped = one ∷ three ∷ two ∷ []

in_swapped : (e : Edit) → Which e → InSet e swapped
in_swapped e (is1 d) = Memᴰ.head d
in_swapped e (is2 d) = Memᴰ.tail (Memᴰ.tail (Memᴰ.head d))
in_swapped e (is3 d) = Memᴰ.tail (Memᴰ.head d)

swapped_in : (e : Edit) → InSet e swapped → InSet e set
swapped_in e m = first (Memᴰ.cases_cons m)
  where
    third : (e ≡ two) ⊎ InSet e [] → InSet e set
    third (inl d) = Memᴰ.tail (Memᴰ.head d)
    third (inr k) = absurd (Memᴰ.not-nil k)

    second : (e ≡ three) ⊎ InSet e (two ∷ []) → InSet e set
    second (inl d) = Memᴰ.tail (Memᴰ.tail (Memᴰ.head d))
    second (inr k) = third (Memᴰ.cases_cons k)

    first : (e ≡ one) ⊎ InSet e (three ∷ two ∷ []) → InSet e set
    first (inl d) = Memᴰ.head d
    first (inr k) = second (Memᴰ.cases_cons k)

distinct2 : Once swapped
distinct2 = (
  (λ (f : Edit) (m : InSet f (three ∷ two ∷ [])) (e : f ≡ one). after_one f e (Memᴰ.cases_cons m)),
  ((λ (f : Edit) (m : InSet f (two ∷ [])) (e : f ≡ three). after_three f e (Memᴰ.cases_cons m)), ((λ (f : Edit) (m : InSet f []) (e : f ≡ two). Memᴰ.not-nil m), tt)),
)
  where
    after_three : (f : Edit) → f ≡ three → (f ≡ two) ⊎ InSet f [] → ⊥
    after_three f e (inl d) = omega (arith, peer_of f three e, peer_of f two d)
    after_three f e (inr m) = Memᴰ.not-nil m

    after_one2 : (f : Edit) → f ≡ one → (f ≡ two) ⊎ InSet f [] → ⊥
    after_one2 f e (inl d) = omega (arith, peer_of f one e, peer_of f two d)
    after_one2 f e (inr m) = Memᴰ.not-nil m

    after_one : (f : Edit) → f ≡ one → (f ≡ three) ⊎ InSet f (two ∷ []) → ⊥
    after_one f e (inl d) = omega (arith, peer_of f one e, peer_of f three d)
    after_one f e (inr m) = after_one2 f e (Memᴰ.cases_cons m)

order2 : ArrivalOrder set swapped
order2 = record {
  all = λ (e : Edit) (m : InSet e set). in_swapped e (which e m);
  only = swapped_in;
  no_twice = distinct2;
  after = unfold After in (
    first_free,
    (
      (λ (f : Edit) (m : InSet f set) (h : below (pair 1 1 ∷ []) f.id ≡ true). Memᴰ.head (only_one f (which f m) h)),
      ((λ (f : Edit) (m : InSet f set) (h : below (pair 1 1 ∷ []) f.id ≡ true). Memᴰ.tail (Memᴰ.head (only_one f (which f m) h))), tt),
    ),
  );
}

-- what the demand promises, of both
pub promise1 : Promise 2 65536 65536 set set
promise1 = demand3 2 65536 65536 set well_formed limits positions set order1

pub promise2 : Promise 2 65536 65536 set swapped
promise2 = demand3 2 65536 65536 set well_formed limits positions swapped order2
