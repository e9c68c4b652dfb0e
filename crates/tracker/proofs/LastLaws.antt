-- Where the edits fit, a named version is closed if the last edit that it covers of each peer says so: an edit's context has the contexts of
-- its peer's earlier edits.
use Prim.Native.Nat.{ℕ, ◌+◌, ◌<◌, ◌≤◌}
use mathlib.Core.Path.{◌≡◌, refl, sym, ap, ap₂, subst, ◌∙◌}
use mathlib.Core.Bool.{Bool, true, false, not, ◌&&◌, ◌||◌, cond, and-eq-true_iff}
use mathlib.Core.List.{List, [], ◌∷◌, ◌++◌}
use native.Mathlib.Omega.{arith}
use lib.Dec.{leb, eqb}
use lib.IntN.{ℤ, pos, ◌+ℤ◌}
use lib.Signed.{lt_z, le_z}
use borrow.Author.Tests.{lt-ltb, ltb-true, le-leb, leb-true, eq-eqb, eqb-true}
use Rattle.span.specs.declared.ids.Id.{Id}
use Rattle.std.specs.Prelude.{Some as At}
use Rattle.span.specs.Ids.{room_opt}
use Rattle.span.specs.Status.{eq_z}
use Rattle.span.proofs.StatusLaws.{eq_z-true}
use Rattle.store.specs.Limits.{PEERS}
use Rattle.units.specs.Codes.{unless}
use Rattle.units.specs.Lists.{every}
use Rattle.history.specs.Edit.{Version, Act, Insert, Delete, Edit, Held, size, size_of}
use Rattle.history.specs.Version.{number, count_of, below, held_count, named, within, whole_act, closed_for, closed}
use Rattle.history.specs.Valid.{act_formed, act_ids, has_peer, peer_count, own_count, edit_code, edits_fit}
use Rattle.history.proofs.Sets.{formed_some, count_of-le, closed_within}
use Rattle.history.proofs.Accepts.{named-le}
use Rattle.tracker.specs.Last.{past, last_for, closed_last}

-- ---------------------------------------------------------------- an edit that fits

six : (a b c d f g : Bool) → ◌≡◌ {A = ℕ} (unless a 1 (unless b 2 (unless c 4 (unless d 5 (unless f 6 (unless g 7 0)))))) 0 → (a ≡ true) × (d ≡ true) × (g ≡ true)
six true true true true true true h = (refl, refl, refl)
six true true true true true false h = absurd (let z : ⊥ = omega arith in z)
six true true true true false g h = absurd (let z : ⊥ = omega arith in z)
six true true true false f g h = absurd (let z : ⊥ = omega arith in z)
six true true false d f g h = absurd (let z : ⊥ = omega arith in z)
six true false c d f g h = absurd (let z : ⊥ = omega arith in z)
six false b c d f g h = absurd (let z : ⊥ = omega arith in z)

record Fit (before : List Held) (x : Edit) : Type 0 where
  counter : x.id.counter ≡ pos (held_count before x.id.peer)
  some : 1 ≤ size x
  shut : closed before x.context ≡ true
  own : count_of x.context x.id.peer ≡ held_count before x.id.peer

fit_of : (before : List Held) (x : Edit) → edit_code before x ≡ 0 → Fit before x
unfolding edit_code own_count
fit_of before x e =
    let h =
    six (act_formed x.act) (room_opt (At x.id) (size x) && act_ids x.act) (has_peer before x.id.peer || not (leb PEERS (peer_count before)))
    (eq_z x.id.counter (pos (held_count before x.id.peer)))
    (named before x.context)
    (closed before x.context && eq_z (pos (count_of x.context x.id.peer)) x.id.counter)
    e in
    let k = (and-eq-true_iff (closed before x.context) (eq_z (pos (count_of x.context x.id.peer)) x.id.counter)).0 h.2 in
    let c : x.id.counter ≡ pos (held_count before x.id.peer) = eq_z-true _ _ h.1 in
    record { counter = c; some = formed_some x.act h.0; shut = k.0; own = number_eq (eq_z-true _ _ k.1 ∙ c) }
  where
    number_eq : {a b : ℕ} → pos a ≡ pos b → a ≡ b
    number_eq e = ap number e

-- ---------------------------------------------------------------- versions

pub within_trans : (a b c : Version) → within a b ≡ true → within b c ≡ true → within a c ≡ true
unfolding within every
within_trans [] b c p q = refl
within_trans (k ∷ a) b c p q =
    let t = (and-eq-true_iff (leb (number k.many) (count_of b k.peer)) (within a b)).0 p in
    let m = leb-true (number k.many) (count_of b k.peer) t.0 in
    let l = count_of-le b c q k.peer in
    ap₂ ◌&&◌ (le-leb (number k.many) (count_of c k.peer) (omega (arith, m, l))) (within_trans a b c t.1 q)

below_at : (v : Version) (i : Id) (k : ℕ) → i.counter ≡ pos k → k < count_of v i.peer → below v i ≡ true
unfolding below
below_at v i k e h = ap (λ (z : ℤ). lt_z z (pos (count_of v i.peer))) e ∙ lt-ltb k (count_of v i.peer) h

every_left : {A : Type 0} (t : A → Bool) (a b : List A) → every t (a ++ b) ≡ true → every t a ≡ true
unfolding every
every_left t [] b e = refl
every_left t (x ∷ a) b e = let p = (and-eq-true_iff (t x) (every t (a ++ b))).0 e in ap₂ ◌&&◌ p.0 (every_left t a b p.1)

every_last : {A : Type 0} (t : A → Bool) (a : List A) (x : A) → every t (a ++ (x ∷ [])) ≡ true → t x ≡ true
unfolding every
every_last t [] x e = ((and-eq-true_iff (t x) true).0 e).0
every_last t (y ∷ a) x e = every_last t a x ((and-eq-true_iff (t y) (every t (a ++ (x ∷ [])))).0 e).1

-- ---------------------------------------------------------------- counts

abbrev part : Held → ℕ → ℕ
part x p = cond (eqb x.edit.id.peer p) (size x.edit) 0

count_cons : (x : Held) (l : List Held) (p : ℕ) → held_count (x ∷ l) p ≡ part x p + held_count l p
unfolding held_count
count_cons x l p = go (eqb x.edit.id.peer p)
  where
    go : (b : Bool) → cond b (size x.edit + held_count l p) (held_count l p) ≡ cond b (size x.edit) 0 + held_count l p
    go true = refl
    go false = omega arith

count_snoc : (l : List Held) (x : Held) (p : ℕ) → held_count (l ++ (x ∷ [])) p ≡ held_count l p + part x p
unfolding held_count
count_snoc [] x p = let h = count_cons x [] p in omega (arith, h)
count_snoc (y ∷ l) x p =
    let a = count_cons y (l ++ (x ∷ [])) p in
    let b = count_snoc l x p in
    let d = count_cons y l p in
    omega (arith, a, b, d)

-- ---------------------------------------------------------------- what the peer did next

record Next (v : Version) (x : Edit) (p k : ℕ) : Type 0 where
  context : Version
  shut : closed_for context x ≡ true
  count : count_of context p ≡ k
  inside : within context v ≡ true

next : (v : Version) (x : Edit) (p : ℕ) (before l : List Held) → ((w : Version) → closed before w ≡ true → closed_for w x ≡ true) →
    edits_fit before l ≡ true → closed l v ≡ true → held_count before p < count_of v p → count_of v p ≤ held_count before p + held_count l p → Next v x p (held_count before p)
unfolding edits_fit closed every held_count
next v x p before [] keep fit shut low high = absurd (let z : ⊥ = omega (arith, low, high) in z)
next v x p before (y ∷ l) keep fit shut low high =
    go (λ fit shut low high. next v x p (before ++ (y ∷ [])) l (λ w k. keep w (every_left (λ (h : Held). closed_for w h.edit) before (y ∷ []) k)) fit shut low high)
    (eqb y.edit.id.peer p)
    refl
  where
    fits : (eqb (edit_code before y.edit) 0 ≡ true) × (edits_fit (before ++ (y ∷ [])) l ≡ true)
    fits = (and-eq-true_iff (eqb (edit_code before y.edit) 0) (edits_fit (before ++ (y ∷ [])) l)).0 fit

    shuts : (closed_for v y.edit ≡ true) × (closed l v ≡ true)
    shuts = (and-eq-true_iff (closed_for v y.edit) (closed l v)).0 shut

    f : Fit before y.edit
    f = fit_of before y.edit (eqb-true (edit_code before y.edit) 0 fits.0)

    Rest : Type 0
    Rest = edits_fit (before ++ (y ∷ [])) l ≡ true → closed l v ≡ true → held_count (before ++ (y ∷ [])) p < count_of v p →
        count_of v p ≤ held_count (before ++ (y ∷ [])) p + held_count l p → Next v x p (held_count (before ++ (y ∷ [])) p)

    go : Rest → (b : Bool) → eqb y.edit.id.peer p ≡ b → Next v x p (held_count before p)
    go rest true e =
        let d : y.edit.id.peer ≡ p = eqb-true y.edit.id.peer p e in
        record {
          context = y.edit.context;
          shut = keep y.edit.context f.shut;
          count = subst (λ (q : ℕ). count_of y.edit.context q ≡ held_count before q) d f.own;
          inside = closed_within v y.edit shuts.0 (below_at v y.edit.id (held_count before y.edit.id.peer) f.counter (subst (λ (q : ℕ). held_count before q < count_of v q) (sym d) low));
        }
    go rest false e =
        let n : held_count (before ++ (y ∷ [])) p ≡ held_count before p = count_snoc before y p ∙ (ap (λ (b : Bool). held_count before p + cond b (size y.edit) 0) e ∙ (let z : held_count before p + 0 ≡ held_count before p = omega arith in z)) in
        let m : held_count (y ∷ l) p ≡ held_count l p = ap (λ (b : Bool). cond b (size y.edit + held_count l p) (held_count l p)) e in
        subst (Next v x p) n (rest fits.1 shuts.1 (omega (arith, n, low)) (omega (arith, n, m, high)))

-- ---------------------------------------------------------------- the law

past-lt : (v : Version) (x : Edit) (k : ℕ) → x.id.counter ≡ pos k → past v x ≡ true → k + size x < count_of v x.id.peer
unfolding past
past-lt v x k e h = ltb-true (k + size x) (count_of v x.id.peer) (ap (λ (z : ℤ). lt_z (z +ℤ pos (size x)) (pos (count_of v x.id.peer))) (sym e) ∙ h)

whole_at : (v : Version) (i : Id) (a : Act) (k : ℕ) → i.counter ≡ pos k → k + size_of a ≤ count_of v i.peer → whole_act a v i ≡ true
unfolding size_of
whole_at v i (Insert lamport c) k e h = refl
whole_at v i (Delete n reversed start) k e h = ap (λ (z : ℤ). le_z (z +ℤ pos n) (pos (count_of v i.peer))) e ∙ le-leb (k + n) (count_of v i.peer) h

closed_by_parts : (v : Version) (x : Edit) → within x.context v ≡ true → whole_act x.act v x.id ≡ true → closed_for v x ≡ true
unfolding closed_for
closed_by_parts v x p q = rw (p, q) (go (not (below v x.id)))
  where
    go : (b : Bool) → (b || true) ≡ true
    go true = refl
    go false = refl

-- an edit that is covered and passed is closed, by what its peer did next
passed : (v : Version) (before l : List Held) (x : Held) → Fit before x.edit → edits_fit (before ++ (x ∷ [])) l ≡ true → closed l v ≡ true →
    count_of v x.edit.id.peer ≤ held_count (before ++ (x ∷ [])) x.edit.id.peer + held_count l x.edit.id.peer → past v x.edit ≡ true → closed_for v x.edit ≡ true
unfolding closed
passed v before l x f fit shut high e =
    let p = x.edit.id.peer in
    let k = held_count before p in
    let lt : k + size x.edit < count_of v p = past-lt v x.edit k f.counter e in
    let n : held_count (before ++ (x ∷ [])) p ≡ k + size x.edit = count_snoc before x p ∙ ap (λ (b : Bool). k + cond b (size x.edit) 0) (eq-eqb p p refl) in
    let y = next v x.edit p (before ++ (x ∷ [])) l (λ w c. every_last (λ (h : Held). closed_for w h.edit) before x c) fit shut (omega (arith, n, lt)) high in
    let b : below y.context x.edit.id ≡ true = below_at y.context x.edit.id k f.counter (omega (arith, y.count, n, f.some)) in
    closed_by_parts v x.edit (within_trans x.edit.context y.context v (closed_within y.context x.edit y.shut b) y.inside) (whole_at v x.edit.id x.edit.act k f.counter (omega (arith, lt)))

last_closed : (v : Version) (before l : List Held) → edits_fit before l ≡ true → closed_last l v ≡ true → ((p : ℕ) → count_of v p ≤ held_count before p + held_count l p) → closed l v ≡ true
unfolding edits_fit closed closed_last last_for every
last_closed v before [] fit last high = refl
last_closed v before (x ∷ l) fit last high =
    let fits = (and-eq-true_iff (eqb (edit_code before x.edit) 0) (edits_fit (before ++ (x ∷ [])) l)).0 fit in
    let lasts = (and-eq-true_iff (past v x.edit || closed_for v x.edit) (closed_last l v)).0 last in
    let more : (p : ℕ) → count_of v p ≤ held_count (before ++ (x ∷ [])) p + held_count l p = (λ p. let a = count_snoc before x p in let b = count_cons x l p in let c = high p in omega (arith, a, b, c)) in
    let rest = last_closed v (before ++ (x ∷ [])) l fits.1 lasts.1 more in
    ap₂ ◌&&◌ (go (fit_of before x.edit (eqb-true (edit_code before x.edit) 0 fits.0)) fits.1 rest (more x.edit.id.peer) (past v x.edit) refl lasts.0) rest
  where
    go : Fit before x.edit → edits_fit (before ++ (x ∷ [])) l ≡ true → closed l v ≡ true →
        count_of v x.edit.id.peer ≤ held_count (before ++ (x ∷ [])) x.edit.id.peer + held_count l x.edit.id.peer →
        (b : Bool) → past v x.edit ≡ b → (b || closed_for v x.edit) ≡ true → closed_for v x.edit ≡ true
    go f fit shut high true e h = passed v before l x f fit shut high e
    go f fit shut high false e h = h

weaker : (v : Version) (l : List Held) → closed l v ≡ true → closed_last l v ≡ true
unfolding closed closed_last last_for every
weaker v [] h = refl
weaker v (x ∷ l) h =
    let t = (and-eq-true_iff (closed_for v x.edit) (closed l v)).0 h in
    ap₂ ◌&&◌ (ap (λ (b : Bool). past v x.edit || b) t.0 ∙ go (past v x.edit)) (weaker v l t.1)
  where
    go : (b : Bool) → (b || true) ≡ true
    go true = refl
    go false = refl

pub closed_last_lem : (l : List Held) (v : Version) → edits_fit [] l ≡ true → named l v ≡ true → closed_last l v ≡ closed l v
unfolding held_count
closed_last_lem l v fit ok = go (closed_last l v) (closed l v) (λ h. last_closed v [] l fit h (λ p. let a = named-le l v ok p in omega (arith, a))) (weaker v l)
  where
    go : (a b : Bool) → (a ≡ true → b ≡ true) → (b ≡ true → a ≡ true) → a ≡ b
    go true b f g = sym (f refl)
    go false true f g = g refl
    go false false f g = refl
