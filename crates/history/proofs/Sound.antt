-- What 15 asks of a stored history, fact by fact, and back; and what an edit that is not refused, or held, has.
use Prim.Native.Nat.{ℕ, ◌+◌, ◌≤◌}
use mathlib.Core.Path.{◌≡◌, refl, sym, ap, ap₂, subst, ◌∙◌}
use mathlib.Core.Logic.{◌⊎◌, inl, inr}
use mathlib.Core.Bool.{Bool, true, false, not, ◌&&◌, ◌||◌, cond, true≢false, and-eq-true_iff}
use mathlib.Core.List.Memᴰ
use mathlib.Core.List.{List, [], ◌∷◌, ◌++◌, append_assoc, append-nil, Memᴰ}
use native.Mathlib.Omega.{arith}
use lib.Dec.{eqb, leb}
use lib.IntN.{pos}
use lib.ListN.{length}
use borrow.Author.Tests.{eqb-true, leb-true, le-leb, eq-eqb}
use Rattle.std.specs.Prelude.{Some}
use Rattle.span.specs.Ids.{room_opt}
use Rattle.span.specs.Status.{eq_z}
use Rattle.span.proofs.StatusLaws.{eq_z-true}
use Rattle.span.specs.Units.{expand}
use Rattle.units.specs.Limits.{PEERS, EDITS, fits}
use Rattle.units.specs.Lists.{every, some}
use Rattle.units.specs.Store.{well_formed}
use Rattle.history.specs.Edit.{Edit, size, Held, History}
use Rattle.history.specs.Version.{number, held_count, named, closed}
use Rattle.history.specs.Valid.{act_formed, act_ids, has_peer, peer_count, own_count, edit_code, edits_fit, made_units, same_units, targets_fit, target_list, valid}
use Rattle.history.proofs.Context.{Known, Natural}
use Rattle.history.proofs.Run.{MemH}
use Rattle.history.proofs.Sets.{room_known}

-- ---- a history that is not refused by 15

pub record Sound (spans targets : ℕ) (h : History) : Type 0 where
  pub room : length h.list ≤ spans
  pub ranges : length (target_list h.held) ≤ targets
  pub edits : length h.held ≤ EDITS
  pub formed : well_formed h.list ≡ true
  pub fit : edits_fit [] h.held ≡ true
  pub units : same_units (expand h.list) (made_units h) ≡ true
  pub took : every (targets_fit (expand h.list)) h.held ≡ true

pub sound_of : (spans targets : ℕ) (h : History) → valid spans targets h ≡ true → Sound spans targets h
unfolding valid fits
sound_of spans targets h e =
    let r = leb (length h.list) spans in
    let t = leb (length (target_list h.held)) targets in
    let d = leb (length h.held) EDITS in
    let u = same_units (expand h.list) (made_units h) in
    let k = every (targets_fit (expand h.list)) h.held in
    let a = (and-eq-true_iff (r && (t && d)) (well_formed h.list && (edits_fit [] h.held && (u && k)))).0 e in
    let b = (and-eq-true_iff r (t && d)).0 a.0 in
    let c = (and-eq-true_iff t d).0 b.1 in
    let w = (and-eq-true_iff (well_formed h.list) (edits_fit [] h.held && (u && k))).0 a.1 in
    let f = (and-eq-true_iff (edits_fit [] h.held) (u && k)).0 w.1 in
    let g = (and-eq-true_iff u k).0 f.1 in
    record {
      room = leb-true (length h.list) spans b.0;
      ranges = leb-true (length (target_list h.held)) targets c.0;
      edits = leb-true (length h.held) EDITS c.1;
      formed = w.0;
      fit = f.0;
      units = g.0;
      took = g.1;
    }

pub of_sound : (spans targets : ℕ) (h : History) → Sound spans targets h → valid spans targets h ≡ true
unfolding valid fits
of_sound spans targets h s = ap₂ ◌&&◌
    (ap₂ ◌&&◌ (le-leb (length h.list) spans s.room) (ap₂ ◌&&◌ (le-leb (length (target_list h.held)) targets s.ranges) (le-leb (length h.held) EDITS s.edits)))
    (ap₂ ◌&&◌ s.formed (ap₂ ◌&&◌ s.fit (ap₂ ◌&&◌ s.units s.took)))

-- ---- an edit that the edits held do not refuse

pub record EditOk (held : List Held) (e : Edit) : Type 0 where
  pub formed : act_formed e.act ≡ true
  pub room : room_opt (Some e.id) (size e) ≡ true
  pub ids : act_ids e.act ≡ true
  pub known : Known e
  pub natural : Natural e.id
  pub next : number e.id.counter ≡ held_count held e.id.peer
  pub named : named held e.context ≡ true
  pub closed : closed held e.context ≡ true
  pub own : own_count e ≡ true

record Six (a b c d f g : Bool) : Type 0 where
  one : a ≡ true
  two : b ≡ true
  five : d ≡ true
  six : f ≡ true
  seven : g ≡ true

six_back : (a b c d f g : Bool) → ◌≡◌ {A = ℕ} (cond a (cond b (cond c (cond d (cond f (cond g 0 7) 6) 5) 4) 2) 1) 0 → Six a b c d f g
six_back true true true true true true h = record { one = refl; two = refl; five = refl; six = refl; seven = refl }
six_back true true true true true false h = absurd (let z : ⊥ = omega arith in z)
six_back true true true true false g h = absurd (let z : ⊥ = omega arith in z)
six_back true true true false f g h = absurd (let z : ⊥ = omega arith in z)
six_back true true false d f g h = absurd (let z : ⊥ = omega arith in z)
six_back true false c d f g h = absurd (let z : ⊥ = omega arith in z)
six_back false b c d f g h = absurd (let z : ⊥ = omega arith in z)

pub edit_ok : (held : List Held) (e : Edit) → edit_code held e ≡ 0 → EditOk held e
unfolding edit_code
edit_ok held e h =
    let s = six_back (act_formed e.act) (room_opt (Some e.id) (size e) && act_ids e.act) (has_peer held e.id.peer || not (leb PEERS (peer_count held)))
    (eq_z e.id.counter (pos (held_count held e.id.peer))) (named held e.context) (closed held e.context && own_count e) h in
    let t = (and-eq-true_iff (room_opt (Some e.id) (size e)) (act_ids e.act)).0 s.two in
    let k = room_known e.id (size e) t.0 in
    let c = (and-eq-true_iff (closed held e.context) (own_count e)).0 s.seven in
    record {
      formed = s.one;
      room = t.0;
      ids = t.1;
      known = k.0;
      natural = k.1;
      next = ap number (eq_z-true e.id.counter (pos (held_count held e.id.peer)) s.five);
      named = s.six;
      closed = c.0;
      own = c.1;
    }

-- ---- what is held

pub count_append : (b l : List Held) (p : ℕ) → held_count (b ++ l) p ≡ held_count b p + held_count l p
unfolding held_count
count_append [] l p = omega arith
count_append (x ∷ b) l p = go (eqb x.edit.id.peer p) (count_append b l p)
  where
    go : (t : Bool) → held_count (b ++ l) p ≡ held_count b p + held_count l p → cond t (size x.edit + held_count (b ++ l) p) (held_count (b ++ l) p) ≡ cond t (size x.edit + held_count b p) (held_count b p) + held_count l p
    go true ih = omega arith
    go false ih = ih

-- an edit that is held was not refused, and its ids are below what is held of its peer
pub record Kept (held : List Held) (x : Held) : Type 0 where
  pub before : List Held
  pub ok : EditOk before x.edit
  pub below : number x.edit.id.counter + size x.edit ≤ held_count held x.edit.id.peer

fit_in : (b l : List Held) → edits_fit b l ≡ true → (x : Held) → MemH x l → Kept (b ++ l) x
unfolding edits_fit
fit_in b [] h x m = absurd (Memᴰ.not-nil m)
fit_in b (y ∷ l) h x m = go ((and-eq-true_iff (eqb (edit_code b y.edit) 0) (edits_fit (b ++ (y ∷ [])) l)).0 h) (Memᴰ.cases_cons m)
    (λ (f : edits_fit (b ++ (y ∷ [])) l ≡ true) (k : MemH x l). fit_in (b ++ (y ∷ [])) l f x k)
  where
    own : held_count (y ∷ l) y.edit.id.peer ≡ size y.edit + held_count l y.edit.id.peer
    own = unfold held_count in ap (λ (t : Bool). cond t (size y.edit + held_count l y.edit.id.peer) (held_count l y.edit.id.peer)) (eq-eqb y.edit.id.peer y.edit.id.peer refl)

    first : edit_code b y.edit ≡ 0 → Kept (b ++ (y ∷ l)) y
    first e = record { before = b; ok = edit_ok b y.edit e; below = omega (arith, (edit_ok b y.edit e).next, count_append b (y ∷ l) y.edit.id.peer, own) }

    go : (eqb (edit_code b y.edit) 0 ≡ true) × (edits_fit (b ++ (y ∷ [])) l ≡ true) → (x ≡ y) ⊎ MemH x l → (edits_fit (b ++ (y ∷ [])) l ≡ true → MemH x l → Kept (b ++ (y ∷ []) ++ l) x) → Kept (b ++ (y ∷ l)) x
    go t (inl d) ih = subst (λ (z : Held). Kept (b ++ (y ∷ l)) z) (sym d) (first (eqb-true (edit_code b y.edit) 0 t.0))
    go t (inr k) ih = subst (λ (z : List Held). Kept z x) (append_assoc b (y ∷ []) l) (ih t.1 k)

pub held_ok : (held : List Held) → edits_fit [] held ≡ true → (x : Held) → MemH x held → Kept held x
held_ok held h x m = fit_in [] held h x m

-- one more that is not refused
pub fit_snoc : (b l : List Held) (x : Held) → edits_fit b l ≡ true → edit_code (b ++ l) x.edit ≡ 0 → edits_fit b (l ++ (x ∷ [])) ≡ true
unfolding edits_fit
fit_snoc b [] x h e = ap (λ (k : ℕ). eqb k 0 && true) (ap (λ (z : List Held). edit_code z x.edit) (sym (append-nil b)) ∙ e)
fit_snoc b (y ∷ l) x h e =
    let t = (and-eq-true_iff (eqb (edit_code b y.edit) 0) (edits_fit (b ++ (y ∷ [])) l)).0 h in
    ap₂ ◌&&◌ t.0 (fit_snoc (b ++ (y ∷ [])) l x t.1 (ap (λ (z : List Held). edit_code z x.edit) (append_assoc b (y ∷ []) l) ∙ e))

-- ---- tests over lists

pub some_in : {A : Type 0} (t : A → Bool) (l : List A) → some t l ≡ true → (x : A) × Memᴰ x l × (t x ≡ true)
unfolding some
some_in t [] e = absurd (true≢false (sym e))
some_in {A} t (a ∷ l) e = go (t a) refl e (some_in t l)
  where
    go : (b : Bool) → t a ≡ b → (b || some t l) ≡ true → (some t l ≡ true → (x : A) × Memᴰ x l × (t x ≡ true)) → (x : A) × Memᴰ x (a ∷ l) × (t x ≡ true)
    go true q h ih = (a, Memᴰ.head refl, q)
    go false q h ih = let r : (x : A) × Memᴰ x l × (t x ≡ true) = ih h in (r.0, Memᴰ.tail r.1, r.2)
