-- A history made by calls is well formed as stored: 15 is never given.
use Prim.Native.Nat.{ℕ, suc, ◌+◌, ◌≤◌}
use mathlib.Core.Path.{◌≡◌, refl, sym, ap, ap₂, subst, ◌∙◌}
use mathlib.Core.Logic.{◌⊎◌, inl, inr}
use mathlib.Core.Bool.{Bool, true, false, ◌&&◌, ◌||◌, cond}
use mathlib.Core.List.Memᴰ
use mathlib.Core.List.{List, [], ◌∷◌, ◌++◌, map, Memᴰ}
use native.Mathlib.Omega.{arith}
use lib.Dec.{eqb}
use lib.ListN.{length, length-append, length-map}
use borrow.Author.Tests.{eq-eqb, le-leb, ne_eqb}
use Rattle.std.specs.Prelude.{None}
use Rattle.span.specs.declared.chunk.RichtextChunk.{RichtextChunk}
use Rattle.span.specs.declared.ids.Id.{Id}
use Rattle.span.specs.Maybe.{OptId}
use Rattle.span.specs.declared.span.FugueSpan.{FugueSpan}
use Rattle.span.specs.Chunk.{UNKNOWN, chunk, part_chunk}
use Rattle.span.specs.Ids.{UNKNOWN_PEER, inc_id, same_id, same_opt}
use Rattle.span.specs.Span.{new_span, shift}
use Rattle.span.proofs.Same.{same_id_refl, same_opt_refl}
use Rattle.span.specs.Units.{units_of, join}
use Rattle.span.specs.Units as Units
use Rattle.span.proofs.ForRope.{units_length}
use Rattle.span.proofs.Unique.{expand-join}
use Rattle.units.specs.Limits.{UNITS, EDITS, fits}
use Rattle.units.specs.Lists.{every, some}
use Rattle.units.specs.Place.{with_origins}
use Rattle.units.specs.Change.{with_state}
use Rattle.units.specs.Query.{placeholder}
use Rattle.fugue.proofs.Keys.{Key}
use Rattle.fugue.proofs.ScanPlace.{Mem}
use Rattle.fugue.proofs.Tests.{Test, pass, fail, eqb_test}
use Rattle.fugue.proofs.Splices.{unit_in}
use Rattle.fugue.proofs.Clocks.{cnt}
use Rattle.history.specs.Edit.{Act, Insert, Delete, Edit, Range, Held, History}
use Rattle.history.specs.Version.{held_count}
use Rattle.history.specs.Arrive.{start}
use Rattle.history.specs.Valid.{edits_fit, act_units, edit_units, made_units, same_unit, same_units, act_length, targets_fit, target_list, valid}
use Rattle.history.specs.Codes.{on_units, stored, made}
use Rattle.history.specs.Demand.{InSet, sum, real_plain}
use Rattle.history.proofs.Plain.{plain}
use Rattle.history.proofs.Context.{clock, before, holder, base}
use Rattle.history.proofs.Run.{MemE, MemH, span_of, Src, Run}
use Rattle.history.proofs.Start.{start-list}
use Rattle.history.proofs.Sets.{base_is}
use Rattle.history.proofs.WellUnits.{Units1, all_of, well_joined}
use Rattle.history.proofs.Targets.{targets_fit_lem, took_few}

-- ---- tests over lists

pub every_of : {A : Type 0} (t : A → Bool) (l : List A) → ((x : A) → Memᴰ x l → t x ≡ true) → every t l ≡ true
unfolding every
every_of t [] f = refl
every_of {A} t (a ∷ l) f = ap₂ ◌&&◌ (f a (Memᴰ.head refl)) (every_of t l (λ (x : A) (m : Memᴰ x l). f x (Memᴰ.tail m)))

pub some_at : {A : Type 0} (t : A → Bool) (l : List A) (x : A) → Memᴰ x l → t x ≡ true → some t l ≡ true
unfolding some
some_at t [] x m e = absurd (Memᴰ.not-nil m)
some_at {A} t (a ∷ l) x m e = go (Memᴰ.cases_cons m) (λ (k : Memᴰ x l). some_at t l x k e)
  where
    right : (b : Bool) → b || true ≡ true
    right true = refl
    right false = refl

    go : (x ≡ a) ⊎ Memᴰ x l → (Memᴰ x l → some t l ≡ true) → (t a || some t l) ≡ true
    go (inl d) ih = ap (λ (b : Bool). b || some t l) (ap t (sym d) ∙ e)
    go (inr k) ih = ap (λ (b : Bool). t a || b) (ih k) ∙ right (t a)

-- ---- the edits held, in the order of their arrival

abbrev pub arrived : List Held → List Edit
arrived l = map (λ (x : Held). x.edit) l

-- what a history carries beside the invariant: A is what arrived
pub record Store (n : ℕ) (done A : List Edit) (h : History) : Type 0 where
  pub holder : h.placeholder ≡ n
  pub order : arrived h.held ≡ A
  pub from : (e : Edit) → MemE e done → MemE e (base n) ⊎ InSet e A
  pub units : Units1 h.list
  pub counts : (p : ℕ) → ¬ (p ≡ UNKNOWN_PEER) → held_count h.held p ≡ cnt (clock n) done p
  pub fit : edits_fit [] h.held ≡ true
  pub many : length h.list ≡ n + sum (λ (e : Edit). made e.act) A

-- ---- the units are those of the placeholder and the edits

edit_units-length : (l : List Held) → length (edit_units l) ≡ sum (λ (e : Edit). made e.act) (arrived l)
unfolding edit_units sum
edit_units-length [] = refl
edit_units-length (x ∷ l) =
    let a : length (act_units x.edit.act x.edit) ≡ made x.edit.act = one x.edit.act x.edit in
    let b : length (edit_units l) ≡ sum (λ (e : Edit). made e.act) (arrived l) = edit_units-length l in
    omega (arith, length-append (act_units x.edit.act x.edit) (edit_units l))
  where
    one : (a : Act) (e : Edit) → length (act_units a e) ≡ made a
    one (Insert lam c) e = unfold made new_span in units_length (new_span e.id lam c)
    one (Delete m reversed target) e = unfold made in refl

in_edit_units : (l : List Held) (x : Held) → MemH x l → (w : FugueSpan) → Mem w (act_units x.edit.act x.edit) → Mem w (edit_units l)
unfolding edit_units
in_edit_units [] x m w k = absurd (Memᴰ.not-nil m)
in_edit_units (y ∷ l) x m w k = go (Memᴰ.cases_cons m) (λ (j : MemH x l). in_edit_units l x j w k)
  where
    go : (x ≡ y) ⊎ MemH x l → (MemH x l → Mem w (edit_units l)) → Mem w (act_units y.edit.act y.edit ++ edit_units l)
    go (inl d) ih = Memᴰ.append_left (edit_units l) (subst (λ (z : Held). Mem w (act_units z.edit.act z.edit)) d k)
    go (inr j) ih = Memᴰ.append_right (act_units y.edit.act y.edit) (ih j)

-- a unit that is plainly unit k of an insert is that unit, whatever its origins and statuses
same_unit_lem : (e : Edit) (lam : ℕ) (c : RichtextChunk) (l : List FugueSpan) (k : ℕ) (u : FugueSpan) → plain u ≡ plain (Units.unit_at (span_of e lam c l) k) → same_unit u (Units.unit_at (new_span e.id lam c) k) ≡ true
unfolding same_unit plain with_state shift with_origins new_span
same_unit_lem e lam c l k u q =
    ap₂ ◌&&◌ (ap (λ (i : Id). same_id u.id i) (sym ei) ∙ same_id_refl u.id) (ap₂ ◌&&◌ (eq-eqb u.lamport (lam + k) el)
    (ap₂ ◌&&◌ (eq-eqb u.content.start (part_chunk c k (suc k)).start (ap (λ (z : RichtextChunk). z.start) ec)) (ap₂ ◌&&◌ (eq-eqb u.content.end (part_chunk c k (suc k)).end (ap (λ (z : RichtextChunk). z.end) ec)) (real (eqb_test u.id.peer UNKNOWN_PEER)))))
  where
    s : FugueSpan
    s = new_span e.id lam c

    ei : u.id ≡ inc_id e.id k
    ei = ap (λ (z : FugueSpan). z.id) q

    el : u.lamport ≡ lam + k
    el = ap (λ (z : FugueSpan). z.lamport) q

    ec : u.content ≡ part_chunk c k (suc k)
    ec = ap (λ (z : FugueSpan). z.content) q

    er : real_plain u ≡ real_plain (Units.unit_at (span_of e lam c l) k)
    er = ap (λ (z : FugueSpan). z.real_id) q

    known : ¬ (u.id.peer ≡ UNKNOWN_PEER) → u.real_id ≡ (Units.unit_at (new_span e.id lam c) k).real_id
    known d = go (ne_eqb u.id.peer UNKNOWN_PEER d) er
      where
        go : eqb u.id.peer UNKNOWN_PEER ≡ false → real_plain u ≡ real_plain (Units.unit_at (span_of e lam c l) k) → u.real_id ≡ (Units.unit_at (new_span e.id lam c) k).real_id
        go b r = unfold real_plain shift with_origins new_span in
            (sym (ap (λ (z : Bool). cond z None u.real_id) b) ∙ (r ∙ ap (λ (z : Bool). cond z None (Units.unit_at (new_span e.id lam c) k).real_id) (ap (λ (i : Id). eqb i.peer UNKNOWN_PEER) (sym ei) ∙ b)))

    real : Test (eqb u.id.peer UNKNOWN_PEER) (u.id.peer ≡ UNKNOWN_PEER) → (eqb u.id.peer UNKNOWN_PEER || same_opt u.real_id (Units.unit_at (new_span e.id lam c) k).real_id) ≡ true
    real (pass b d) = ap (λ (z : Bool). z || same_opt u.real_id (Units.unit_at (new_span e.id lam c) k).real_id) b
    real (fail b d) = ap₂ ◌||◌ b (ap (λ (z : OptId). same_opt u.real_id z) (sym (known d)) ∙ same_opt_refl u.real_id)

module _ (n : ℕ) (done A : List Edit) (h : History) (key : OptId → Key) (r : Run n done h key) (st : Store n done A h) where
  made_length : length (made_units h) ≡ length h.list
  made_length =
      let a : length (made_units h) ≡ length (start h.placeholder).list + length (edit_units h.held) = length-append (start h.placeholder).list (edit_units h.held) in
      let b : length (start h.placeholder).list ≡ n = ap (λ (z : ℕ). length (start z).list) st.holder ∙ (start-list n).0 in
      let c : length (edit_units h.held) ≡ sum (λ (e : Edit). made e.act) A = edit_units-length h.held ∙ ap (sum (λ (e : Edit). made e.act)) st.order in
      omega (arith, st.many)

  unit_made : (u : FugueSpan) → Mem u h.list → some (same_unit u) (made_units h) ≡ true
  unit_made u m = some_at (same_unit u) (made_units h) (Units.unit_at (new_span s.e.id s.made.lam s.made.c) s.made.k) (place (st.from s.e s.is_in))
      (same_unit_lem s.e s.made.lam s.made.c (before s.e h) s.made.k u s.made.is)
    where
      s : Src done h u
      s = r.src u m

      v : FugueSpan
      v = Units.unit_at (new_span s.e.id s.made.lam s.made.c) s.made.k

      in_span : Mem v (units_of (new_span s.e.id s.made.lam s.made.c))
      in_span = unit_in (new_span s.e.id s.made.lam s.made.c) s.made.k (unfold new_span in s.made.small)

      in_act : (x : Held) → x.edit ≡ s.e → Mem v (act_units x.edit.act x.edit)
      in_act x d = subst (λ (z : Edit). Mem v (act_units z.act z)) (sym d) (subst (λ (a : Act). Mem v (act_units a s.e)) (sym s.made.act) in_span)

      in_start : s.e ≡ holder n → 1 ≤ n → Mem v (start n).list
      in_start d b = (start-list n).1 b v (subst (λ (w : FugueSpan). Mem v (units_of w)) same in_span)
        where
          act : Insert 0 (chunk UNKNOWN n) ≡ Insert s.made.lam s.made.c
          act = ap (λ (z : Edit). z.act) (sym d) ∙ s.made.act

          el : s.made.lam ≡ 0
          el = let q : Insert 0 (chunk UNKNOWN n) ≡ Insert s.made.lam s.made.c = act in let z : s.made.lam ≡ 0 = cc in z

          ec : s.made.c ≡ chunk UNKNOWN n
          ec = let q : Insert 0 (chunk UNKNOWN n) ≡ Insert s.made.lam s.made.c = act in let z : s.made.c ≡ chunk UNKNOWN n = cc in z

          same : new_span s.e.id s.made.lam s.made.c ≡ placeholder n
          same = unfold placeholder in (λ i. new_span (d i).id (el i) (ec i))

      place : MemE s.e (base n) ⊎ InSet s.e A → Mem v (made_units h)
      place (inl k) = Memᴰ.append_left (edit_units h.held) (subst (λ (z : ℕ). Mem v (start z).list) (sym st.holder) (in_start (base_is n s.e k).0 (base_is n s.e k).1))
      place (inr k) = go (Memᴰ.of_map (λ (x : Held). x.edit) h.held (subst (λ (z : List Edit). InSet s.e z) (sym st.order) k))
        where
          go : (x : Held) × MemH x h.held × (x.edit ≡ s.e) → Mem v (made_units h)
          go t = Memᴰ.append_right (start h.placeholder).list (in_edit_units h.held t.0 t.1 v (in_act t.0 t.2))

  same_units_lem : same_units h.list (made_units h) ≡ true
  unfolding same_units
  same_units_lem = ap₂ ◌&&◌ (eq-eqb (length h.list) (length (made_units h)) (sym made_length)) (every_of (λ (u : FugueSpan). some (same_unit u) (made_units h)) h.list unit_made)

  -- ---- rooms

  targets_length : (l : List Held) → ((x : Held) → MemH x l → MemH x h.held) → length (target_list l) ≤ sum (λ (e : Edit). act_length e.act) (arrived l)
  unfolding target_list sum
  targets_length [] f = omega arith
  targets_length (x ∷ l) f =
      let a : length x.took ≤ act_length x.edit.act = subst (λ (z : List Range). length z ≤ act_length x.edit.act) (sym (r.tooks x (f x (Memᴰ.head refl))).2) (took_few x.edit.act x.edit (before x.edit h)) in
      let b : length (target_list l) ≤ sum (λ (e : Edit). act_length e.act) (arrived l) = targets_length l (λ (y : Held) (m : MemH y l). f y (Memᴰ.tail m)) in
      omega (arith, length-append x.took (target_list l))

  pub targets_few : length (target_list h.held) ≤ sum (λ (e : Edit). act_length e.act) A
  targets_few = subst (λ (z : List Edit). length (target_list h.held) ≤ sum (λ (e : Edit). act_length e.act) z) st.order (targets_length h.held (λ (x : Held) (m : MemH x h.held). m))

  pub held-length : length h.held ≡ length A
  held-length = sym (length-map h.held (λ (x : Held). x.edit)) ∙ ap length st.order

  -- stored and read again, it is the same
  pub read_back : on_units (stored h) ≡ h
  unfolding on_units stored
  read_back = ap (λ (z : List FugueSpan). record { placeholder = h.placeholder; list = z; held = h.held }) (expand-join h.list (all_of h.list st.units))

  -- no 15
  pub is_valid : (spans targets : ℕ) → length (join h.list) ≤ spans → length h.list ≤ UNITS → length (target_list h.held) ≤ targets → length h.held ≤ EDITS → valid spans targets (stored h) ≡ true
  unfolding valid stored fits
  is_valid spans targets a b c d = ap₂ ◌&&◌
      (ap₂ ◌&&◌ (le-leb (length (join h.list)) spans a) (ap₂ ◌&&◌ (le-leb (length (target_list h.held)) targets c) (le-leb (length h.held) EDITS d)))
      (ap₂ ◌&&◌ (well_joined key h.list r.good st.units b) (ap₂ ◌&&◌ st.fit
      (ap (λ (z : List FugueSpan). same_units z (made_units h) && every (targets_fit z) h.held) (expand-join h.list (all_of h.list st.units))
      ∙ ap₂ ◌&&◌ same_units_lem (every_of (targets_fit h.list) h.held (targets_fit_lem n done h key r)))))
