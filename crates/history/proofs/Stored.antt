-- From units to what is stored: an arriving edit of the set is accepted (0, whatever the number), and the stored history goes on being the units' one.
use Prim.Native.Nat.{ℕ, zero, suc, ◌+◌, ◌≤◌}
use mathlib.Core.Path.{◌≡◌, refl, sym, ap, ap₂, subst, ◌∙◌}
use mathlib.Core.Logic.{◌⊎◌, inl, inr}
use mathlib.Core.Bool.{Bool, true, false, ◌&&◌, cond, and-eq-true_iff}
use mathlib.Core.List.Memᴰ
use mathlib.Core.List.{List, [], ◌∷◌, ◌++◌, append_assoc, append-nil}
use native.Mathlib.Omega.{arith}
use lib.Dec.{eqb, leb, ltb}
use lib.ListN.{length, length-append, length-map}
use borrow.Author.Tests.{ne_eqb, le-leb, lt-ltb, leb-true}
use Rattle.std.specs.Prelude.{Some}
use Rattle.span.specs.declared.ids.Id.{Id}
use Rattle.span.specs.Maybe.{OptId}
use Rattle.span.specs.declared.span.FugueSpan.{FugueSpan}
use Rattle.span.specs.Chunk.{len_of}
use Rattle.span.specs.Ids.{UNKNOWN_PEER, room_opt, inc_id}
use Rattle.span.specs.Status.{activated}
use Rattle.span.specs.Span.{new_span}
use Rattle.span.specs.Units.{units_of, join}
use Rattle.span.proofs.ForRope.{units_length}
use Rattle.units.specs.Limits.{UNITS, PEERS, EDITS, fits}
use Rattle.units.specs.Place.{front, behind, origin_left, origin_right, with_origins}
use Rattle.units.specs.Change.{delete_unit, delete_first, delete_units}
use Rattle.fugue.proofs.Keys.{Key}
use Rattle.fugue.proofs.Tests.{Test, pass, fail, eqb_test}
use Rattle.fugue.proofs.Cursor.{front-behind}
use Rattle.fugue.proofs.Splices.{insert_splice, splice_length}
use Rattle.fugue.proofs.Clocks.{cnt, done_of}
use Rattle.history.specs.Edit.{Version, Act, Insert, Delete, Edit, size_of, size, Held, History}
use Rattle.history.specs.Version.{held_count}
use Rattle.history.specs.Checkout.{units_at}
use Rattle.history.specs.Checkout as Co
use Rattle.history.specs.Arrive.{start, act_list, list_after, took_by, hold, arrive, replay}
use Rattle.history.specs.Valid.{act_formed, act_ids, edit_code, edits_fit, act_length, target_list, valid}
use Rattle.history.specs.Codes.{on_units, stored, inside, made, arrival_fits, arrive_code, arrive_of}
use Rattle.history.specs.Demand.{InSet, first_of, WellFormedSet, Limits, ArrivalOrder, Accepted, arrive_all, peers, sum}
use Rattle.history.proofs.Context.{clock, Known, holder, base}
use Rattle.history.proofs.Run.{MemE, MemH, Run}
use Rattle.history.proofs.Start.{start-list, start_units}
use Rattle.history.proofs.Arrive.{Arriving, run_arrive}
use Rattle.history.proofs.Converge.{Arrives}
use Rattle.history.proofs.Sets.{not_own}
use Rattle.history.proofs.Totals.{sum-app, sum_same, sum-length, peers-le}
use Rattle.history.proofs.WellUnits.{Units1, units_at_lem, units_insert, units_delete, span_new, join-length}
use Rattle.history.proofs.Targets.{took_few}
use Rattle.history.proofs.Valid.{arrived, Store, targets_few, held-length, read_back, is_valid}
use Rattle.history.proofs.Codes.{edit_code_lem}
use Rattle.history.proofs.Sound.{fit_snoc}

-- ---- one more held

arrived_snoc : (l : List Held) (x : Held) → arrived (l ++ (x ∷ [])) ≡ arrived l ++ (x.edit ∷ [])
arrived_snoc [] x = refl
arrived_snoc (y ∷ l) x = ap (λ (z : List Edit). y.edit ∷ z) (arrived_snoc l x)

pub count_snoc : (l : List Held) (x : Held) (p : ℕ) → held_count (l ++ (x ∷ [])) p ≡ held_count l p + cond (eqb x.edit.id.peer p) (size x.edit) 0
unfolding held_count
count_snoc [] x p = go (eqb x.edit.id.peer p)
  where
    go : (b : Bool) → cond b (size x.edit + 0) 0 ≡ 0 + cond b (size x.edit) 0
    go true = omega arith
    go false = omega arith
count_snoc (y ∷ l) x p = go (eqb y.edit.id.peer p) (count_snoc l x p)
  where
    K : ℕ
    K = cond (eqb x.edit.id.peer p) (size x.edit) 0

    go : (b : Bool) → held_count (l ++ (x ∷ [])) p ≡ held_count l p + cond (eqb x.edit.id.peer p) (size x.edit) 0
        → cond b (size y.edit + held_count (l ++ (x ∷ [])) p) (held_count (l ++ (x ∷ [])) p) ≡ cond b (size y.edit + held_count l p) (held_count l p) + cond (eqb x.edit.id.peer p) (size x.edit) 0
    go true ih = omega arith
    go false ih = ih

-- ---- lengths

first_length : (l : List FugueSpan) (n : ℕ) (i : Id) → length (delete_first l n i) ≡ length l
unfolding delete_first
first_length [] n i = refl
first_length (u ∷ l) zero i = refl
first_length (u ∷ l) (suc n) i = go (activated u.status) (first_length l n (inc_id i 1)) (first_length l (suc n) i)
  where
    go : (b : Bool) → length (delete_first l n (inc_id i 1)) ≡ length l → length (delete_first l (suc n) i) ≡ length l → length (cond b (delete_unit i u ∷ delete_first l n (inc_id i 1)) (u ∷ delete_first l (suc n) i)) ≡ suc (length l)
    go true x y = ap suc x
    go false x y = ap suc y

pub act_length_lem : (a : Act) (e : Edit) (l : List FugueSpan) → length (act_list a e l) ≡ length l + made a
unfolding act_list made delete_units
act_length_lem (Insert lam c) e l =
    let n : length (units_of (with_origins (new_span e.id lam c) (origin_left e.at l) (origin_right e.at l))) ≡ len_of c = (unfold with_origins new_span in units_length (with_origins (new_span e.id lam c) (origin_left e.at l) (origin_right e.at l))) in
    omega (arith, splice_length (insert_splice e.at (new_span e.id lam c) l), n)
act_length_lem (Delete m reversed target) e l =
    let a : length (front l e.at) + length (behind l e.at) ≡ length l = sym (length-append (front l e.at) (behind l e.at)) ∙ ap length (front-behind l e.at) in
    omega (arith, length-append (front l e.at) (delete_first (behind l e.at) m target), first_length (behind l e.at) m target)

pub at_length : (v : Version) (h : History) → length (units_at v h) ≡ length h.list
unfolding units_at
at_length v h = length-map h.list (Co.unit_at v h.held)

-- ---- units

act_units : (a : Act) (e : Edit) (l : List FugueSpan) → e.act ≡ a → Known e → act_formed a ≡ true → (room_opt (Some e.id) (size e) && act_ids a) ≡ true → Units1 l → Units1 (act_list a e l)
unfolding act_list
act_units (Insert lam c) e l d k f b u =
    let t = (and-eq-true_iff (room_opt (Some e.id) (size e)) (leb (lam + len_of c) 4294967295)).0 b in
    let s : size e ≡ len_of c = ap size_of d ∙ (unfold size_of in refl) in
    units_insert e.at (new_span e.id lam c) l (span_new e.id lam c (origin_left e.at l) (origin_right e.at l) k f (subst (λ (z : ℕ). room_opt (Some e.id) z ≡ true) s t.0) (leb-true (lam + len_of c) 4294967295 t.1)) u
act_units (Delete m reversed target) e l d k f b u = units_delete e.at m target l ((and-eq-true_iff (room_opt (Some e.id) (size e)) (room_opt (Some target) m)).0 b).1 u

-- ---- the history after an arrival

module _ (n : ℕ) (done A : List Edit) (h : History) (st : Store n done A h) (e : Edit) (a : Arriving n done h e)
    (formed_e : act_formed e.act ≡ true) (ids_e : (room_opt (Some e.id) (size e) && act_ids e.act) ≡ true) (code-e : edit_code h.held e ≡ 0) where
  pub store_next : Store n (e ∷ done) (A ++ (e ∷ [])) (arrive h e)
  unfolding arrive hold
  store_next = record {
    holder = st.holder;
    order = arrived_snoc h.held x ∙ ap (λ (z : List Edit). z ++ (e ∷ [])) st.order;
    from = λ (f : Edit) (m : MemE f (e ∷ done)). from2 f (Memᴰ.cases_cons m);
    units = act_units e.act e (units_at e.context h) refl a.known formed_e ids_e (units_at_lem e.context h st.units);
    counts = λ (p : ℕ) (k : ¬ (p ≡ UNKNOWN_PEER)). count_snoc h.held x p ∙ counts2 p k (eqb_test e.id.peer p);
    fit = fit_snoc [] h.held x st.fit code-e;
    many = many2;
  }
    where
      x : Held
      x = record { edit = e; took = took_by h e }

      from2 : (f : Edit) → (f ≡ e) ⊎ MemE f done → MemE f (base n) ⊎ InSet f (A ++ (e ∷ []))
      from2 f (inl d) = inr (Memᴰ.append_right A (Memᴰ.head d))
      from2 f (inr m) = two (st.from f m)
        where
          two : MemE f (base n) ⊎ InSet f A → MemE f (base n) ⊎ InSet f (A ++ (e ∷ []))
          two (inl k) = inl k
          two (inr k) = inr (Memᴰ.append_left (e ∷ []) k)

      counts2 : (p : ℕ) → ¬ (p ≡ UNKNOWN_PEER) → Test (eqb e.id.peer p) (e.id.peer ≡ p) → held_count h.held p + cond (eqb e.id.peer p) (size e) 0 ≡ cnt (clock n) (e ∷ done) p
      counts2 p k (pass b d) =
          let o : cnt (clock n) done p ≡ first_of e = subst (λ (z : ℕ). cnt (clock n) done z ≡ first_of e) d a.fits.own in
          let c : cnt (clock n) (e ∷ done) p ≡ first_of e + size e = (unfold cnt in ap (λ (z : Bool). cond z (first_of e + size e) (cnt (clock n) done p)) b) in
          let g : cond (eqb e.id.peer p) (size e) 0 ≡ size e = ap (λ (z : Bool). cond z (size e) 0) b in
          omega (arith, st.counts p k)
      counts2 p k (fail b d) =
          let c : cnt (clock n) (e ∷ done) p ≡ cnt (clock n) done p = (unfold cnt in ap (λ (z : Bool). cond z (first_of e + size e) (cnt (clock n) done p)) b) in
          let g : cond (eqb e.id.peer p) (size e) 0 ≡ 0 = ap (λ (z : Bool). cond z (size e) 0) b in
          omega (arith, st.counts p k)

      many2 : length (act_list e.act e (units_at e.context h)) ≡ n + sum (λ (e : Edit). made e.act) (A ++ (e ∷ []))
      many2 =
          let s : sum (λ (e : Edit). made e.act) (e ∷ []) ≡ made e.act = (unfold sum in omega arith) in
          omega (arith, act_length_lem e.act e (units_at e.context h), at_length e.context h, st.many, sum-app (λ (e : Edit). made e.act) A (e ∷ []))

-- ---- codes

five : (v i l f : Bool) (k : ℕ) → v ≡ true → k ≡ 0 → i ≡ true → l ≡ true → f ≡ true → ◌≡◌ {A = ℕ} (cond v (cond (eqb k 0) (cond i (cond l (cond f 0 10) 9) 8) k) 15) 0
five v i l f k hv hk hi hl hf = rw (hv, hk, hi, hl, hf)

module _ (n spans targets : ℕ) (S : List Edit) (wf : WellFormedSet S) (lim : Limits n spans targets S) (fs : List Edit) (ord : ArrivalOrder S fs) where
  total : (f : Edit → ℕ) → sum f fs ≡ sum f S
  total f = sum_same f fs S ord.no_twice wf.no_twice ord.only ord.all

  pub totals : (f : Edit → ℕ) → sum f fs ≡ sum f S
  totals = total

  -- those that arrived, and the next one, are no more than the set
  part : (f : Edit → ℕ) (A rest : List Edit) (e : Edit) → A ++ (e ∷ rest) ≡ fs → sum f A + f e ≤ sum f S
  unfolding sum
  part f A rest e q = omega (arith, sum-app f A (e ∷ rest), ap (sum f) q, total f)

  upto : (f : Edit → ℕ) (A rest : List Edit) → A ++ rest ≡ fs → sum f A ≤ sum f S
  upto f A rest q = omega (arith, sum-app f A rest, ap (sum f) q, total f)

  in_set : (A rest : List Edit) → A ++ rest ≡ fs → (f : Edit) → InSet f A → InSet f S
  in_set A rest q f m = ord.only f (subst (λ (z : List Edit). InSet f z) q (Memᴰ.append_left rest m))

  module _ (A : List Edit) (done : List Edit) (h : History) (key : OptId → Key) (r : Run n done h key) (st : Store n done A h) where
    -- what is stored is well formed
    pub no_15 : (rest : List Edit) → A ++ rest ≡ fs → valid spans targets (stored h) ≡ true
    no_15 rest q = is_valid n done A h key r st spans targets
        (omega (arith, join-length h.list, st.many, upto (λ (e : Edit). made e.act) A rest q, lim.span_room)) (omega (arith, st.many, upto (λ (e : Edit). made e.act) A rest q, lim.units))
        (omega (arith, targets_few n done A h key r st, upto (λ (e : Edit). act_length e.act) A rest q, lim.target_room))
        (omega (arith, held-length n done A h key r st, upto (λ (e : Edit). 1) A rest q, sum-length A, sum-length S, lim.edits))

    pub held_in : (rest : List Edit) → A ++ rest ≡ fs → (x : Held) → MemH x h.held → InSet x.edit S
    held_in rest q x m = in_set A rest q x.edit (subst (λ (z : List Edit). InSet x.edit z) st.order (Memᴰ.map (λ (x : Held). x.edit) m))

    module _ (e : Edit) (rest : List Edit) (q : A ++ (e ∷ rest) ≡ fs) (a : Arriving n done h e) where
      me : InSet e S
      me = ord.only e (subst (λ (z : List Edit). InSet e z) q (Memᴰ.append_right A (Memᴰ.head refl)))

      few : peers (e ∷ arrived h.held) ≤ PEERS
      few = let k : peers (e ∷ arrived h.held) ≤ peers S = peers-le (e ∷ arrived h.held) S (λ (f : Edit) (m : InSet f (e ∷ arrived h.held)). (f, which f (Memᴰ.cases_cons m), refl)) in omega (arith, lim.offices)
        where
          which : (f : Edit) → (f ≡ e) ⊎ InSet f (arrived h.held) → InSet f S
          which f (inl d) = Memᴰ.cast d me
          which f (inr m) = in_set A (e ∷ rest) q f (subst (λ (z : List Edit). InSet f z) st.order m)

      e_code : edit_code h.held e ≡ 0
      e_code = edit_code_lem n S wf h.held done st.counts (held_in (e ∷ rest) q) e me a.fits few (not_own n S wf fs ord.after ord.only ord.no_twice e me (ord.all e me))

      all_fits : arrival_fits spans targets h e ≡ true
      unfolding arrival_fits fits
      all_fits = ap₂ ◌&&◌ (le-leb (length h.list + made e.act) UNITS (omega (arith, units, lim.units)))
          (ap₂ ◌&&◌ (le-leb (length (join (units_at e.context h))) spans (omega (arith, join-length (units_at e.context h), at_length e.context h, units, lim.span_room)))
          (ap₂ ◌&&◌ (le-leb (length (join (list_after h e))) spans (omega (arith, join-length (list_after h e), act_length_lem e.act e (units_at e.context h), at_length e.context h, units, lim.span_room)))
          (le-leb (length (target_list h.held ++ took_by h e)) targets (omega (
            arith,
            length-append (target_list h.held) (took_by h e),
            targets_few n done A h key r st,
            took_few e.act e (units_at e.context h),
            part (λ (e : Edit). act_length e.act) A rest e q,
            lim.target_room,
          )))))
        where
          units : length h.list + made e.act ≤ n + sum (λ (e : Edit). made e.act) S
          units = omega (arith, st.many, part (λ (e : Edit). made e.act) A rest e q)

      back : on_units (stored h) ≡ h
      back = read_back n done A h key r st

      -- accepted
      pub code : arrive_code spans targets (stored h) e ≡ 0
      unfolding arrive_code stored
      code = five (valid spans targets (stored h)) (inside e.act e.at (units_at e.context (on_units (stored h)))) (ltb (length h.held) EDITS) (arrival_fits spans targets (on_units (stored h)) e) (edit_code h.held e)
          (no_15 (e ∷ rest) q) e_code (ap (λ (z : History). inside e.act e.at (units_at e.context z)) back ∙ a.inside)
          (lt-ltb (length h.held) EDITS (omega (arith, held-length n done A h key r st, part (λ (e : Edit). 1) A rest e q, sum-length A, sum-length S, lim.edits)))
          (ap (λ (z : History). arrival_fits spans targets z e) back ∙ all_fits)

      pub left : (arrive_of spans targets (stored h) e).1 ≡ stored (arrive h e)
      unfolding arrive_of
      left = ap (λ (k : ℕ). cond (eqb k 0) (stored (arrive (on_units (stored h)) e)) (stored h)) code ∙ ap (λ (z : History). stored (arrive z e)) back

      pub next : Store n (e ∷ done) (A ++ (e ∷ [])) (arrive h e)
      next = store_next n done A h st e a (wf.formed e me) (wf.ids e me) e_code

  -- all of them
  pub record Done (A : List Edit) (done : List Edit) (h : History) (es : List Edit) : Type 0 where
    pub accepted : Accepted spans targets (stored h) es
    pub left : arrive_all spans targets (stored h) es ≡ stored (replay h es)
    pub store : Store n (done_of (clock n) done es) (A ++ es) (replay h es)

  pub all_done : (es A done : List Edit) (h : History) (key : OptId → Key) → Run n done h key → Store n done A h → A ++ es ≡ fs → Arrives n done h es → Done A done h es
  unfolding Arrives Accepted arrive_all replay
  all_done [] A done h key r st q a = record { accepted = tt; left = refl; store = subst (λ (z : List Edit). Store n done z h) (sym (append-nil A)) st }
  all_done (e ∷ es) A done h key r st q a =
      let t : (k : OptId → Key) × Run n (e ∷ done) (arrive h e) k = run_arrive n done h key r e a.0 in
      on (all_done es (A ++ (e ∷ [])) (e ∷ done) (arrive h e) t.0 t.1 (next A done h key r st e es q a.0) (append_assoc A (e ∷ []) es ∙ q) a.1)
    where
      on : Done (A ++ (e ∷ [])) (e ∷ done) (arrive h e) es → Done A done h (e ∷ es)
      on d = record {
        accepted = (code A done h key r st e es q a.0, subst (λ (z : History). Accepted spans targets z es) (sym (left A done h key r st e es q a.0)) d.accepted);
        left = ap (λ (z : History). arrive_all spans targets z es) (left A done h key r st e es q a.0) ∙ d.left;
        store = subst (λ (z : List Edit). Store n (done_of (clock n) (e ∷ done) es) z (replay (arrive h e) es)) (append_assoc A (e ∷ []) es) d.store;
      }

-- ---- the start

pub store_start : (n : ℕ) → n ≤ UNITS → Store n (base n) [] (start n)
store_start n b = record {
  holder = (unfold start in refl);
  order = (unfold start in refl);
  from = λ (e : Edit) (m : MemE e (base n)). inl m;
  units = start_units n b;
  counts = λ (p : ℕ) (k : ¬ (p ≡ UNKNOWN_PEER)). counts n p k;
  fit = (unfold start edits_fit in refl);
  many = (start-list n).0 ∙ (unfold sum in omega arith);
}
  where
    counts : (n p : ℕ) → ¬ (p ≡ UNKNOWN_PEER) → held_count (start n).held p ≡ cnt (clock n) (base n) p
    counts zero p k = unfold start held_count cnt in refl
    counts (suc m) p k = unfold start held_count cnt in ap (λ (b : Bool). cond b (0 + size (holder (suc m))) 0) (sym (ne_eqb UNKNOWN_PEER p (λ (d : UNKNOWN_PEER ≡ p). k (sym d))))
