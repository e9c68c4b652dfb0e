-- What an arrival finds in a valid history, whoever made it: the list at any version is well formed, and the ids of an insert that is not refused are new.
use Prim.Native.Nat.{ℕ, suc, ◌+◌, ◌<◌, ◌≤◌}
use mathlib.Core.Path.{◌≡◌, refl, sym, ap, subst, ◌∙◌}
use mathlib.Core.Logic.{◌⊎◌, inl, inr}
use mathlib.Core.Bool.{Bool, true, false, ◌&&◌, ◌||◌, cond, and-eq-true_iff}
use mathlib.Core.List.Memᴰ
use mathlib.Core.List.{List, [], ◌∷◌}
use native.Mathlib.Omega.{arith}
use lib.Dec.{eqb}
use lib.ListN.{length}
use borrow.Author.Tests.{eqb-true, eqb-false, leb-true, ne_eqb, not-true}
use Rattle.std.specs.Prelude.{None, Some}
use Rattle.span.specs.declared.chunk.RichtextChunk.{RichtextChunk}
use Rattle.span.specs.declared.ids.Id.{Id}
use Rattle.span.specs.Maybe.{OptId}
use Rattle.span.specs.declared.span.FugueSpan.{FugueSpan}
use Rattle.span.specs.Chunk.{len_of}
use Rattle.span.specs.Ids.{UNKNOWN_PEER, room_opt, inc_id, inc_opt, same_id, same_opt}
use Rattle.span.specs.Status.{activated}
use Rattle.span.specs.Span.{len_span, span_code, new_span, real_new, shift}
use Rattle.span.specs.Units.{units_of, expand, join}
use Rattle.span.specs.Units as Units
use Rattle.span.proofs.Same.{same_id-true, same_id_refl, same_opt-true}
use Rattle.span.proofs.Unique.{expand-join}
use Rattle.units.specs.Limits.{UNITS}
use Rattle.units.specs.Lists.{every, some}
use Rattle.units.specs.Place.{mem_id, with_origins, shown}
use Rattle.units.specs.Query.{placeholder}
use Rattle.rope.specs.Spans.{Fresh}
use Rattle.units.specs.Store.{well_formed}
use Rattle.rope.proofs.Keeps.{UnitsOk, units_ok, join_formed}
use Rattle.rope.proofs.Alikes.{alike_ok}
use Rattle.fugue.specs.Tree.{ref}
use Rattle.fugue.proofs.ScanPlace.{Mem}
use Rattle.fugue.proofs.Splices.{unit_from}
use Rattle.fugue.proofs.Tests.{Test, pass, fail, mem_id_test}
use Rattle.history.specs.Edit.{Version, Act, Insert, Delete, Edit, size_of, size, Held, History}
use Rattle.history.specs.Version.{number, held_count}
use Rattle.history.specs.Checkout.{units_at}
use Rattle.history.specs.Arrive.{start}
use Rattle.history.specs.Valid.{act_formed, act_ids, edit_code, edits_fit, act_units, edit_units, made_units, same_unit, same_units, valid}
use Rattle.history.specs.Codes.{on_units, inside, made}
use Rattle.history.proofs.Context.{natural_inc}
use Rattle.history.proofs.Run.{MemH}
use Rattle.history.proofs.Stable.{Real}
use Rattle.history.proofs.WellUnits.{of_all, all_of, units_at_lem, span_new}
use Rattle.history.proofs.Codes.{every_in}
use Rattle.history.proofs.Stored.{at_length}
use Rattle.history.proofs.Sound.{Sound, sound_of, EditOk, edit_ok, Kept, held_ok, some_in}
use Rattle.history.proofs.Likes.{likes_alike, likes_mem, likes_units, likes_at}

-- ---- where a unit is from

-- unit k of a held insert
pub record Held-unit (held : List Held) (u : FugueSpan) : Type 0 where
  pub by : Held
  pub is_in : MemH by held
  pub k : ℕ
  pub small : k < size by.edit
  pub id : u.id ≡ inc_id by.edit.id k
  pub real : u.real_id ≡ inc_opt (real_new by.edit.id) k

start-peer : (n : ℕ) (w : FugueSpan) → Mem w (start n).list → w.id.peer ≡ UNKNOWN_PEER
unfolding start
start-peer n w m = go (eqb n 0) m
  where
    go : (b : Bool) → Mem w (cond b [] (units_of (placeholder n))) → w.id.peer ≡ UNKNOWN_PEER
    go true k = absurd (Memᴰ.not-nil k)
    go false k =
        let t : (j : ℕ) × (j < len_span (placeholder n)) × (w ≡ Units.unit_at (placeholder n) j) = unit_from (placeholder n) w k in
        ap (λ (z : FugueSpan). z.id.peer) t.2 ∙ (unfold placeholder new_span shift inc_id in refl)

edit_from : (l : List Held) (w : FugueSpan) → Mem w (edit_units l) → (x : Held) × MemH x l × Mem w (act_units x.edit.act x.edit)
unfolding edit_units
edit_from [] w m = absurd (Memᴰ.not-nil m)
edit_from (x ∷ l) w m = go (Memᴰ.append_cases (act_units x.edit.act x.edit) m) (edit_from l w)
  where
    go : Mem w (act_units x.edit.act x.edit) ⊎ Mem w (edit_units l) → (Mem w (edit_units l) → (y : Held) × MemH y l × Mem w (act_units y.edit.act y.edit)) → (y : Held) × MemH y (x ∷ l) × Mem w (act_units y.edit.act y.edit)
    go (inl k) ih = (x, Memᴰ.head refl, k)
    go (inr k) ih = let t : (y : Held) × MemH y l × Mem w (act_units y.edit.act y.edit) = ih k in (t.0, Memᴰ.tail t.1, t.2)

act_from : (a : Act) (e : Edit) (w : FugueSpan) → Mem w (act_units a e) → (k : ℕ) × (k < size_of a) × (w.id ≡ inc_id e.id k) × (w.real_id ≡ inc_opt (real_new e.id) k)
unfolding size_of new_span shift
act_from (Insert lam c) e w m =
    let t : (k : ℕ) × (k < len_span (new_span e.id lam c)) × (w ≡ Units.unit_at (new_span e.id lam c) k) = unit_from (new_span e.id lam c) w m in
    (t.0, t.1, ap (λ (z : FugueSpan). z.id) t.2, ap (λ (z : FugueSpan). z.real_id) t.2)
act_from (Delete n reversed target) e w m = absurd (Memᴰ.not-nil m)

-- the same id, and real id if it is known
same_parts : (u v : FugueSpan) → same_unit u v ≡ true → (u.id ≡ v.id) × ((u.id.peer ≡ UNKNOWN_PEER) ⊎ (u.real_id ≡ v.real_id))
unfolding same_unit
same_parts u v e =
    let p = eqb u.lamport v.lamport in
    let s = eqb u.content.start v.content.start in
    let d = eqb u.content.end v.content.end in
    let r = eqb u.id.peer UNKNOWN_PEER || same_opt u.real_id v.real_id in
    let a = (and-eq-true_iff (same_id u.id v.id) (p && (s && (d && r)))).0 e in
    let b = (and-eq-true_iff p (s && (d && r))).0 a.1 in
    let c = (and-eq-true_iff s (d && r)).0 b.1 in
    let f = (and-eq-true_iff d r).0 c.1 in
    (same_id-true u.id v.id a.0, go (eqb u.id.peer UNKNOWN_PEER) refl f.1)
  where
    go : (b : Bool) → eqb u.id.peer UNKNOWN_PEER ≡ b → (b || same_opt u.real_id v.real_id) ≡ true → (u.id.peer ≡ UNKNOWN_PEER) ⊎ (u.real_id ≡ v.real_id)
    go true q h = inl (eqb-true u.id.peer UNKNOWN_PEER q)
    go false q h = inr (same_opt-true u.real_id v.real_id h)

known_real : (i : Id) → ¬ (i.peer ≡ UNKNOWN_PEER) → real_new i ≡ Some i
unfolding real_new
known_real i k = ap (λ (b : Bool). cond b None (Some i)) (ne_eqb i.peer UNKNOWN_PEER k)

at_inj : (i j : Id) → Some i ≡ Some j → i ≡ j
unfolding same_opt
at_inj i j e = same_id-true i j (ap (λ (o : OptId). same_opt (Some i) o) (sym e) ∙ same_id_refl i)

module _ (h : History) (us : List FugueSpan) (same : same_units us (made_units h) ≡ true) where
  -- a unit is a placeholder's, or one that a held insert made
  pub unit_source : (u : FugueSpan) → Mem u us → (u.id.peer ≡ UNKNOWN_PEER) ⊎ Held-unit h.held u
  unfolding same_units
  unit_source u m = from (some_in (same_unit u) (made_units h) (every_in (λ (z : FugueSpan). some (same_unit z) (made_units h)) us ((and-eq-true_iff (eqb (length us) (length (made_units h))) (every (λ (z : FugueSpan). some (same_unit z) (made_units h)) us)).0 same).1 u m))
    where
      made : (v : FugueSpan) → (u.id ≡ v.id) × ((u.id.peer ≡ UNKNOWN_PEER) ⊎ (u.real_id ≡ v.real_id)) → (x : Held) × MemH x h.held × Mem v (act_units x.edit.act x.edit) → (u.id.peer ≡ UNKNOWN_PEER) ⊎ Held-unit h.held u
      made v s t = go s.1
        where
          go : (u.id.peer ≡ UNKNOWN_PEER) ⊎ (u.real_id ≡ v.real_id) → (u.id.peer ≡ UNKNOWN_PEER) ⊎ Held-unit h.held u
          go (inl d) = inl d
          go (inr r) =
              let a : (k : ℕ) × (k < size_of t.0.edit.act) × (v.id ≡ inc_id t.0.edit.id k) × (v.real_id ≡ inc_opt (real_new t.0.edit.id) k) = act_from t.0.edit.act t.0.edit v t.2 in
              inr (record { by = t.0; is_in = t.1; k = a.0; small = a.1; id = s.0 ∙ a.2; real = r ∙ a.3 })

      place : (v : FugueSpan) → same_unit u v ≡ true → Mem v (start h.placeholder).list ⊎ Mem v (edit_units h.held) → (u.id.peer ≡ UNKNOWN_PEER) ⊎ Held-unit h.held u
      place v q (inl k) = inl (ap (λ (i : Id). i.peer) (same_parts u v q).0 ∙ start-peer h.placeholder v k)
      place v q (inr k) = made v (same_parts u v q) (edit_from h.held v k)

      from : (v : FugueSpan) × Mem v (made_units h) × (same_unit u v ≡ true) → (u.id.peer ≡ UNKNOWN_PEER) ⊎ Held-unit h.held u
      from t = place t.0 t.2 (Memᴰ.append_cases (start h.placeholder).list t.1)

  module _ (fit : edits_fit [] h.held ≡ true) where
    peer_of : (u : FugueSpan) (t : Held-unit h.held u) → u.id.peer ≡ t.by.edit.id.peer
    peer_of u t = ap (λ (i : Id). i.peer) t.id ∙ (unfold inc_id in refl)

    -- its counter is below what is held of its peer
    pub unit_below : (u : FugueSpan) → Mem u us → ¬ (u.id.peer ≡ UNKNOWN_PEER) → number u.id.counter < held_count h.held u.id.peer
    unit_below u m k = go (unit_source u m)
      where
        go : (u.id.peer ≡ UNKNOWN_PEER) ⊎ Held-unit h.held u → number u.id.counter < held_count h.held u.id.peer
        go (inl d) = absurd (k d)
        go (inr t) =
            let x : Kept h.held t.by = held_ok h.held fit t.by t.is_in in
            let n : number u.id.counter ≡ number t.by.edit.id.counter + t.k = ap (λ (i : Id). number i.counter) t.id ∙ (natural_inc t.by.edit.id t.k x.ok.natural).1 in
            let p : held_count h.held u.id.peer ≡ held_count h.held t.by.edit.id.peer = ap (held_count h.held) (peer_of u t) in
            omega (arith, x.below, t.small)

    -- it has a real id, or is a placeholder's
    pub unit_real : (u : FugueSpan) → Mem u us → Real u
    unit_real u m = go (unit_source u m)
      where
        go : (u.id.peer ≡ UNKNOWN_PEER) ⊎ Held-unit h.held u → Real u
        go (inl d) = inl d
        go (inr t) =
            let x : Kept h.held t.by = held_ok h.held fit t.by t.is_in in
            inr (inc_id t.by.edit.id t.k, t.real ∙ (ap (λ (o : OptId). inc_opt o t.k) (known_real t.by.edit.id x.ok.known) ∙ (unfold inc_opt in refl)))

    -- the ids of an edit that is not refused are new
    pub fresh_new : (e : Edit) → edit_code h.held e ≡ 0 → (y : FugueSpan) → y.id ≡ e.id → Fresh y us
    unfolding Fresh
    fresh_new e ok y q k small = go (mem_id_test (Some (inc_id y.id k)) us)
      where
        o : EditOk h.held e
        o = edit_ok h.held e ok

        go : Test (mem_id (Some (inc_id y.id k)) us) ((w : FugueSpan) × Mem w us × (ref w ≡ Some (inc_id y.id k))) → mem_id (Some (inc_id y.id k)) us ≡ false
        go (fail b d) = b
        go (pass b t) =
            let i : t.0.id ≡ inc_id e.id k = at_inj t.0.id (inc_id y.id k) t.2 ∙ ap (λ (z : Id). inc_id z k) q in
            let p : t.0.id.peer ≡ e.id.peer = ap (λ (z : Id). z.peer) i ∙ (unfold inc_id in refl) in
            let n : number t.0.id.counter ≡ number e.id.counter + k = ap (λ (z : Id). number z.counter) i ∙ (natural_inc e.id k o.natural).1 in
            let c : held_count h.held t.0.id.peer ≡ held_count h.held e.id.peer = ap (held_count h.held) p in
            let b : number t.0.id.counter < held_count h.held t.0.id.peer = unit_below t.0 t.1 (λ (d : t.0.id.peer ≡ UNKNOWN_PEER). o.known (sym p ∙ d)) in
            absurd (let z : ⊥ = omega (arith, o.next) in z)

-- ---- the list of a valid history, at any version

-- as many units are visible as there are, at the most
pub shown_most : (l : List FugueSpan) → shown l ≤ length l
unfolding shown
shown_most [] = omega arith
shown_most (u ∷ l) = go (activated u.status) (shown_most l)
  where
    go : (b : Bool) → shown l ≤ length l → cond b (suc (shown l)) (shown l) ≤ suc (length l)
    go true k = omega arith
    go false k = omega arith

module _ (spans targets : ℕ) (h : History) (ok : valid spans targets h ≡ true) where
  sound : Sound spans targets h
  sound = sound_of spans targets h ok

  pub list_ok : UnitsOk (expand h.list)
  list_ok = units_ok h.list sound.formed

  pub at_ok : (v : Version) → UnitsOk (units_at v (on_units h))
  unfolding on_units
  at_ok v = alike_ok (expand h.list) (units_at v (on_units h)) list_ok (likes_alike (expand h.list) (units_at v (on_units h)) (likes_at v (on_units h)))
      (all_of (units_at v (on_units h)) (units_at_lem v (on_units h) (of_all (expand h.list) list_ok.each)))

  pub at_formed : (v : Version) → well_formed (join (units_at v (on_units h))) ≡ true
  at_formed v = join_formed (units_at v (on_units h)) (at_ok v)

  pub at_expand : (v : Version) → expand (join (units_at v (on_units h))) ≡ units_at v (on_units h)
  at_expand v = expand-join (units_at v (on_units h)) (at_ok v).each

  -- units, as many as the list's
  pub at_few : (v : Version) → length (units_at v (on_units h)) ≤ UNITS
  at_few v = (at_ok v).few

  pub at_real : (v : Version) (u : FugueSpan) → Mem u (units_at v (on_units h)) → Real u
  unfolding on_units
  at_real v u m = unit_real h (units_at v (on_units h)) (sym (likes_units (expand h.list) (units_at v (on_units h)) (made_units h) (likes_at v (on_units h))) ∙ sound.units) sound.fit u m

  module _ (e : Edit) (lam : ℕ) (c : RichtextChunk) (act : e.act ≡ Insert lam c) (code : edit_code h.held e ≡ 0) where
    edit : EditOk h.held e
    edit = edit_ok h.held e code

    pub new_known : ¬ ((new_span e.id lam c).id.peer ≡ UNKNOWN_PEER)
    unfolding new_span
    new_known = edit.known

    pub new_ok : span_code (new_span e.id lam c) ≡ 0
    unfolding with_origins new_span size_of
    new_ok = span_new e.id lam c None None edit.known (subst (λ (a : Act). act_formed a ≡ true) act edit.formed)
        (subst (λ (a : Act). room_opt (Some e.id) (size_of a) ≡ true) act edit.room) (leb-true (lam + len_of c) 4294967295 (subst (λ (a : Act). act_ids a ≡ true) act edit.ids))

    -- in the list, and at any version
    pub new_fresh : Fresh (new_span e.id lam c) (expand h.list)
    unfolding new_span
    new_fresh = fresh_new h (expand h.list) sound.units sound.fit e code (new_span e.id lam c) refl

    pub new_fresh_at : (v : Version) → Fresh (new_span e.id lam c) (units_at v (on_units h))
    unfolding Fresh on_units
    new_fresh_at v k small = sym (likes_mem (Some (inc_id (new_span e.id lam c).id k)) (expand h.list) (units_at v (on_units h)) (likes_at v (on_units h))) ∙ new_fresh k small

    -- the position, and the units, as 8 and 10 ask
    pub new_low : inside e.act e.at (units_at e.context (on_units h)) ≡ true → e.at ≤ shown (units_at e.context (on_units h))
    unfolding inside
    new_low i = leb-true e.at (shown (units_at e.context (on_units h))) (subst (λ (a : Act). inside a e.at (units_at e.context (on_units h)) ≡ true) act i)

    pub new_few : length (expand h.list) + made e.act ≤ UNITS → length (units_at e.context (on_units h)) + len_span (new_span e.id lam c) ≤ UNITS
    unfolding new_span made
    new_few b =
        let f : length (expand h.list) + len_of c ≤ UNITS = subst (λ (a : Act). length (expand h.list) + made a ≤ UNITS) act b in
        omega (arith, at_length e.context (on_units h), ap (λ (z : History). length z.list) units)
      where
        units : on_units h ≡ record { placeholder = h.placeholder; list = expand h.list; held = h.held }
        units = unfold on_units in refl

  -- ---- a delete

  module _ (e : Edit) (n : ℕ) (reversed : Bool) (target : Id) (act : e.act ≡ Delete n reversed target) (code : edit_code h.held e ≡ 0) where
    abbrev us : List FugueSpan
    us = units_at e.context (on_units h)

    pub gone_some : 0 < n
    gone_some = let k : n ≡ 0 → ⊥ = eqb-false n 0 (not-true (eqb n 0) (subst (λ (a : Act). act_formed a ≡ true) act (edit_ok h.held e code).formed)) in omega (arith, k)

    pub gone_ids : room_opt (Some target) n ≡ true
    gone_ids = subst (λ (a : Act). act_ids a ≡ true) act (edit_ok h.held e code).ids

    pub gone_low : inside e.act e.at us ≡ true → e.at + n ≤ shown us
    unfolding inside
    gone_low i = leb-true (e.at + n) (shown us) (subst (λ (a : Act). inside a e.at us ≡ true) act i)

    -- so within u32
    pub gone_small : inside e.act e.at us ≡ true → e.at + n ≤ 65536
    gone_small i = omega (arith, gone_low i, shown_most us, at_few e.context)
