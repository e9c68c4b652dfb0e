-- A valid history, whoever made it, stays valid when an edit arrives.
use Prim.Native.Nat.{ℕ, suc, ◌+◌, ◌<◌, ◌≤◌}
use mathlib.Core.Path.{◌≡◌, refl, sym, ap, ap₂, subst, ◌∙◌}
use mathlib.Core.Logic.{◌⊎◌, inl, inr}
use mathlib.Core.Bool.{Bool, true, false, ◌&&◌, cond, and-eq-true_iff}
use mathlib.Core.List.Memᴰ
use mathlib.Core.List.{List, [], ◌∷◌, ◌++◌, map, append_assoc, append-nil}
use native.Mathlib.Omega.{arith}
use lib.Dec.{eqb, ltb}
use lib.IntN.{ℤ, pos}
use lib.ListN.{length, length-append}
use borrow.Author.Tests.{eq-eqb, eqb-true, leb-true}
use Rattle.span.specs.declared.chunk.RichtextChunk.{RichtextChunk}
use Rattle.span.specs.declared.ids.Id.{Id}
use Rattle.span.specs.Maybe.{OptId}
use Rattle.span.specs.declared.span.FugueSpan.{FugueSpan}
use Rattle.span.specs.Chunk.{len_of, part_chunk}
use Rattle.span.specs.Ids.{UNKNOWN_PEER, inc_id, inc_opt, same_opt}
use Rattle.span.specs.Span.{len_span, new_span, shift}
use Rattle.span.specs.Units.{units_of, expand}
use Rattle.span.specs.Units as Units
use Rattle.span.proofs.IdsLaws.{Room, roomy}
use Rattle.span.proofs.Same.{same_id_refl, same_opt_refl}
use Rattle.span.proofs.SpanLaws.{span_ok}
use Rattle.span.proofs.Unique.{join-expand}
use Rattle.span.proofs.ForRope.{units_length}
use Rattle.units.specs.Limits.{UNITS, EDITS}
use Rattle.units.specs.Lists.{every, some}
use Rattle.units.specs.Place.{with_origins, origin_left, origin_right, insert_units, shown}
use Rattle.units.specs.Change.{delete_units, taken}
use Rattle.rope.specs.Spans.{Fresh}
use Rattle.rope.proofs.Lists.{or_right}
use Rattle.rope.proofs.WellFormed.{formed_of}
use Rattle.rope.proofs.Keeps.{UnitsOk, insert_ok}
use Rattle.rope.proofs.Alikes.{alike_ok}
use Rattle.fugue.proofs.ScanPlace.{Mem}
use Rattle.fugue.proofs.Tests.{Test, pass, fail, eqb_test}
use Rattle.fugue.proofs.Sorts.{Splice}
use Rattle.fugue.proofs.Splices.{insert_splice, splice_from, unit_from, unit_in}
use Rattle.history.specs.Edit.{Act, Insert, Delete, Edit, Range, Held, History}
use Rattle.history.specs.Version.{number}
use Rattle.history.specs.Checkout.{ranges_of, units_at}
use Rattle.history.specs.Arrive.{start, act_list, act_took, hold, arrive}
use Rattle.history.specs.Valid.{act_ids, edit_code, act_units, edit_units, made_units, same_unit, same_units, same_ranges, total, ranges_in, act_length, targets_fit, valid}
use Rattle.history.specs.Codes.{on_units, stored, inside, made, arrival_fits, arrive_code, arrive_of}
use Rattle.history.proofs.Run.{MemH}
use Rattle.history.proofs.WellUnits.{of_all, all_of, units_delete}
use Rattle.history.proofs.Valid.{every_of, some_at}
use Rattle.history.proofs.Codes.{every_in}
use Rattle.history.proofs.Ranges.{same_ranges_refl}
use Rattle.history.proofs.Stored.{act_length_lem}
use Rattle.history.proofs.Rooms.{Rooms, rooms_arrive}
use Rattle.history.proofs.Sound.{Sound, sound_of, EditOk, edit_ok, fit_snoc, some_in}
use Rattle.history.proofs.Likes.{Likes, likes_alike, likes_units, likes_targets, likes_ranges, likes_at, likes_delete}
use Rattle.history.proofs.Arriving.{list_ok, at_ok, at_real, new_ok, new_fresh_at}
use Rattle.history.proofs.StaysValid.{stored-valid, kept_valid}
use Rattle.history.proofs.Named.{Naturals, taken_named, taken_total, none_named, splice_named}

-- ---- an arrival that is not refused

pub record ArriveOk (spans targets : ℕ) (h : History) (e : Edit) : Type 0 where
  pub valid : valid spans targets h ≡ true
  pub edit : edit_code h.held e ≡ 0
  pub inside : inside e.act e.at (units_at e.context (on_units h)) ≡ true
  pub few : ltb (length h.held) EDITS ≡ true
  pub fits : arrival_fits spans targets (on_units h) e ≡ true

record Five (v : Bool) (k : ℕ) (i l f : Bool) : Type 0 where
  valid : v ≡ true
  edit : k ≡ 0
  inside : i ≡ true
  few : l ≡ true
  fits : f ≡ true

five_back : (v : Bool) (k : ℕ) (i l f : Bool) → ◌≡◌ {A = ℕ} (cond v (cond (eqb k 0) (cond i (cond l (cond f 0 10) 9) 8) k) 15) 0 → Five v k i l f
five_back v k i l f e = go v i l f (eqb_test k 0) e
  where
    bad : {A : Type 0} (m : ℕ) → suc m ≡ 0 → A
    bad m h = absurd (let z : ⊥ = omega arith in z)

    at : (i l f : Bool) → k ≡ 0 → ◌≡◌ {A = ℕ} (cond i (cond l (cond f 0 10) 9) 8) 0 → Five true k i l f
    at true true true d h = record { valid = refl; edit = d; inside = refl; few = refl; fits = refl }
    at true true false d h = bad 9 h
    at true false f d h = bad 8 h
    at false l f d h = bad 7 h

    go : (v i l f : Bool) → Test (eqb k 0) (k ≡ 0) → ◌≡◌ {A = ℕ} (cond v (cond (eqb k 0) (cond i (cond l (cond f 0 10) 9) 8) k) 15) 0 → Five v k i l f
    go true i l f (pass b d) h = at i l f d (ap (λ (z : Bool). cond z (cond i (cond l (cond f 0 10) 9) 8) k) (sym b) ∙ h)
    go true i l f (fail b d) h = absurd (d (ap (λ (z : Bool). cond z (cond i (cond l (cond f 0 10) 9) 8) k) (sym b) ∙ h))
    go false i l f t h = bad 14 h

pub arrive_ok : (spans targets : ℕ) (h : History) (e : Edit) → arrive_code spans targets h e ≡ 0 → ArriveOk spans targets h e
unfolding arrive_code
arrive_ok spans targets h e c =
    let t = five_back (valid spans targets h) (edit_code h.held e) (inside e.act e.at (units_at e.context (on_units h))) (ltb (length h.held) EDITS) (arrival_fits spans targets (on_units h) e) c in
    record { valid = t.valid; edit = t.edit; inside = t.inside; few = t.few; fits = t.fits }

-- ---- the units made, with one more edit

edit_units_snoc : (l : List Held) (x : Held) → edit_units (l ++ (x ∷ [])) ≡ edit_units l ++ act_units x.edit.act x.edit
unfolding edit_units
edit_units_snoc [] x = append-nil (act_units x.edit.act x.edit)
edit_units_snoc (y ∷ l) x = ap (λ (z : List FugueSpan). act_units y.edit.act y.edit ++ z) (edit_units_snoc l x) ∙ sym (append_assoc (act_units y.edit.act y.edit) (edit_units l) (act_units x.edit.act x.edit))

-- a new unit is the unit made, whatever its origins
same_new : (s : FugueSpan) (x o : OptId) (k : ℕ) → same_unit (Units.unit_at (with_origins s x o) k) (Units.unit_at s k) ≡ true
unfolding same_unit shift with_origins
same_new s x o k = ap₂ ◌&&◌ (same_id_refl (inc_id s.id k)) (ap₂ ◌&&◌ (eq-eqb (s.lamport + k) (s.lamport + k) refl) (ap₂ ◌&&◌ (eq-eqb c.start c.start refl) (ap₂ ◌&&◌ (eq-eqb c.end c.end refl)
    (or_right (eqb (inc_id s.id k).peer UNKNOWN_PEER) (same_opt (inc_opt s.real_id k) (inc_opt s.real_id k)) (same_opt_refl (inc_opt s.real_id k))))))
  where
    c : RichtextChunk
    c = part_chunk s.content k (suc k)

some_left : (t : FugueSpan → Bool) (A B : List FugueSpan) → some t A ≡ true → some t (A ++ B) ≡ true
some_left t A B e = let r : (x : FugueSpan) × Mem x A × (t x ≡ true) = some_in t A e in some_at t (A ++ B) r.0 (Memᴰ.append_left B r.1) r.2

-- ---- the history after an arrival

-- what is to be shown of the list that an act leaves, and of what it took
record After (h : History) (e : Edit) (a : Act) (l : List FugueSpan) (took : List Range) : Type 0 where
  ok : UnitsOk l
  units : same_units l (made_units h ++ act_units a e) ≡ true
  old : (x : Held) → MemH x h.held → targets_fit l x ≡ true
  new : (eqb (total took) (act_length a) && same_ranges took (ranges_in l took)) ≡ true

module _ (spans targets : ℕ) (h : History) (e : Edit) (ok : ArriveOk spans targets h e) where
  sound : Sound spans targets h
  sound = sound_of spans targets h ok.valid

  edit : EditOk h.held e
  edit = edit_ok h.held e ok.edit

  -- the list at the context
  abbrev us : List FugueSpan
  us = units_at e.context (on_units h)

  us_ok : UnitsOk us
  us_ok = at_ok spans targets h ok.valid e.context

  us_natural : Naturals us
  us_natural u m = let r : Room u.id.counter (len_span u) = roomy u.id.counter (len_span u) (span_ok u (of_all us us_ok.each u m).0).own in r.is ∙ ap (λ (z : ℤ). pos (number z)) (sym r.is)

  us_made : same_units us (made_units h) ≡ true
  unfolding on_units
  us_made = sym (likes_units (expand h.list) us (made_units h) (likes_at e.context (on_units h))) ∙ sound.units

  us_took : (x : Held) → MemH x h.held → targets_fit us x ≡ true
  unfolding on_units
  us_took x m = sym (likes_targets (expand h.list) us (likes_at e.context (on_units h)) x) ∙ every_in (targets_fit (expand h.list)) h.held sound.took x m

  rooms : Rooms spans targets (arrive (on_units h) e)
  rooms = rooms_arrive spans targets (on_units h) e (unfold on_units in record {
    joined = subst (λ (l : List FugueSpan). length l ≤ spans) (sym (join-expand h.list (formed_of h.list sound.formed).joined)) sound.room;
    units = (list_ok spans targets h ok.valid).few;
    ranges = sound.ranges;
    edits = sound.edits;
  }) ok.fits (unfold on_units in ok.few)

  few : length us + made e.act ≤ UNITS
  few = let r : length (act_list e.act e us) ≤ UNITS = (unfold arrive in rooms.units) in omega (arith, act_length_lem e.act e us)

  -- ---- an insert

  module _ (lam : ℕ) (c : RichtextChunk) (act : e.act ≡ Insert lam c) where
    abbrev s : FugueSpan
    s = new_span e.id lam c

    abbrev y : FugueSpan
    y = with_origins (new_span e.id lam c) (origin_left e.at (units_at e.context (on_units h))) (origin_right e.at (units_at e.context (on_units h)))

    abbrev l1 : List FugueSpan
    l1 = insert_units e.at (new_span e.id lam c) (units_at e.context (on_units h))

    splice : Splice us (units_of y) l1
    splice = insert_splice e.at s us

    fresh : Fresh s us
    fresh = new_fresh_at spans targets h ok.valid e lam c act ok.edit e.context

    room : length us + len_span s ≤ UNITS
    unfolding new_span made
    room = subst (λ (a : Act). length us + made a ≤ UNITS) act few

    lengths : length l1 ≡ length (made_units h ++ units_of s)
    unfolding same_units new_span
    lengths =
        let a : length l1 ≡ length us + len_of c = (unfold act_list made in act_length_lem (Insert lam c) e us) in
        let b : length us ≡ length (made_units h) = eqb-true (length us) (length (made_units h)) ((and-eq-true_iff (eqb (length us) (length (made_units h))) (every (λ (u : FugueSpan). some (same_unit u) (made_units h)) us)).0 us_made).0 in
        omega (arith, length-append (made_units h) (units_of s), units_length s)

    each : (w : FugueSpan) → Mem w l1 → some (same_unit w) (made_units h ++ units_of s) ≡ true
    unfolding same_units
    each w m = go (splice_from splice w m)
      where
        new : (k : ℕ) × (k < len_span y) × (w ≡ Units.unit_at y k) → some (same_unit w) (made_units h ++ units_of s) ≡ true
        new t = some_at (same_unit w) (made_units h ++ units_of s) (Units.unit_at s t.0) (Memᴰ.append_right (made_units h) (unit_in s t.0 (unfold with_origins in t.1)))
            (ap (λ (z : FugueSpan). same_unit z (Units.unit_at s t.0)) t.2 ∙ same_new s (origin_left e.at us) (origin_right e.at us) t.0)

        go : Mem w us ⊎ Mem w (units_of y) → some (same_unit w) (made_units h ++ units_of s) ≡ true
        go (inl k) = some_left (same_unit w) (made_units h) (units_of s) (every_in (λ (u : FugueSpan). some (same_unit u) (made_units h)) us ((and-eq-true_iff (eqb (length us) (length (made_units h))) (every (λ (u : FugueSpan). some (same_unit u) (made_units h)) us)).0 us_made).1 w k)
        go (inr k) = new (unit_from y w k)

    insert_units_lem : same_units l1 (made_units h ++ units_of s) ≡ true
    unfolding same_units
    insert_units_lem = ap₂ ◌&&◌ (eq-eqb (length l1) (length (made_units h ++ units_of s)) lengths) (every_of (λ (u : FugueSpan). some (same_unit u) (made_units h ++ units_of s)) l1 each)

    insert_old : (x : Held) → MemH x h.held → targets_fit l1 x ≡ true
    unfolding targets_fit with_origins new_span Fresh
    insert_old x m =
        let f : (eqb (total x.took) (act_length x.edit.act) && same_ranges x.took (ranges_in us x.took)) ≡ true = us_took x m in
        let own : same_ranges x.took (ranges_in us x.took) ≡ true = ((and-eq-true_iff (eqb (total x.took) (act_length x.edit.act)) (same_ranges x.took (ranges_in us x.took))).0 f).1 in
        ap (λ (rs : List Range). eqb (total x.took) (act_length x.edit.act) && same_ranges x.took rs) (splice_named us us_natural x.took own y l1 edit.natural fresh splice) ∙ f

    insert_after : After h e (Insert lam c) l1 []
    insert_after = record {
      ok = insert_ok e.at s us us_ok (new_ok spans targets h ok.valid e lam c act ok.edit) fresh room;
      units = insert_units_lem;
      old = insert_old;
      new = (unfold total same_ranges in ap (λ (rs : List Range). eqb 0 0 && same_ranges [] rs) (none_named l1));
    }

  -- ---- a delete

  module _ (n : ℕ) (reversed : Bool) (target : Id) (act : e.act ≡ Delete n reversed target) where
    abbrev l2 : List FugueSpan
    l2 = delete_units e.at n target (units_at e.context (on_units h))

    likes : Likes us l2
    likes = likes_delete e.at n target us (at_real spans targets h ok.valid e.context)

    seen : e.at + n ≤ shown us
    unfolding inside
    seen = leb-true (e.at + n) (shown us) (subst (λ (a : Act). inside a e.at us ≡ true) act ok.inside)

    delete_after : After h e (Delete n reversed target) l2 (ranges_of (map (λ (u : FugueSpan). u.id) (taken e.at n us)))
    delete_after = record {
      ok = alike_ok us l2 us_ok (likes_alike us l2 likes) (all_of l2 (units_delete e.at n target us (subst (λ (a : Act). act_ids a ≡ true) act edit.ids) (of_all us us_ok.each)));
      units = ap (same_units l2) (append-nil (made_units h)) ∙ (sym (likes_units us l2 (made_units h) likes) ∙ us_made);
      old = λ (x : Held) (m : MemH x h.held). sym (likes_targets us l2 likes x) ∙ us_took x m;
      new = ap₂ ◌&&◌ (eq-eqb (total R) n (taken_total us us_ok.distinct us_natural e.at n seen))
          (ap (same_ranges R) (sym (likes_ranges us l2 likes R) ∙ taken_named us us_ok.distinct us_natural e.at n) ∙ same_ranges_refl R);
    }
      where
        R : List Range
        R = ranges_of (map (λ (u : FugueSpan). u.id) (taken e.at n us))

  -- ---- both

  after : (a : Act) → e.act ≡ a → After h e a (act_list a e us) (act_took a e us)
  unfolding act_list act_took
  after (Insert lam c) act = insert_after lam c act
  after (Delete n reversed target) act = delete_after n reversed target act

  pub arrived_valid : valid spans targets (stored (arrive (on_units h) e)) ≡ true
  unfolding arrive hold on_units
  arrived_valid = stored-valid spans targets (arrive (on_units h) e) t.ok rooms.joined rooms.ranges rooms.edits (fit_snoc [] h.held x sound.fit ok.edit)
      (ap (same_units (act_list e.act e us)) (ap (λ (l : List FugueSpan). (start h.placeholder).list ++ l) (edit_units_snoc h.held x) ∙ sym (append_assoc (start h.placeholder).list (edit_units h.held) (act_units e.act e))) ∙ t.units)
      (λ (z : Held) (m : MemH z (h.held ++ (x ∷ []))). took z (Memᴰ.append_cases h.held m))
    where
      t : After h e e.act (act_list e.act e us) (act_took e.act e us)
      t = after e.act refl

      x : Held
      x = record { edit = e; took = act_took e.act e us }

      took : (z : Held) → MemH z h.held ⊎ MemH z (x ∷ []) → targets_fit (act_list e.act e us) z ≡ true
      took z (inl m) = t.old z m
      took z (inr m) = ap (targets_fit (act_list e.act e us)) (Memᴰ.eq_of_singleton m) ∙ (unfold targets_fit in t.new)

-- whatever the number
pub valid_arrive : (spans targets : ℕ) (h : History) → valid spans targets h ≡ true → (e : Edit) → valid spans targets (arrive_of spans targets h e).1 ≡ true
unfolding arrive_of
valid_arrive spans targets h ok e = kept_valid spans targets (arrive_code spans targets h e) (stored (arrive (on_units h) e)) h (λ (c : arrive_code spans targets h e ≡ 0). arrived_valid spans targets h e (arrive_ok spans targets h e c)) ok
