-- What demand 3 speaks of can be handed to the entries: a context or version that names only what is held is given by its columns, of at most 16 pairs, whose
-- counts fit their bits. So every edit of an arrival order, and the version of the whole set.
use Prim.Native.Nat.{ℕ, ◌+◌, ◌≤◌}
use mathlib.Core.Path.{◌≡◌, refl, sym, ap, ap₂, subst, ◌∙◌}
use mathlib.Core.Logic.{◌⊎◌, inl, inr}
use mathlib.Core.Bool.{Bool, true, false, not, ◌&&◌, cond, and-eq-true_iff, true≢false}
use mathlib.Core.List.Memᴰ
use mathlib.Core.List.{List, [], ◌∷◌, ◌++◌, append_assoc, append-nil, Memᴰ}
use native.Mathlib.Omega.{arith}
use lib.Dec.{eqb, leb}
use lib.IntN.{ℤ, pos, negsuc}
use lib.ListN.{length, length-map}
use lib.Signed.{le_z}
use mir.Syntax.{w32}
use mir.Val.{SFits}
use mir.Facts.{to_z-of_z}
use borrow.Author.Tests.{eqb-true, eq-eqb, leb-true}
use Rattle.span.specs.Ids.{UNKNOWN_PEER, room_of, room_opt}
use Rattle.span.proofs.IdsLaws.{Room, roomy}
use Rattle.store.specs.Row.{bits32}
use Rattle.units.specs.Lists.{every}
use Rattle.history.specs.Edit.{Count, Version, Act, Insert, Delete, Edit, size, Held, History}
use Rattle.history.specs.Version.{number, held_count, rising, is_held, named}
use Rattle.history.specs.Valid.{edit_code, edits_fit, valid}
use Rattle.history.specs.Codes.{stored, arrive_code, arrive_of, checkout_code}
use Rattle.history.specs.Arrive.{start}
use Rattle.history.specs.Tree.{sort_rank}
use Rattle.history.specs.Demand.{InSet, WellFormedSet, Inside, Limits, ArrivalOrder, Accepted, arrive_all, whole_of}
use Rattle.history.proofs.Demand.{demand3}
use Rattle.history.proofs.Codes.{every_in}
use Rattle.history.proofs.Sound.{sound_of, EditOk, edit_ok}
use Rattle.history.proofs.ArriveValid.{ArriveOk, arrive_ok}
use Rattle.tracker.specs.Rows.{to_act, broken}
use Rattle.tracker.specs.Entries.{zipped, version_of}
use Rattle.tracker.specs.Calls.{does_of, peers_of, counts_of, handed}
use Rattle.history.proofs.Stored.{count_snoc}

-- ---- what is held of a peer is below 2^31

one_more : (l : List Held) (x : Held) → edit_code l x.edit ≡ 0 → (p : ℕ) → held_count l p ≤ 2147483647 → held_count (l ++ (x ∷ [])) p ≤ 2147483647
unfolding room_opt
one_more l x c p few = go (eqb x.edit.id.peer p) refl
  where
    ok : EditOk l x.edit
    ok = edit_ok l x.edit c

    last : held_count l x.edit.id.peer + size x.edit ≤ 2147483647
    last =
        let r : Room x.edit.id.counter (size x.edit) = roomy x.edit.id.counter (size x.edit) ((and-eq-true_iff (not (eqb x.edit.id.peer UNKNOWN_PEER)) (room_of x.edit.id (size x.edit))).0 (unfold room_opt in ok.room)).1 in
        omega (arith, r.ends, ok.next, ap number r.is)

    go : (b : Bool) → eqb x.edit.id.peer p ≡ b → held_count (l ++ (x ∷ [])) p ≤ 2147483647
    go true q =
        let d : held_count l p + size x.edit ≤ 2147483647 = subst (λ (z : ℕ). held_count l z + size x.edit ≤ 2147483647) (eqb-true x.edit.id.peer p q) last in
        omega (arith, count_snoc l x p, ap (λ (z : Bool). cond z (size x.edit) 0) q)
    go false q = omega (arith, count_snoc l x p, ap (λ (z : Bool). cond z (size x.edit) 0) q)

held_most : (b l : List Held) → edits_fit b l ≡ true → (p : ℕ) → held_count b p ≤ 2147483647 → held_count (b ++ l) p ≤ 2147483647
unfolding edits_fit
held_most b [] h p few = subst (λ (z : List Held). held_count z p ≤ 2147483647) (sym (append-nil b)) few
held_most b (x ∷ l) h p few =
    let t = (and-eq-true_iff (eqb (edit_code b x.edit) 0) (edits_fit (b ++ (x ∷ [])) l)).0 h in
    subst (λ (z : List Held). held_count z p ≤ 2147483647) (append_assoc b (x ∷ []) l)
    (held_most (b ++ (x ∷ [])) l t.1 p (one_more b x (eqb-true (edit_code b x.edit) 0 t.0) p few))

-- ---- columns and back

fit : (z : ℤ) (m : ℕ) → (le_z (pos 1) z && le_z z (pos m)) ≡ true → m ≤ 2147483647 → SFits w32 z
fit (pos k) m e h = record { sfits = omega (arith, leb-true k m ((and-eq-true_iff (leb 1 k) (leb k m)).0 e).1) }
fit (negsuc k) m e h = absurd (true≢false (sym e))

zip_back : (v : Version) → ((k : Count) → Memᴰ k v → SFits w32 k.many) → zipped (peers_of v) (counts_of v) ≡ v
unfolding zipped
zip_back [] f = refl
zip_back (k ∷ v) f = ap₂ (λ (z : ℤ) (w : Version). record { peer = k.peer; many = z } ∷ w) (to_z-of_z {w = w32} (f k (Memᴰ.head refl))) (zip_back v (λ (j : Count) (m : Memᴰ j v). f j (Memᴰ.tail m)))

module _ (l : List Held) (v : Version) (h : edits_fit [] l ≡ true) (e : named l v ≡ true) where
  pub columns_version : version_of (peers_of v) (counts_of v) ≡ v
  unfolding version_of named is_held held_count
  columns_version = ap (λ (b : Bool). cond b (zipped (peers_of v) (counts_of v)) broken) (eq-eqb (length (peers_of v)) (length (counts_of v)) (length-map v (λ (k : Count). k.peer) ∙ sym (length-map v (λ (k : Count). bits32 k.many))))
      ∙ zip_back v (λ (k : Count) (m : Memᴰ k v). fit k.many (held_count l k.peer) (every_in (is_held l) v ((and-eq-true_iff (rising v) (every (is_held l) v)).0 e).1 k m) (held_most [] l h k.peer (omega arith)))

-- ---- an edit that is accepted, and a version that is

act_back : (a : Act) → to_act (does_of a) ≡ a
act_back (Insert lamport c) = refl
act_back (Delete n reversed start) = refl

module _ (spans targets : ℕ) (h : History) where
  edit_handed : (x : Edit) → arrive_code spans targets h x ≡ 0 → handed x ≡ x
  edit_handed x c =
      let ok : ArriveOk spans targets h x = arrive_ok spans targets h x c in
      ap₂ (λ (a : Act) (v : Version). record { id = x.id; at = x.at; act = a; context = v }) (act_back x.act)
      (columns_version h.held x.context (sound_of spans targets h ok.valid).fit (edit_ok h.held x ok.edit).named)

  two_back : (a b : Bool) (k : ℕ) → ◌≡◌ {A = ℕ} (cond a (cond b k 6) 15) 0 → (a ≡ true) × (b ≡ true)
  two_back true true k e = (refl, refl)
  two_back true false k e = absurd (let z : ⊥ = omega arith in z)
  two_back false b k e = absurd (let z : ⊥ = omega arith in z)

  version_handed : (v : Version) → checkout_code spans targets h v ≡ 0 → version_of (peers_of v) (counts_of v) ≡ v
  unfolding checkout_code
  version_handed v c =
      let t : (valid spans targets h ≡ true) × (named h.held v ≡ true) = two_back (valid spans targets h) (named h.held v) _ c in
      columns_version h.held v (sound_of spans targets h t.0).fit t.1

run_handed : (spans targets : ℕ) (es : List Edit) (h : History) → Accepted spans targets h es → (x : Edit) → InSet x es → handed x ≡ x
unfolding Accepted
run_handed spans targets [] h a x m = absurd (Memᴰ.not-nil m)
run_handed spans targets (e ∷ es) h a x m = go (Memᴰ.cases_cons m) (run_handed spans targets es (arrive_of spans targets h e).1 a.1 x)
  where
    go : (x ≡ e) ⊎ InSet x es → (InSet x es → handed x ≡ x) → handed x ≡ x
    go (inl d) ih = subst (λ (z : Edit). handed z ≡ z) (sym d) (edit_handed spans targets h e a.0)
    go (inr k) ih = ih k

-- ---- the demand's edits, and its version

module _ (n spans targets : ℕ) (S : List Edit) (wf : WellFormedSet S) (lim : Limits n spans targets S) (inside : Inside (start n) (sort_rank S S)) (fs : List Edit) (ord : ArrivalOrder S fs) where
  pub set_handed : (x : Edit) → InSet x S → handed x ≡ x
  set_handed x m = run_handed spans targets fs (stored (start n)) (demand3 n spans targets S wf lim inside fs ord).accepted x (ord.all x m)

  pub whole_handed : version_of (peers_of (whole_of S)) (counts_of (whole_of S)) ≡ whole_of S
  whole_handed = version_handed spans targets (arrive_all spans targets (stored (start n)) fs) (whole_of S) (demand3 n spans targets S wf lim inside fs ord).checked
