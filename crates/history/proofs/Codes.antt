-- An edit of a well formed set that arrives is refused for nothing that the edits held say: 1, 2, 4, 5, 6, 7.
use Prim.Native.Nat.{ℕ, suc, ◌+◌, ◌<◌, ◌≤◌}
use mathlib.Core.Path.{◌≡◌, refl, sym, ap, ap₂, subst, ◌∙◌}
use mathlib.Core.Logic.{◌⊎◌, inl, inr}
use mathlib.Core.Bool.{Bool, true, false, not, ◌&&◌, ◌||◌, cond, true≢false, and-eq-true_iff}
use mathlib.Core.List.Memᴰ
use mathlib.Core.List.{List, [], ◌∷◌, Memᴰ}
use native.Mathlib.Omega.{arith}
use lib.Dec.{eqb, leb}
use lib.IntN.{ℤ, pos, negsuc, ◌+ℤ◌}
use lib.Signed.{le_z}
use borrow.Author.Tests.{le-leb, lt-leb, ltb-true, leb-true}
use Rattle.std.specs.Prelude.{Some}
use Rattle.span.specs.Ids.{UNKNOWN_PEER, room_opt}
use Rattle.span.specs.Status.{eq_z}
use Rattle.span.proofs.StatusLaws.{eq_z_refl}
use Rattle.units.specs.Limits.{PEERS}
use Rattle.units.specs.Lists.{every, some}
use Rattle.fugue.proofs.Tests.{Test, pass, fail, eqb_test}
use Rattle.fugue.proofs.Clocks.{cnt, Fits}
use Rattle.history.specs.Edit.{Count, Version, Act, Insert, Delete, Edit, size_of, size, Held}
use Rattle.history.specs.Version.{number, count_of, below, held_count, above, rising, is_held, named, within, whole_act, closed_for, closed}
use Rattle.history.specs.Valid.{act_formed, act_ids, has_peer, peer_count, own_count, edit_code}
use Rattle.history.specs.Demand.{InSet, first_of, IdOf, counted, WellFormedSet, peers, sum}
use Rattle.history.proofs.Context.{clock, Known, holds_known, count_known, Natural}
use Rattle.history.proofs.Run.{MemH}
use Rattle.history.proofs.Sets.{sound}
use Rattle.history.proofs.Valid.{every_of, arrived}

-- ---- versions as lists of pairs

pub every_in : {A : Type 0} (t : A → Bool) (l : List A) → every t l ≡ true → (x : A) → Memᴰ x l → t x ≡ true
unfolding every
every_in t [] e x m = absurd (Memᴰ.not-nil m)
every_in {A} t (a ∷ l) e x m = go ((and-eq-true_iff (t a) (every t l)).0 e) (Memᴰ.cases_cons m) (λ (h : every t l ≡ true) (k : Memᴰ x l). every_in t l h x k)
  where
    go : (t a ≡ true) × (every t l ≡ true) → (x ≡ a) ⊎ Memᴰ x l → (every t l ≡ true → Memᴰ x l → t x ≡ true) → t x ≡ true
    go b (inl d) ih = ap t d ∙ b.0
    go b (inr k) ih = ih b.1 k

pub rising-above : (p : ℕ) (v : Version) → above p v ≡ true → rising v ≡ true → (k : Count) → Memᴰ k v → p < k.peer
unfolding above rising
rising-above p [] a r k m = absurd (Memᴰ.not-nil m)
rising-above p (c ∷ v) a r k m =
    go (ltb-true p c.peer a) ((and-eq-true_iff (above c.peer v) (rising v)).0 r) (Memᴰ.cases_cons m) (λ (x : above c.peer v ≡ true) (y : rising v ≡ true) (j : Memᴰ k v). rising-above c.peer v x y k j)
  where
    go : p < c.peer → (above c.peer v ≡ true) × (rising v ≡ true) → (k ≡ c) ⊎ Memᴰ k v → (above c.peer v ≡ true → rising v ≡ true → Memᴰ k v → c.peer < k.peer) → p < k.peer
    go h b (inl d) ih = subst (λ (z : Count). p < z.peer) (sym d) h
    go h b (inr j) ih = omega (arith, ih b.0 b.1 j)

-- a pair's count is the version's
pub rising_count : (v : Version) → rising v ≡ true → (k : Count) → Memᴰ k v → count_of v k.peer ≡ number k.many
unfolding count_of rising
rising_count [] r k m = absurd (Memᴰ.not-nil m)
rising_count (c ∷ v) r k m = go ((and-eq-true_iff (above c.peer v) (rising v)).0 r) (eqb_test c.peer k.peer) (Memᴰ.cases_cons m) (λ (y : rising v ≡ true) (j : Memᴰ k v). rising_count v y k j)
  where
    G : Bool → Type 0
    G b = cond b (number c.many) (count_of v k.peer) ≡ number k.many

    go : (above c.peer v ≡ true) × (rising v ≡ true) → Test (eqb c.peer k.peer) (c.peer ≡ k.peer) → (k ≡ c) ⊎ Memᴰ k v → (rising v ≡ true → Memᴰ k v → count_of v k.peer ≡ number k.many) → G (eqb c.peer k.peer)
    go b (pass t d) (inl q) ih = subst G (sym t) (ap (λ (z : Count). number z.many) (sym q))
    go b (fail t d) (inl q) ih = absurd (d (ap (λ (z : Count). z.peer) (sym q)))
    go b (pass t d) (inr j) ih = absurd (let z : ⊥ = omega (arith, rising-above c.peer v b.0 b.1 k j) in z)
    go b (fail t d) (inr j) ih = subst G (sym t) (ih b.1 j)

-- a count of at least 1
some_count : (z : ℤ) → le_z (pos 1) z ≡ true → (1 ≤ number z) × (z ≡ pos (number z))
some_count (pos m) e = (leb-true 1 m e, refl)
some_count (negsuc m) e = absurd (true≢false (sym e))

-- 6 is not given for a version with rising peers and counts from 1 to what is held
pub named_of : (held : List Held) (v : Version) → (rising v && counted v) ≡ true → ((k : Count) → Memᴰ k v → number k.many ≤ held_count held k.peer) → named held v ≡ true
unfolding named is_held
named_of held v e f = ap₂ ◌&&◌ b.0 (every_of (λ (k : Count). le_z (pos 1) k.many && le_z k.many (pos (held_count held k.peer))) v one)
  where
    b : (rising v ≡ true) × (every (λ (k : Count). le_z (pos 1) k.many) v ≡ true)
    b = (and-eq-true_iff (rising v) (every (λ (k : Count). le_z (pos 1) k.many) v)).0 e

    one : (k : Count) → Memᴰ k v → (le_z (pos 1) k.many && le_z k.many (pos (held_count held k.peer))) ≡ true
    one k m =
        let c : le_z (pos 1) k.many ≡ true = every_in (λ (k : Count). le_z (pos 1) k.many) v b.1 k m in
        ap₂ ◌&&◌ c (ap (λ (z : ℤ). le_z z (pos (held_count held k.peer))) (some_count k.many c).1 ∙ le-leb (number k.many) (held_count held k.peer) (f k m))

pub pair_some : (v : Version) → (rising v && counted v) ≡ true → (k : Count) → Memᴰ k v → (1 ≤ number k.many) × (count_of v k.peer ≡ number k.many)
pair_some v e k m =
    let b = (and-eq-true_iff (rising v) (every (λ (k : Count). le_z (pos 1) k.many) v)).0 e in
    ((some_count k.many (every_in (λ (k : Count). le_z (pos 1) k.many) v b.1 k m)).0, rising_count v b.0 k m)

-- ---- what the held edits add up to

pub held_sum : (l : List Held) (p : ℕ) → held_count l p ≡ sum (λ (e : Edit). cond (eqb e.id.peer p) (size e) 0) (arrived l)
unfolding held_count sum
held_sum [] p = refl
held_sum (x ∷ l) p = go (eqb x.edit.id.peer p) (held_sum l p)
  where
    S : ℕ
    S = sum (λ (e : Edit). cond (eqb e.id.peer p) (size e) 0) (arrived l)

    go : (b : Bool) → held_count l p ≡ sum (λ (e : Edit). cond (eqb e.id.peer p) (size e) 0) (arrived l)
        → cond b (size x.edit + held_count l p) (held_count l p) ≡ cond b (size x.edit) 0 + sum (λ (e : Edit). cond (eqb e.id.peer p) (size e) 0) (arrived l)
    go true ih = ap (λ (k : ℕ). size x.edit + k) ih
    go false ih = omega arith

has_peer_lem : (l : List Held) (p : ℕ) → has_peer l p ≡ some (λ (f : Edit). eqb f.id.peer p) (arrived l)
unfolding has_peer some
has_peer_lem [] p = refl
has_peer_lem (x ∷ l) p = ap (λ (b : Bool). eqb x.edit.id.peer p || b) (unfold has_peer in has_peer_lem l p)

peer_count_lem : (l : List Held) → peer_count l ≡ peers (arrived l)
unfolding peer_count peers
peer_count_lem [] = refl
peer_count_lem (x ∷ l) = ap₂ (λ (b : Bool) (k : ℕ). cond b k (suc k)) (has_peer_lem l x.edit.id.peer) (peer_count_lem l)

-- 4 is not given while all offices are at most 16
offices : (held : List Held) (e : Edit) → peers (e ∷ arrived held) ≤ PEERS → (has_peer held e.id.peer || not (leb PEERS (peer_count held))) ≡ true
unfolding peers
offices held e h = ap₂ (λ (b : Bool) (k : ℕ). b || not (leb PEERS k)) (has_peer_lem held e.id.peer) (peer_count_lem held) ∙ go (some (λ (f : Edit). eqb f.id.peer e.id.peer) (arrived held)) h
  where
    go : (b : Bool) → cond b (peers (arrived held)) (suc (peers (arrived held))) ≤ PEERS → (b || not (leb PEERS (peers (arrived held)))) ≡ true
    go true k = refl
    go false k = ap not (lt-leb PEERS (peers (arrived held)) (omega arith))

-- ---- the code of an edit

six : (a b c d f g : Bool) → a ≡ true → b ≡ true → c ≡ true → d ≡ true → f ≡ true → g ≡ true → ◌≡◌ {A = ℕ} (cond a (cond b (cond c (cond d (cond f (cond g 0 7) 6) 5) 4) 2) 1) 0
six a b c d f g ha hb hc hd hf hg = rw (ha, hb, hc, hd, hf, hg)

-- a context names no placeholder
pub pair_known : (n : ℕ) (S : List Edit) (wf : WellFormedSet S) (e : Edit) → InSet e S → (k : Count) → Memᴰ k e.context → ¬ (k.peer ≡ UNKNOWN_PEER)
pair_known n S wf e me k m d =
    let b : (1 ≤ number k.many) × (count_of e.context k.peer ≡ number k.many) = pair_some e.context (wf.pairs e me) k m in
    let b1 : 1 ≤ number k.many = b.0 in
    let b2 : count_of e.context k.peer ≡ number k.many = b.1 in
    let t : IdOf S k.peer 0 = wf.within e me k.peer 0 (omega arith) in
    (sound n S wf t.edit t.is_in).0 (t.uses.peer ∙ d)

module _ (n : ℕ) (S : List Edit) (wf : WellFormedSet S) (held : List Held) (done : List Edit)
    (counts : (p : ℕ) → ¬ (p ≡ UNKNOWN_PEER) → held_count held p ≡ cnt (clock n) done p) (of_s : (x : Held) → MemH x held → InSet x.edit S)
    (e : Edit) (me : InSet e S) (fits : Fits (clock n) done e) where
  -- a context's count is held
  ctx_held : (p : ℕ) → ¬ (p ≡ UNKNOWN_PEER) → count_of e.context p ≤ held_count held p
  ctx_held p k = omega (arith, fits.held p, holds_known n e p (sound n S wf e me).0, count_known n e.context p k, counts p k)

  pub pair_held : (k : Count) → Memᴰ k e.context → number k.many ≤ held_count held k.peer
  pair_held k m = omega (arith, (pair_some e.context (wf.pairs e me) k m).1, ctx_held k.peer (pair_known n S wf e me k m))

  pub edit_code_lem : peers (e ∷ arrived held) ≤ PEERS → count_of e.context e.id.peer ≤ first_of e → edit_code held e ≡ 0
  unfolding edit_code closed own_count
  edit_code_lem few own = six (act_formed e.act) (room_opt (Some e.id) (size e) && act_ids e.act) (has_peer held e.id.peer || not (leb PEERS (peer_count held)))
      (eq_z e.id.counter (pos (held_count held e.id.peer))) (named held e.context) (every (λ (h : Held). closed_for e.context h.edit) held && eq_z (pos (count_of e.context e.id.peer)) e.id.counter)
      (wf.formed e me) (wf.ids e me) (offices held e few) five (named_of held e.context (wf.pairs e me) pair_held)
      (ap₂ ◌&&◌ (every_of (λ (h : Held). closed_for e.context h.edit) held (λ (x : Held) (m : MemH x held). wf.closed e x.edit me (of_s x m))) own_count_lem)
    where
      kn : Known e
      kn = (sound n S wf e me).0

      nat : Natural e.id
      nat = (sound n S wf e me).1

      five : eq_z e.id.counter (pos (held_count held e.id.peer)) ≡ true
      five = ap (λ (z : ℤ). eq_z z (pos (held_count held e.id.peer))) (nat ∙ ap pos (sym (counts e.id.peer kn ∙ fits.own))) ∙ eq_z_refl (pos (held_count held e.id.peer))

      own_count_lem : eq_z (pos (count_of e.context e.id.peer)) e.id.counter ≡ true
      own_count_lem = ap (λ (z : ℕ). eq_z (pos z) e.id.counter) (let q : count_of e.context e.id.peer ≡ first_of e = omega (arith, wf.earlier e me) in q)
          ∙ (ap (λ (z : ℤ). eq_z z e.id.counter) (sym nat) ∙ eq_z_refl e.id.counter)

-- 7 is not given for a version that has all that is held
pub closed_whole : (n : ℕ) (S : List Edit) (wf : WellFormedSet S) (held : List Held) (v : Version) → ((x : Held) → MemH x held → InSet x.edit S)
    → ((x : Held) → MemH x held → (k : Count) → Memᴰ k x.edit.context → number k.many ≤ count_of v k.peer)
    → ((x : Held) → MemH x held → first_of x.edit + size x.edit ≤ count_of v x.edit.id.peer) → closed held v ≡ true
unfolding closed closed_for within
closed_whole n S wf held v of_s ctx whole = every_of (λ (h : Held). not (below v h.edit.id) || (within h.edit.context v && whole_act h.edit.act v h.edit.id)) held
    (λ (x : Held) (m : MemH x held). right (not (below v x.edit.id)) (within x.edit.context v && whole_act x.edit.act v x.edit.id)
    (ap₂ ◌&&◌ (every_of (λ (k : Count). leb (number k.many) (count_of v k.peer)) x.edit.context (λ (k : Count) (j : Memᴰ k x.edit.context). le-leb (number k.many) (count_of v k.peer) (ctx x m k j)))
    (act x.edit.act x.edit refl (sound n S wf x.edit (of_s x m)).1 (whole x m))))
  where
    right : (a b : Bool) → b ≡ true → a || b ≡ true
    right true b h = refl
    right false b h = h

    act : (a : Act) (e : Edit) → e.act ≡ a → Natural e.id → first_of e + size e ≤ count_of v e.id.peer → whole_act a v e.id ≡ true
    act (Insert lam c) e d nat h = refl
    act (Delete m reversed target) e d nat h =
        let q : size e ≡ m = ap size_of d ∙ (unfold size_of in refl) in
        ap (λ (z : ℤ). le_z (z +ℤ pos m) (pos (count_of v e.id.peer))) nat ∙ le-leb (first_of e + m) (count_of v e.id.peer) (omega arith)
