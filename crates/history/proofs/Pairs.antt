-- A version that names only what is held has no more pairs than there are peers with edits, and edits that fit are of at most 16 peers.
use Prim.Native.Nat.{ℕ, suc, ◌+◌, ◌<◌, ◌≤◌}
use mathlib.Core.Path.{◌≡◌, refl, sym, ap, ap₂, subst, ◌∙◌}
use mathlib.Core.Logic.{◌⊎◌, inl, inr}
use mathlib.Core.Bool.{Bool, true, false, not, ◌&&◌, ◌||◌, cond, true≢false, and-eq-true_iff}
use mathlib.Core.List.Memᴰ
use mathlib.Core.List.{List, [], ◌∷◌, ◌++◌, map, append_assoc, append-nil, Memᴰ}
use native.Mathlib.Omega.{arith}
use lib.Dec.{eqb, leb}
use lib.IntN.{ℤ, pos, negsuc}
use lib.ListN.{length}
use lib.Signed.{le_z}
use borrow.Author.Tests.{eqb-true, leb-true, le-leb, ne_eqb}
use Rattle.std.specs.Prelude.{Some}
use Rattle.span.specs.declared.ids.Id.{Id}
use Rattle.span.specs.Ids.{id, room_opt}
use Rattle.span.specs.Status.{eq_z}
use Rattle.units.specs.Limits.{PEERS}
use Rattle.units.specs.Lists.{every, some}
use Rattle.history.specs.Edit.{Count, Version, Act, Delete, Edit, size_of, size, Held}
use Rattle.history.specs.Version.{held_count, above, rising, is_held, named, closed}
use Rattle.history.specs.Valid.{act_formed, act_ids, has_peer, peer_count, own_count, edit_code, edits_fit}
use Rattle.history.specs.Demand.{InSet, peers}
use Rattle.history.proofs.Run.{MemH}
use Rattle.history.proofs.Totals.{peers-le}
use Rattle.history.proofs.Valid.{arrived}
use Rattle.history.proofs.Codes.{every_in, rising-above}

-- ---- the peers with edits, as the offices of a list of edits

has_peer_lem : (l : List Held) (p : ℕ) → has_peer l p ≡ some (λ (f : Edit). eqb f.id.peer p) (arrived l)
unfolding has_peer some
has_peer_lem [] p = refl
has_peer_lem (x ∷ l) p = ap (λ (b : Bool). eqb x.edit.id.peer p || b) (unfold has_peer in has_peer_lem l p)

peer_count_lem : (l : List Held) → peer_count l ≡ peers (arrived l)
unfolding peer_count peers
peer_count_lem [] = refl
peer_count_lem (x ∷ l) = ap₂ (λ (b : Bool) (k : ℕ). cond b k (suc k)) (has_peer_lem l x.edit.id.peer) (peer_count_lem l)

-- ---- the pairs of a version, as edits of their peers

of_pair : Count → Edit
of_pair k = record { id = id k.peer (pos 0); at = 0; act = Delete 0 false (id 0 (pos 0)); context = [] }

none_of : (p : ℕ) (v : Version) → ((k : Count) → Memᴰ k v → p < k.peer) → some (λ (f : Edit). eqb f.id.peer p) (map of_pair v) ≡ false
unfolding some of_pair
none_of p [] h = refl
none_of p (k ∷ v) h = ap₂ ◌||◌ (ne_eqb k.peer p (λ (d : k.peer ≡ p). let z : ⊥ = omega (arith, h k (Memᴰ.head refl)) in z)) (none_of p v (λ (j : Count) (m : Memᴰ j v). h j (Memᴰ.tail m)))

-- rising peers are all different
pairs_peers : (v : Version) → rising v ≡ true → peers (map of_pair v) ≡ length v
unfolding peers rising of_pair
pairs_peers [] r = refl
pairs_peers (k ∷ v) r =
    let t = (and-eq-true_iff (above k.peer v) (rising v)).0 r in
    ap₂ (λ (b : Bool) (n : ℕ). cond b n (suc n)) (none_of k.peer v (rising-above k.peer v t.0 t.1)) (pairs_peers v t.1)

-- a peer of which something is held has an edit
has_edit : (l : List Held) (p : ℕ) → 1 ≤ held_count l p → (x : Held) × MemH x l × (x.edit.id.peer ≡ p)
unfolding held_count
has_edit [] p h = absurd (let z : ⊥ = omega arith in z)
has_edit (y ∷ l) p h = go (eqb y.edit.id.peer p) refl h (has_edit l p)
  where
    go : (b : Bool) → eqb y.edit.id.peer p ≡ b → 1 ≤ cond b (size y.edit + held_count l p) (held_count l p) → (1 ≤ held_count l p → (x : Held) × MemH x l × (x.edit.id.peer ≡ p)) → (x : Held) × MemH x (y ∷ l) × (x.edit.id.peer ≡ p)
    go true e k ih = (y, Memᴰ.head refl, eqb-true y.edit.id.peer p e)
    go false e k ih = let t : (x : Held) × MemH x l × (x.edit.id.peer ≡ p) = ih k in (t.0, Memᴰ.tail t.1, t.2)

held_some : (z : ℤ) (m : ℕ) → (le_z (pos 1) z && le_z z (pos m)) ≡ true → 1 ≤ m
held_some (pos k) m e =
    let t = (and-eq-true_iff (leb 1 k) (leb k m)).0 e in
    omega (arith, leb-true 1 k t.0, leb-true k m t.1)
held_some (negsuc k) m e = absurd (true≢false (sym e))

pub pairs_few : (held : List Held) (v : Version) → named held v ≡ true → length v ≤ peer_count held
unfolding named is_held of_pair
pairs_few held v e =
    let t = (and-eq-true_iff (rising v) (every (is_held held) v)).0 e in
    let a : peers (map of_pair v) ≤ peers (arrived held) = peers-le (map of_pair v) (arrived held) (λ (f : Edit) (m : InSet f (map of_pair v)). of_some f (every_in (is_held held) v t.1) (Memᴰ.of_map of_pair v m)) in
    omega (arith, pairs_peers v t.0, peer_count_lem held)
  where
    of_some : (f : Edit) → ((k : Count) → Memᴰ k v → is_held held k ≡ true) → (k : Count) × Memᴰ k v × (of_pair k ≡ f) → (g : Edit) × InSet g (arrived held) × (g.id.peer ≡ f.id.peer)
    of_some f is t =
        let x : (x : Held) × MemH x held × (x.edit.id.peer ≡ t.0.peer) = has_edit held t.0.peer (held_some t.0.many (held_count held t.0.peer) (is t.0 t.1)) in
        (x.0.edit, Memᴰ.map (λ (y : Held). y.edit) x.1, x.2 ∙ ap (λ (g : Edit). g.id.peer) t.2)

-- ---- at most 16 peers

-- 4 is not given: the peer has edits, or there are fewer than 16
four_of : (a b c d f g : Bool) → ◌≡◌ {A = ℕ} (cond a (cond b (cond c (cond d (cond f (cond g 0 7) 6) 5) 4) 2) 1) 0 → c ≡ true
four_of true true true d f g h = refl
four_of true true false d f g h = absurd (let z : ⊥ = omega arith in z)
four_of true false c d f g h = absurd (let z : ⊥ = omega arith in z)
four_of false b c d f g h = absurd (let z : ⊥ = omega arith in z)

peer_fits : (held : List Held) (e : Edit) → edit_code held e ≡ 0 → (has_peer held e.id.peer || not (leb PEERS (peer_count held))) ≡ true
unfolding edit_code
peer_fits held e h = four_of (act_formed e.act) (room_opt (Some e.id) (size e) && act_ids e.act) (has_peer held e.id.peer || not (leb PEERS (peer_count held)))
    (eq_z e.id.counter (pos (held_count held e.id.peer))) (named held e.context) (closed held e.context && own_count e) h

one_more : (l : List Held) (x : Held) → peer_count l ≤ 16 → (has_peer l x.edit.id.peer || not (leb PEERS (peer_count l))) ≡ true → peer_count (l ++ (x ∷ [])) ≤ 16
one_more l x few h =
    let a : peers (arrived (l ++ (x ∷ []))) ≤ peers (arrived (x ∷ l)) = peers-le (arrived (l ++ (x ∷ []))) (arrived (x ∷ l)) (λ (f : Edit) (m : InSet f (arrived (l ++ (x ∷ [])))). there f (Memᴰ.of_map (λ (y : Held). y.edit) (l ++ (x ∷ [])) m)) in
    let b : peer_count (x ∷ l) ≤ 16 = (unfold peer_count in room (has_peer l x.edit.id.peer) h) in
    omega (arith, peer_count_lem (l ++ (x ∷ [])), peer_count_lem (x ∷ l))
  where
    room : (b : Bool) → (b || not (leb PEERS (peer_count l))) ≡ true → cond b (peer_count l) (suc (peer_count l)) ≤ 16
    room true k = few
    room false k = below16 (leb PEERS (peer_count l)) refl k
      where
        below16 : (b : Bool) → leb PEERS (peer_count l) ≡ b → not b ≡ true → suc (peer_count l) ≤ 16
        below16 true q k = absurd (true≢false (sym k))
        below16 false q k = omega (arith, not-le)
          where
            not-le : ¬ (16 ≤ peer_count l)
            not-le d = true≢false (sym (le-leb 16 (peer_count l) d) ∙ q)

    there : (f : Edit) → (y : Held) × MemH y (l ++ (x ∷ [])) × (y.edit ≡ f) → (g : Edit) × InSet g (arrived (x ∷ l)) × (g.id.peer ≡ f.id.peer)
    there f t = (f, subst (λ (g : Edit). InSet g (arrived (x ∷ l))) t.2 (Memᴰ.map (λ (y : Held). y.edit) (which (Memᴰ.append_cases l t.1))), refl)
      where
        which : MemH t.0 l ⊎ MemH t.0 (x ∷ []) → MemH t.0 (x ∷ l)
        which (inl m) = Memᴰ.tail m
        which (inr m) = Memᴰ.head (Memᴰ.eq_of_singleton m)

fit_peers : (b l : List Held) → peer_count b ≤ 16 → edits_fit b l ≡ true → peer_count (b ++ l) ≤ 16
unfolding edits_fit
fit_peers b [] few h = subst (λ (z : List Held). peer_count z ≤ 16) (sym (append-nil b)) few
fit_peers b (x ∷ l) few h =
    let t = (and-eq-true_iff (eqb (edit_code b x.edit) 0) (edits_fit (b ++ (x ∷ [])) l)).0 h in
    subst (λ (z : List Held). peer_count z ≤ 16) (append_assoc b (x ∷ []) l)
    (fit_peers (b ++ (x ∷ [])) l (one_more b x few (peer_fits b x.edit (eqb-true (edit_code b x.edit) 0 t.0))) t.1)

pub peers_few : (held : List Held) → edits_fit [] held ≡ true → peer_count held ≤ 16
peers_few held h = fit_peers [] held (unfold peer_count in omega arith) h

-- so a version that is named has at most 16 pairs
pub pairs_most : (held : List Held) (v : Version) → edits_fit [] held ≡ true → named held v ≡ true → length v ≤ 16
pairs_most held v h e = omega (arith, pairs_few held v e, peers_few held h)

-- ---- a context that is not named

abbrev code_by : List Held → Id → Act → Bool → Bool → ℕ
code_by held i a six seven =
    cond (act_formed a) (cond (room_opt (Some i) (size_of a) && act_ids a) (cond (has_peer held i.peer || not (leb PEERS (peer_count held))) (cond (eq_z i.counter (pos (held_count held i.peer))) (cond six (cond seven 0 7) 6) 5) 4) 2) 1

-- the number of an edit whose context is not named does not depend on the context
pub not_named_code : (held : List Held) (e f : Edit) → f.id ≡ e.id → f.act ≡ e.act → named held e.context ≡ false → named held f.context ≡ false → edit_code held f ≡ edit_code held e
unfolding edit_code
not_named_code held e f i a ne nf =
    ap (λ (b : Bool). code_by held f.id f.act b (closed held f.context && own_count f)) nf
    ∙ (ap₂ (λ (j : Id) (b : Act). code_by held j b false true) i a ∙ ap (λ (b : Bool). code_by held e.id e.act b (closed held e.context && own_count e)) (sym ne))
