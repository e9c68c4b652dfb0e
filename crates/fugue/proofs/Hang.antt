-- How a unit hangs in the tree, in terms of path keys (L2.5, L2.6), and the four laws of the walk order that the scan rests on: F0, F1, F2, F3.
use Prim.Native.Nat.{ℕ}
use mathlib.Core.Path.{◌≡◌, refl, sym, ap, ap₂, subst, subst₂, ◌∙◌}
use mathlib.Core.Logic.{◌⊎◌, inl, inr}
use mathlib.Core.List.{[], ◌∷◌, ◌++◌, append_assoc, nil≢cons, head-eq_of_cons-eq, tail-eq_of_cons-eq}
use native.Mathlib.Omega.{arith}
use Rattle.std.specs.Prelude.{None, Some}
use Rattle.span.specs.declared.ids.Id.{Id}
use Rattle.span.specs.Maybe.{OptId}
use Rattle.fugue.proofs.Order.{LtId}
use Rattle.fugue.proofs.Keys.{Step, sl, sr, Key, IsR, IsL, Lt, AllL, Lt-cancel, Lt-right, Lt-left, no_cross_left, cross_lefts, squeeze, tails, lefts_not_after, LR-no}

-- lefts, one more
AllL-snoc : (ls : Key) (s : Step) → AllL ls → IsL s → AllL (ls ++ s ∷ [])
AllL-snoc [] s a h = (h, tt)
AllL-snoc (t ∷ ls) s a h = (a.0, AllL-snoc ls s a.1 h)

pub none≢at : {a : Id} → None ≡ Some a → ⊥
none≢at {a} e = let z : ◌≡◌ {A = ℕ} 0 1 = cc in omega arith

-- The unit p with origin left x and this parent right, under an assignment of keys: a right child of x, or a left child of its parent right,
-- which hangs right below x by lefts.
pub data Hung (key : OptId → Key) (x : OptId) (p : Id) : OptId → Type 0 where
  hung_r : key (Some p) ≡ key x ++ sr p ∷ [] → Hung key x p None
  hung_l : {a : Id} (s : Step) (ms : Key) → IsR s → AllL ms → key (Some a) ≡ key x ++ s ∷ ms
      → key (Some p) ≡ key (Some a) ++ sl p ∷ [] → Hung key x p (Some a)

-- the order of parent rights: Nothing is after all
abbrev pub PLt : (OptId → Key) → OptId → OptId → Type 0
PLt key None b = ⊥
PLt key (Some p) None = Unit {0}
PLt key (Some p) (Some q) = Lt (key (Some p)) (key (Some q))

abbrev pub id_of : Step → OptId
id_of (sl p) = Some p
id_of (sr p) = Some p

abbrev pub last_of : OptId → Key → OptId
last_of r [] = r
last_of r (s ∷ k) = last_of (id_of s) k

last_of_snoc : (r : OptId) (k : Key) (s : Step) → last_of r (k ++ s ∷ []) ≡ id_of s
last_of_snoc r [] s = refl
last_of_snoc r (t ∷ k) s = last_of_snoc (id_of t) k s

lefts_no_right : (k ms : Key) (s : Step) (ls : Key) → IsR s → AllL ms → k ++ s ∷ ls ≡ ms → ⊥
lefts_no_right [] [] s ls ir al e = nil≢cons (sym e)
lefts_no_right [] (m ∷ ms) s ls ir al e = LR-no m al.0 (subst IsR (head-eq_of_cons-eq e) ir)
lefts_no_right (t ∷ k) [] s ls ir al e = nil≢cons (sym e)
lefts_no_right (t ∷ k) (m ∷ ms) s ls ir al e = lefts_no_right k ms s ls ir al.1 (tail-eq_of_cons-eq e)

last_right : (k k' : Key) (s s' : Step) (ms ms' : Key) → IsR s → IsR s' → AllL ms → AllL ms' → k ++ s ∷ ms ≡ k' ++ s' ∷ ms' → k ≡ k'
last_right [] [] s s' ms ms' ir ir' al al' e = refl
last_right [] (t ∷ k') s s' ms ms' ir ir' al al' e = absurd (lefts_no_right k' ms s' ms' ir' al (sym (tail-eq_of_cons-eq e)))
last_right (t ∷ k) [] s s' ms ms' ir ir' al al' e = absurd (lefts_no_right k ms' s ms ir al' (tail-eq_of_cons-eq e))
last_right (t ∷ k) (t' ∷ k') s s' ms ms' ir ir' al al' e =
    ap₂ ◌∷◌ (head-eq_of_cons-eq e) (last_right k k' s s' ms ms' ir ir' al al' (tail-eq_of_cons-eq e))

module _ (key : OptId → Key) where
  -- below x by a right step and lefts
  pub record Below (x : OptId) (p : Id) : Type 0 where
    pub s : Step
    pub ls : Key
    pub right : IsR s
    pub lefts : AllL ls
    pub shape : key (Some p) ≡ key x ++ s ∷ ls

  pub below : {x : OptId} {p : Id} {r : OptId} → Hung key x p r → Below x p
  below {x} {p} (hung_r e) = record { s = sr p; ls = []; right = tt; lefts = tt; shape = e }
  below {x} {p} (hung_l {a = a} s ms ir al er ek) =
      record {
        s = s;
        ls = ms ++ sl p ∷ [];
        right = ir;
        lefts = AllL-snoc ms (sl p) al tt;
        shape = ek ∙ (ap (λ (k : Key). k ++ sl p ∷ []) er ∙ append_assoc (key x) (s ∷ ms) (sl p ∷ []));
      }

  -- F0. after its origin left, before its parent right
  pub after_ol : {x : OptId} {p : Id} {r : OptId} → Hung key x p r → Lt (key x) (key (Some p))
  after_ol {x} {p} h =
      let b : Below x p = below h in
      subst (λ (k : Key). Lt (key x) k) (sym b.shape) (Lt-right (key x) b.s b.ls b.right)

  pub before_pr : {x : OptId} {p a : Id} → Hung key x p (Some a) → Lt (key (Some p)) (key (Some a))
  before_pr {x} {p} {a} (hung_l s ms ir al er ek) =
      subst (λ (k : Key). Lt k (key (Some a))) (sym ek) (Lt-left (key (Some a)) (sl p) [] tt)

  -- F2. What lies between x and a unit whose origin left is x has an origin left that is x or after x.
  pub F2 : {x : OptId} {p : Id} {r : OptId} → Hung key x p r → {z : OptId} {q : Id} {r' : OptId} → Hung key z q r'
      → Lt (key x) (key (Some q)) → Lt (key (Some q)) (key (Some p)) → (key x ≡ key z) ⊎ Lt (key x) (key z)
  F2 {x} {p} hu {z} {q} hv h k =
      let u : Below x p = below hu in
      let v : Below z q = below hv in
      no_cross_left (key x) (key z) u.s v.s u.ls v.ls v.right v.lefts
      (subst (λ (m : Key). Lt (key x) m) v.shape h)
      (subst (λ (m : Key). Lt m (key x ++ u.s ∷ u.ls)) v.shape (subst (λ (m : Key). Lt (key (Some q)) m) u.shape k))

  -- F3. Siblings lie by id.
  pub F3 : {x : OptId} {p : Id} {r : OptId} → Hung key x p r → {q : Id} {r' : OptId} → Hung key x q r' → r ≡ r'
      → Lt (key (Some p)) (key (Some q)) → LtId p q
  F3 {x} {p} (hung_r e) {q} (hung_r e') _ h =
      go (Lt-cancel (key x) (sr p ∷ []) (sr q ∷ []) (subst (λ (m : Key). Lt m (key x ++ sr q ∷ [])) e (subst (λ (m : Key). Lt (key (Some p)) m) e' h)))
    where
      go : Lt (sr p ∷ []) (sr q ∷ []) → LtId p q
      go (inl k) = k
      go (inr k) = absurd k.1
  F3 {x} {p} (hung_r e) {q} (hung_l s ms ir al er ek) n h = absurd (none≢at n)
  F3 {x} {p} (hung_l s ms ir al er ek) {q} (hung_r e') n h = absurd (none≢at (sym n))
  F3 {x} {p} (hung_l {a = a} s ms ir al er ek) {q} (hung_l {a = a'} s' ms' ir' al' er' ek') n h =
      go (Lt-cancel (key (Some a)) (sl p ∷ []) (sl q ∷ []) (subst (λ (m : Key). Lt m (key (Some a) ++ sl q ∷ [])) ek
      (subst (λ (m : Key). Lt (key (Some p)) m) (ek' ∙ ap (λ (z : OptId). key z ++ sl q ∷ []) (sym n)) h)))
    where
      go : Lt (sl p ∷ []) (sl q ∷ []) → LtId p q
      go (inl k) = k
      go (inr k) = absurd k.1

  -- F1. Parent rights do not cross: y with parent right r is before u, u before r, all with one origin left. Then u's parent right is not after r.
  pub F1 : {x : OptId} {y : Id} {a : Id} → Hung key x y (Some a) → {p : Id} {r : OptId} → Hung key x p r
      → Lt (key (Some y)) (key (Some p)) → Lt (key (Some p)) (key (Some a)) → PLt key (Some a) r → ⊥
  F1 {x} {y} {a} (hung_l s ms ir al er ek) {p} (hung_r e) h k l =
      let kr : key (Some y) ≡ key x ++ s ∷ (ms ++ sl y ∷ []) = ek ∙ (ap (λ (m : Key). m ++ sl y ∷ []) er ∙ append_assoc (key x) (s ∷ ms) (sl y ∷ [])) in
      let h' : Lt (s ∷ (ms ++ sl y ∷ [])) (sr p ∷ []) = Lt-cancel (key x) (s ∷ (ms ++ sl y ∷ [])) (sr p ∷ []) (subst₂ Lt kr e h) in
      let k' : Lt (sr p ∷ []) (s ∷ ms) = Lt-cancel (key x) (sr p ∷ []) (s ∷ ms) (subst₂ Lt e er k) in
      let q : sr p ≡ s = squeeze (sr p) s [] ms [] (ms ++ sl y ∷ []) k' h' in
      lefts_not_after ms al (tails (sr p) s [] ms k' q)
  F1 {x} {y} {a} (hung_l s ms ir al er ek) {p} (hung_l {a = a'} s' ms' ir' al' er' ek') h k l =
      let ky : key (Some y) ≡ key x ++ s ∷ (ms ++ sl y ∷ []) = ek ∙ (ap (λ (m : Key). m ++ sl y ∷ []) er ∙ append_assoc (key x) (s ∷ ms) (sl y ∷ [])) in
      let ku : key (Some p) ≡ key x ++ s' ∷ (ms' ++ sl p ∷ []) = ek' ∙ (ap (λ (m : Key). m ++ sl p ∷ []) er' ∙ append_assoc (key x) (s' ∷ ms') (sl p ∷ [])) in
      let h' : Lt (s ∷ (ms ++ sl y ∷ [])) (s' ∷ (ms' ++ sl p ∷ [])) = Lt-cancel (key x) (s ∷ (ms ++ sl y ∷ [])) (s' ∷ (ms' ++ sl p ∷ [])) (subst₂ Lt ky ku h) in
      let k' : Lt (s' ∷ (ms' ++ sl p ∷ [])) (s ∷ ms) = Lt-cancel (key x) (s' ∷ (ms' ++ sl p ∷ [])) (s ∷ ms) (subst₂ Lt ku er k) in
      let l' : Lt (s ∷ ms) (s' ∷ ms') = Lt-cancel (key x) (s ∷ ms) (s' ∷ ms') (subst₂ Lt er er' l) in
      let q : s ≡ s' = squeeze s s' ms ms' ms (ms' ++ sl p ∷ []) l' k' in
      cross_lefts ms ms' (sl y) (sl p) al al' tt
      (tails s s' (ms ++ sl y ∷ []) (ms' ++ sl p ∷ []) h' q)
      (tails s' s (ms' ++ sl p ∷ []) ms k' (sym q))
      (tails s s' ms ms' l' q)

  -- the last right step decides the origin left
  pub same_ol : {x z : OptId} {p a : Id} → Hung key x p (Some a) → {r : OptId} → Hung key z a r → key x ≡ key z
  same_ol {x} {z} {p} {a} (hung_l s ms ir al er ek) hr =
      let v : Below z a = below hr in
      last_right (key x) (key z) s v.s ms v.ls ir v.right al v.lefts (sym er ∙ v.shape)

  -- a key tells its unit
  pub last_of_lem : {x : OptId} {p : Id} {r : OptId} → Hung key x p r → last_of None (key (Some p)) ≡ Some p
  last_of_lem {x} {p} (hung_r e) = ap (last_of None) e ∙ last_of_snoc None (key x) (sr p)
  last_of_lem {x} {p} (hung_l {a = a} s ms ir al er ek) = ap (last_of None) ek ∙ last_of_snoc None (key (Some a)) (sl p)
